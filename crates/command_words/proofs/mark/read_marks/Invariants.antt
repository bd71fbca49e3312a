use Rattle.std.proofs.Common.{◌≡◌, drop, map}
use Rattle.command_words.specs.Marks.{marks_of}
use Rattle.command_words.proofs.Marks.{marks_after}
use Rattle.command_words.proofs.mark.read_marks.Given as goal

abbrev pub invariant-loop-word : goal.invariant-loop-word
invariant-loop-word l = marks_of (map (λ word. word.now) l.words) ≡ marks_after l.marks.items (marks_of (map (λ word. word.now) (drop l.word-index l.words)))
