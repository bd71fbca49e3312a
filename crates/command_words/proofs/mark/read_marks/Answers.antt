use Rattle.std.proofs.Common.{Some, map, sym, ap, ◌∙◌}
use Rattle.command_words.specs.Marks.{marks_of}
use Rattle.command_words.proofs.Marks.{marks_after, read-more, read-none, read-all, marks_after-none}
use Rattle.command_words.proofs.mark.read_marks.Goals as goal

pub loop-word-init : goal.loop-word-init
loop-word-init c = let all = marks_of (map (λ word. word.now) c.args.words.now) in sym (ap (λ marks. marks_after marks all) c.new-marks.ensures.items ∙ marks_after-none all)

pub loop-word-preserved : goal.loop-word-preserved
loop-word-preserved c =
    read-more (λ word. word.now) c.args.words.now c.loop-word.word-index c.loop-word.marks.items c.loop-word.invariant _ c.in-Some.mark c.push.new.self.items c.loop-word-test.true (sym c.in-Some.is ∙ c.read_mark.ensures) c.in_ok-push.ensures.items

pub returns : goal.returns
returns c = ap Some c.new.ensures ∙ read-all (λ word. word.now) c.args.words.now c.loop-word.word-index c.loop-word.marks.items c.loop-word.invariant c.loop-word-test.false

pub returns-in_default : goal.returns-in_default
returns-in_default c = read-none (λ word. word.now) c.args.words.now c.loop-word.word-index c.loop-word.marks.items c.loop-word.invariant _ c.loop-word-test.true (sym c.in_default.is ∙ c.read_mark.ensures)
