-- What the notes have taken of a line.
use Rattle.std.proofs.Common.{◌≡◌, ◌≤◌, ◌∙◌, ℕ, List, [], Option, Result, Ok, Err, append-nil, ap, subst}
use Rattle.std.specs.Prelude.{OnErr, OnOk}
use Rattle.outside.specs.Rose.{Rose}
use Rattle.outside.specs.Taken.{appended, TookPrefix}
use Rattle.outside.specs.declared.errors.Failed.{Failed}
use Rattle.abides_run.specs.Headline.{Noted}
use Rattle.abides_run.specs.Notes.{note}
use Rattle.abides_run.specs.declared.status.Status.{Status}

-- the line was written, or a first part of it and why no more
pub line-noted : (name : List ℕ) (st : Status) (line : List ℕ) (old new : ℕ) (before after : Option (List ℕ)) (r : Result (Unit {0}) Failed)
    → line ≡ note name st → OnOk r (after ≡ appended before line) → OnErr r (TookPrefix before after line) → OnErr r (Rose old new) → old ≤ new
    → Noted name old new before after st
line-noted name st line old new before after (Ok done) is whole cut failed rises =
    let took : after ≡ appended before (note name st) = whole ∙ ap (λ (bytes : List ℕ). appended before bytes) is in
    record { whole = λ still. took; cut = record { part = note name st; rest = []; split = append-nil (note name st); took = took }; never_falls = rises }
line-noted name st line old new before after (Err error) is whole cut failed rises =
    record { whole = λ still. absurd (still failed); cut = subst (λ (bytes : List ℕ). TookPrefix before after bytes) is cut; never_falls = rises }
