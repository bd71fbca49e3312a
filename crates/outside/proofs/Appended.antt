use Rattle.std.proofs.Common.{◌≡◌, ℕ, ◌+◌, ◌≤◌, List, [], ◌++◌, Option, Some, None, take, drop, length, refl, sym, ◌∙◌, ap, append_assoc, append-nil, ◌-◌, arith, length-drop}
use Rattle.std.proofs.lemmas.List.{take-append-drop, take_all}
use Rattle.std.proofs.Math.Seq.{take-add}
use Rattle.outside.specs.Taken.{appended, TookPrefix}

-- nothing more
pub appended-nothing : (old : Option (List ℕ)) → appended old [] ≡ old
appended-nothing None = refl
appended-nothing (Some taken) = ap Some (append-nil taken)

-- one after the other
pub appended-append : (old : Option (List ℕ)) (a b : List ℕ) → appended (appended old a) b ≡ appended old (a ++ b)
appended-append None a b = refl
appended-append (Some taken) a b = ap Some (append_assoc taken a b)

-- the rest of a list, as a slice gives it
rest_of : (done : ℕ) (piece : List ℕ) → take (length piece - done) (drop done piece) ≡ drop done piece
rest_of done piece = take_all (length piece - done) (drop done piece) (omega (arith, length-drop done piece))

-- one more piece of a list whose first part was taken
pub appended-piece : (old now new : Option (List ℕ)) (done n : ℕ) (piece : List ℕ) → now ≡ appended old (take done piece)
    → new ≡ appended now (take n (take (length piece - done) (drop done piece))) → new ≡ appended old (take (done + n) piece)
appended-piece old now new done n piece before after =
    after ∙ ap (λ (l : List ℕ). appended now (take n l)) (rest_of done piece)
    ∙ ap (λ (t : Option (List ℕ)). appended t (take n (drop done piece))) before
    ∙ appended-append old (take done piece) (take n (drop done piece))
    ∙ ap (appended old) (sym (take-add done n piece))

-- a count within the rest of a list
pub within_rest : (done n : ℕ) (piece : List ℕ) → done ≤ length piece → n ≤ length (take (length piece - done) (drop done piece))
    → done + n ≤ length piece
within_rest done n piece within fits = omega (arith, rw (rest_of done piece) at fits, length-drop done piece)

-- a call that takes nothing leaves a first part taken
pub first_part : (old now new : Option (List ℕ)) (done : ℕ) (piece : List ℕ) → now ≡ appended old (take done piece)
    → new ≡ now → TookPrefix old new piece
first_part old now new done piece before same = record {
  part = take done piece;
  rest = drop done piece;
  split = take-append-drop done piece;
  took = same ∙ before;
}

-- A first part of a piece that stands behind what was taken is a first part of the whole.
pub part_of_whole : (old now new : Option (List ℕ)) (done piece more whole : List ℕ) → now ≡ appended old done
    → TookPrefix now new piece → done ++ (piece ++ more) ≡ whole → TookPrefix old new whole
part_of_whole old now new done piece more whole before cut is = record {
  part = done ++ cut.part;
  rest = cut.rest ++ more;
  split =
      append_assoc done cut.part (cut.rest ++ more)
      ∙ ap (λ (l : List ℕ). done ++ l) (sym (append_assoc cut.part cut.rest more) ∙ ap (λ (l : List ℕ). l ++ more) cut.split)
      ∙ is;
  took = cut.took ∙ ap (λ (t : Option (List ℕ)). appended t cut.part) before ∙ appended-append old done cut.part;
}

-- What was taken is a first part of what it begins.
pub whole_begins : (old new : Option (List ℕ)) (done more whole : List ℕ) → new ≡ appended old done → done ++ more ≡ whole
    → TookPrefix old new whole
whole_begins old new done more whole before is = record { part = done; rest = more; split = is; took = before }
