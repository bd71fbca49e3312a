-- Pieces that are sent one behind another, which the laws of what carries a bundle to a sink cite.
use Rattle.std.proofs.Common.{◌≡◌, ℕ, List, [], ◌++◌, Option, Some, None, Result, Ok, Err, ◌≤◌, refl, sym, ap, ◌∙◌, subst, le_refl, append_assoc, append-nil}
use Rattle.outside.specs.Rose.{Rose}
use Rattle.outside.specs.Taken.{appended, TookPrefix}
use Rattle.abides_run.specs.Performed.{IsUnsent, Sent}
use Rattle.abides_run.specs.declared.status.Status.{Status}
use Rattle.abides_run.specs.declared.status.Status.TheVariants.{Memory, WriteFault}

-- one piece after another
pub appended_twice : (old : Option (List ℕ)) (a b : List ℕ) → appended (appended old a) b ≡ appended old (a ++ b)
appended_twice None a b = refl
appended_twice (Some taken) a b = ap Some (append_assoc taken a b)

pub appended_nothing : (old : Option (List ℕ)) → old ≡ appended old []
appended_nothing None = refl
appended_nothing (Some taken) = ap Some (sym (append-nil taken))

-- a first part of the second piece behind the whole first one
part_behind : (old mid new : Option (List ℕ)) (a b : List ℕ) → mid ≡ appended old a → TookPrefix mid new b → TookPrefix old new (a ++ b)
part_behind old mid new a b first cut = record {
  part = a ++ cut.part;
  rest = cut.rest;
  split = append_assoc a cut.part cut.rest ∙ ap (λ (l : List ℕ). a ++ l) cut.split;
  took = cut.took ∙ ap (λ (t : Option (List ℕ)). appended t cut.part) first ∙ appended_twice old a cut.part;
}

-- a first part of the first piece
part_before : (old new : Option (List ℕ)) (a b : List ℕ) → TookPrefix old new a → TookPrefix old new (a ++ b)
part_before old new a b cut = record {
  part = cut.part;
  rest = cut.rest ++ b;
  split = sym (append_assoc cut.part cut.rest b) ∙ ap (λ (l : List ℕ). l ++ b) cut.split;
  took = cut.took;
}

-- no piece
pub sent_nothing : (f : ℕ) (old : Option (List ℕ)) → Sent [] f f old old (Ok tt)
sent_nothing f old = record { whole = appended_nothing old; cut = tt; unsent = tt; fault = tt; steady = refl; wanting = tt; never_falls = le_refl f }

-- a piece for which there was no memory
pub unsent_for_memory : (a : List ℕ) (f : ℕ) (old : Option (List ℕ)) (st : Status) → st ≡ Memory → Sent a f f old old (Err st)
unsent_for_memory a f old st is = record {
  whole = tt;
  cut = record { part = []; rest = a; split = refl; took = appended_nothing old };
  unsent = subst IsUnsent (sym is) tt;
  fault = λ e. let no : Memory ≡ WriteFault = sym is ∙ e in cc;
  steady = tt;
  wanting = λ other. refl;
  never_falls = le_refl f;
}

-- the second piece was sent, or a first part of it, behind the first
pub sent_behind : (a b : List ℕ) (f m n : ℕ) (old mid new : Option (List ℕ)) (r : Result (Unit {0}) Status) → mid ≡ appended old a → m ≡ f
    → Sent b m n mid new r → Sent (a ++ b) f n old new r
sent_behind a b f m n old mid new (Ok done) first still s = record {
  whole = s.whole ∙ ap (λ (t : Option (List ℕ)). appended t b) first ∙ appended_twice old a b;
  cut = tt;
  unsent = tt;
  fault = tt;
  steady = s.steady ∙ still;
  wanting = tt;
  never_falls = subst (λ (k : ℕ). k ≤ n) still s.never_falls;
}
sent_behind a b f m n old mid new (Err st) first still s = record {
  whole = tt;
  cut = part_behind old mid new a b first s.cut;
  unsent = s.unsent;
  fault = λ e. subst (λ (k : ℕ). Rose k n) still (s.fault e);
  steady = tt;
  wanting = λ other. s.wanting other ∙ still;
  never_falls = subst (λ (k : ℕ). k ≤ n) still s.never_falls;
}

-- the first piece was not sent whole
pub sent_before : (a b : List ℕ) (f n : ℕ) (old new : Option (List ℕ)) (st : Status)
    → Sent a f n old new (Err st) → Sent (a ++ b) f n old new (Err st)
sent_before a b f n old new st s = record {
  whole = tt;
  cut = part_before old new a b s.cut;
  unsent = s.unsent;
  fault = s.fault;
  steady = tt;
  wanting = s.wanting;
  never_falls = s.never_falls;
}
