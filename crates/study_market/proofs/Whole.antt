-- The records that were read until none was left are all the records of the text.
use Rattle.std.proofs.Common.{◌≡◌, ℕ, ◌+◌, ◌<◌, ◌≤◌, ◌&&◌, ◌==◌, if◌then◌else◌, Bool, true, false, zero, suc, List, [], ◌∷◌, ◌++◌, append-nil, length, Option, Some, None, refl, ap, sym, subst, ◌∙◌, inl, inr, arith}
use Rattle.std.proofs.lemmas.Bool.{cases_Bool, false≢true}
use Rattle.std.proofs.lemmas.Option.{same_Some}
use Rattle.csv.specs.Machine.{Read, after_end, carriage_return, ends_at_end, ends_with, field_after, fields_after, in_field, is_byte, is_end, line_feed, next_record, start_field, start_record, step}
use Rattle.csv.specs.Reading.{Reached, records, records_from}
use Rattle.csv.specs.declared.parser.Config.{Config}
use Rattle.csv.specs.declared.parser.Action.{Action}
use Rattle.csv.specs.declared.parser.Action.TheVariants as act
use Rattle.csv.specs.declared.parser.State.{State}
use Rattle.csv.specs.declared.parser.State.TheVariants as st
use Rattle.csv.specs.declared.parser.Terminator.{Terminator}
use Rattle.csv.specs.declared.parser.Terminator.TheVariants as term

some≢none : (q : Read) → ◌≡◌ {A = Option Read} None (Some q) → ⊥
some≢none q h = cc h

module _ (cfg : Config) where
  -- a step that ends a record leaves such a state
  Cleans : State × Action → Type 0
  Cleans x = is_end x.1 ≡ true → ends_at_end x.0 ≡ false

  pick : (b : Bool) (x y : State × Action) → Cleans x → Cleans y → Cleans (if b then x else y)
  unfolding Cleans
  pick true x y f g h = f h
  pick false x y f g h = g h

  not_end : (x : State × Action) → is_end x.1 ≡ false → Cleans x
  unfolding Cleans
  not_end x going ended = absurd (false≢true (sym going ∙ ended))

  after_clean : (t : Terminator) (c : ℕ) → Cleans (after_end t c, act.EndRecord)
  unfolding Cleans
  after_clean term.CRLF c h = elim (cases_Bool (c == carriage_return)) [ inl e ↦ rw e | inr e ↦ rw e ]
  after_clean (term.Any t) c h = refl

  field_clean : (c : ℕ) → Cleans (in_field cfg c)
  field_clean c =
      pick (c == cfg.delimiter) _ _ (not_end _ refl) (pick (ends_with cfg.terminator c) _ _ (after_clean cfg.terminator c) (not_end _ refl))

  start_field_clean : (c : ℕ) → Cleans (start_field cfg c)
  start_field_clean c = pick (cfg.quoting && (c == cfg.quote)) _ _ (not_end _ refl) (field_clean c)

  start_clean : (c : ℕ) → Cleans (start_record cfg c)
  start_clean c =
      pick (ends_with cfg.terminator c) _ _ (not_end _ refl) (pick (is_byte cfg.comment c) _ _ (not_end _ refl) (start_field_clean c))

  step_clean : (s : State) (c : ℕ) → Cleans (step cfg s c)
  step_clean st.StartRecord c = start_clean c
  step_clean st.StartField c = start_field_clean c
  step_clean st.InField c = field_clean c
  step_clean st.InQuoted c =
      pick (cfg.quoting && (c == cfg.quote)) _ _ (not_end _ refl) (pick (cfg.quoting && is_byte cfg.escape c) _ _ (not_end _ refl) (not_end _ refl))
  step_clean st.InEscape c = not_end _ refl
  step_clean st.AfterQuote c = pick ((cfg.quoting && cfg.double_quote) && (c == cfg.quote)) _ _ (not_end _ refl) (field_clean c)
  step_clean st.InComment c = pick (c == line_feed) _ _ (not_end _ refl) (not_end _ refl)
  step_clean st.AfterCr c = pick (c == line_feed) _ _ (not_end _ refl) (start_clean c)

  read_clean : (s : State) (f : List (List ℕ)) (p xs : List ℕ) (q : Read) → next_record cfg s f p xs ≡ Some q → ends_at_end q.1 ≡ false
  unfolding next_record Cleans
  read_clean s f p [] q h =
      elim (cases_Bool (ends_at_end s)) [
        | inl e ↦ let same = same_Some _ _ (rw e at h) in subst (λ (r : Read). ends_at_end r.1 ≡ false) same refl
        | inr e ↦ absurd (some≢none q (rw e at h))
      ]
  read_clean s f p (c ∷ rest) q h =
      elim (cases_Bool (is_end (step cfg s c).1)) [
        | inl e ↦ let same = same_Some _ _ (rw e at h) in subst (λ (r : Read). ends_at_end r.1 ≡ false) same (step_clean s c e)
        | inr e ↦ read_clean (step cfg s c).0 (fields_after (step cfg s c).1 f p) (field_after (step cfg s c).1 c p) rest q (rw e at h)
      ]

  read_within : (s : State) (f : List (List ℕ)) (p xs : List ℕ) (q : Read) → next_record cfg s f p xs ≡ Some q → length q.2 ≤ length xs
  unfolding next_record
  read_within s f p [] q h =
      elim (cases_Bool (ends_at_end s)) [
        | inl e ↦ let same = ap (λ (r : Read). length r.2) (same_Some _ _ (rw e at h)) in omega (arith, same)
        | inr e ↦ absurd (some≢none q (rw e at h))
      ]
  read_within s f p (c ∷ rest) q h =
      elim (cases_Bool (is_end (step cfg s c).1)) [
        | inl e ↦ let same = ap (λ (r : Read). length r.2) (same_Some _ _ (rw e at h)) in omega (arith, same)
        | inr e ↦ omega (arith, read_within (step cfg s c).0 (fields_after (step cfg s c).1 f p) (field_after (step cfg s c).1 c p) rest q (rw e at h))
      ]

  -- a record that is read from such a state uses up a byte
  read_uses : (s : State) (xs : List ℕ) (q : Read) → ends_at_end s ≡ false → next_record cfg s [] [] xs ≡ Some q → length q.2 < length xs
  unfolding next_record
  read_uses s [] q clean h = absurd (some≢none q (rw clean at h))
  read_uses s (c ∷ rest) q clean h =
      elim (cases_Bool (is_end (step cfg s c).1)) [
        | inl e ↦ let same = ap (λ (r : Read). length r.2) (same_Some _ _ (rw e at h)) in omega (arith, same)
        | inr e ↦ omega (arith, read_within (step cfg s c).0 (fields_after (step cfg s c).1 [] []) (field_after (step cfg s c).1 c []) rest q (rw e at h))
      ]

  -- the records of a text are those that were reached, and then those from there on
  split_from : (rows : List (List (List ℕ))) (n : ℕ) (s s2 : State) (xs ys : List ℕ) → ends_at_end s ≡ false → length xs < n → Reached cfg s xs rows s2 ys
      → (m : ℕ) × (length ys < m) × (ends_at_end s2 ≡ false) × (records_from cfg n s xs ≡ rows ++ records_from cfg m s2 ys)
  unfolding records_from Reached
  split_from rows zero s s2 xs ys clean room reached = absurd (omega arith)
  split_from [] (suc n) s s2 xs ys clean room reached =
      (suc n, rw (← reached.1) room, rw (← reached.0) clean, rw (reached.0, reached.1) refl)
  split_from (r ∷ rows) (suc n) s s2 xs ys clean room reached =
      let (p, at, same, more) = reached in
      let fewer : length p.2 < n = omega (arith, read_uses s xs p clean at) in
      let rest = split_from rows n p.1 s2 p.2 ys (read_clean s [] [] xs p at) fewer more in
      (rest.0, rest.1, rest.2, rw (at, same) (ap (λ t. p.0 ∷ t) rest.3))

  pub split : (xs ys : List ℕ) (s : State) (rows : List (List (List ℕ))) → Reached cfg st.StartRecord xs rows s ys
      → (m : ℕ) × (length ys < m) × (ends_at_end s ≡ false) × (records cfg xs ≡ rows ++ records_from cfg m s ys)
  split xs ys s rows reached = split_from rows (length xs + 1) st.StartRecord s xs ys refl (omega arith) reached

  none_left : (m : ℕ) (s : State) (ys : List ℕ) → length ys < m → next_record cfg s [] [] ys ≡ None → records_from cfg m s ys ≡ []
  unfolding records_from
  none_left zero s ys room none = absurd (omega arith)
  none_left (suc m) s ys room none = rw none

  -- the records reached from the start of a text, where no more follow, are its records
  pub whole : (xs ys : List ℕ) (s : State) (rows : List (List (List ℕ))) → Reached cfg st.StartRecord xs rows s ys → next_record cfg s [] [] ys ≡ None → rows ≡ records cfg xs
  whole xs ys s rows reached none =
      let (m, room, clean, same) = split xs ys s rows reached in
      sym (same ∙ ap (λ t. rows ++ t) (none_left m s ys room none) ∙ append-nil rows)
