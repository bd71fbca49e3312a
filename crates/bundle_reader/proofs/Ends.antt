-- What one frame more, or none, says of a whole bundle.
use Rattle.std.proofs.Common.{◌≡◌, ◌≢◌, ◌∙◌, ℕ, ◌+◌, ◌==◌, Bool, true, false, List, [], ◌∷◌, ◌++◌, length, Option, Some, None, Result, Ok, Err, IsErr, IsErrAnd, inl, inr, refl, sym, ap, subst, arith}
use Rattle.std.proofs.lemmas.Bool.{eqb-true}
use Rattle.bundle_reader.specs.declared.frame.Frame.{Frame}
use Rattle.bundle_reader.specs.Frames.{Begins}
use Rattle.bundle_reader.specs.declared.bundle.Bundle.{Bundle}
use Rattle.bundle_reader.specs.declared.bundle.BundleError.{BundleError}
use Rattle.bundle_reader.specs.declared.bundle.BundleError.TheVariants.{Cut, BadFrame, BadOrder, Memory}
use Rattle.bundle_reader.specs.Told.{BundleTold, ReadingTold, start, between, opening, entries, ended, closing, end}
use Rattle.bundle_reader.specs.Order.{taken, stocks_known, is_whole, whole_bundle}
use Rattle.bundle_reader.specs.Bundle.{IsBundle, bundle_bytes}
use Rattle.bundle_reader.specs.Reads.{Reached, Stops, Gives, More, Only}
use Rattle.bundle_reader.proofs.Runs.{some_same, none_some}
use Rattle.bundle_reader.proofs.Sound.{IsSo}
use Rattle.bundle_reader.proofs.Reached.{IsAhead, reads_more, reads_list, ahead_step, ahead_end, found}

-- nothing was read yet
pub reached_first : (bytes : List ℕ) → Reached bytes start bytes
reached_first bytes = record { frames = []; reads = (refl, refl) }

-- one frame more was read
pub reached_more : (bytes rest after : List ℕ) (r next : ReadingTold) (f : Frame) → Reached bytes r rest → Begins (stocks_known r) rest f after → taken r f ≡ Some next → Reached bytes next after
reached_more bytes rest after r next f reached begins e = record {
  frames = reached.frames ++ f ∷ [];
  reads = reads_more start r next bytes rest after reached.frames f reached.reads begins e;
}

pub so_of : (bytes rest : List ℕ) (r : ReadingTold) → Reached bytes r rest → IsSo r
so_of bytes rest r reached = (reads_list start r bytes rest reached.frames reached.reads tt).1

-- ---- no frame more

pub stops_there : (bytes rest : List ℕ) (r : ReadingTold) (offset : ℕ) (e : BundleError) → Reached bytes r rest → is_whole r ≡ false → offset + length rest ≡ length bytes → More r rest offset (Err e) → Stops bytes e
stops_there bytes rest r offset (Cut left) reached goes_on there failed =
    record { r = r; rest = rest; reached = reached; goes_on = goes_on; cut = failed.1; left_is = failed.0 }
stops_there bytes rest r offset (BadFrame at) reached goes_on there failed =
    record { r = r; rest = rest; reached = reached; goes_on = goes_on; bad = failed.1; at = ap (λ n. n + length rest) failed.0 ∙ there }
stops_there bytes rest r offset (BadOrder at) reached goes_on there failed = record {
  r = r;
  rest = rest;
  reached = reached;
  misplaced = inr (goes_on, failed.1, failed.2, failed.3, failed.4);
  at = ap (λ n. n + length rest) failed.0 ∙ there;
}
stops_there bytes rest r offset Memory reached goes_on there failed = tt

-- a frame that stands there was refused for want of memory alone
refused_by : (r next : ReadingTold) (f : Frame) (after : List ℕ) (e : BundleError) → taken r f ≡ Some next → Only r f after (Err e) → e ≡ Memory
refused_by r next f after (Cut left) one refused = absurd refused
refused_by r next f after (BadFrame at) one refused = absurd refused
refused_by r next f after (BadOrder at) one refused = absurd (none_some next (sym refused ∙ one))
refused_by r next f after Memory one refused = refl

pub refused_there : (r : ReadingTold) (rest : List ℕ) (b : BundleTold) (e : BundleError) → IsSo r → is_whole r ≡ false
    → ((f : Frame) (after : List ℕ) → Begins (stocks_known r) rest f after → Only r f after (Err e)) → IsAhead r rest b → e ≡ Memory
refused_there r rest b e so goes_on only ahead =
    let n = ahead_step r rest b so goes_on ahead in refused_by r n.next n.f n.after e n.one (only n.f n.after n.begins)

-- ---- one frame more

pub ahead_more : (r next : ReadingTold) (rest after : List ℕ) (b : BundleTold) → IsSo r → is_whole r ≡ false
    → ((f : Frame) (l : List ℕ) → Begins (stocks_known r) rest f l → (taken r f ≡ Some next) × (after ≡ l)) → IsAhead r rest b → IsAhead next after b
ahead_more r next rest after b so goes_on only ahead =
    let n = ahead_step r rest b so goes_on ahead in
    let o = only n.f n.after n.begins in
    let same : n.next ≡ next = some_same n.next next (sym n.one ∙ o.0) in
    let P : ReadingTold → Type 0 = λ x. IsAhead x n.after b in
    let Q : List ℕ → Type 0 = λ l. IsAhead next l b in
    subst Q (sym o.1) (subst P same n.ahead)

-- ---- the end

pub found_there : (bytes rest : List ℕ) (r : ReadingTold) (b : BundleTold) → r ≡ end b → rest ≡ [] → Reached bytes r rest → (bytes ≡ bundle_bytes b) × IsBundle b
found_there bytes rest r b is none reached =
    let P : ReadingTold → Type 0 = λ x. Reached bytes x rest in
    let Q : List ℕ → Type 0 = λ l. Reached bytes (end b) l in
    found bytes b (subst Q none (subst P is reached))

end_same : (b c : BundleTold) → end b ≡ end c → b ≡ c
end_same b c e = cc

pub end_there : (rest : List ℕ) (r : ReadingTold) (b c : BundleTold) → r ≡ end b → IsAhead r rest c → (rest ≡ []) × (b ≡ c)
end_there rest r b c is ahead =
    let P : ReadingTold → Type 0 = λ x. IsAhead x rest c in
    let last = ahead_end b c rest (subst P is ahead) in
    (last.0, end_same b c last.1)

-- what is whole is at its end
whole_end : (r : ReadingTold) → is_whole r ≡ true → (b : BundleTold) × (r ≡ end b)
whole_end start h = absurd cc
whole_end (between w) h = absurd cc
whole_end (opening w g) h = absurd cc
whole_end (entries w g es l) h = absurd cc
whole_end (ended w g es m) h = absurd cc
whole_end (closing w g es m c) h = absurd cc
whole_end (end b) h = (b, refl)

-- bytes that follow the end are of no bundle
pub no_bundle : (rest : List ℕ) (r : ReadingTold) (c : BundleTold) → is_whole r ≡ true → rest ≢ [] → IsAhead r rest c → ⊥
no_bundle rest r c whole some ahead =
    let last = whole_end r whole in some (end_there rest r last.0 c last.1 ahead).0

pub stops_behind : (bytes rest : List ℕ) (r : ReadingTold) (offset : ℕ) → Reached bytes r rest → is_whole r ≡ true → rest ≢ [] → offset + length rest ≡ length bytes → Stops bytes (BadOrder offset)
stops_behind bytes rest r offset reached whole some there =
    record { r = r; rest = rest; reached = reached; misplaced = inl (whole, some); at = there }

-- the end was read, and no bundle is there
pub no_end : (r : ReadingTold) → is_whole r ≡ true → ◌≡◌ {A = Option BundleTold} None (whole_bundle r) → ⊥
no_end r whole none =
    let last = whole_end r whole in none_some last.0 (none ∙ ap whole_bundle last.1)

-- the end was read, and the bundle is its
pub whole_is : (r : ReadingTold) (b : BundleTold) → is_whole r ≡ true → Some b ≡ whole_bundle r → r ≡ end b
whole_is r b whole some =
    let last = whole_end r whole in
    last.1 ∙ ap end (sym (some_same b last.0 (some ∙ ap whole_bundle last.1)))

-- what stopped the reading is handed on
pub gives_none : (b : BundleTold) (r : Result Bundle BundleError) (e : BundleError) → IsErr r × IsErrAnd r (λ f. f ≡ e) → e ≡ Memory → Gives b r
gives_none b (Ok x) e is memory = absurd is.1
gives_none b (Err f) e is memory = is.1 ∙ memory

-- bytes of length 0 are none
pub none_of : (rest : List ℕ) (t : Bool) → t ≡ (length rest == 0) → t ≡ true → rest ≡ []
none_of [] t is e = refl
none_of (x ∷ rest) t is e = absurd (omega (arith, eqb-true (length (x ∷ rest)) 0 (sym is ∙ e)))
