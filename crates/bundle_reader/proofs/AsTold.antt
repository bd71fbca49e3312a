-- What the function reads of bytes is told by the reader's relations.
use Rattle.std.proofs.Common.{◌≡◌, ◌∙◌, ℕ, zero, suc, ◌+◌, ◌<◌, nat_lt, Bool, true, false, List, [], ◌∷◌, length, drop, Option, Some, None, Result, Ok, Err, if◌then◌else◌, inr, refl, sym, ap, subst, arith}
use Rattle.std.proofs.lemmas.List.{drop_at}
use Rattle.market_types.specs.declared.error.CodecError.{CodecError}
use Rattle.market_types.specs.declared.error.CodecError.TheVariants as codec
use Rattle.wire_fields.proofs.Digits.{IsBytes, IsBytes-drop}
use Rattle.itch_codec.specs.Frames.{framed, framed_length, unframed}
use Rattle.bundle_reader.specs.declared.frame.Frame.{Frame}
use Rattle.bundle_reader.specs.Frames.{payload, Begins}
use Rattle.bundle_reader.specs.Told.{BundleTold, ReadingTold, start, between, opening, entries, ended, closing, end}
use Rattle.bundle_reader.specs.Order.{taken, stocks_known, is_whole}
use Rattle.bundle_reader.specs.Reads.{Reached}
use Rattle.bundle_reader.proofs.Runs.{none_some}
use Rattle.bundle_reader.proofs.Begun.{begins_of}
use Rattle.bundle_reader.proofs.Ends.{reached_first, reached_more, found_there, stops_behind}
use Rattle.bundle_reader.specs.FramesRead.{frame_in}
use Rattle.bundle_reader.specs.Reading.{Read, read_whole, placed, with_frame, parted, reading_from, reading_of, IsTold}
use Rattle.bundle_reader.proofs.FrameFound.{frame_found, frame_written}
use Rattle.bundle_reader.proofs.AsRead.{later, framed_long, read_from}

-- Bytes were read so far, and this rest stands at this offset, of fewer bytes than the first number.
pub record IsThere (n at : ℕ) (bytes : List ℕ) (r : ReadingTold) (rest : List ℕ) : Type 0 where
  pub reached : Reached bytes r rest
  pub fits : IsBytes rest
  pub there : at + length rest ≡ length bytes
  pub enough : length rest < n

-- what is read behind it is told
pub record IsToldBehind (n : ℕ) (bytes : List ℕ) : Type 0 where
  pub all : (at : ℕ) (r : ReadingTold) (rest : List ℕ) → IsThere n at bytes r rest → IsTold bytes (reading_from n at r rest)

-- ---- one frame

placed_told : (n at : ℕ) (bytes : List ℕ) (r : ReadingTold) (rest after : List ℕ) (f : Frame) (o : Option ReadingTold) → taken r f ≡ o → IsToldBehind n bytes → IsThere (suc n) at bytes r rest
    → is_whole r ≡ false → Begins (stocks_known r) rest f after → IsTold bytes (placed at o (later n at (payload f) after))
placed_told n at bytes r rest after f None e others is goes begins =
    record { r = r; rest = rest; reached = is.reached; misplaced = inr (goes, f, after, begins, e); at = is.there }
placed_told n at bytes r rest after f (Some next) e others is goes begins =
    let long = framed_long rest after (stocks_known r) f begins in
    let size = length (framed (payload f)) in
    let left : drop (length (framed (payload f))) rest ≡ after =
    ap (drop (length (framed (payload f)))) begins.same ∙ drop_at (framed (payload f)) after (length (framed (payload f))) refl in
    let P : List ℕ → Type 0 = λ l. IsBytes l in
    others.all (at + (2 + length (payload f))) next after
    (record {
      reached = reached_more bytes rest after r next f is.reached begins e;
      fits = subst P left (IsBytes-drop (length (framed (payload f))) rest is.fits);
      there = omega (arith, is.there, long);
      enough = omega (arith, is.enough, long);
    })

framed_told : (n at : ℕ) (bytes : List ℕ) (r : ReadingTold) (rest first after : List ℕ) (o : Option Frame) → frame_in (stocks_known r) first ≡ o → unframed rest ≡ Ok (first, after)
    → IsToldBehind n bytes → IsThere (suc n) at bytes r rest → is_whole r ≡ false → IsTold bytes (with_frame at r o (later n at first after))
framed_told n at bytes r rest first after None e parts others is goes = record {
  r = r;
  rest = rest;
  reached = is.reached;
  goes_on = goes;
  bad = record { first = first; rest = after; whole = parts; no_frame = λ f frame. none_some f (sym e ∙ frame_found (stocks_known r) first f frame) };
  at = is.there;
}
framed_told n at bytes r rest first after (Some f) e parts others is goes =
    let frame = frame_written (stocks_known r) first f e in
    let begins = begins_of (stocks_known r) rest first after f is.fits (sym parts) frame in
    let P : List ℕ → Type 0 = λ l. IsTold bytes (placed at (taken r f) (later n at l after)) in
    subst P (sym frame.same) (placed_told n at bytes r rest after f (taken r f) refl others is goes begins)

-- ---- a length and what it counts

cut_by : (bytes : List ℕ) (short less : Bool) (e : CodecError) (parts : List ℕ × List ℕ)
    → ◌≡◌ {A = Result (List ℕ × List ℕ) CodecError} (if short then Err (codec.Cut (length bytes)) else (if less then Err (codec.Cut (length bytes)) else Ok parts)) (Err e)
    → e ≡ codec.Cut (length bytes)
cut_by bytes true less e parts is = cc
cut_by bytes false true e parts is = cc
cut_by bytes false false e parts is = absurd cc

parted_told : (n at : ℕ) (bytes : List ℕ) (r : ReadingTold) (rest : List ℕ) (p : Result (List ℕ × List ℕ) CodecError) → unframed rest ≡ p → IsToldBehind n bytes → IsThere (suc n) at bytes r rest
    → is_whole r ≡ false → IsTold bytes (parted rest at r p (later n at))
parted_told n at bytes r rest (Err e) same others is goes =
    let why = cut_by rest (nat_lt (length rest) 2) (nat_lt (length rest) (2 + framed_length rest)) e _ same in
    record { r = r; rest = rest; reached = is.reached; goes_on = goes; cut = same ∙ ap Err why; left_is = refl }
parted_told n at bytes r rest (Ok parts) same others is goes =
    framed_told n at bytes r rest parts.0 parts.1 (frame_in (stocks_known r) parts.0) refl same others is goes

-- ---- the end

whole_told : (at : ℕ) (bytes : List ℕ) (b : BundleTold) (rest : List ℕ) → Reached bytes (end b) rest → at + length rest ≡ length bytes → IsTold bytes (read_whole at b rest)
whole_told at bytes b [] reached there = found_there bytes [] (end b) b refl refl reached
whole_told at bytes b (x ∷ rest) reached there = stops_behind bytes (x ∷ rest) (end b) at reached refl (λ e. absurd cc) there

one_told : (n at : ℕ) (bytes : List ℕ) (r : ReadingTold) (rest : List ℕ) → IsToldBehind n bytes → IsThere (suc n) at bytes r rest → IsTold bytes (reading_from (suc n) at r rest)
one_told n at bytes start rest others is = parted_told n at bytes start rest (unframed rest) refl others is refl
one_told n at bytes (between w) rest others is = parted_told n at bytes (between w) rest (unframed rest) refl others is refl
one_told n at bytes (opening w g) rest others is = parted_told n at bytes (opening w g) rest (unframed rest) refl others is refl
one_told n at bytes (entries w g es l) rest others is = parted_told n at bytes (entries w g es l) rest (unframed rest) refl others is refl
one_told n at bytes (ended w g es m) rest others is = parted_told n at bytes (ended w g es m) rest (unframed rest) refl others is refl
one_told n at bytes (closing w g es m c) rest others is = parted_told n at bytes (closing w g es m c) rest (unframed rest) refl others is refl
one_told n at bytes (end b) rest others is = whole_told at bytes b rest is.reached is.there

all_told : (n : ℕ) (bytes : List ℕ) → IsToldBehind n bytes
all_told zero bytes = record { all = λ at r rest is. absurd (omega (arith, is.enough)) }
all_told (suc n) bytes = record { all = λ at r rest is. one_told n at bytes r rest (all_told n bytes) is }

-- what is read of bytes is told
pub told_as : (bytes : List ℕ) → IsBytes bytes → IsTold bytes (reading_of bytes)
told_as bytes fits =
    let P : Read → Type 0 = λ x. IsTold bytes x in
    subst P (sym (read_from bytes))
    ((all_told (1 + length bytes) bytes).all 0 start bytes (record { reached = reached_first bytes; fits = fits; there = omega arith; enough = omega arith }))
