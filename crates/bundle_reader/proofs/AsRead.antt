-- Bytes that are read frame by frame are read so by the function.
use Rattle.std.proofs.Common.{◌≡◌, ◌≢◌, ◌∙◌, ℕ, zero, suc, ◌+◌, ◌<◌, true, false, List, [], ◌∷◌, length, Option, Some, None, Result, Ok, Err, IfOk, IfErr, inl, inr, refl, sym, ap, subst, arith}
use Rattle.std.proofs.lemmas.List.{length-append}
use Rattle.market_types.specs.declared.error.CodecError.{CodecError}
use Rattle.wire_fields.specs.Numbers.{number_bytes}
use Rattle.wire_fields.proofs.Digits.{length-number_bytes}
use Rattle.itch_codec.specs.Frames.{framed, unframed}
use Rattle.itch_codec.proofs.FrameLaws.{unframed_again}
use Rattle.bundle_reader.specs.declared.frame.Frame.{Frame}
use Rattle.bundle_reader.specs.declared.bundle.Bundle.{Bundle}
use Rattle.bundle_reader.specs.declared.bundle.BundleError.{BundleError}
use Rattle.bundle_reader.specs.declared.bundle.BundleError.TheVariants.{Cut, BadFrame, BadOrder, Memory}
use Rattle.bundle_reader.specs.Frames.{payload, Begins}
use Rattle.bundle_reader.specs.Next.{IsCut, IsBad}
use Rattle.bundle_reader.specs.Told.{BundleTold, ReadingTold, start, between, opening, entries, ended, closing, end, bundle_told}
use Rattle.bundle_reader.specs.Order.{taken, stocks_known, is_whole, whole_bundle}
use Rattle.bundle_reader.specs.Bundle.{IsBundle, bundle_bytes}
use Rattle.bundle_reader.specs.Reads.{Reads, Reached, Stops, StopsCut, StopsBad, StopsMisplaced, IsMisplaced}
use Rattle.bundle_reader.proofs.Runs.{none_some}
use Rattle.bundle_reader.proofs.Sound.{IsSo, step}
use Rattle.bundle_reader.proofs.Reached.{IsAhead, ahead_first, ahead_step, ahead_end}
use Rattle.bundle_reader.specs.FramesRead.{frame_in}
use Rattle.bundle_reader.specs.Reading.{Read, read, cut, bad_frame, bad_order, read_whole, at_end, placed, with_frame, parted, reading_from, reading_of, IsRefusedAs, IsReadAs}
use Rattle.bundle_reader.proofs.FrameFound.{frame_found, frame_none}

-- ---- before the end

end_takes_none : (b : BundleTold) (f : Frame) → taken (end b) f ≡ None
unfolding taken
end_takes_none b f = refl

-- what takes a frame isn't at its end
not_end : (r next : ReadingTold) (f : Frame) → taken r f ≡ Some next → whole_bundle r ≡ None
not_end start next f e = refl
not_end (between w) next f e = refl
not_end (opening w b) next f e = refl
not_end (entries w b es l) next f e = refl
not_end (ended w b es m) next f e = refl
not_end (closing w b es m c) next f e = refl
not_end (end b) next f e = absurd (none_some next (sym (end_takes_none b f) ∙ e))

no_end : (r : ReadingTold) → is_whole r ≡ false → whole_bundle r ≡ None
no_end start e = refl
no_end (between w) e = refl
no_end (opening w b) e = refl
no_end (entries w b es l) e = refl
no_end (ended w b es m) e = refl
no_end (closing w b es m c) e = refl
no_end (end b) e = absurd cc

-- what was read so far, and what is ahead, by the parts of the bytes
abbrev pub later : ℕ → ℕ → List ℕ → List ℕ → ReadingTold → Read
later n at first rest next = reading_from n (at + (2 + length first)) next rest

before_end : (n at : ℕ) (r : ReadingTold) (bytes : List ℕ) → whole_bundle r ≡ None → reading_from (suc n) at r bytes ≡ parted bytes at r (unframed bytes) (later n at)
before_end n at r bytes none = ap (λ (w : Option BundleTold). at_end at bytes w (parted bytes at r (unframed bytes) (later n at))) none

-- a frame stands there, and what is read is told by where it may stand
frame_there : (n at : ℕ) (r : ReadingTold) (bytes after : List ℕ) (f : Frame) → whole_bundle r ≡ None → Begins (stocks_known r) bytes f after
    → reading_from (suc n) at r bytes ≡ placed at (taken r f) (later n at (payload f) after)
frame_there n at r bytes after f none begins =
    let parts : unframed bytes ≡ Ok (payload f, after) = ap unframed begins.same ∙ unframed_again (payload f) after begins.short in
    let found : frame_in (stocks_known r) (payload f) ≡ Some f = frame_found (stocks_known r) (payload f) f (record { same = refl; ranges = begins.ranges }) in
    before_end n at r bytes none
    ∙ ap (λ (p : Result (List ℕ × List ℕ) CodecError). parted bytes at r p (later n at)) parts
    ∙ ap (λ (o : Option Frame). with_frame at r o (later n at (payload f) after)) found

one_more : (n at : ℕ) (r next : ReadingTold) (bytes after : List ℕ) (f : Frame) → Begins (stocks_known r) bytes f after → taken r f ≡ Some next
    → reading_from (suc n) at r bytes ≡ reading_from n (at + (2 + length (payload f))) next after
one_more n at r next bytes after f begins one =
    frame_there n at r bytes after f (not_end r next f one) begins ∙ ap (λ (o : Option ReadingTold). placed at o (later n at (payload f) after)) one

pub framed_long : (bytes after : List ℕ) (stocks : Option ℕ) (f : Frame) → Begins stocks bytes f after → length bytes ≡ 2 + length (payload f) + length after
framed_long bytes after stocks f begins =
    omega (arith, ap length begins.same, length-append (framed (payload f)) after, length-append (number_bytes 2 (length (payload f))) (payload f), length-number_bytes 2 (length (payload f)))

-- ---- as far as frames are read

record GoesOn (n at : ℕ) (r : ReadingTold) (bytes : List ℕ) (last : ReadingTold) (rest : List ℕ) : Type 0 where
  fuel : ℕ
  offset : ℕ
  more : length rest < fuel
  there : offset + length rest ≡ at + length bytes
  same : reading_from n at r bytes ≡ reading_from fuel offset last rest

goes_on : (n at : ℕ) (r last : ReadingTold) (bytes rest : List ℕ) (fs : List Frame) → Reads r bytes fs last rest → length bytes < n → GoesOn n at r bytes last rest
goes_on n at r last bytes rest [] reads enough =
    let P : ReadingTold → Type 0 = λ x. GoesOn n at r bytes x rest in
    let Q : List ℕ → Type 0 = λ l. GoesOn n at r bytes r l in
    subst P reads.0 (subst Q reads.1 (record { fuel = n; offset = at; more = enough; there = refl; same = refl }))
goes_on zero at r last bytes rest (f ∷ fs) reads enough = absurd (omega (arith, enough))
goes_on (suc n) at r last bytes rest (f ∷ fs) reads enough =
    let long = framed_long bytes reads.1 (stocks_known r) f reads.2 in
    let others = goes_on n (at + (2 + length (payload f))) reads.0 last reads.1 rest fs reads.4 (omega (arith, enough, long)) in
    record {
      fuel = others.fuel;
      offset = others.offset;
      more = others.more;
      there = omega (arith, others.there, long);
      same = one_more n at r reads.0 bytes reads.1 f reads.2 reads.3 ∙ others.same;
    }

from_start : (bytes rest : List ℕ) (r : ReadingTold) → Reached bytes r rest → GoesOn (1 + length bytes) 0 start bytes r rest
from_start bytes rest r reached = goes_on (1 + length bytes) 0 start r bytes rest reached.frames reached.reads (omega arith)

pub read_from : (bytes : List ℕ) → reading_of bytes ≡ reading_from (1 + length bytes) 0 start bytes
unfolding reading_of
read_from bytes = refl

-- ---- where no frame is ahead

cut_there : (n at : ℕ) (r : ReadingTold) (rest : List ℕ) → length rest < n → is_whole r ≡ false → IsCut rest → reading_from n at r rest ≡ cut (length rest)
cut_there zero at r rest enough goes is = absurd (omega (arith, enough))
cut_there (suc n) at r rest enough goes is =
    before_end n at r rest (no_end r goes) ∙ ap (λ (p : Result (List ℕ × List ℕ) CodecError). parted rest at r p (later n at)) is

bad_there : (n at : ℕ) (r : ReadingTold) (rest : List ℕ) → length rest < n → is_whole r ≡ false → IsBad (stocks_known r) rest → reading_from n at r rest ≡ bad_frame at
bad_there zero at r rest enough goes is = absurd (omega (arith, enough))
bad_there (suc n) at r rest enough goes is =
    before_end n at r rest (no_end r goes)
    ∙ ap (λ (p : Result (List ℕ × List ℕ) CodecError). parted rest at r p (later n at)) is.whole
    ∙ ap (λ (o : Option Frame). with_frame at r o (later n at is.first is.rest)) (frame_none (stocks_known r) is.first is.no_frame)

more_behind : (at : ℕ) (b : BundleTold) (rest : List ℕ) → rest ≢ [] → read_whole at b rest ≡ bad_order at
more_behind at b [] some = absurd (some refl)
more_behind at b (x ∷ rest) some = refl

behind_end : (n at : ℕ) (r : ReadingTold) (rest : List ℕ) → is_whole r ≡ true → rest ≢ [] → reading_from (suc n) at r rest ≡ bad_order at
behind_end n at start rest whole some = absurd cc
behind_end n at (between w) rest whole some = absurd cc
behind_end n at (opening w b) rest whole some = absurd cc
behind_end n at (entries w b es l) rest whole some = absurd cc
behind_end n at (ended w b es m) rest whole some = absurd cc
behind_end n at (closing w b es m c) rest whole some = absurd cc
behind_end n at (end b) rest whole some = more_behind at b rest some

misplaced_there : (n at : ℕ) (r : ReadingTold) (rest : List ℕ) → length rest < n → IsMisplaced r rest → reading_from n at r rest ≡ bad_order at
misplaced_there zero at r rest enough is = absurd (omega (arith, enough))
misplaced_there (suc n) at r rest enough (inl is) = behind_end n at r rest is.0 is.1
misplaced_there (suc n) at r rest enough (inr is) =
    frame_there n at r rest is.2 is.1 (no_end r is.0) is.3 ∙ ap (λ (o : Option ReadingTold). placed at o (later n at (payload is.1) is.2)) is.4

same_offset : (at offset rest all : ℕ) → offset + rest ≡ 0 + all → at + rest ≡ all → offset ≡ at
same_offset at offset rest all a b = omega (arith, a, b)

refused_cut : (bytes : List ℕ) (left : ℕ) → StopsCut bytes left → reading_of bytes ≡ cut left
refused_cut bytes left is =
    let g = from_start bytes is.rest is.r is.reached in
    read_from bytes ∙ g.same ∙ cut_there g.fuel g.offset is.r is.rest g.more is.goes_on is.cut ∙ ap cut (sym is.left_is)

refused_bad : (bytes : List ℕ) (at : ℕ) → StopsBad bytes at → reading_of bytes ≡ bad_frame at
refused_bad bytes at is =
    let g = from_start bytes is.rest is.r is.reached in
    read_from bytes ∙ g.same ∙ bad_there g.fuel g.offset is.r is.rest g.more is.goes_on is.bad
    ∙ ap bad_frame (same_offset at g.offset (length is.rest) (length bytes) g.there is.at)

refused_order : (bytes : List ℕ) (at : ℕ) → StopsMisplaced bytes at → reading_of bytes ≡ bad_order at
refused_order bytes at is =
    let g = from_start bytes is.rest is.r is.reached in
    read_from bytes ∙ g.same ∙ misplaced_there g.fuel g.offset is.r is.rest g.more is.misplaced
    ∙ ap bad_order (same_offset at g.offset (length is.rest) (length bytes) g.there is.at)

-- what stops the reader is what is read
pub refused_as : (bytes : List ℕ) (e : BundleError) → Stops bytes e → IsRefusedAs e (reading_of bytes)
refused_as bytes (Cut left) is = refused_cut bytes left is
refused_as bytes (BadFrame at) is = refused_bad bytes at is
refused_as bytes (BadOrder at) is = refused_order bytes at is
refused_as bytes Memory is = tt

-- ---- a bundle

at_last : (n at : ℕ) (c b : BundleTold) (rest : List ℕ) → rest ≡ [] → end c ≡ end b → reading_from (suc n) at (end c) rest ≡ read b
at_last n at c b rest none same =
    ap (read_whole at c) none ∙ ap (λ (x : ReadingTold). at_end at [] (whole_bundle x) (bad_order at)) same

record IsLater (n : ℕ) (b : BundleTold) : Type 0 where
  all : (at : ℕ) (r : ReadingTold) (rest : List ℕ) → IsSo r → IsAhead r rest b → length rest < n → reading_from n at r rest ≡ read b

ahead_read : (n at : ℕ) (r : ReadingTold) (rest : List ℕ) (b : BundleTold) → IsLater n b → is_whole r ≡ false → IsSo r → IsAhead r rest b → length rest < suc n
    → reading_from (suc n) at r rest ≡ read b
ahead_read n at r rest b others goes so ahead enough =
    let m = ahead_step r rest b so goes ahead in
    let long = framed_long rest m.after (stocks_known r) m.f m.begins in
    one_more n at r m.next rest m.after m.f m.begins m.one
    ∙ others.all (at + (2 + length (payload m.f))) m.next m.after (step r m.f m.next m.one so).so m.ahead (omega (arith, enough, long))

one_ahead : (n at : ℕ) (r : ReadingTold) (rest : List ℕ) (b : BundleTold) → IsLater n b → IsSo r → IsAhead r rest b → length rest < suc n → reading_from (suc n) at r rest ≡ read b
one_ahead n at start rest b others so ahead enough = ahead_read n at start rest b others refl so ahead enough
one_ahead n at (between w) rest b others so ahead enough = ahead_read n at (between w) rest b others refl so ahead enough
one_ahead n at (opening w g) rest b others so ahead enough = ahead_read n at (opening w g) rest b others refl so ahead enough
one_ahead n at (entries w g es l) rest b others so ahead enough = ahead_read n at (entries w g es l) rest b others refl so ahead enough
one_ahead n at (ended w g es m) rest b others so ahead enough = ahead_read n at (ended w g es m) rest b others refl so ahead enough
one_ahead n at (closing w g es m c) rest b others so ahead enough = ahead_read n at (closing w g es m c) rest b others refl so ahead enough
one_ahead n at (end c) rest b others so ahead enough = let last = ahead_end c b rest ahead in at_last n at c b rest last.0 last.1

all_ahead : (n : ℕ) (b : BundleTold) → IsLater n b
all_ahead zero b = record { all = λ at r rest so ahead enough. absurd (omega (arith, enough)) }
all_ahead (suc n) b = record { all = λ at r rest so ahead enough. one_ahead n at r rest b (all_ahead n b) so ahead enough }

-- the bytes of a bundle are read as it
pub bundle_as : (b : BundleTold) (bytes : List ℕ) → IsBundle b → bytes ≡ bundle_bytes b → reading_of bytes ≡ read b
bundle_as b bytes is e =
    read_from bytes ∙ (all_ahead (1 + length bytes) b).all 0 start bytes tt (ahead_first bytes b is e) (omega arith)

-- what the reader answers is what is read
pub answer_as : (bytes : List ℕ) (r : Result Bundle BundleError) → IfOk r (λ b. bytes ≡ bundle_bytes (bundle_told b)) → IfOk r (λ b. IsBundle (bundle_told b)) → IfErr r (Stops bytes)
    → IsReadAs r (reading_of bytes)
answer_as bytes (Ok b) told is stopped = bundle_as (bundle_told b) bytes is told
answer_as bytes (Err e) told is stopped = refused_as bytes e stopped
