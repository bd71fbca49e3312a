use Rattle.std.proofs.Common.{◌≡◌, ◌≢◌, ◌∙◌, true, false, [], sym, arith, rules}
use Rattle.bundle_reader.specs.Told.{bundle_told, reading_told}
use Rattle.bundle_reader.specs.Order.{is_whole}
use Rattle.bundle_reader.proofs.Reached.{ahead_first}
use Rattle.bundle_reader.proofs.Ends.{reached_first, reached_more, so_of, refused_there, gives_none, ahead_more, found_there, end_there, no_bundle, whole_is, none_of}
use Rattle.bundle_reader.proofs.bundle.read_bundle.Goals as goal

pub loop-alloc-init : goal.loop-alloc-init
loop-alloc-init c = record {
  reached = reached_first c.args.bytes.now;
  ahead = λ b is e. ahead_first c.args.bytes.now b is e;
  within = omega arith;
}

pub returns-in_err-next-clause-only : goal.returns-in_err-next-clause-only
returns-in_err-next-clause-only c b is e =
    let r = reading_told c.loop-alloc.reading in
    let rest = c.loop-alloc.rest.now in
    let goes_on : is_whole (reading_told c.loop-alloc.reading) ≡ false = sym c.is_whole.ensures ∙ c.loop-alloc-test.true in
    gives_none b c.from_residual.result c.in_err-next.field-0.0 c.from_residual.ensures
    (refused_there r rest b c.in_err-next.field-0.0 (so_of c.args.bytes.now rest r c.loop-alloc.invariant.reached) goes_on c.in_err-next.ensures.only
    (c.loop-alloc.invariant.ahead b is e))

pub loop-alloc-preserved : goal.loop-alloc-preserved
loop-alloc-preserved c =
    let r = reading_told c.loop-alloc.reading in
    let next = reading_told c.in_ok-next.next in
    let rest = c.loop-alloc.rest.now in
    let after = c.in_ok-next.after.now in
    let goes_on : is_whole (reading_told c.loop-alloc.reading) ≡ false = sym c.is_whole.ensures ∙ c.loop-alloc-test.true in
    let more = c.in_ok-next.ensures.more in
    record {
      reached = reached_more c.args.bytes.now rest after r next more.0 c.loop-alloc.invariant.reached more.1 more.2;
      ahead = λ b is e. ahead_more r next rest after b (so_of c.args.bytes.now rest r c.loop-alloc.invariant.reached) goes_on c.in_ok-next.ensures.only
          (c.loop-alloc.invariant.ahead b is e);
      within = omega (arith, c.in_ok-next.ensures.shorter);
    }

pub returns-then-not-is_empty-clause-only : goal.returns-then-not-is_empty-clause-only
returns-then-not-is_empty-clause-only c b is e =
    let whole : is_whole (reading_told c.loop-alloc.reading) ≡ true = sym c.is_whole.ensures ∙ c.loop-alloc-test.false in
    let some : c.loop-alloc.rest.now ≢ [] = first_of (search rules, grind arith) in
    absurd (no_bundle c.loop-alloc.rest.now (reading_told c.loop-alloc.reading) b whole some (c.loop-alloc.invariant.ahead b is e))

pub returns-in-Some-clause-told : goal.returns-in-Some-clause-told
returns-in-Some-clause-told c =
    let whole : is_whole (reading_told c.loop-alloc.reading) ≡ true = sym c.is_whole.ensures ∙ c.loop-alloc-test.false in
    let none = none_of c.loop-alloc.rest.now c.is_empty.result c.is_empty.ensures c.if-not-is_empty.false in
    (found_there c.args.bytes.now c.loop-alloc.rest.now (reading_told c.loop-alloc.reading) (bundle_told c.in-Some.bundle)
    (whole_is (reading_told c.loop-alloc.reading) (bundle_told c.in-Some.bundle) whole c.in-Some.ensures) none c.loop-alloc.invariant.reached).0

pub returns-in-Some-clause-bundle : goal.returns-in-Some-clause-bundle
returns-in-Some-clause-bundle c =
    let whole : is_whole (reading_told c.loop-alloc.reading) ≡ true = sym c.is_whole.ensures ∙ c.loop-alloc-test.false in
    let none = none_of c.loop-alloc.rest.now c.is_empty.result c.is_empty.ensures c.if-not-is_empty.false in
    (found_there c.args.bytes.now c.loop-alloc.rest.now (reading_told c.loop-alloc.reading) (bundle_told c.in-Some.bundle)
    (whole_is (reading_told c.loop-alloc.reading) (bundle_told c.in-Some.bundle) whole c.in-Some.ensures) none c.loop-alloc.invariant.reached).1

pub returns-in-Some-clause-only : goal.returns-in-Some-clause-only
returns-in-Some-clause-only c b is e =
    let whole : is_whole (reading_told c.loop-alloc.reading) ≡ true = sym c.is_whole.ensures ∙ c.loop-alloc-test.false in
    (end_there c.loop-alloc.rest.now (reading_told c.loop-alloc.reading) (bundle_told c.in-Some.bundle) b
    (whole_is (reading_told c.loop-alloc.reading) (bundle_told c.in-Some.bundle) whole c.in-Some.ensures) (c.loop-alloc.invariant.ahead b is e)).1
