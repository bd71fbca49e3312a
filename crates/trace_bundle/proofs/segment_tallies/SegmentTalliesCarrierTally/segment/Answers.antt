use Rattle.std.proofs.Common.{arith, rules, sym, subst, ◌∙◌}
use Rattle.std.proofs.lemmas.List.{get_or_default}
use Rattle.kernel_copy.specs.Tallies.{IsTallyOf, no_tally}
use Rattle.kernel_copy.specs.declared.tally.Tally.{Tally}
use Rattle.trace_bundle.proofs.segment_tallies.SegmentTalliesCarrierTally.segment.Goals as goal

pub index-requires : goal.index-requires
index-requires c =
    let there = c.requires.own.1.there in
    search rules

pub returns : goal.returns
returns c = λ bytes stands. record {
  behind = λ before n few is.
      let there = stands.there in
      let same = c.index.ensures ∙ get_or_default c.args.self.now.tallies.items c.args.segment c.index.result.now no_tally there in
      let own : IsTallyOf c.index.result.now bytes 1 = subst (λ (t : Tally). IsTallyOf t bytes 1) (sym same) stands.tally in
      c.followed_by.ensures before bytes n 1 (omega (arith, is.few, few)) (omega (arith, own.few)) is own;
}
