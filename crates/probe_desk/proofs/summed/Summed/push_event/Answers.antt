use Rattle.std.proofs.Common.{◌≡◌, of_z, rules, to_z, w64}
use Rattle.packed_entries.specs.Told.{parts_told}
use Rattle.probe_desk.proofs.Summing.{sums-more}
use Rattle.probe_desk.proofs.summed.Summed.push_event.Goals as goal

pub invariant_of-self-2 : goal.invariant_of-self-2
invariant_of-self-2 c =
    let fee : to_z w64 (of_z w64 c.args.e.now.fee) ≡ c.args.e.now.fee = search rules in
    sums-more c.self.inside.sums c.of.result _ c.self.inside.packed.list _ (parts_told c.args.e.now) _ c.followed_by-self-inside.ensures.sums c.of.ensures.value c.of.ensures.few fee c.self.invariant
    c.in_ok-push_event.ensures.pushed
