use Rattle.std.proofs.Common.{sym, ap, ◌∙◌, inl, inr}
use Rattle.kernel_copy.specs.Kept.{kept_told}
use Rattle.trace_bundle.proofs.Kept.{entries-only, no-frames, no-tally, not-nothing}
use Rattle.trace_bundle.proofs.listed.summed_of_segment.Goals as goal

pub returns : goal.returns
returns g c = entries-only _ _ (sym (ap kept_told c.in-Entries.is) ∙ c.kept.ensures ∙ c.requires.ran.entries c.args.segment c.requires.segment)

pub unreachable-requires : goal.unreachable-requires
unreachable-requires g c =
    let told = c.kept.ensures ∙ c.requires.ran.entries c.args.segment c.requires.segment in
    elim c.in-Frames.is [
      | inl f ↦ no-frames f.0.items _ (sym (ap kept_told f.1) ∙ told)
      | inr other ↦ elim other [
        | inl t ↦ no-tally t.0 _ (sym (ap kept_told t.1) ∙ told)
        | inr none ↦ not-nothing _ (sym (ap kept_told none) ∙ told)
      ]
    ]
