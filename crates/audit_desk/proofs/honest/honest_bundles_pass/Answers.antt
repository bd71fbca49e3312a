use Rattle.std.proofs.Common.{◌≡◌, ◌∙◌, None, sym, subst}
use Rattle.bundle_reader.specs.Told.{BundleTold}
use Rattle.bundle_reader.specs.Reading.{read}
use Rattle.audit_desk.specs.Back.{bundle_back}
use Rattle.audit_desk.specs.Audited.{audit_of}
use Rattle.audit_desk.specs.Clipped.{clipped}
use Rattle.audit_desk.proofs.honest.honest_bundles_pass.Goals as goal

same-bundle : (a b : BundleTold) → read a ≡ read b → a ≡ b
same-bundle a b e = cc

pub returns-clause-course : goal.returns-clause-course
returns-clause-course g c is spelled named b h =
    subst (λ (x : BundleTold). audit_of x ≡ None)
    (same-bundle (clipped (bundle_back c)) b (sym (g.bundles_always_read.ensures.read c is spelled named) ∙ h))
    (g.feeds_tell_the_closings.ensures.clipped c is)

pub returns-clause-study : goal.returns-clause-study
returns-clause-study g t series s h = (
  clipped (bundle_back s.course),
  g.accepted_bundles_always_read.ensures t series s h,
  g.feeds_tell_the_closings.ensures.clipped s.course (g.accepted_studies_are_courses.ensures.course t series s h),
)
