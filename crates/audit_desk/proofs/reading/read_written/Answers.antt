use Rattle.std.proofs.Common.{◌∙◌, sym}
use Rattle.audit_desk.specs.Back.{bundle_back}
use Rattle.audit_desk.specs.Clipped.{clipped}
use Rattle.audit_desk.proofs.HeldBundles.{bytes-same}
use Rattle.audit_desk.proofs.reading.read_written.Goals as goal

pub returns-clause-spelled : goal.returns-clause-spelled
returns-clause-spelled c = λ spelled.
    let k = c.args.course.now in
    c.read_bundle.ensures.only (clipped (bundle_back k)) (c.bundles_always_read.ensures.bundle k c.know_course.ensures spelled c.branches_have_names.ensures)
    (c.requires ∙ sym (bytes-same (bundle_back k) ∙ c.bundles_come_back.ensures.bytes k))

pub returns-clause-fitting : goal.returns-clause-fitting
returns-clause-fitting c = λ ranges.
    let k = c.args.course.now in
    c.read_bundle.ensures.only (bundle_back k) (c.bundles_come_back.ensures.bundle k c.know_course.ensures ranges)
    (c.requires ∙ sym (c.bundles_come_back.ensures.bytes k))
