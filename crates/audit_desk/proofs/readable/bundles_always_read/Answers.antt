use Rattle.std.proofs.Common.{◌∙◌, sym}
use Rattle.bundle_reader.specs.Reading.{reading_of}
use Rattle.audit_desk.specs.Back.{bundle_back}
use Rattle.trace_bundle.specs.Bundle.{bundle_of}
use Rattle.audit_desk.specs.Clipped.{clipped}
use Rattle.audit_desk.proofs.HeldCourses.{IsLawful, course-clipped, same-read}
use Rattle.audit_desk.proofs.Marked.{are-marked}
use Rattle.audit_desk.proofs.readable.bundles_always_read.Goals as goal

pub returns-clause-bundle : goal.returns-clause-bundle
returns-clause-bundle g c is spelled named =
    let laws : IsLawful c = record {
      texts = λ b. record {
        events = g.texts_stay_in_range.ensures.events c b c.opening.limit is spelled;
        stocks = g.texts_stay_in_range.ensures.stocks c b c.opening.limit is spelled;
      };
      marked = are-marked c is g.feeds_stay_in_range.ensures g.edits_are_marked.ensures;
      positions = λ o s. g.agents_have_all_positions.ensures o s;
      states = λ b e within. g.courses_stay_in_range.ensures.states c b e is within;
    } in
    course-clipped c is laws named (g.bundles_come_back.ensures.branches c is)

pub returns-clause-read : goal.returns-clause-read
returns-clause-read g c is spelled named =
    g.bytes_are_read_as_told.ensures.bundle (clipped (bundle_back c)) (bundle_of c) (returns-clause-bundle g c is spelled named)
    (sym (g.bundles_come_back.ensures.bytes c) ∙ sym (g.fields_hold_last_bytes.ensures (bundle_back c)))

pub returns-clause-fitting : goal.returns-clause-fitting
returns-clause-fitting g c is spelled range =
    same-read (clipped (bundle_back c)) (bundle_back c) (reading_of (bundle_of c)) (returns-clause-read g c is spelled range.names)
    (g.bytes_are_read_as_told.ensures.bundle (bundle_back c) (bundle_of c) (g.bundles_come_back.ensures.bundle c is range) (sym (g.bundles_come_back.ensures.bytes c)))
