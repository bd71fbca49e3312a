use Rattle.std.proofs.Common.{◌≡◌, ◌∙◌, refl, string_bytes, sym}
use Rattle.abides_run.specs.AllFound.{arguments_on, verdict_on_all}
use Rattle.abides_run.specs.Searched.{LibraryTold}
use Rattle.abides_run.specs.Words.{asked_of, texts}
use Rattle.abides_run.specs.declared.status.Status.TheVariants as status
use Rattle.abides_run.proofs.Answered.{ended_early, finished_answers}
use Rattle.abides_run.proofs.Early.{asked_came, comes_to, ends_early}
use Rattle.abides_run.proofs.Speaking.{ended_is_named, finished_is_named}
use Rattle.abides_run.proofs.top.answer.Goals as goal

pub returns-in-Ok-clause-answered : goal.returns-in-Ok-clause-answered
returns-in-Ok-clause-answered g c =
    let reads = g.L.Library.faults c.args.library.now in
    let f = c.in-Ok.found in
    let words = texts c.args.words.now in
    let came = asked_came (asked_of words) (verdict_on_all f) _ _ c.in-Ok.ensures.faulty c.in-Ok.ensures.searched in
    let steady : g.L.Library.faults c.find_asked.new.library ≡ reads = came.steady in
    rw steady
    (finished_answers (g.L.Library.files c.args.library.now) words _ (arguments_on f) (verdict_on_all f)
    (record { reads = reads; writes = g.O.Sink.faults c.args.out.now; taken = g.O.Sink.taken c.args.out.now; steps = c.args.steps.now })
    (record { reads = reads; writes = g.O.Sink.faults c.perform.new.out; taken = g.O.Sink.taken c.perform.new.out; steps = c.perform.new.steps })
    c.perform.result.status (string_bytes c.perform.result.name) (comes_to words _ (verdict_on_all f) came.leads) c.in-Ok.ensures.faulty refl (c.perform.ensures reads))

pub returns-in-Ok-clause-named : goal.returns-in-Ok-clause-named
returns-in-Ok-clause-named g c =
    let f = c.in-Ok.found in
    let words = texts c.args.words.now in
    let came = asked_came (asked_of words) (verdict_on_all f) _ _ c.in-Ok.ensures.faulty c.in-Ok.ensures.searched in
    finished_is_named (g.L.Library.files c.args.library.now) words _ (arguments_on f) (verdict_on_all f) _ _
    c.perform.result.status (string_bytes c.perform.result.name) (comes_to words _ (verdict_on_all f) came.leads) c.in-Ok.ensures.fits.arguments (c.perform.ensures 0)

pub returns-in-Ok-clause-wanting : goal.returns-in-Ok-clause-wanting
returns-in-Ok-clause-wanting g c =
    let came = asked_came (asked_of (texts c.args.words.now)) (verdict_on_all c.in-Ok.found) _ _ c.in-Ok.ensures.faulty c.in-Ok.ensures.searched in
    λ wants. (came.steady, (c.perform.ensures 0).steady (λ fault. let other : status.Memory ≡ status.WriteFault = sym wants ∙ fault in cc))

pub returns-in-Ok-clause-files : goal.returns-in-Ok-clause-files
returns-in-Ok-clause-files g c =
    let came = asked_came (asked_of (texts c.args.words.now)) (verdict_on_all c.in-Ok.found) _ _ c.in-Ok.ensures.faulty c.in-Ok.ensures.searched in
    came.files

pub returns-in-Err-clause-answered : goal.returns-in-Err-clause-answered
returns-in-Err-clause-answered g c =
    let e = c.in-Err.ending in
    let words = texts c.args.words.now in
    let ends = ends_early (asked_of words) _ _ e.status (string_bytes e.name) c.in-Err.ensures.faulty c.in-Err.ensures.searched in
    ended_early (g.L.Library.files c.args.library.now) words _ (string_bytes e.name) (g.L.Library.faults c.args.library.now) (g.L.Library.faults c.find_asked.new.library) (g.O.Sink.faults c.args.out.now) c.args.steps.now (g.O.Sink.taken c.args.out.now) e.status
    ends.early ends.ended ends.usage ends.not_asked ends.steady c.find_asked.ensures.unread ends.fault ends.never_falls

pub returns-in-Err-clause-named : goal.returns-in-Err-clause-named
returns-in-Err-clause-named g c =
    let e = c.in-Err.ending in
    let words = texts c.args.words.now in
    let ends = ends_early (asked_of words) _ _ e.status (string_bytes e.name) c.in-Err.ensures.faulty c.in-Err.ensures.searched in
    ended_is_named (g.L.Library.files c.args.library.now) words e.status (string_bytes e.name) ends.early ends.ended ends.speaks

pub returns-in-Err-clause-wanting : goal.returns-in-Err-clause-wanting
returns-in-Err-clause-wanting g c =
    let e = c.in-Err.ending in
    let ends = ends_early (asked_of (texts c.args.words.now)) _ _ e.status (string_bytes e.name) c.in-Err.ensures.faulty c.in-Err.ensures.searched in
    λ wants. (ends.steady (λ fault. let other : status.Memory ≡ status.ReadFault = sym wants ∙ fault in cc), refl)

pub returns-in-Err-clause-files : goal.returns-in-Err-clause-files
returns-in-Err-clause-files g c =
    let e = c.in-Err.ending in
    let ends = ends_early (asked_of (texts c.args.words.now)) _ _ e.status (string_bytes e.name) c.in-Err.ensures.faulty c.in-Err.ensures.searched in
    ends.files
