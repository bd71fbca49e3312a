use Rattle.std.proofs.Common.{◌≡◌, ◌∙◌, ℕ, ap, option_map, refl, rules, sym, vec_items}
use Rattle.study_rules.specs.Accepted.{study_told}
use Rattle.command_words.specs.declared.asked.Task.TheVariants.{Run, Check, Table, Rewind, Cross, Session}
use Rattle.abides_run.specs.Output.{bundled, compared, counted}
use Rattle.abides_run.specs.Ranges.{places_in}
use Rattle.abides_run.proofs.Performing.{cross_finishes, rewind_finishes, session_finishes, task_finishes}
use Rattle.abides_run.proofs.perform.perform_task.Goals as goal

pub returns-in-Run : goal.returns-in-Run
returns-in-Run g c =
    let f = c.args.found.now in
    let is : f.task ≡ Run = search rules in
    task_finishes _ f.task Run (option_map vec_items f.further) (bundled (study_told f.simulation.study)) (study_told f.simulation.study) (g.O.Sink.faults c.args.out.now) (g.O.Sink.faults c.run_study-status.new.out) c.args.steps.now c.run_study-status.new.steps (g.O.Sink.taken c.args.out.now) (g.O.Sink.taken c.run_study-status.new.out) c.run_study-status.result c.nameless.result.status _
    is c.nameless.ensures refl c.run_study-status.ensures (λ e. tt)

pub returns-in-Check : goal.returns-in-Check
returns-in-Check g c =
    let f = c.args.found.now in
    let is : f.task ≡ Check = search rules in
    task_finishes _ f.task Check (option_map vec_items f.further) (counted (study_told f.simulation.study)) (study_told f.simulation.study) (g.O.Sink.faults c.args.out.now) (g.O.Sink.faults c.check_study.new.out) c.args.steps.now c.args.steps.now (g.O.Sink.taken c.args.out.now) (g.O.Sink.taken c.check_study.new.out) c.check_study.result c.nameless-in-Check.result.status _
    is c.nameless-in-Check.ensures refl (λ reads. (rw c.deref.ensures at c.check_study.ensures) reads c.args.steps.now) (λ e. tt)

pub returns-in-Table : goal.returns-in-Table
returns-in-Table g c =
    let f = c.args.found.now in
    let is : f.task ≡ Table = search rules in
    task_finishes _ f.task Table (option_map vec_items f.further) (compared (study_told f.simulation.study)) (study_told f.simulation.study) (g.O.Sink.faults c.args.out.now) (g.O.Sink.faults c.table_study-status.new.out) c.args.steps.now c.table_study-status.new.steps (g.O.Sink.taken c.args.out.now) (g.O.Sink.taken c.table_study-status.new.out) c.table_study-status.result c.nameless-in-Table.result.status _
    is c.nameless-in-Table.ensures refl c.table_study-status.ensures (λ e. tt)

pub returns-in-Rewind : goal.returns-in-Rewind
returns-in-Rewind g c =
    let f = c.args.found.now in
    let asked : f.task ≡ Rewind c.in-Rewind.marks c.in-Rewind.field-1 = search rules in
    let placed : f.simulation.places ≡ c.in-Rewind.field-1 = f.placed ∙ ap places_in asked in
    let is : f.task ≡ Rewind c.in-Rewind.marks f.simulation.places = asked ∙ ap (λ (n : ℕ). Rewind c.in-Rewind.marks n) (sym placed) in
    rewind_finishes _ f.task (option_map vec_items f.further) c.in-Rewind.marks c.as_slice-marks.result.now f.simulation.places (study_told f.simulation.study) (g.O.Sink.faults c.args.out.now) (g.O.Sink.faults c.rewind_study.new.out) c.args.steps.now c.rewind_study.new.steps (g.O.Sink.taken c.args.out.now) (g.O.Sink.taken c.rewind_study.new.out) c.rewind_study.result.status _
    is c.as_slice-marks.ensures c.rewind_study.ensures

pub returns-in-Cross : goal.returns-in-Cross
returns-in-Cross g c =
    let f = c.args.found.now in
    let asked : f.task ≡ Cross c.in-Cross.crossing c.in-Cross.field-1 = search rules in
    let placed : f.simulation.places ≡ c.in-Cross.field-1 = f.placed ∙ ap places_in asked in
    let is : f.task ≡ Cross c.in-Cross.crossing f.simulation.places = asked ∙ ap (λ (n : ℕ). Cross c.in-Cross.crossing n) (sym placed) in
    cross_finishes _ f.task (option_map vec_items f.further) c.in-Cross.crossing c.in-Cross.crossing f.simulation.places c.further_text-text.result.now (study_told f.simulation.study) (g.O.Sink.faults c.args.out.now) (g.O.Sink.faults c.cross_study.new.out) c.args.steps.now c.cross_study.new.steps (g.O.Sink.taken c.args.out.now) (g.O.Sink.taken c.cross_study.new.out) c.cross_study.result.status _
    is refl c.further_text-text.ensures c.cross_study.ensures

pub returns-in-Session : goal.returns-in-Session
returns-in-Session g c =
    let f = c.args.found.now in
    let asked : f.task ≡ Session c.in-Session.field-0 c.in-Session.field-1 = search rules in
    let placed : f.simulation.places ≡ c.in-Session.field-1 = f.placed ∙ ap places_in asked in
    let is : f.task ≡ Session c.in-Session.field-0 f.simulation.places = asked ∙ ap (λ (n : ℕ). Session c.in-Session.field-0 n) (sym placed) in
    session_finishes _ f.task (option_map vec_items f.further) c.in-Session.field-0 f.simulation.places c.further_text-text-in-Session.result.now (study_told f.simulation.study) (g.O.Sink.faults c.args.out.now) (g.O.Sink.faults c.session_study.new.out) c.args.steps.now c.session_study.new.steps (g.O.Sink.taken c.args.out.now) (g.O.Sink.taken c.session_study.new.out) c.session_study.result.status _
    is c.further_text-text-in-Session.ensures c.session_study.ensures
