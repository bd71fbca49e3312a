-- What words and files may come to, before anything is simulated: what a study that was found, or a bundle, comes to with its task.
-- The order of refusals is the order of this computation.
use Rattle.std.specs.Prelude.{ℕ, ◌+◌, ◌*◌, List, [], ◌∷◌, Option, Some, None, Result, Ok, Err, codes, length, unwrap_or}
use Rattle.toml.specs.Data.{Members}
use Rattle.study_file.specs.Tables.{text_at}
use Rattle.study_rules.specs.Accepted.{StudyTold}
use Rattle.command_words.specs.declared.mark.Mark.{Mark}
use Rattle.rewind_desk.specs.declared.aimed.Aimed.{Aimed}
use Rattle.rewind_desk.specs.declared.aimed.Aimed.TheVariants.{At, NoBranch}
use Rattle.rewind_desk.specs.declared.past.Past.{Past}
use Rattle.rewind_desk.specs.declared.target.Target.{Target}
use Rattle.rewind_desk.specs.Targets.{aimed_at, past_of, target_of}
use Rattle.command_words.specs.declared.asked.Crossing.{Crossing}
use Rattle.reopen_cross.specs.declared.cross.Interest.{Interest}
use Rattle.reopening_desk.specs.Orders.{orders_of}
use Rattle.reopening_desk.specs.declared.stock.StockNamed.{StockNamed}
use Rattle.reopening_desk.specs.Stocks.{stock_of}
use Rattle.bundle_reader.specs.Told.{BundleTold}
use Rattle.bundle_reader.specs.Reading.{Read, read, cut, bad_frame, bad_order}
use Rattle.audit_desk.specs.declared.failing.Failing.{Failing}
use Rattle.audit_desk.specs.Audited.{audit_of}
use Rattle.session_desk.specs.declared.act.Act.{Act}
use Rattle.session_desk.specs.declared.act.ScriptError.{ScriptError}
use Rattle.session_desk.specs.Script.{script_of}
use Rattle.session_desk.specs.Session.{first_session}
use Rattle.session_desk.specs.declared.end.PastAct.{PastAct}
use Rattle.session_desk.specs.Refused.{act_refused}
use Rattle.session_desk.specs.Past.{past_act}
use Rattle.command_words.specs.declared.asked.Task.{Task}
use Rattle.command_words.specs.declared.asked.Task.TheVariants.{Run, Check, Table, Rewind, Cross, Session}
use Rattle.abides_run.specs.Rewinds.{lasts_of, argument_at}
use Rattle.abides_run.specs.Sessions.{act_word, bad_act}
use Rattle.abides_run.specs.Output.{Probes, Due, bundled, counted, compared, rewound, crossed, audited, carried_out, written, simulated, allowed, most_for, study_events, RoseFor}

-- That bytes are no bundle is told with the number of the reason and its place, that a script or an act is refused with the act's
-- number. That an event isn't there is told with the last event of its branch, the study, and how many steps may have been made
-- besides those of the study's segments.
pub data Verdict : Type 0 where
  usage : Verdict
  no_file : List ℕ → Verdict
  file_too_long : List ℕ → Verdict
  refused : ℕ → ℕ → Verdict
  no_branch : List ℕ → Verdict
  no_stock : List ℕ → Verdict
  bad_orders : ℕ → Verdict
  bad_bundle : ℕ → ℕ → Verdict
  audit_failed : ℕ → ℕ → Verdict
  bad_script : ℕ → Verdict
  refused_act : ℕ → Verdict
  no_event : List ℕ → ℕ → StudyTold → ℕ → Verdict
  accepted : Due → Verdict

-- each file but a bundle may have so many bytes
abbrev pub most_bytes : ℕ
most_bytes = 16777216

-- a bundle may have so many
abbrev pub most_bundle_bytes : ℕ
most_bundle_bytes = 1073741824

-- the files as pairs of a name and its bytes
abbrev pub Files : Type 0
Files = List (List ℕ × List ℕ)

-- the series file that a study's table names
abbrev pub series_of : Members → Option (List ℕ)
series_of table = text_at (codes "series") table

-- a target may be the first that is past its branch's last event
abbrev pub verdict_on_past : List Mark → List Target → ℕ → StudyTold → Option Past → Verdict
verdict_on_past marks targets places study None = accepted (rewound targets places study)
verdict_on_past marks targets places study (Some past) = no_event (argument_at marks past.index) past.last study 0

-- a mark may be the first that names no branch, or each has a target
abbrev pub verdict_on_aimed : List Mark → ℕ → StudyTold → Aimed → Verdict
verdict_on_aimed marks places study (NoBranch i) = no_branch (argument_at marks i)
verdict_on_aimed marks places study (At targets) = verdict_on_past marks targets places study (past_of (lasts_of study.course) targets)

-- the state of a cross may be past its branch's last event
abbrev pub verdict_on_late : List ℕ → Target → StockNamed → List Interest → ℕ → StudyTold → Option Past → Verdict
verdict_on_late word target stock orders places study None = accepted (crossed target stock orders places study)
verdict_on_late word target stock orders places study (Some past) = no_event word past.last study 0

-- its file may break a rule
abbrev pub verdict_on_orders : List ℕ → Target → StockNamed → ℕ → StudyTold → Result (List Interest) ℕ → Verdict
verdict_on_orders word target stock places study (Err number) = bad_orders number
verdict_on_orders word target stock places study (Ok orders) =
    verdict_on_late word target stock orders places study (past_of (lasts_of study.course) (target ∷ []))

-- no stock may have its symbol
abbrev pub verdict_on_stock : Crossing → Target → ℕ → List ℕ → StudyTold → Option StockNamed → Verdict
verdict_on_stock crossing target places text study None = no_stock crossing.symbol
verdict_on_stock crossing target places text study (Some stock) =
    verdict_on_orders crossing.mark.word target stock places study (orders_of (length study.course.opening.traders) text)

-- no branch may have its name
abbrev pub verdict_on_branch : Crossing → ℕ → List ℕ → StudyTold → Option Target → Verdict
verdict_on_branch crossing places text study None = no_branch crossing.mark.word
verdict_on_branch crossing places text study (Some target) =
    verdict_on_stock crossing target places text study (stock_of study.course.opening.stocks crossing.symbol)

-- a cross of a study that breaks no rule, with the bytes of its file
abbrev pub verdict_on_crossing : Crossing → ℕ → List ℕ → StudyTold → Verdict
verdict_on_crossing crossing places text study = verdict_on_branch crossing places text study (target_of study.course.plan.branches crossing.mark)

-- An act of a session may be the first that goes to an event past its branch's last in the tree as it then stands. No act makes more
-- steps than the study's limit of events.
abbrev pub verdict_on_past_act : List Act → ℕ → StudyTold → Option PastAct → Verdict
verdict_on_past_act acts places study None = accepted (carried_out acts places study)
verdict_on_past_act acts places study (Some past) = no_event (act_word past.act) past.last study (length acts * study.course.opening.limit)

-- one may be the first that the tree refuses
abbrev pub verdict_on_acts : List Act → ℕ → StudyTold → Option ℕ → Verdict
verdict_on_acts acts places study None = verdict_on_past_act acts places study (past_act (first_session study.course) acts)
verdict_on_acts acts places study (Some act) = refused_act act

-- the script may say no acts
abbrev pub verdict_on_script : ℕ → StudyTold → Result (List Act) ScriptError → Verdict
verdict_on_script places study (Err error) = bad_script (bad_act error)
verdict_on_script places study (Ok acts) = verdict_on_acts acts places study (act_refused (first_session study.course) acts)

-- a session over a study that breaks no rule, with the bytes of its script
abbrev pub verdict_on_session : ℕ → List ℕ → StudyTold → Verdict
verdict_on_session places text study = verdict_on_script places study (script_of study.course text)

-- A study that breaks no rule may lack what the words name. The bytes are those of the further file, where the task names one.
abbrev pub verdict_on_found : Task → Option (List ℕ) → StudyTold → Verdict
verdict_on_found Run further study = accepted (bundled study)
verdict_on_found Check further study = accepted (counted study)
verdict_on_found Table further study = accepted (compared study)
verdict_on_found (Rewind marks places) further study = verdict_on_aimed marks places study (aimed_at study.course.plan.branches marks)
verdict_on_found (Cross crossing places) further study = verdict_on_crossing crossing places (unwrap_or further []) study
verdict_on_found (Session script places) further study = verdict_on_session places (unwrap_or further []) study

-- each branch of the large study has at most so many events
abbrev pub large_limit : ℕ
large_limit = 20000

-- a branch of a bundle may be the first whose closing isn't what its feed tells
abbrev pub verdict_on_failing : BundleTold → Option Failing → Verdict
verdict_on_failing b None = accepted (audited b)
verdict_on_failing b (Some failing) = audit_failed failing.branch failing.reference

-- bytes may be no bundle: a frame is cut, with so many bytes left, one is none, or one stands where it may not
abbrev pub verdict_on_read : Read → Verdict
verdict_on_read (read b) = verdict_on_failing b (audit_of b)
verdict_on_read (cut left) = bad_bundle 1 left
verdict_on_read (bad_frame at) = bad_bundle 2 at
verdict_on_read (bad_order at) = bad_bundle 3 at

-- they come to what is due
abbrev pub IsDue : Verdict → Type 0
IsDue (accepted due) = Unit {0}
IsDue _ = ⊥

-- the words ask for a file or a large study
abbrev pub IsAsked : Verdict → Type 0
IsAsked usage = ⊥
IsAsked _ = Unit {0}

-- what is to be written, which is nothing where nothing is due
abbrev pub output : Probes → Verdict → List ℕ
output probes (accepted due) = written probes due
output probes _ = []

-- How many steps are to be counted: that a branch lacks an event is seen once its study was simulated.
abbrev pub distinct : Verdict → ℕ
distinct (no_event word last study past) = study_events study.course
distinct (accepted due) = simulated due
distinct _ = 0

-- what else is said of the counter where all was written
abbrev pub RoseBy : Verdict → ℕ → ℕ → Type 0
RoseBy (accepted due) old new = RoseFor due old new
RoseBy _ old new = Unit {0}

-- how many more may be
abbrev pub allowance : Verdict → ℕ
allowance (no_event word last study past) = past
allowance (accepted due) = allowed due
allowance _ = 0

-- how many are made at most where not all is written
abbrev pub ceiling : Verdict → ℕ
ceiling (no_event word last study past) = study_events study.course + past
ceiling (accepted due) = most_for due
ceiling _ = 0
