-- Whatever a study or a bundle comes to, words that are no faulty ones ask for something.
use Rattle.std.proofs.Common.{ℕ, List, [], ◌∷◌, unwrap_or, Option, Some, None, Result, Ok, Err, length}
use Rattle.study_rules.specs.Accepted.{StudyTold}
use Rattle.command_words.specs.declared.mark.Mark.{Mark}
use Rattle.rewind_desk.specs.declared.aimed.Aimed.{Aimed}
use Rattle.rewind_desk.specs.declared.aimed.Aimed.TheVariants.{At, NoBranch}
use Rattle.rewind_desk.specs.declared.past.Past.{Past}
use Rattle.rewind_desk.specs.declared.target.Target.{Target}
use Rattle.rewind_desk.specs.Targets.{aimed_at, past_of, target_of}
use Rattle.command_words.specs.declared.asked.Crossing.{Crossing}
use Rattle.reopen_cross.specs.declared.cross.Interest.{Interest}
use Rattle.reopening_desk.specs.Orders.{orders_of}
use Rattle.reopening_desk.specs.declared.stock.StockNamed.{StockNamed}
use Rattle.reopening_desk.specs.Stocks.{stock_of}
use Rattle.session_desk.specs.declared.act.Act.{Act}
use Rattle.session_desk.specs.declared.act.ScriptError.{ScriptError}
use Rattle.session_desk.specs.Script.{script_of}
use Rattle.session_desk.specs.Session.{first_session}
use Rattle.session_desk.specs.declared.end.PastAct.{PastAct}
use Rattle.session_desk.specs.Refused.{act_refused}
use Rattle.session_desk.specs.Past.{past_act}
use Rattle.command_words.specs.declared.asked.Task.{Task}
use Rattle.command_words.specs.declared.asked.Task.TheVariants.{Run, Check, Table, Rewind, Cross, Session}
use Rattle.abides_run.specs.Verdict.{verdict_on_past, verdict_on_aimed, verdict_on_late, verdict_on_orders, verdict_on_stock, verdict_on_branch, verdict_on_past_act, verdict_on_acts, verdict_on_script, verdict_on_found, verdict_on_failing, verdict_on_read, IsAsked}
use Rattle.bundle_reader.specs.Told.{BundleTold}
use Rattle.bundle_reader.specs.Reading.{Read, read, cut, bad_frame, bad_order}
use Rattle.audit_desk.specs.declared.failing.Failing.{Failing}
use Rattle.audit_desk.specs.Audited.{audit_of}
use Rattle.abides_run.specs.Rewinds.{lasts_of}

past_asked : (marks : List Mark) (targets : List Target) (places : ℕ) (s : StudyTold) (past : Option Past) → IsAsked (verdict_on_past marks targets places s past)
past_asked marks targets places s None = tt
past_asked marks targets places s (Some past) = tt

aimed_asked : (marks : List Mark) (places : ℕ) (s : StudyTold) (aimed : Aimed) → IsAsked (verdict_on_aimed marks places s aimed)
aimed_asked marks places s (NoBranch i) = tt
aimed_asked marks places s (At targets) = past_asked marks targets places s (past_of (lasts_of s.course) targets)

late_asked : (word : List ℕ) (target : Target) (stock : StockNamed) (orders : List Interest) (places : ℕ) (s : StudyTold) (past : Option Past) → IsAsked (verdict_on_late word target stock orders places s past)
late_asked word target stock orders places s None = tt
late_asked word target stock orders places s (Some past) = tt

orders_asked : (word : List ℕ) (target : Target) (stock : StockNamed) (places : ℕ) (s : StudyTold) (orders : Result (List Interest) ℕ) → IsAsked (verdict_on_orders word target stock places s orders)
orders_asked word target stock places s (Err number) = tt
orders_asked word target stock places s (Ok orders) = late_asked word target stock orders places s (past_of (lasts_of s.course) (target ∷ []))

stock_asked : (crossing : Crossing) (target : Target) (places : ℕ) (text : List ℕ) (s : StudyTold) (stock : Option StockNamed) → IsAsked (verdict_on_stock crossing target places text s stock)
stock_asked crossing target places text s None = tt
stock_asked crossing target places text s (Some stock) = orders_asked crossing.mark.word target stock places s (orders_of (length s.course.opening.traders) text)

branch_asked : (crossing : Crossing) (places : ℕ) (text : List ℕ) (s : StudyTold) (target : Option Target) → IsAsked (verdict_on_branch crossing places text s target)
branch_asked crossing places text s None = tt
branch_asked crossing places text s (Some target) = stock_asked crossing target places text s (stock_of s.course.opening.stocks crossing.symbol)

past_act_asked : (acts : List Act) (places : ℕ) (s : StudyTold) (past : Option PastAct) → IsAsked (verdict_on_past_act acts places s past)
past_act_asked acts places s None = tt
past_act_asked acts places s (Some past) = tt

acts_asked : (acts : List Act) (places : ℕ) (s : StudyTold) (refused : Option ℕ) → IsAsked (verdict_on_acts acts places s refused)
acts_asked acts places s None = past_act_asked acts places s (past_act (first_session s.course) acts)
acts_asked acts places s (Some act) = tt

script_asked : (places : ℕ) (s : StudyTold) (script : Result (List Act) ScriptError) → IsAsked (verdict_on_script places s script)
script_asked places s (Err error) = tt
script_asked places s (Ok acts) = acts_asked acts places s (act_refused (first_session s.course) acts)

pub found_asked : (task : Task) (further : Option (List ℕ)) (s : StudyTold) → IsAsked (verdict_on_found task further s)
found_asked Run further s = tt
found_asked Check further s = tt
found_asked Table further s = tt
found_asked (Rewind marks places) further s = aimed_asked marks places s (aimed_at s.course.plan.branches marks)
found_asked (Cross crossing places) further s = branch_asked crossing places (unwrap_or further []) s (target_of s.course.plan.branches crossing.mark)
found_asked (Session script places) further s = script_asked places s (script_of s.course (unwrap_or further []))

-- whatever the bytes of a bundle are, the words asked for it
failing_asked : (b : BundleTold) (failing : Option Failing) → IsAsked (verdict_on_failing b failing)
failing_asked b None = tt
failing_asked b (Some failing) = tt

pub read_asked : (r : Read) → IsAsked (verdict_on_read r)
read_asked (read b) = failing_asked b (audit_of b)
read_asked (cut left) = tt
read_asked (bad_frame at) = tt
read_asked (bad_order at) = tt
