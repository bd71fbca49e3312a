use Rattle.std.proofs.Common.{ap}
use Rattle.market_types.specs.declared.message.Body.TheVariants as body
use Rattle.bundle_frames.proofs.Told.{of_bytes}
use Rattle.bundle_frames.proofs.events.put_answer.Goals as goal

pub returns-in-System-clause-appended : goal.returns-in-System-clause-appended
returns-in-System-clause-appended c = of_bytes _ _ _ c.args.h.now _ _ _ (ap (λ r. body.Answer r) c.in-System.is) c.system.ensures c.put_event.ensures.appended

pub returns-in-Accepted-clause-appended : goal.returns-in-Accepted-clause-appended
returns-in-Accepted-clause-appended c = of_bytes _ _ _ c.args.h.now _ _ _ (ap (λ r. body.Answer r) c.in-Accepted.is) c.accepted-body.ensures c.put_event-in-Accepted.ensures.appended

pub returns-in-Canceled-clause-appended : goal.returns-in-Canceled-clause-appended
returns-in-Canceled-clause-appended c = of_bytes _ _ _ c.args.h.now _ _ _ (ap (λ r. body.Answer r) c.in-Canceled.is) c.canceled.ensures c.put_event-in-Canceled.ensures.appended

pub returns-in-Executed-clause-appended : goal.returns-in-Executed-clause-appended
returns-in-Executed-clause-appended c = of_bytes _ _ _ c.args.h.now _ _ _ (ap (λ r. body.Answer r) c.in-Executed.is) c.executed-body.ensures c.put_event-in-Executed.ensures.appended

pub returns-in-Rejected-clause-appended : goal.returns-in-Rejected-clause-appended
returns-in-Rejected-clause-appended c = of_bytes _ _ _ c.args.h.now _ _ _ (ap (λ r. body.Answer r) c.in-Rejected.is) c.rejected.ensures c.put_event-in-Rejected.ensures.appended
