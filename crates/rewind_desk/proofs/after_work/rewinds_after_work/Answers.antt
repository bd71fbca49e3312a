use Rattle.rewind_desk.proofs.Laying.{is-laid}
use Rattle.rewind_desk.proofs.Nearing.{after-held, after-near, after-sole}
use Rattle.rewind_desk.proofs.Rooted.{root-whole}
use Rattle.rewind_desk.proofs.after_work.rewinds_after_work.Goals as goal

pub returns : goal.returns
returns c = record { laid = is-laid; held = after-held; sole = after-sole; root = root-whole; near = after-near c.rewinds_stay_within_the_stride.ensures }
