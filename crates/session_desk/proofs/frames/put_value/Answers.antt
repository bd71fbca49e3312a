use Rattle.std.proofs.Common.{◌≡◌, ◌++◌, OnOk, List, ℕ, subst}
use Rattle.itch_codec.specs.Frames.{framed}
use Rattle.session_desk.specs.Answered.{value_frame}
use Rattle.session_desk.proofs.frames.put_value.Goals as goal

pub returns-clause-appended : goal.returns-clause-appended
unfolding value_frame
returns-clause-appended c =
    subst (λ (bs : List ℕ). OnOk c.frame.result (c.frame.new.out.items ≡ c.args.out.now.items ++ framed bs)) c.value_bytes.ensures c.frame.ensures.appended
