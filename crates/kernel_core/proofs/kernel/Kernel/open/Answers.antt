use Rattle.std.proofs.Common.{◌≡◌, ◌+◌, length, replicate, rules}
use Rattle.kernel_core.specs.Post.{nothing_waits}
use Rattle.kernel_core.specs.Open.{woken}
use Rattle.kernel_core.proofs.Begun.{sound-opened}
use Rattle.kernel_core.proofs.kernel.Kernel.open.Goals as goal

pub invariant_of-result : goal.invariant_of-result
invariant_of-result c =
    let o = c.args.o.now in
    let post : c.wake_all.new.mail ≡ woken o 1 nothing_waits o.traders = search rules in
    let own : c.in-Ok.own.items ≡ replicate (length o.traders + 1) o.start = search rules in
    sound-opened c.mail_stays_sound.ensures.sent o c.wake_all.new.mail c.in-Ok.own.items c.in-Ok-open.floor c.in-Ok-copy.groups c.requires
    c.in-Ok-open.ensures.fits c.in-Ok-open.ensures.sound (c.mail_stays_sound.ensures.begun (length o.traders) (length o.stocks) o.start) post own
