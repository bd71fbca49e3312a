use Rattle.std.proofs.Common.{◌≡◌, length, refl, sym, subst, rules}
use Rattle.kernel_core.specs.Post.{Post}
use Rattle.kernel_core.specs.SoundMail.{IsSoundMail}
use Rattle.latency_model.specs.Tables.{group_count}
use Rattle.kernel_core.specs.State.{State}
use Rattle.kernel_core.specs.Edited.{IsEditOf, mail_after}
use Rattle.kernel_core.specs.View.{state_of}
use Rattle.kernel_core.proofs.Editing.{mail-after-sound, mail-edit}
use Rattle.kernel_core.proofs.Sound.{IsOfSize, sound-after}
use Rattle.kernel_core.proofs.kernel.Kernel.change.Goals as goal

pub invariant_of-self-2 : goal.invariant_of-self-2
invariant_of-self-2 c =
    let k = c.self.inside in
    let s = state_of k in
    let e = c.args.edit.now in
    let traders = length k.floor.parties in
    let stocks = length k.floor.exchange.stocks in
    let can = subst (λ (q : State). IsEditOf q e) (sym c.self.view_is) c.requires.edit in
    let size : IsOfSize s k.own.items c.edit.new.self = record { own = refl; stocks = c.edit.ensures.stocks; traders = c.edit.ensures.traders } in
    let post : c.edit_mail.new.mail ≡ mail_after k.time e k.mail = search rules in
    let mail = mail-after-sound c.mail_stays_sound.ensures.injected traders stocks k.time k.events e k.mail (mail-edit stocks traders (group_count k.groups) e can.among can.range) c.self.invariant.mail in
    sound-after s k.time k.events k.applied c.edit_mail.new.mail k.own.items c.edit.new.self c.edit_tables.new.groups size
    (subst (λ (p : Post). IsSoundMail traders stocks k.time k.events p) (sym post) mail) (c.edit.ensures.sound k.events c.self.invariant.floor) c.self.invariant.time c.self.invariant.events c.self.invariant
