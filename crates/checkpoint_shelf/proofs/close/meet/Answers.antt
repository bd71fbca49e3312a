use Rattle.std.proofs.Common.{arith, ◌∙◌, ne_eqb}
use Rattle.checkpoint_shelf.proofs.Opens.{joins}
use Rattle.checkpoint_shelf.proofs.Closes.{bare_seat}
use Rattle.checkpoint_shelf.proofs.close.meet.Goals as goal

pub join_seat-requires : goal.join_seat-requires
join_seat-requires g c = let other = c.requires.other in let later = c.requires.later in (
  c.requires.table,
  c.requires.others,
  bare_seat _ _ _ other c.requires.bare,
  c.requires.words,
  joins _ _ _ c.args.table.now.key _ _ _ _ c.requires.leads (other.leads ∙ ne_eqb c.args.number 0 (λ z. omega arith)) other.live c.requires.bare other.idle,
)
