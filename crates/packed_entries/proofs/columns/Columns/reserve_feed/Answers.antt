use Rattle.packed_entries.proofs.Rooms.{but_feed}
use Rattle.packed_entries.proofs.columns.Columns.reserve_feed.Goals as goal

pub returns-clause-room : goal.returns-clause-room
returns-clause-room c = λ n h. but_feed n c.args.self.now c.reserve.new.self h
