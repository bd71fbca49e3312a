use Rattle.itch_codec.proofs.reading.FeedTypeMessageType.read.Goals as goal

pub returns-in-Directory : goal.returns-in-Directory
returns-in-Directory c = rw c.in-Directory.is c.directory_at.ensures
