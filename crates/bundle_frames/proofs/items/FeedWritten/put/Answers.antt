use Rattle.bundle_frames.proofs.Told.{told}
use Rattle.bundle_frames.proofs.items.FeedWritten.put.Goals as goal

pub returns-in-Add : goal.returns-in-Add
returns-in-Add c = told _ _ _ c.args.self.now _ _ c.in-Add.is c.added.ensures c.put_whole.ensures.appended

pub returns-in-Executed : goal.returns-in-Executed
returns-in-Executed c = told _ _ _ c.args.self.now _ _ c.in-Executed.is c.executed.ensures c.put_whole-in-Executed.ensures.appended

pub returns-in-Cancel : goal.returns-in-Cancel
returns-in-Cancel c = told _ _ _ c.args.self.now _ _ c.in-Cancel.is c.canceled.ensures c.put_whole-in-Cancel.ensures.appended

pub returns-in-Delete : goal.returns-in-Delete
returns-in-Delete c = told _ _ _ c.args.self.now _ _ c.in-Delete.is c.deleted.ensures c.put_whole-in-Delete.ensures.appended
