use Rattle.session_desk.proofs.Anchors.{anchor-of, anchor-path, anchor-runs}
use Rattle.session_desk.specs.Anchors.{anchor_of}
use Rattle.session_desk.proofs.laws.anchors_are_the_studys.Goals as goal

pub returns-clause-own : goal.returns-clause-own
returns-clause-own c s b h l = (anchor-of s b h l).own

pub returns-clause-there : goal.returns-clause-there
returns-clause-there c s b h l = (anchor-of s b h l).there

pub returns-clause-path : goal.returns-clause-path
returns-clause-path c s b h l = anchor-path s (anchor_of s b) (anchor-of s b h l)

pub returns-clause-runs : goal.returns-clause-runs
returns-clause-runs c s b e h l = anchor-runs s (anchor_of s b) e (anchor-of s b h l)
