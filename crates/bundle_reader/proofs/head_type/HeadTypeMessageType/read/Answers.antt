use Rattle.bundle_reader.proofs.head_type.HeadTypeMessageType.read.Goals as goal

pub returns-in-Header : goal.returns-in-Header
returns-in-Header c = rw c.in-Header.is c.header_at.ensures

pub returns-in-Branch : goal.returns-in-Branch
returns-in-Branch c = rw c.in-Branch.is c.branch_at.ensures

pub returns-in-Event : goal.returns-in-Event
returns-in-Event c = rw c.in-Event.is c.event_at.ensures

pub returns-in-Edit : goal.returns-in-Edit
returns-in-Edit c = rw c.in-Edit.is c.edit_at.ensures

pub returns-in-Counts : goal.returns-in-Counts
returns-in-Counts c = rw c.in-Counts.is c.counts_at.ensures

pub returns-in-Stock : goal.returns-in-Stock
returns-in-Stock c = rw c.in-Stock.is c.stock_at.ensures

pub returns-in-Order : goal.returns-in-Order
returns-in-Order c = rw c.in-Order.is c.order_at.ensures

pub returns-in-Hidden : goal.returns-in-Hidden
returns-in-Hidden c = rw c.in-Hidden.is c.order_at-in-Hidden.ensures

pub returns-in-Agent : goal.returns-in-Agent
returns-in-Agent c = rw c.in-Agent.is c.agent_at.ensures

pub returns-in-Waiting : goal.returns-in-Waiting
returns-in-Waiting c = rw c.in-Waiting.is c.waiting_at.ensures

pub returns-in-End : goal.returns-in-End
returns-in-End c = rw c.in-End.is c.end_at.ensures
