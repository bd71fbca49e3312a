-- What the receiver of a message gives to the mail.
use Rattle.std.specs.Prelude.{List, ◌++◌, map}
use Rattle.market_types.specs.Room.{Room}
use Rattle.agent_shell.specs.declared.sending.Sending.{Sending}
use Rattle.agent_shell.specs.declared.sending.Sending.TheVariants as sending
use Rattle.exchange_agent.specs.declared.handled.Handled.{Handled}
use Rattle.exchange_agent.specs.declared.handled.Outgoing.{Outgoing}
use Rattle.market_floor.specs.declared.posting.Posting.{Posting}
use Rattle.market_floor.specs.declared.posting.Posting.TheVariants.{To, WakeAt}
use Rattle.market_floor.specs.declared.posting.PostingSeen.{PostingSeen}
use Rattle.market_floor.specs.declared.posting.PostingSeen.TheVariants as seen

-- a reply of the exchange goes to its receiver
abbrev pub to_receiver : Outgoing → Posting
to_receiver reply = To reply.to reply.body 0

-- what a trader sends goes to the exchange, which is agent 0
abbrev pub to_exchange : Sending → Posting
to_exchange (sending.To body extra) = To 0 body extra
to_exchange (sending.WakeAt time) = WakeAt time

-- the replies, and behind them what a trader sends
abbrev pub postings_of : Handled → Room Sending → List Posting
postings_of answer sends = map to_receiver answer.replies.list ++ map to_exchange sends.list

-- the posting whose message is seen where it is
abbrev pub posting_of : PostingSeen → Posting
posting_of (seen.To to body extra) = To to body.now extra
posting_of (seen.WakeAt time) = WakeAt time
