-- Edits for worked runs.
use Rattle.std.specs.Prelude.{◌≡◌, ◌≤◌, ℕ, negsuc, pos, true, List, [], ◌∷◌, length, map, slice_index}
use Rattle.std.specs.List.{flat_map}
use Rattle.market_types.specs.Limits.{longest_delay}
use Rattle.market_types.specs.declared.order.Inbound.TheVariants as inbound
use Rattle.market_types.specs.declared.order.Side.TheVariants.{Sell}
use Rattle.market_types.specs.declared.message.Body.{Body}
use Rattle.market_types.specs.declared.message.Body.TheVariants as body
use Rattle.market_types.specs.declared.message.Message.{Message}
use Rattle.market_types.specs.declared.reply.Reply.{Reply}
use Rattle.market_types.specs.declared.reply.Reply.TheVariants as reply
use Rattle.market_types.specs.Told.{EntryTold, event, edit}
use Rattle.market_rules.specs.declared.changes.Change.TheVariants as change
use Rattle.market_rules.specs.declared.changes.Dated.{Dated}
use Rattle.market_rules.specs.declared.edit.Edit.{Edit}
use Rattle.market_rules.specs.declared.edit.Edit.TheVariants as kind
use Rattle.market_rules.specs.declared.edit.Param.TheVariants as parameter
use Rattle.market_rules.specs.EditRanges.{is_modest_fee, is_modest_table, is_near_zero}
use Rattle.exchange_agent.specs.Worked.{order}
use Rattle.market_floor.specs.declared.opening.Opening.{Opening}
use Rattle.market_floor.specs.OpeningWorked.{market, watcher}
use Rattle.market_floor.specs.Floor.{party_at}
use Rattle.kernel_core.specs.Edited.{edited}
use Rattle.kernel_core.specs.Until.{Run, until}
use Rattle.kernel_core.specs.Worked.{full_run, opening_run}

-- an order of the first trader that is due so long after a state's time: 100 to sell at 10.01 dollars
abbrev pub sold : ℕ → ℕ → Edit
sold letter after = kind.Inject 1 after (inbound.Enter (order letter Sell 100 100100))

-- one edit of each kind
abbrev pub each_kind : List Edit
each_kind =
    kind.Tick 0 (record { from = 0; tick = 500 } ∷ [])
    ∷ kind.Fee 0 (record { add = pos 0; take = pos 0 })
    ∷ kind.Halt 0
    ∷ kind.Resume 0
    ∷ kind.Latency 0 0 7 9
    ∷ kind.Agent 1 parameter.Delay 7
    ∷ kind.Silence 1
    ∷ sold 65 100
    ∷ kind.Series 0 (negsuc 4)
    ∷ []

-- edits that each state of a market can take: of the first stock, the first trader and the first group
abbrev pub IsPlain : Edit → Type 0
IsPlain (kind.Tick stock table) = (stock ≡ 0) × (is_modest_table table ≡ true)
IsPlain (kind.Fee stock fees) = (stock ≡ 0) × (is_modest_fee fees ≡ true)
IsPlain (kind.Halt stock) = stock ≡ 0
IsPlain (kind.Resume stock) = stock ≡ 0
IsPlain (kind.Latency from to base jitter) = (from ≡ 0) × (to ≡ 0) × (base ≤ longest_delay)
IsPlain (kind.Agent agent name value) = (agent ≡ 1) × (name ≡ parameter.Delay) × (value ≤ longest_delay)
IsPlain (kind.Silence agent) = agent ≡ 1
IsPlain (kind.Inject agent after message) = (agent ≡ 1) × (after ≤ 1000)
IsPlain (kind.Series stock offset) = (stock ≡ 0) × (is_near_zero 2000000000 offset ≡ true)

-- a run to its end once edits of branch 1 were made
abbrev pub gone_on : Opening → List Edit → Run → Run
gone_on o es r = until o o.limit (edited 1 es r)

-- a full run that goes on once an order was injected
abbrev pub reopened : Opening → Run
reopened o = gone_on o (sold 65 100 ∷ []) (full_run o)

-- a run in which the one trader is silenced at the opening, and which then goes on once an order was injected
abbrev pub quieted : Opening → Run
quieted o = gone_on o (kind.Silence 1 ∷ []) (opening_run o)

abbrev pub revived : Opening → Run
revived o = gone_on o (sold 65 100 ∷ []) (quieted o)

-- a run in which the first trader is silenced after its first wakeup: its own time, and how many quotes it heard and draws it made
abbrev pub silenced : Opening → Run
silenced o = gone_on o (kind.Silence 1 ∷ []) (until o 1 (opening_run o))

abbrev pub heard : Run → ℕ × ℕ × ℕ
heard r = (slice_index r.state.own 1, (party_at r.state.floor 1).trader.quotes, (party_at r.state.floor 1).trader.draws)

-- when the waiting messages are due, with their numbers, after the first event under other latencies
abbrev pub dues : ℕ → ℕ → Opening → List (ℕ × ℕ)
dues base jitter o = map (λ (m : Message). (m.seq, m.time)) (until o 1 (edited 1 (kind.Latency 0 0 base jitter ∷ []) (opening_run o))).state.post.waiting

-- the mark of an edit in short: its letter, its index, its branch, and how many feed messages it has
abbrev pub mark_told : EntryTold → ℕ × ℕ × ℕ × ℕ
mark_told (event e) = (0, 0, 0, 0)
mark_told (edit e) = (e.letter, e.index, e.branch, length e.feed)

abbrev pub marks : Opening → List (ℕ × ℕ × ℕ × ℕ)
marks o = map mark_told (edited 3 each_kind (opening_run o)).entries

-- ticks of five cents from 1500 on
abbrev pub later_ticks : List Dated
later_ticks = record { time = 1500; stock = 0; change = change.Tick (record { from = 0; tick = 500 } ∷ []) } ∷ []

-- a market of one watcher in which they are dated
abbrev pub dated_market : Opening
dated_market = record (market 2000 0 (watcher 1000 ∷ [])) { dated = later_ticks }

-- an answer of the exchange in short: its letter or the reason of a rejection, and its time
abbrev pub reply_told : Reply → List (ℕ × ℕ)
reply_told (reply.System time code) = []
reply_told (reply.Accepted time token side shares stock price tif firm display reference capacity sweep minimum cross state bbo) = (65, time) ∷ []
reply_told (reply.Canceled time token decrement reason) = (67, time) ∷ []
reply_told (reply.Executed time token shares price flag number) = (69, time) ∷ []
reply_told (reply.Rejected time token reason) = (reason, time) ∷ []

abbrev pub body_told : Body → List (ℕ × ℕ)
body_told body.Wake = []
body_told (body.Order inbound) = []
body_told (body.Answer reply) = reply_told reply
body_told (body.Ask stock) = []
body_told (body.Quote quote) = []

abbrev pub entry_answers : EntryTold → List (ℕ × ℕ)
entry_answers (event e) = body_told e.body
entry_answers (edit e) = []

abbrev pub answers : Run → List (ℕ × ℕ)
answers r = flat_map entry_answers r.entries
