-- Each event of a course has its texts in their ranges, where those of the orders have that its edits inject.
use Rattle.std.proofs.Common.{ℕ, ◌+◌, ◌≤◌, true, false, cond, ltb, List, [], ◌∷◌, length, All, slice_index, arith}
use Rattle.std.proofs.lemmas.List.{length-map}
use Rattle.std.proofs.lemmas.List.Elements.{All-get_or, All-head, All-nil, All-push, All-tail}
use Rattle.market_types.specs.declared.message.Message.{Message}
use Rattle.market_types.specs.Told.{event, edit as edited_entry}
use Rattle.market_rules.specs.declared.edit.Edit.{Edit}
use Rattle.market_rules.specs.declared.edit.Edit.TheVariants.{Tick, Fee, Halt, Resume, Latency, Agent, Silence, Inject, Series}
use Rattle.latency_model.specs.Tables.{Tables}
use Rattle.agent_shell.specs.declared.setting.TraderSetting.{TraderSetting}
use Rattle.event_queue.specs.Waiting.{without}
use Rattle.event_queue.proofs.Kept.{all-joined, all-least, all-without}
use Rattle.branch_tree.specs.declared.branch.Branch.{Branch}
use Rattle.branch_tree.specs.Plan.{branch_at, no_branch}
use Rattle.market_floor.specs.declared.opening.Opening.{Opening}
use Rattle.market_floor.specs.declared.posting.Posting.{Posting}
use Rattle.market_floor.specs.declared.posting.Posting.TheVariants.{To, WakeAt}
use Rattle.market_floor.specs.Opening.{IsOpening, IsStock}
use Rattle.market_floor.specs.Reaction.{no_rules, reaction}
use Rattle.kernel_core.specs.Edited.{edited_one, mail_after, mark_of}
use Rattle.kernel_core.specs.Open.{woken}
use Rattle.kernel_core.specs.Post.{Post, nothing_waits, taken}
use Rattle.kernel_core.specs.Send.{all_sent, message_of, order_at, sent}
use Rattle.kernel_core.specs.State.{State}
use Rattle.kernel_core.specs.Step.{Happened, event_back, event_delivered, event_of, in_force}
use Rattle.kernel_core.specs.Until.{Run}
use Rattle.kernel_core.proofs.Posts.{all-joins}
use Rattle.kernel_copy.specs.Courses.{CourseTold, IsCourse}
use Rattle.kernel_copy.specs.Full.{forks_of, full, opening_run}
use Rattle.market_laws.specs.Texts.{AreMessagesSpelled, HasBodyTexts, HasEventTexts, HasMessageTexts}
use Rattle.market_laws.proofs.EachRun.{AllowsAll, AllowsFrom, AreKept, allowed, kept-along}
use Rattle.market_laws.proofs.Reactions.{HasNames, HasPostingTexts, IsSpelledFloor, edit-spelled, opened-spelled, reaction-spelled, ruled-spelled}
use Rattle.market_laws.proofs.Replies.{all-at}
use Rattle.market_laws.proofs.Texts.{symbol-in}

abbrev pub IsSpelledMail : Message → Type 0
IsSpelledMail m = HasBodyTexts m.body

-- the texts of all that waits and of all stocks are in their ranges
pub record IsSpelledState (o : Opening) (s : State) : Type 0 where
  pub mail : All IsSpelledMail s.post.waiting
  pub floor : IsSpelledFloor o s.floor

-- so are those of all events
pub record IsSpelledRun (o : Opening) (r : Run) : Type 0 where
  pub state : IsSpelledState o r.state
  pub entries : All HasEventTexts r.entries

-- ---- mail

message-texts : (o : Opening) (groups : Tables) (from leave : ℕ) (x : Posting) (n : ℕ) → HasPostingTexts x → IsSpelledMail (message_of o groups from leave x n)
message-texts o groups from leave (To to body extra) n h = h
message-texts o groups from leave (WakeAt time) n h = tt

all-sent : (o : Opening) (groups : Tables) (from leave : ℕ) (p : Post) (xs : List Posting) → All HasPostingTexts xs → All IsSpelledMail p.waiting → All IsSpelledMail (all_sent o groups from leave p xs).waiting
all-sent o groups from leave p [] h w = w
all-sent o groups from leave p (x ∷ xs) h w =
    all-sent o groups from leave (sent o groups from leave p x) xs (All-tail HasPostingTexts x xs h)
    (all-joins IsSpelledMail p (message_of o groups from leave x) (message-texts o groups from leave x p.next_seq (All-head HasPostingTexts x xs h)) w)

woken-mail : (o : Opening) (agent : ℕ) (p : Post) (ss : List TraderSetting) → All IsSpelledMail p.waiting → All IsSpelledMail (woken o agent p ss).waiting
woken-mail o agent p [] w = w
woken-mail o agent p (s ∷ ss) w =
    woken-mail o (agent + 1) (sent o o.groups agent o.start p (WakeAt s.first)) ss
    (all-joins IsSpelledMail p (message_of o o.groups agent o.start (WakeAt s.first)) tt w)

-- ---- an event

back-spelled : (o : Opening) (s : State) (m : Message) (until : ℕ) → IsSpelledMail m → IsSpelledState o s → IsSpelledState o (event_back o s m until).state
back-spelled o s m until text h = record {
  mail = all-joined IsSpelledMail (record m { time = until }) (without m.seq s.post.waiting) text (all-without IsSpelledMail m.seq s.post.waiting h.mail);
  floor = ruled-spelled o s.applied m.time s.floor h.floor;
}

delivered-spelled : (o : Opening) (s : State) (m : Message) → HasNames o → IsSpelledMail m → IsSpelledState o s → IsSpelledState o (event_delivered o s m).state
delivered-spelled o s m names text h =
    let f = (in_force o s m.time).state.floor in
    let does = reaction-spelled o f m names text (ruled-spelled o s.applied m.time s.floor h.floor) in
    record {
      mail = all-sent o s.groups m.to (m.time + (reaction o f m).delay) (taken s.post m) (reaction o f m).postings does.postings (all-without IsSpelledMail m.seq s.post.waiting h.mail);
      floor = does.floor;
    }

-- what an event leaves, and what it tells
abbrev IsSpelledEvent : Opening → Happened → Type 0
IsSpelledEvent o h = IsSpelledState o h.state × HasEventTexts (event h.entry)

event-spelled : (o : Opening) (s : State) (m : Message) → HasNames o → IsSpelledMail m → IsSpelledState o s → IsSpelledEvent o (event_of o s m)
unfolding event_of
event-spelled o s m names text h =
    elim (ltb m.time (slice_index s.own m.to)) as (λ b. let k : Happened = cond b (event_back o s m (slice_index s.own m.to)) (event_delivered o s m) in IsSpelledEvent o k) [
      | true ↦ (back-spelled o s m (slice_index s.own m.to) text h, text)
      | false ↦ (delivered-spelled o s m names text h, text)
    ]

-- ---- edits

mail-spelled : (time : ℕ) (e : Edit) (p : Post) → HasMessageTexts e → All IsSpelledMail p.waiting → All IsSpelledMail (mail_after time e p).waiting
mail-spelled time (Tick stock table) p texts w = w
mail-spelled time (Fee stock fees) p texts w = w
mail-spelled time (Halt stock) p texts w = w
mail-spelled time (Resume stock) p texts w = w
mail-spelled time (Latency from to base jitter) p texts w = w
mail-spelled time (Agent agent name value) p texts w = w
mail-spelled time (Silence agent) p texts w = w
mail-spelled time (Inject agent after message) p texts w = all-joins IsSpelledMail p (order_at agent (time + after) message) texts w
mail-spelled time (Series stock offset) p texts w = w

one-spelled : (o : Opening) (b i : ℕ) (e : Edit) (r : Run) → HasNames o → HasMessageTexts e → IsSpelledRun o r → IsSpelledRun o (edited_one b i e r)
unfolding edited_one
one-spelled o b i e r names texts h = record {
  state = record {
    mail = mail-spelled r.state.time e r.state.post texts h.state.mail;
    floor = edit-spelled o r.state.time e r.state.floor names h.state.floor;
  };
  entries = All-push HasEventTexts r.entries (edited_entry (mark_of b i e r.state)) h.entries tt;
}

-- ---- runs

abbrev Spells : ℕ → ℕ → Edit → Type 0
Spells b i e = HasMessageTexts e

each-kept : (o : Opening) → HasNames o → AreKept o (IsSpelledRun o) Spells
each-kept o names = record {
  event = λ r m going next h.
      let k = event-spelled o r.state m names (all-least IsSpelledMail r.state.post.waiting m next h.state.mail) h.state in
      record { state = k.0; entries = All-push HasEventTexts r.entries (event (event_of o r.state m).entry) h.entries k.1 };
  edit = λ b i e r texts h. one-spelled o b i e r names texts h;
}

names-are : (o : Opening) → IsOpening o → HasNames o
names-are o is = record {
  some = is.market.some;
  each = λ k l. symbol-in _ (All-get_or IsStock o.stocks k no_rules l is.stocks).symbol;
}

few-traders : (o : Opening) → IsOpening o → length o.traders ≤ 511
few-traders o is = omega (arith, is.market.traders, length-map o.traders (λ (s : TraderSetting). s.cash))

opening-spelled : (o : Opening) → IsOpening o → IsSpelledRun o (opening_run o)
opening-spelled o is = record {
  state = record { mail = woken-mail o 1 nothing_waits o.traders (All-nil IsSpelledMail); floor = opened-spelled o (few-traders o is) is.traders };
  entries = All-nil HasEventTexts;
}

all-spelled : (b i : ℕ) (es : List Edit) → All HasMessageTexts es → AllowsFrom Spells b i es
all-spelled b i [] h = tt
all-spelled b i (e ∷ es) h = (All-head HasMessageTexts e es h, all-spelled b (i + 1) es (All-tail HasMessageTexts e es h))

abbrev HasEditTexts : Branch → Type 0
HasEditTexts b = All HasMessageTexts b.edits

branch-spelled : (bs : List Branch) (b : ℕ) → All HasEditTexts bs → AllowsAll Spells bs b
branch-spelled bs b h = all-spelled b 0 (branch_at bs b).edits (all-at HasEditTexts no_branch (All-nil HasMessageTexts) bs b h)

-- each event of a full run, and the stocks that it leaves
pub full-spelled : (c : CourseTold) (b e : ℕ) → IsCourse c → AreMessagesSpelled c → IsSpelledRun c.opening (full c.opening c.plan b e)
unfolding full
full-spelled c b e is edits =
    let o = c.opening in
    let bs = c.plan.branches in
    kept-along o (IsSpelledRun o) Spells bs e (forks_of bs b) (opening_run o) (each-kept o (names-are o is.opening))
    (allowed (AllowsAll Spells bs) (forks_of bs b) (λ k. branch-spelled bs k edits)) (opening-spelled o is.opening)
