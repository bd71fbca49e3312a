-- A frame and its parts.
use Rattle.std.proofs.Common.{◌≡◌, ◌∙◌, ℕ, List, [], ◌++◌, Option, Some, None, sym, ap, subst}
use Rattle.std.proofs.lemmas.List.{append-nil}
use Rattle.wire_fields.specs.Wire.{spelling, IsInRange}
use Rattle.bundle_reader.specs.declared.head.Head.{Head}
use Rattle.bundle_reader.specs.declared.head.Head.TheVariants as head
use Rattle.bundle_reader.specs.Heads.{head_wire, IsLed}
use Rattle.bundle_reader.specs.declared.frame.Frame.{Frame}
use Rattle.bundle_reader.specs.declared.frame.Frame.TheVariants.{Header, Branch, Message, Event, Edit, Counts, Stock, Order, Agent, Waiting, End}
use Rattle.bundle_reader.specs.Frames.{payload, HasRanges, IsFrame}
use Rattle.bundle_reader.specs.Parts.{header_part, branch_part, event_part, stock_part, agent_part, waiting_part, head_part, rest_part, IsOf}

pub some_same : {A : Type 0} (a b : A) → Some a ≡ Some b → a ≡ b
some_same a b e = cc

pub none_some : {A : Type 0} (a : A) → ◌≡◌ {A = Option A} None (Some a) → ⊥
none_some a e = cc

-- how a head and a rest stand
abbrev led_by : Head → List ℕ → List ℕ
led_by h rest = spelling (head_wire h) ++ rest

with_rest : (part h : Head) (rest : List ℕ) → Some part ≡ Some h → led_by part rest ≡ led_by h rest
with_rest part h rest e = ap (λ k. led_by k rest) (some_same part h e)

alone : (part h : Head) → Some part ≡ Some h → spelling (head_wire part) ≡ led_by h []
alone part h e = sym (append-nil (spelling (head_wire part))) ∙ with_rest part h [] e

-- a frame is its head and its rest
pub payload_parts : (f : Frame) (h : Head) → head_part f ≡ Some h → payload f ≡ led_by h (rest_part f)
payload_parts (Header x) h e = alone (head.Header (header_part x)) h e
payload_parts (Branch x) h e = with_rest (head.Branch (branch_part x)) h x.name e
payload_parts (Message m) h e = absurd (none_some h e)
payload_parts (Event x) h e = with_rest (head.Event (event_part x)) h (rest_part (Event x)) e
payload_parts (Edit x) h e = alone (head.Edit x) h e
payload_parts (Counts x) h e = alone (head.Counts x) h e
payload_parts (Stock x) h e = alone (head.Stock (stock_part x)) h e
payload_parts (Order x) h e = alone (head.Order x) h e
payload_parts (Agent x) h e = with_rest (head.Agent (agent_part x)) h (rest_part (Agent x)) e
payload_parts (Waiting x) h e = with_rest (head.Waiting (waiting_part x)) h (rest_part (Waiting x)) e
payload_parts (End x) h e = alone (head.End x) h e

in_range_of : (part h : Head) → Some part ≡ Some h → IsInRange (head_wire part) → IsInRange (head_wire h)
in_range_of part h e is = let P : Head → Type 0 = λ k. IsInRange (head_wire k) in subst P (some_same part h e) is

pub ranges_parts : (stocks : Option ℕ) (f : Frame) (h : Head) → head_part f ≡ Some h → HasRanges stocks f → IsInRange (head_wire h)
ranges_parts stocks (Header x) h e is = in_range_of (head.Header (header_part x)) h e is
ranges_parts stocks (Branch x) h e is = in_range_of (head.Branch (branch_part x)) h e is.0
ranges_parts stocks (Message m) h e is = absurd (none_some h e)
ranges_parts stocks (Event x) h e is = in_range_of (head.Event (event_part x)) h e is.0
ranges_parts stocks (Edit x) h e is = in_range_of (head.Edit x) h e is
ranges_parts stocks (Counts x) h e is = in_range_of (head.Counts x) h e is
ranges_parts stocks (Stock x) h e is = in_range_of (head.Stock (stock_part x)) h e is.0
ranges_parts stocks (Order x) h e is = in_range_of (head.Order x) h e is
ranges_parts stocks (Agent x) h e is = in_range_of (head.Agent (agent_part x)) h e is.0
ranges_parts stocks (Waiting x) h e is = in_range_of (head.Waiting (waiting_part x)) h e is.0
ranges_parts stocks (End x) h e is = in_range_of (head.End x) h e is

-- a frame with a head begins with it
pub led_of : (stocks : Option ℕ) (bytes : List ℕ) (f : Frame) (h : Head) → head_part f ≡ Some h → IsFrame stocks bytes f → IsLed bytes h (rest_part f)
led_of stocks bytes f h e is = record { same = is.same ∙ payload_parts f h e; in_range = ranges_parts stocks f h e is.ranges }

-- what is of a head and a rest is the frame that they stand in
pub frame_of : (stocks : Option ℕ) (bytes : List ℕ) (h : Head) (rest : List ℕ) (f : Frame) → IsLed bytes h rest → IsOf stocks h rest f → IsFrame stocks bytes f
frame_of stocks bytes h rest f led of = record {
  same = led.same ∙ ap (λ r. led_by h r) (sym of.after) ∙ sym (payload_parts f h of.first);
  ranges = of.ranges;
}
