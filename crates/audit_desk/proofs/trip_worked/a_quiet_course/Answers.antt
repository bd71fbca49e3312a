use Rattle.std.proofs.Common.{◌≡◌, ℕ, zero, suc, ◌<◌, pos, false, List, [], ◌∷◌, length, All, Some, refl, sym, subst, arith}
use Rattle.std.specs.Int.{w64, w128}
use Rattle.std.specs.Int.RustNames.{FitsSigned}
use Rattle.std.proofs.lemmas.Int.{fits_signed_from_abs}
use Rattle.std.proofs.lemmas.List.Elements.{All-cons, All-nil}
use Rattle.wire_fields.specs.Kinds.{is_good}
use Rattle.wire_fields.specs.Values.{is_in_range}
use Rattle.wire_fields.specs.Wire.{IsInRange as IsWireInRange}
use Rattle.market_types.specs.Told.{EntryTold}
use Rattle.bundle_frames.specs.Wires.{agent_wire, counts_wire, stock_wire}
use Rattle.bundle_frames.specs.declared.closing.Closing.{Closing}
use Rattle.bundle_frames.specs.declared.closing.ClosingAgent.{ClosingAgent}
use Rattle.bundle_frames.specs.declared.closing.ClosingCounts.{ClosingCounts}
use Rattle.bundle_frames.specs.declared.closing.ClosingStock.{ClosingStock}
use Rattle.branch_tree.specs.declared.branch.Branch.{Branch}
use Rattle.branch_tree.specs.Names.{IsNameLength}
use Rattle.branch_tree.specs.Plan.{branch_at}
use Rattle.kernel_copy.specs.Closing.{closing_at}
use Rattle.kernel_core.specs.Step.{event_of}
use Rattle.kernel_core.specs.Until.{advanced}
use Rattle.kernel_copy.specs.Full.{full, full_run}
use Rattle.trace_bundle.specs.Worked.{quiet_course}
use Rattle.bundle_reader.specs.Frames.{HasRanges}
use Rattle.bundle_reader.specs.declared.frame.Frame.{Frame}
use Rattle.bundle_reader.specs.declared.frame.Frame.TheVariants as frame
use Rattle.bundle_reader.specs.Bundle.{closing_list}
use Rattle.audit_desk.specs.Ranges.{IsEventInRange, IsRunInRange}
use Rattle.market_laws.specs.Texts.{HasMessageTexts}
use Rattle.audit_desk.proofs.trip_worked.a_quiet_course.Goals as goal

abbrev IsNamed : Branch → Type 0
IsNamed b = IsNameLength (length b.name)

abbrev InRange : Frame → Type 0
InRange f = HasRanges (Some 1) f

counts : ClosingCounts
counts = record { end = 67; events = 0; time = 1000; next_seq = 1; waiting = 1; dropped = 0; enters = 0; cancels = 0; orders = 0; matches = 0 }

stock : ClosingStock
stock = record { stock = 0; state = 84; last = 0; matched = 0; fees = pos 0; offset = pos 0; live = 0 }

agent : ℕ → ClosingAgent
agent k = record {
  agent = k;
  silenced = false;
  time = 1000;
  tokens = 0;
  draws = 0;
  cash = pos 0;
  own_cash = pos 0;
  own_position = pos 0;
  live = 0;
  quotes = 0;
  positions = pos 0 ∷ [];
}

closing : Closing
closing = record { counts = counts; stocks = stock ∷ []; orders = []; agents = agent 0 ∷ agent 1 ∷ [] }

-- neither branch has an event, and each closes so
root-entries : (full_run quiet_course.opening quiet_course.plan 0).entries ≡ []
unfolding full advanced event_of
root-entries = refl

fork-entries : (full_run quiet_course.opening quiet_course.plan 1).entries ≡ []
unfolding full advanced event_of
fork-entries = refl

root-closing : closing_at quiet_course.opening (full_run quiet_course.opening quiet_course.plan 0).state ≡ closing
unfolding full advanced event_of closing counts stock agent
root-closing = refl

fork-closing : closing_at quiet_course.opening (full_run quiet_course.opening quiet_course.plan 1).state ≡ closing
unfolding full advanced event_of closing counts stock agent
fork-closing = refl

counts-in : IsWireInRange (counts_wire counts)
unfolding is_in_range is_good counts
counts-in = refl

stock-in : IsWireInRange (stock_wire stock)
unfolding is_in_range is_good stock
stock-in = refl

first-in : IsWireInRange (agent_wire (agent 0))
unfolding is_in_range is_good agent
first-in = refl

second-in : IsWireInRange (agent_wire (agent 1))
unfolding is_in_range is_good agent
second-in = refl

small : FitsSigned w64 (pos 0)
small = fits_signed_from_abs w64 (pos 0) (omega arith)

large : FitsSigned w128 (pos 0)
large = fits_signed_from_abs w128 (pos 0) (omega arith)

one-position : All (FitsSigned w64) (pos 0 ∷ [])
one-position = All-cons (FitsSigned w64) (pos 0) [] small (All-nil (FitsSigned w64))

agent-in : (k : ℕ) → IsWireInRange (agent_wire (agent k)) → InRange (frame.Agent (agent k))
unfolding agent
agent-in k h = (h, large, large, small, one-position, refl)

stock-frame : InRange (frame.Stock stock)
unfolding stock
stock-frame = (stock-in, large, small)

closing-in : All InRange (closing_list closing)
unfolding closing
closing-in =
    let first = frame.Agent (agent 0) in
    let second = frame.Agent (agent 1) in
    All-cons InRange (frame.Counts counts) (frame.Stock stock ∷ first ∷ second ∷ []) counts-in
    (All-cons InRange (frame.Stock stock) (first ∷ second ∷ []) stock-frame
    (All-cons InRange first (second ∷ []) (agent-in 0 first-in) (All-cons InRange second [] (agent-in 1 second-in) (All-nil InRange))))

run-of : (b : ℕ) → (full_run quiet_course.opening quiet_course.plan b).entries ≡ [] → closing_at quiet_course.opening (full_run quiet_course.opening quiet_course.plan b).state ≡ closing → IsRunInRange quiet_course b
run-of b none is = record {
  events = subst (λ (xs : List EntryTold). All (IsEventInRange (Some 1)) xs) (sym none) (All-nil (IsEventInRange (Some 1)));
  closing = subst (λ (c : Closing). All InRange (closing_list c)) (sym is) closing-in;
}

run-at : (b : ℕ) → b < 2 → IsRunInRange quiet_course b
run-at zero l = run-of 0 root-entries root-closing
run-at (suc zero) l = run-of 1 fork-entries fork-closing
run-at (suc (suc b)) l = absurd (omega (arith, l))

pub returns-clause-ranges : goal.returns-clause-ranges
returns-clause-ranges c =
    let root = branch_at quiet_course.plan.branches 0 in
    let fork = branch_at quiet_course.plan.branches 1 in
    record {
      names = All-cons IsNamed root (fork ∷ []) (record { some = omega arith; few = omega arith }) (All-cons IsNamed fork [] (record { some = omega arith; few = omega arith }) (All-nil IsNamed));
      runs = λ b l. run-at b l;
    }

abbrev IsSpelled : Branch → Type 0
IsSpelled b = All HasMessageTexts b.edits

pub returns-clause-spelled : goal.returns-clause-spelled
returns-clause-spelled c =
    let root = branch_at quiet_course.plan.branches 0 in
    let fork = branch_at quiet_course.plan.branches 1 in
    All-cons IsSpelled root (fork ∷ []) (All-nil HasMessageTexts) (All-cons IsSpelled fork [] (All-nil HasMessageTexts) (All-nil IsSpelled))
