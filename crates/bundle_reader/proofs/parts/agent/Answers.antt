use Rattle.std.proofs.Common.{◌≡◌, ◌∙◌, ◌*◌, length, sym, ap, arith}
use Rattle.std.specs.Int.{w64}
use Rattle.std.specs.Int.RustNames.{FitsSigned}
use Rattle.std.proofs.lemmas.List.Elements.{All-same}
use Rattle.bundle_frames.specs.Wires.{positions_bytes}
use Rattle.bundle_reader.proofs.Made.{AgentRead, agent_length, agent_made, agent_alone}
use Rattle.bundle_reader.proofs.parts.agent.Goals as goal

pub returns-then-rest-count-clause-only : goal.returns-then-rest-count-clause-only
returns-then-rest-count-clause-only c f is =
    let count : length c.args.rest.now ≡ 8 * c.position_count-count.result =
    agent_length c.args.stocks c.args.h.now c.args.rest.now f is ∙ ap (λ n. 8 * n) (sym c.position_count-count.ensures) in
    absurd (omega (arith, c.if-rest-count.true, count))

pub returns-clause-frame : goal.returns-clause-frame
returns-clause-frame c =
    let read : AgentRead c.args.stocks c.args.h.now c.args.rest.now c.position_count-count.result c.joined.result c.joined-2.result c.cast_signed.result c.new-positions.result =
    record {
      cash_high = c.joined.ensures.high;
      cash_low = c.joined.ensures.low;
      own_high = c.joined-2.ensures.high;
      own_low = c.joined-2.ensures.low;
      position_is = c.cast_signed.ensures;
      count_is = c.position_count-count.ensures;
      bytes_are = ap positions_bytes c.new-positions.ensures ∙ c.in_ok-positions.ensures.bytes;
      length_is = ap length c.new-positions.ensures ∙ c.in_ok-positions.ensures.count;
      fit = All-same (FitsSigned w64) c.new-positions.result c.in_ok-positions.field-0.items c.new-positions.ensures c.in_ok-positions.ensures.fit;
      range = c.requires;
    } in
    agent_made c.args.stocks c.args.h.now c.args.rest.now c.position_count-count.result c.joined.result c.joined-2.result c.cast_signed.result c.new-positions.result read

pub returns-clause-only : goal.returns-clause-only
returns-clause-only c =
    let read : AgentRead c.args.stocks c.args.h.now c.args.rest.now c.position_count-count.result c.joined.result c.joined-2.result c.cast_signed.result c.new-positions.result =
    record {
      cash_high = c.joined.ensures.high;
      cash_low = c.joined.ensures.low;
      own_high = c.joined-2.ensures.high;
      own_low = c.joined-2.ensures.low;
      position_is = c.cast_signed.ensures;
      count_is = c.position_count-count.ensures;
      bytes_are = ap positions_bytes c.new-positions.ensures ∙ c.in_ok-positions.ensures.bytes;
      length_is = ap length c.new-positions.ensures ∙ c.in_ok-positions.ensures.count;
      fit = All-same (FitsSigned w64) c.new-positions.result c.in_ok-positions.field-0.items c.new-positions.ensures c.in_ok-positions.ensures.fit;
      range = c.requires;
    } in
    agent_alone c.args.stocks c.args.h.now c.args.rest.now c.position_count-count.result c.joined.result c.joined-2.result c.cast_signed.result c.new-positions.result read
