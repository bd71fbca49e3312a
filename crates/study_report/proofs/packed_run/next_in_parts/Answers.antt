use Rattle.std.proofs.Common.{◌++◌, ◌∙◌, ap, drop}
use Rattle.std.specs.List.{flat_map}
use Rattle.market_types.specs.Told.{event_told}
use Rattle.study_report.proofs.Led.{leads_here, leads_in_part, nothing_here, nothing_in_part}
use Rattle.study_report.proofs.packed_run.next_in_parts.Goals as goal

pub returns-then-branch : goal.returns-then-branch
returns-then-branch c =
    leads_here c.in_ok-next_record.field-0 (event_told c.next_record.new.event) c.args.walk.now c.next_record.new.walk (flat_map (λ t. t.now.list) (drop c.args.place.now c.args.parts.now))
    c.in_ok-next_record.ensures c.if-branch.true

pub loop-i-init : goal.loop-i-init
loop-i-init c =
    nothing_here c.in_ok-next_record.field-0 (event_told c.next_record.new.event) c.args.walk.now c.next_record.new.walk (flat_map (λ t. t.now.list) (drop c.args.place.now c.args.parts.now))
    c.in_ok-next_record.ensures c.if-branch.false

pub returns-then-branch-2 : goal.returns-then-branch-2
returns-then-branch-2 c =
    leads_in_part (λ t. t.now.list) c.args.parts.now c.loop-i.i c.index-parts-i.result c.in_ok-next_record-2.field-0 (event_told c.next_record-in-loop-i.new.event) c.walk.result c.next_record-in-loop-i.new.walk
    (c.args.walk.now ++ flat_map (λ t. t.now.list) (drop c.args.place.now c.args.parts.now)) c.loop-i-test.true c.index-parts-i.is (c.walk.ensures ∙ ap (λ v. v.list) c.packed.ensures) c.loop-i.invariant c.in_ok-next_record-2.ensures c.if-branch-2.true

pub loop-i-preserved : goal.loop-i-preserved
loop-i-preserved c =
    nothing_in_part (λ t. t.now.list) c.args.parts.now c.loop-i.i c.index-parts-i.result c.in_ok-next_record-2.field-0 (event_told c.next_record-in-loop-i.new.event) c.walk.result c.next_record-in-loop-i.new.walk
    (c.args.walk.now ++ flat_map (λ t. t.now.list) (drop c.args.place.now c.args.parts.now)) c.loop-i-test.true c.index-parts-i.is (c.walk.ensures ∙ ap (λ v. v.list) c.packed.ensures) c.loop-i.invariant c.in_ok-next_record-2.ensures c.if-branch-2.false
