use Rattle.std.proofs.Common.{length, sym, ◌∙◌}
use Rattle.std.proofs.lemmas.Bool.{eqb-true}
use Rattle.std.proofs.lemmas.List.{nil_from_length}
use Rattle.bundle_reader.proofs.Made.{stock_made, stock_alone}
use Rattle.bundle_reader.proofs.parts.stock.Goals as goal

pub returns-clause-frame : goal.returns-clause-frame
returns-clause-frame c stocks =
    stock_made stocks c.args.h.now c.args.rest.now c.joined.result c.cast_signed.result (nil_from_length c.args.rest.now (eqb-true (length c.args.rest.now) 0 (sym c.is_empty.ensures ∙ c.if-not-is_empty.false)))
    (record { high = c.joined.ensures.high; low = c.joined.ensures.low; offset_is = c.cast_signed.ensures; range = c.requires })

pub returns-clause-only : goal.returns-clause-only
returns-clause-only c stocks f is =
    stock_alone stocks c.args.h.now c.args.rest.now c.joined.result c.cast_signed.result
    (record { high = c.joined.ensures.high; low = c.joined.ensures.low; offset_is = c.cast_signed.ensures; range = c.requires }) f is
