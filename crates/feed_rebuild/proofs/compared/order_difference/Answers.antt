use Rattle.std.proofs.Common.{◌≡◌, ◌∙◌, ◌++◌, None, Some, ℕ, List, Option, sym, ap, refl}
use Rattle.std.specs.Prelude.{IfNone}
use Rattle.feed_rebuild.specs.Compared.{is_grouped, least, lesser, odd_in, odd_of, settled}
use Rattle.feed_rebuild.specs.Entries.{kept}
use Rattle.feed_rebuild.proofs.Grouping.{settled-is, settled-none}
use Rattle.feed_rebuild.proofs.Marking.{least-append}
use Rattle.feed_rebuild.proofs.compared.order_difference.Goals as goal

joined : (a b l : Option ℕ) (ns ms : List ℕ) → a ≡ least ns → b ≡ least ms → l ≡ lesser a b → l ≡ least (ns ++ ms)
joined a b l ns ms p q r = r ∙ (λ i. lesser (p i) (q i)) ∙ sym (least-append ns ms)

pub returns-clause-told : goal.returns-clause-told
returns-clause-told c = λ stocks listed.
    let os = kept c.args.entries.now in
    let live = c.args.live.now in
    let all = joined c.least_alone-alone.result c.least_foreign-foreign.result c.lesser.result (odd_in live os) (odd_in os live) c.least_alone-alone.ensures c.least_foreign-foreign.ensures c.lesser.ensures in
    c.settle.ensures ∙ ap (λ (x : Option ℕ). settled x (is_grouped None live)) all ∙ settled-is stocks c.args.entries.now live c.requires listed

pub returns-clause-same : goal.returns-clause-same
returns-clause-same c =
    let os = kept c.args.entries.now in
    let live = c.args.live.now in
    let all = joined c.least_alone-alone.result c.least_foreign-foreign.result c.lesser.result (odd_in live os) (odd_in os live) c.least_alone-alone.ensures c.least_foreign-foreign.ensures c.lesser.ensures in
    when_none c.settle.result (λ e. settled-none (least (odd_of os live)) (is_grouped None live) (sym (c.settle.ensures ∙ ap (λ (x : Option ℕ). settled x (is_grouped None live)) all) ∙ e))
  where
    when_none : {P : Type 0} (x : Option ℕ) → (x ≡ None → P) → IfNone x P
    when_none None f = f refl
    when_none (Some n) f = tt
