-- The edits that a study's entries say inject orders that a message can hold.
use Rattle.std.proofs.Common.{Bool, true, false, List, [], ◌∷◌, map, All, Option, Some, None, IfSome, codes, if◌then◌else◌}
use Rattle.std.specs.Prelude.{◌&&◌, option_map, unsigned_abs, slice_index_or, negsuc, pos}
use Rattle.std.specs.List.{cons_option, filter_map}
use Rattle.std.proofs.lemmas.List.Elements.{All-cons, All-map, All-nil}
use Rattle.toml.specs.Data.{Data, Members}
use Rattle.market_rules.specs.declared.edit.Edit.{Edit}
use Rattle.market_rules.specs.declared.edit.Edit.TheVariants.{Agent, Fee, Halt, Inject, Resume, Series, Silence, Tick}
use Rattle.branch_tree.specs.declared.branch.Branch.{Branch}
use Rattle.study_file.specs.Values.{has_between, list_at, number_at, string_at}
use Rattle.study_market.specs.StockRules.{band_in, has_bands, has_fees}
use Rattle.study_market.specs.ChangeRules.{is_kind}
use Rattle.study_rules.specs.Branches.{branch_of, branches_of, root_branch}
use Rattle.study_rules.specs.EditRules.{◌>>=◌, agent_in, edit_in, fee_in, group_in, has_param, inject_in, is_param_value, kind_of_trader, latency_in, message_in, natural_in, param_named, series_in, stock_in, tick_in, trader_in}
use Rattle.study_rules.specs.Entries.{branch_entries, edits_in, entry_of}
use Rattle.study_rules.specs.Scope.{Scope, scope_of}
use Rattle.market_laws.specs.Texts.{HasMessageTexts}
use Rattle.audit_desk.proofs.Orders.{message-spelled}

-- what is said is an edit that injects no order, or one that a message can hold
abbrev IsSpelled : Option Edit → Type 0
IsSpelled o = IfSome o HasMessageTexts

then-spelled : {A : Type 0} (o : Option A) (f : A → Option Edit) → ((a : A) → IsSpelled (f a)) → IsSpelled (o >>= f)
then-spelled None f h = tt
then-spelled (Some a) f h = h a

map-spelled : {A : Type 0} (o : Option A) (f : A → Edit) → IfSome o (λ a. HasMessageTexts (f a)) → IsSpelled (option_map f o)
map-spelled None f h = tt
map-spelled (Some a) f h = h

each-spelled : {A : Type 0} (o : Option A) (f : A → Edit) → ((a : A) → HasMessageTexts (f a)) → IsSpelled (option_map f o)
each-spelled None f h = tt
each-spelled (Some a) f h = h a

if-spelled : (b : Bool) (x : Edit) → HasMessageTexts x → IsSpelled (if b then Some x else None)
if-spelled true x h = h
if-spelled false x h = tt

either : (b : Bool) (o p : Option Edit) → IsSpelled o → IsSpelled p → IsSpelled (if b then o else p)
either true o p h k = h
either false o p h k = k

tick-spelled : (scope : Scope) (e : Members) → IsSpelled (tick_in scope e)
tick-spelled scope e = then-spelled (stock_in scope e) _ (λ stock. if-spelled (has_bands e) (Tick stock (map band_in (list_at (codes "bands") e))) tt)

fee-spelled : (scope : Scope) (e : Members) → IsSpelled (fee_in scope e)
fee-spelled scope e =
    then-spelled (stock_in scope e) _
    (λ stock. if-spelled (has_fees e) (Fee stock (record { add = number_at (codes "add") e; take = number_at (codes "take") e })) tt)

latency-spelled : (scope : Scope) (e : Members) → IsSpelled (latency_in scope e)
latency-spelled scope e =
    then-spelled (group_in scope.groups (codes "from") e) _ (λ from.
    then-spelled (group_in scope.groups (codes "to") e) _ (λ to.
    then-spelled (natural_in 0 3600000000000 (codes "base") e) _ (λ base.
    then-spelled (natural_in 0 4294967295 (codes "jitter") e) _ (λ jitter. tt))))

agent-spelled : (scope : Scope) (e : Members) → IsSpelled (agent_in scope e)
agent-spelled scope e =
    then-spelled (trader_in scope e) _ (λ trader.
    then-spelled (param_named (string_at (codes "name") e)) _ (λ param.
    if-spelled (has_param (kind_of_trader scope trader) param && is_param_value param (number_at (codes "value") e))
    (Agent trader param (unsigned_abs (number_at (codes "value") e))) tt))

inject-spelled : (scope : Scope) (e : Members) → IsSpelled (inject_in scope e)
inject-spelled scope e =
    then-spelled (trader_in scope e) _ (λ trader.
    then-spelled (natural_in 0 86399999999999 (codes "after") e) _ (λ after.
    map-spelled (message_in (string_at (codes "message") e)) (Inject trader after) (message-spelled (string_at (codes "message") e))))

series-spelled : (scope : Scope) (e : Members) → IsSpelled (series_in scope e)
series-spelled scope e =
    then-spelled (stock_in scope e) _
    (λ stock. if-spelled (has_between (negsuc 1999999999) (pos 2000000000) (codes "offset") e) (Series stock (number_at (codes "offset") e)) tt)

-- the edit that an entry says
edit-spelled : (scope : Scope) (e : Members) → IsSpelled (edit_in scope e)
edit-spelled scope e =
    either (is_kind (codes "tick") e) _ _ (tick-spelled scope e)
    (either (is_kind (codes "fee") e) _ _ (fee-spelled scope e)
    (either (is_kind (codes "halt") e) _ _ (each-spelled (stock_in scope e) Halt (λ stock. tt))
    (either (is_kind (codes "resume") e) _ _ (each-spelled (stock_in scope e) Resume (λ stock. tt))
    (either (is_kind (codes "latency") e) _ _ (latency-spelled scope e)
    (either (is_kind (codes "agent") e) _ _ (agent-spelled scope e)
    (either (is_kind (codes "silence") e) _ _ (each-spelled (trader_in scope e) Silence (λ trader. tt))
    (either (is_kind (codes "inject") e) _ _ (inject-spelled scope e)
    (either (is_kind (codes "series") e) _ _ (series-spelled scope e) tt))))))))

cons-spelled : (o : Option Edit) (es : List Edit) → IsSpelled o → All HasMessageTexts es → All HasMessageTexts (cons_option o es)
cons-spelled None es h k = k
cons-spelled (Some e) es h k = All-cons HasMessageTexts e es h k

edits-spelled : (scope : Scope) (ds : List Data) → All HasMessageTexts (filter_map (λ (d : Data). edit_in scope (entry_of d)) ds)
edits-spelled scope [] = All-nil HasMessageTexts
edits-spelled scope (d ∷ ds) =
    cons-spelled (edit_in scope (entry_of d)) (filter_map (λ (x : Data). edit_in scope (entry_of x)) ds) (edit-spelled scope (entry_of d)) (edits-spelled scope ds)

abbrev AreSpelled : Branch → Type 0
AreSpelled b = All HasMessageTexts b.edits

-- those of all branches of a study
pub branches-spelled : (t : Members) → All (λ (b : Branch). All HasMessageTexts b.edits) (branches_of t)
branches-spelled t =
    let scope = scope_of t in
    let ds = branch_entries t in
    All-cons AreSpelled root_branch (map (branch_of scope ds) ds) (All-nil HasMessageTexts)
    (All-map AreSpelled (branch_of scope ds) ds (λ i d l. edits-spelled scope (edits_in (slice_index_or ds i d))))
