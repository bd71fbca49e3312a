-- The edits of an accepted study's branches can be made at its opening.
use Rattle.std.proofs.Common.{◌≡◌, ◌∙◌, ◌+◌, ◌-◌, ◌&&◌, Bool, true, false, ℕ, zero, suc, List, [], ◌∷◌, ◌++◌, length, map, Option, None, Some, All, unwrap_or, refl, sym, ap, subst, codes, bytes_eq, if◌then◌else◌}
use Rattle.std.specs.Prelude.{◌||◌, replicate, slice_index_or}
use Rattle.std.specs.List.{flat_map, range_with_len}
use Rattle.std.proofs.lemmas.Bool.{and_parts}
use Rattle.std.proofs.lemmas.List.{length-map, map-append}
use Rattle.std.proofs.lemmas.List.Elements.{All-head, All-tail, All-weaker}
use Rattle.toml.specs.Data.{Data, Members}
use Rattle.market_rules.specs.declared.edit.Edit.{Edit}
use Rattle.market_rules.specs.declared.edit.Edit.TheVariants.{Tick, Fee, Halt, Resume, Latency, Agent, Silence, Inject, Series}
use Rattle.market_rules.specs.EditRanges.{is_among}
use Rattle.agent_shell.specs.Parameters.{IsOwnParam}
use Rattle.agent_shell.specs.declared.setting.Kind.{Kind}
use Rattle.agent_shell.specs.declared.setting.Kind.TheVariants.{Watcher, Noise}
use Rattle.agent_shell.specs.declared.setting.TraderSetting.{TraderSetting}
use Rattle.branch_tree.specs.declared.branch.Branch.{Branch}
use Rattle.market_floor.specs.declared.opening.Opening.{Opening}
use Rattle.market_floor.specs.Floor.{floor_at_opening, nobody, parties_from}
use Rattle.market_floor.specs.Edited.{IsParamOf}
use Rattle.latency_model.specs.Tables.{group_count}
use Rattle.kernel_core.specs.Edited.{IsEditOf}
use Rattle.kernel_core.specs.Open.{opened}
use Rattle.kernel_copy.specs.Courses.{AreEdits}
use Rattle.kernel_copy.proofs.Opened.{opened-stocks, opened-traders}
use Rattle.fundamental_series.specs.declared.rule.SeriesRow.{SeriesRow}
use Rattle.study_file.specs.Keys.{passes, has_keys, has_form}
use Rattle.study_file.specs.Tables.{is_named, text_at}
use Rattle.study_file.specs.Values.{string_at}
use Rattle.study_market.specs.MarketRules.{bases, size_of}
use Rattle.study_market.specs.StockRules.{stocks, symbols}
use Rattle.study_market.specs.AgentForms.{agent_form}
use Rattle.study_market.specs.ChangeRules.{is_kind}
use Rattle.study_market.specs.AgentRules.{agents, agent_keys_broken, count_of}
use Rattle.study_market.specs.Entries.{entry_of}
use Rattle.study_market.specs.Market.{numbers_in}
use Rattle.study_market.specs.Stocks.{stock_of}
use Rattle.study_market.specs.Traders.{value_kind_of, momentum_kind_of, maker_kind_of, kind_of, trader_of, traders_in, traders_of, size_of as shares_of}
use Rattle.study_market.specs.Opening.{opening_of, IsAccepted}
use Rattle.study_market.proofs.Held.{are-held}
use Rattle.study_market.proofs.Lists.{each-kept}
use Rattle.study_rules.specs.Scope.{kinds_of, kinds_in}
use Rattle.study_rules.specs.Fitting.{word_of, IsParamAmong, IsEditAmong, AreEditsAmong}
use Rattle.study_rules.proofs.Texts.{same-bytes, other-bytes}

-- the word of an entry's kind

word-if : (b : Bool) (k other : Kind) (word text : List ℕ) → word_of k ≡ word → (b ≡ true → word ≡ text) → (b ≡ false → word_of other ≡ text) → word_of (if b then k else other) ≡ text
word-if true k other word text e y n = e ∙ y refl
word-if false k other word text e y n = n refl

only-first : (a b c d e : Bool) → (a || (b || (c || (d || (e || false))))) ≡ true → b ≡ false → c ≡ false → d ≡ false → e ≡ false → a ≡ true
only-first true b c d e h f1 f2 f3 f4 = refl
only-first false true c d e h f1 f2 f3 f4 = absurd (cc f1)
only-first false false true d e h f1 f2 f3 f4 = absurd (cc f2)
only-first false false false true e h f1 f2 f3 f4 = absurd (cc f3)
only-first false false false false true h f1 f2 f3 f4 = absurd (cc f4)
only-first false false false false false h f1 f2 f3 f4 = absurd (cc h)

abbrev kind_text : Members → List ℕ
kind_text m = string_at (codes "kind") m

abbrev IsKnown : Members → Type 0
IsKnown m = is_named agent_form.words (kind_text m) ≡ true

watches : (text : List ℕ) → is_named agent_form.words text ≡ true
    → bytes_eq text (codes "noise") ≡ false → bytes_eq text (codes "value") ≡ false → bytes_eq text (codes "momentum") ≡ false → bytes_eq text (codes "maker") ≡ false
    → codes "watcher" ≡ text
watches text h f1 f2 f3 f4 =
    same-bytes (codes "watcher") text
    (only-first (bytes_eq (codes "watcher") text) (bytes_eq (codes "noise") text) (bytes_eq (codes "value") text) (bytes_eq (codes "momentum") text) (bytes_eq (codes "maker") text) h
    (other-bytes text (codes "noise") f1) (other-bytes text (codes "value") f2) (other-bytes text (codes "momentum") f3) (other-bytes text (codes "maker") f4))

kind-word : (m : Members) → IsKnown m → word_of (kind_of m) ≡ kind_text m
kind-word m h =
    let text : List ℕ = kind_text m in
    let makes : Kind = if is_kind (codes "maker") m then maker_kind_of m else Watcher in
    let follows : Kind = if is_kind (codes "momentum") m then momentum_kind_of m else makes in
    let values : Kind = if is_kind (codes "value") m then value_kind_of m else follows in
    word-if (is_kind (codes "noise") m) (Noise (shares_of m)) values (codes "noise") text refl (λ y. sym (same-bytes text (codes "noise") y)) (λ n1.
    word-if (is_kind (codes "value") m) (value_kind_of m) follows (codes "value") text refl (λ y. sym (same-bytes text (codes "value") y)) (λ n2.
    word-if (is_kind (codes "momentum") m) (momentum_kind_of m) makes (codes "momentum") text refl (λ y. sym (same-bytes text (codes "momentum") y)) (λ n3.
    word-if (is_kind (codes "maker") m) (maker_kind_of m) Watcher (codes "maker") text refl (λ y. sym (same-bytes text (codes "maker") y)) (λ n4.
    watches text h n1 n2 n3 n4))))

named-text : (named keys : List ℕ → Bool) (o : Option (List ℕ)) → passes (λ word. named word && keys word) o ≡ true → named (unwrap_or o []) ≡ true
named-text named keys None h = absurd (cc h)
named-text named keys (Some word) h = (and_parts (named word) (keys word) h).0

known : (m : Members) → has_form agent_form m ≡ true → IsKnown m
known m h = named-text (is_named agent_form.words) (λ word. has_keys word agent_form.keys m) (text_at (codes "kind") m) h

pub all-known : (t : Members) → agent_keys_broken t ≡ None → All (λ (d : Data). IsKnown (entry_of d)) (agents t)
all-known t h =
    All-weaker (λ (d : Data). has_form agent_form (entry_of d) ≡ true) (λ (d : Data). IsKnown (entry_of d)) (λ d. known (entry_of d)) (agents t) (each-kept (has_form agent_form) (agents t) h)

-- the kinds of all traders

words-in-row : (names : List (List ℕ)) (m : Members) (word : List ℕ) → word_of (kind_of m) ≡ word → (start n : ℕ)
    → map word_of (kinds_in (map (trader_of names m) (range_with_len start n))) ≡ replicate n word
words-in-row names m word e start zero = refl
words-in-row names m word e start (suc n) =
    ap (λ (xs : List (List ℕ)). word_of (kind_of m) ∷ xs) (words-in-row names m word e (start + 1) n) ∙ ap (λ (w : List ℕ). w ∷ replicate n word) e

words-of : (names : List (List ℕ)) (ds : List Data) → All (λ (d : Data). IsKnown (entry_of d)) ds
    → map word_of (kinds_in (flat_map (λ (d : Data). traders_in names (entry_of d)) ds)) ≡ kinds_of ds
words-of names [] h = refl
words-of names (d ∷ ds) h =
    let P : Data → Type 0 = λ x. IsKnown (entry_of x) in
    let here : List TraderSetting = traders_in names (entry_of d) in
    let later : List TraderSetting = flat_map (λ (x : Data). traders_in names (entry_of x)) ds in
    ap (map word_of) (map-append (λ (s : TraderSetting). s.kind) here later)
    ∙ map-append word_of (kinds_in here) (kinds_in later)
    ∙ ap (λ (xs : List (List ℕ)). xs ++ map word_of (kinds_in later))
    (words-in-row names (entry_of d) (kind_text (entry_of d)) (kind-word (entry_of d) (All-head P d ds h)) 0 (count_of (entry_of d)))
    ∙ ap (λ (xs : List (List ℕ)). replicate (count_of (entry_of d)) (kind_text (entry_of d)) ++ xs) (words-of names ds (All-tail P d ds h))

pub kinds-said : (t : Members) (rows : List (List SeriesRow)) → IsAccepted t rows → map word_of (kinds_in (traders_of t)) ≡ kinds_of (agents t)
kinds-said t rows h = words-of (symbols t) (agents t) (all-known t (are-held t rows h).agent_keys)

-- an edit that fits numbers and kinds fits the opening's state

kind-at : (k : ℕ) (ss : List TraderSetting) (i : ℕ) → (slice_index_or (parties_from k ss) i nobody).trader.setting.kind ≡ slice_index_or (kinds_in ss) i Watcher
kind-at k [] i = refl
kind-at k (s ∷ ss) zero = refl
kind-at k (s ∷ ss) (suc i) = kind-at (k + 1) ss i

parameter-of : (o : Opening) (e : Edit) → IsParamAmong (kinds_in o.traders) e → IsParamOf (floor_at_opening o) e
parameter-of o (Tick stock table) h = tt
parameter-of o (Fee stock fees) h = tt
parameter-of o (Halt stock) h = tt
parameter-of o (Resume stock) h = tt
parameter-of o (Latency from to base jitter) h = tt
parameter-of o (Agent agent name value) h = subst (λ (k : Kind). IsOwnParam k name value) (sym (kind-at 1 o.traders (agent - 1))) h
parameter-of o (Silence agent) h = tt
parameter-of o (Inject agent after message) h = tt
parameter-of o (Series stock value) h = tt

edit-of : (o : Opening) (count groups : ℕ) (e : Edit) → count ≡ length o.stocks → groups ≡ group_count o.groups → IsEditAmong count (kinds_in o.traders) groups e → IsEditOf (opened o) e
edit-of o count groups e same size h = record {
  among =
      ap (λ (n : ℕ). is_among n (length (opened o).floor.parties) (group_count o.groups) e) (opened-stocks o ∙ sym same)
      ∙ ap (λ (n : ℕ). is_among count n (group_count o.groups) e) (opened-traders o ∙ sym (length-map o.traders (λ (s : TraderSetting). s.kind)))
      ∙ ap (λ (n : ℕ). is_among count (length (kinds_in o.traders)) n e) (sym size)
      ∙ h.among;
  range = h.range;
  parameter = parameter-of o e h.parameter;
}

pub edits-of : (o : Opening) (count groups : ℕ) (es : List Edit) → count ≡ length o.stocks → groups ≡ group_count o.groups → AreEditsAmong count (kinds_in o.traders) groups es → AreEdits o es
edits-of o count groups es same size h = record {
  few = h.few;
  fit = All-weaker (IsEditAmong count (kinds_in o.traders) groups) (IsEditOf (opened o)) (λ e. edit-of o count groups e same size) es h.fit;
}

pub edits-fit : (t : Members) (rows : List (List SeriesRow)) (bs : List Branch)
    → All (λ (b : Branch). AreEditsAmong (length (stocks t)) (kinds_in (traders_of t)) (size_of t) b.edits) bs
    → All (λ (b : Branch). AreEdits (opening_of t rows) b.edits) bs
edits-fit t rows bs h =
    let same : length (stocks t) ≡ length (opening_of t rows).stocks = sym (length-map (stocks t) (λ (d : Data). stock_of (entry_of d))) in
    let size : size_of t ≡ group_count (opening_of t rows).groups = sym (length-map (bases t) numbers_in) in
    All-weaker (λ (b : Branch). AreEditsAmong (length (stocks t)) (kinds_in (traders_of t)) (size_of t) b.edits) (λ (b : Branch). AreEdits (opening_of t rows) b.edits)
    (λ b. edits-of (opening_of t rows) (length (stocks t)) (size_of t) b.edits same size) bs h
