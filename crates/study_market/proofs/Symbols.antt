-- The symbols of an accepted study's stocks are distinct.
use Rattle.std.proofs.Common.{◌≡◌, ◌≢◌, ◌∙◌, ◌<◌, ◌-◌, Bool, true, false, cond, ℕ, zero, suc, List, [], ◌∷◌, ◌++◌, length, get_or, take, replicate, append-nil, None, refl, sym, ap, arith, bytes_eq}
use Rattle.std.specs.Prelude.{AllPairs, filter, position}
use Rattle.std.specs.Cmp.Lexicographic.{bytes_decides}
use Rattle.std.specs.Char.{is_ascii_graphic}
use Rattle.std.specs.Int.{is_in_range}
use Rattle.std.specs.List.{list_all, enumerate_from}
use Rattle.std.proofs.lemmas.Bool.{and_parts, false≢true}
use Rattle.std.proofs.lemmas.List.{get_or-map, get_or-take, length-map, length-take-le}
use Rattle.std.proofs.lemmas.List.Elements.{filter-append}
use Rattle.std.proofs.lemmas.List.FromFn.{length-enumerate_from}
use Rattle.toml.specs.Data.{Data, Members, no_members, table}
use Rattle.market_types.specs.Readers.{is_symbol, padded}
use Rattle.market_types.specs.declared.order.Symbol.{Symbol}
use Rattle.exchange_agent.specs.declared.told.StockRules.{StockRules}
use Rattle.study_file.specs.Tables.{is_named}
use Rattle.study_market.specs.StockRules.{stocks, symbols, symbol_in, has_symbol, symbol_broken, repeat_broken}
use Rattle.study_market.specs.Entries.{entry_of}
use Rattle.study_market.specs.Stocks.{stock_of, stock_rules_of}
use Rattle.study_market.proofs.Lists.{position-none, any-fails, each-kept, numbered}

filter-all : (p : ℕ → Bool) (xs : List ℕ) → list_all p xs ≡ true → filter p xs ≡ xs
filter-all p [] h = refl
filter-all p (x ∷ xs) h =
    let parts : (p x ≡ true) × (list_all p xs ≡ true) = and_parts (p x) (list_all p xs) h in
    ap (λ (b : Bool). cond b (x ∷ filter p xs) (filter p xs)) parts.0 ∙ ap (λ (ys : List ℕ). x ∷ ys) (filter-all p xs parts.1)

no-spaces : (n : ℕ) → filter is_ascii_graphic (replicate n 32) ≡ []
no-spaces zero = refl
no-spaces (suc n) = no-spaces n

-- a symbol's visible bytes are its text
visible : (text : List ℕ) → is_symbol text ≡ true → filter is_ascii_graphic (padded 8 text) ≡ text
visible text h =
    let parts : (is_in_range 1 8 (length text) ≡ true) × (list_all is_ascii_graphic text ≡ true) = and_parts (is_in_range 1 8 (length text)) (list_all is_ascii_graphic text) h in
    filter-append is_ascii_graphic text (replicate (8 - length text) 32)
    ∙ ap (λ (ys : List ℕ). filter is_ascii_graphic text ++ ys) (no-spaces (8 - length text))
    ∙ append-nil (filter is_ascii_graphic text)
    ∙ filter-all is_ascii_graphic text parts.1

pub padded-apart : (a b : List ℕ) → is_symbol a ≡ true → is_symbol b ≡ true → padded 8 a ≡ padded 8 b → a ≡ b
padded-apart a b ha hb e = sym (visible a ha) ∙ ap (filter is_ascii_graphic) e ∙ visible b hb

no-entry : Data
no-entry = table no_members

-- no text is one before it
texts-apart : (texts : List (List ℕ)) (i j : ℕ) → position (λ (p : ℕ × List ℕ). is_named (take p.0 texts) p.1) (enumerate_from 0 texts) ≡ None
    → i < j → j < length texts → get_or texts i [] ≡ get_or texts j [] → ⊥
texts-apart texts i j h less within same =
    let e : get_or (enumerate_from 0 texts) j (0, []) ≡ (j, get_or texts j []) = numbered texts j (0, []) within in
    let long : j < length (enumerate_from 0 texts) = omega (arith, within, length-enumerate_from 0 texts) in
    let none = position-none (λ (p : ℕ × List ℕ). is_named (take p.0 texts) p.1) (enumerate_from 0 texts) h j (0, []) long in
    let other : is_named (take j texts) (get_or texts j []) ≡ false = ap (λ (p : ℕ × List ℕ). is_named (take p.0 texts) p.1) (sym e) ∙ none in
    let short : i < length (take j texts) = omega (arith, length-take-le j texts (omega (arith, within)), less) in
    let apart : bytes_eq (get_or (take j texts) i []) (get_or texts j []) ≡ false
    = any-fails (λ (name : List ℕ). bytes_eq name (get_or texts j [])) (take j texts) other i [] short in
    let taken : get_or (take j texts) i [] ≡ get_or texts i [] = get_or-take j texts i [] less in
    let equal : bytes_eq (get_or (take j texts) i []) (get_or texts j []) ≡ true = (bytes_decides (get_or (take j texts) i []) (get_or texts j [])).1 (taken ∙ same) in
    false≢true (sym apart ∙ equal)

pub are-distinct : (t : Members) → symbol_broken t ≡ None → repeat_broken t ≡ None → AllPairs (λ (a b : StockRules). a.symbol ≢ b.symbol) (stock_rules_of t)
are-distinct t known apart = λ i j d less within same.
    let long : j < length (stocks t) = omega (arith, within, length-map (stocks t) (λ (e : Data). stock_of (entry_of e))) in
    let long-i : i < length (stocks t) = omega (arith, long, less) in
    let at-i : get_or (stock_rules_of t) i d ≡ stock_of (entry_of (get_or (stocks t) i no-entry)) = get_or-map (λ (e : Data). stock_of (entry_of e)) (stocks t) i no-entry d long-i in
    let at-j : get_or (stock_rules_of t) j d ≡ stock_of (entry_of (get_or (stocks t) j no-entry)) = get_or-map (λ (e : Data). stock_of (entry_of e)) (stocks t) j no-entry d long in
    let texts : padded 8 (symbol_in (get_or (stocks t) i no-entry)) ≡ padded 8 (symbol_in (get_or (stocks t) j no-entry))
    = ap (λ (r : StockRules). r.symbol.0) (sym at-i) ∙ ap (λ (s : Symbol). s.0) same ∙ ap (λ (r : StockRules). r.symbol.0) at-j in
    let equal : symbol_in (get_or (stocks t) i no-entry) ≡ symbol_in (get_or (stocks t) j no-entry)
    = padded-apart (symbol_in (get_or (stocks t) i no-entry)) (symbol_in (get_or (stocks t) j no-entry))
    (each-kept has_symbol (stocks t) known i no-entry long-i) (each-kept has_symbol (stocks t) known j no-entry long) texts in
    texts-apart (symbols t) i j apart less (omega (arith, long, length-map (stocks t) symbol_in))
    (get_or-map symbol_in (stocks t) i no-entry [] long-i ∙ equal ∙ sym (get_or-map symbol_in (stocks t) j no-entry [] long))
