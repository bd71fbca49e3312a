use Rattle.std.proofs.Common.{◌<◌, ℕ, length, get_or, option_map}
use Rattle.price_time_book.specs.declared.levels.Level.{Level}
use Rattle.price_time_book.specs.declared.lowering.First.{First}
use Rattle.price_time_book.specs.Indexed.{IsOpenAt, key, nothing, open_orders}
use Rattle.price_time_book.specs.Queues.{hidden_of, shown_of}
use Rattle.price_time_book.proofs.Takes.{no_level}
use Rattle.price_time_book.proofs.Sides.{first_by_queues, from_either, from_one, if_some}
use Rattle.price_time_book.proofs.lowering.first_on.Goals as goal

-- what stands open at a place stands in the vector
pub earlier-requires-clause-shown : goal.earlier-requires-clause-shown
earlier-requires-clause-shown c =
    let os = c.args.orders.now in
    let ls = c.first_in-before.new.levels.items in
    if_some (λ (p : ℕ × ℕ). (d : Level) → IsOpenAt os (key (shown_of c.args.side) (get_or ls p.0 d).price) p.1) (λ (p : ℕ × ℕ). p.1 < length os) c.first_in-before.result (λ p f. (f no_level).within) c.first_in-before.ensures.placed

pub earlier-requires-clause-hidden : goal.earlier-requires-clause-hidden
earlier-requires-clause-hidden c =
    let os = c.args.orders.now in
    let ls = c.first_in-behind.new.levels.items in
    if_some (λ (p : ℕ × ℕ). (d : Level) → IsOpenAt os (key (hidden_of c.args.side) (get_or ls p.0 d).price) p.1) (λ (p : ℕ × ℕ). p.1 < length os) c.first_in-behind.result (λ p f. (f no_level).within) c.first_in-behind.ensures.placed

pub returns-clause-first : goal.returns-clause-first
returns-clause-first c =
    let os = c.args.orders.now in
    first_by_queues c.args.side (open_orders os) (option_map (λ (p : ℕ × ℕ). get_or os p.1 nothing) c.first_in-before.result) (option_map (λ (p : ℕ × ℕ). get_or os p.1 nothing) c.first_in-behind.result) (option_map (λ (f : First). get_or os f.place nothing) c.earlier.result)
    c.first_in-before.ensures.first c.first_in-behind.ensures.first c.earlier.ensures.first

pub returns-clause-shown_level : goal.returns-clause-shown_level
returns-clause-shown_level c = from_one (λ (p : ℕ × ℕ). p.0 < length c.first_in-before.new.levels.items) _ c.earlier.result c.first_in-before.result c.earlier.ensures.shown c.first_in-before.ensures.level

pub returns-clause-hidden_level : goal.returns-clause-hidden_level
returns-clause-hidden_level c = from_one (λ (p : ℕ × ℕ). p.0 < length c.first_in-behind.new.levels.items) _ c.earlier.result c.first_in-behind.result c.earlier.ensures.hidden c.first_in-behind.ensures.level

pub returns-clause-shown_placed : goal.returns-clause-shown_placed
returns-clause-shown_placed c =
    let os = c.args.orders.now in
    let ls = c.first_in-before.new.levels.items in
    from_one (λ (p : ℕ × ℕ). (d : Level) → IsOpenAt os (key (shown_of c.args.side) (get_or ls p.0 d).price) p.1) _ c.earlier.result c.first_in-before.result c.earlier.ensures.shown c.first_in-before.ensures.placed

pub returns-clause-hidden_placed : goal.returns-clause-hidden_placed
returns-clause-hidden_placed c =
    let os = c.args.orders.now in
    let ls = c.first_in-behind.new.levels.items in
    from_one (λ (p : ℕ × ℕ). (d : Level) → IsOpenAt os (key (hidden_of c.args.side) (get_or ls p.0 d).price) p.1) _ c.earlier.result c.first_in-behind.result c.earlier.ensures.hidden c.first_in-behind.ensures.placed

pub returns-clause-within : goal.returns-clause-within
returns-clause-within c =
    let os = c.args.orders.now in
    let ls = c.first_in-before.new.levels.items in
    let ms = c.first_in-behind.new.levels.items in
    let before = if_some (λ (p : ℕ × ℕ). (d : Level) → IsOpenAt os (key (shown_of c.args.side) (get_or ls p.0 d).price) p.1) (λ (p : ℕ × ℕ). p.1 < length os) c.first_in-before.result (λ p f. (f no_level).within) c.first_in-before.ensures.placed in
    let behind = if_some (λ (p : ℕ × ℕ). (d : Level) → IsOpenAt os (key (hidden_of c.args.side) (get_or ms p.0 d).price) p.1) (λ (p : ℕ × ℕ). p.1 < length os) c.first_in-behind.result (λ p f. (f no_level).within) c.first_in-behind.ensures.placed in
    from_either (λ (f : First). f.place < length os) c.earlier.result (from_one (λ (p : ℕ × ℕ). p.1 < length os) _ c.earlier.result c.first_in-before.result c.earlier.ensures.shown before) (from_one (λ (p : ℕ × ℕ). p.1 < length os) _ c.earlier.result c.first_in-behind.result c.earlier.ensures.hidden behind)
