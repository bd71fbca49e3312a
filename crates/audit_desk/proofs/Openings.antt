-- The feed of an opening stands as reading wants it.
use Rattle.std.proofs.Common.{◌≡◌, ◌∙◌, ℕ, zero, suc, ◌+◌, ◌<◌, ◌≤◌, ◌==◌, true, false, ◌&&◌, List, [], ◌∷◌, ◌++◌, length, refl, ap, subst, sym, arith}
use Rattle.std.proofs.lemmas.Bool.{and_parts, le-leb, lt-leb, ne_eqb}
use Rattle.std.proofs.lemmas.List.{length-append, length_push}
use Rattle.market_types.specs.declared.feed.Feed.{Feed}
use Rattle.market_types.specs.declared.feed.What.{What}
use Rattle.market_floor.specs.declared.opening.Opening.{Opening}
use Rattle.trace_bundle.specs.Feed.{directories, directory, opening_feed, symbol_at, trading, tradings}
use Rattle.bundle_reader.specs.Order.{opens, is_directory, is_trading}
use Rattle.bundle_reader.specs.Bundle.{IsOpening, stand}

stand-append : (s at : ℕ) (xs ys : List Feed) → stand s at xs ≡ true → stand s (at + length xs) ys ≡ true → stand s at (xs ++ ys) ≡ true
stand-append s at [] ys h k = let e : at + length {A = Feed} [] ≡ at = omega arith in subst (λ n. stand s n ys ≡ true) e k
stand-append s at (x ∷ xs) ys h k =
    let parts = and_parts (opens s at x.what) (stand s (at + 1) xs) h in
    let e : at + length (x ∷ xs) ≡ at + 1 + length xs = omega arith in
    ap (λ t. t && stand s (at + 1) (xs ++ ys)) parts.0
    ∙ stand-append s (at + 1) xs ys parts.1 (subst (λ n. stand s n ys ≡ true) e k)

after-first : (at : ℕ) → 1 ≤ at → (at == 0) ≡ false
after-first at h = ne_eqb at 0 (λ e. absurd (omega (arith, e, h)))

opens-directory : (s at : ℕ) (w : What) → 1 ≤ at → at ≤ s → is_directory w ≡ true → opens s at w ≡ true
opens-directory s at w first le h = rw (after-first at first) (rw (le-leb at s le) h)

opens-trading : (s at : ℕ) (w : What) → s < at → is_trading w ≡ true → opens s at w ≡ true
opens-trading s at w past h = rw (after-first at (omega (arith, past))) (rw (lt-leb at s past) h)

one-stands : (s at : ℕ) (m : Feed) → opens s at m.what ≡ true → stand s at (m ∷ []) ≡ true
one-stands s at m h = ap (λ t. t && true) h

length-directories : (o : Opening) (n : ℕ) → length (directories o n) ≡ n
length-directories o zero = refl
length-directories o (suc n) = omega (arith, length_push (directories o n) (directory o.start n (symbol_at o n)), length-directories o n)

length-tradings : (o : Opening) (n : ℕ) → length (tradings o n) ≡ n
length-tradings o zero = refl
length-tradings o (suc n) = omega (arith, length_push (tradings o n) (trading o.start n (symbol_at o n)), length-tradings o n)

directories-stand : (o : Opening) (s n : ℕ) → n ≤ s → stand s 1 (directories o n) ≡ true
directories-stand o s zero le = refl
directories-stand o s (suc n) le =
    let at = 1 + length (directories o n) in
    let long = length-directories o n in
    stand-append s 1 (directories o n) (directory o.start n (symbol_at o n) ∷ []) (directories-stand o s n (omega (arith, le)))
    (one-stands s at (directory o.start n (symbol_at o n)) (opens-directory s at (directory o.start n (symbol_at o n)).what (omega arith) (omega (arith, long, le)) refl))

tradings-stand : (o : Opening) (s n : ℕ) → stand s (1 + s) (tradings o n) ≡ true
tradings-stand o s zero = refl
tradings-stand o s (suc n) =
    let at = 1 + s + length (tradings o n) in
    stand-append s (1 + s) (tradings o n) (trading o.start n (symbol_at o n) ∷ []) (tradings-stand o s n)
    (one-stands s at (trading o.start n (symbol_at o n)) (opens-trading s at (trading o.start n (symbol_at o n)).what (omega arith) refl))

-- the opening of any course
pub opening-is : (o : Opening) → IsOpening (length o.stocks) (opening_feed o)
opening-is o =
    let n = length o.stocks in
    let ds = directories o n in
    let ts = tradings o n in
    let long : 1 + length ds ≡ 1 + n = omega (arith, length-directories o n) in
    record {
      count = omega (arith, length-append ds ts, length-directories o n, length-tradings o n);
      order = stand-append n 1 ds ts (directories-stand o n n (omega arith)) (subst (λ k. stand n k ts ≡ true) (sym long) (tradings-stand o n n));
    }
