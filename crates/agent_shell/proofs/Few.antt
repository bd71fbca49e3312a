-- What a trader makes of a quote is little: at most two draws and sixteen orders, each of few shares and soon.
use Rattle.std.proofs.Common.{◌≡◌, ℕ, zero, suc, ◌+◌, ◌*◌, ◌≤◌, ◌<◌, List, [], ◌∷◌, length, refl, inl, inr, arith, All}
use Rattle.std.specs.Prelude.{nat_lt, nat_le, ◌==◌, not, ◌&&◌, sum}
use Rattle.std.proofs.lemmas.Bool.{cases_Bool}
use Rattle.std.proofs.lemmas.List.Elements.{All-cons, All-nil}
use Rattle.std.proofs.Math.Nat.{mul-le-mul}
use Rattle.market_types.specs.declared.message.Quote.{Quote}
use Rattle.market_rules.specs.declared.bands.Band.{Band}
use Rattle.draw_streams.proofs.Words.{below-low, word-low}
use Rattle.agent_shell.specs.declared.setting.Kind.{Kind}
use Rattle.agent_shell.specs.declared.setting.Kind.TheVariants.{Watcher, Noise, Value, Momentum, Maker}
use Rattle.agent_shell.specs.declared.setting.Levels.{Levels}
use Rattle.agent_shell.specs.declared.wish.Wish.{Wish}
use Rattle.agent_shell.specs.Choice.{Choice, has_both, middle}
use Rattle.agent_shell.specs.Decide.{choice_by, choice_of}
use Rattle.agent_shell.specs.Maker.{buy_at, centre_of, levels_from, maker_choice, sell_at}
use Rattle.agent_shell.specs.Momentum.{last_of, momentum_choice, remembered}
use Rattle.agent_shell.specs.Noise.{noise_choice, noise_wish}
use Rattle.agent_shell.specs.Parameters.{IsBetween, IsKind, IsSize, IsHour}
use Rattle.agent_shell.specs.Sight.{Sight}
use Rattle.agent_shell.specs.Sound.{IsTrader}
use Rattle.agent_shell.specs.Trader.{Trader, trader_word}
use Rattle.agent_shell.specs.Value.{value_by}

-- an order of few shares, which leaves within seven hours
pub record IsWish (w : Wish) : Type 0 where
  pub shares : IsBetween 1 999999 w.shares
  pub extra : w.extra ≤ 25200000000000

pub record IsFew (c : Choice) : Type 0 where
  pub draws : c.draws ≤ 2
  pub orders : length c.wishes ≤ 16
  pub each : All IsWish c.wishes

one : (w : Wish) → IsWish w → All IsWish (w ∷ [])
one w is = All-cons IsWish w [] is (All-nil IsWish)

noise-wish : (v : Sight) (q : Quote) (coin shares : ℕ) → IsSize shares → IsWish (noise_wish v q coin shares)
noise-wish v q coin shares size =
    elim (cases_Bool (coin == 0)) [
      | inl heads ↦ rw heads (record { shares = size; extra = omega arith })
      | inr tails ↦ rw tails (record { shares = size; extra = omega arith })
    ]

within : (n size : ℕ) → n < size → IsBetween 1 size (1 + n)
within n size low = record { not_below = omega arith; not_above = omega arith }

picked : (n size : ℕ) → n < size → size ≤ 999999 → IsBetween 1 999999 (1 + n)
picked n size low high = record { not_below = omega arith; not_above = omega arith }

noise-between : (v : Sight) (q : Quote) (coin shares size : ℕ) → IsBetween 1 size shares → IsBetween 1 size (noise_wish v q coin shares).shares
noise-between v q coin shares size is =
    elim (cases_Bool (coin == 0)) [
      | inl heads ↦ rw heads is
      | inr tails ↦ rw tails is
    ]

noise-few : (v : Sight) (t : Trader) (q : Quote) (size : ℕ) → IsSize size → IsFew (noise_choice v t q size)
noise-few v t q size is =
    let low = below-low (trader_word v t (t.draws + 1)) size (word-low v.key t.orders.agent (t.draws + 1)) is.not_below in
    record {
      draws = omega arith;
      orders = omega arith;
      each = one _ (noise-wish v q _ _ (picked _ size low is.not_above));
    }

one-order : (draws : ℕ) (past : List ℕ) (w : Wish) → draws ≤ 2 → IsWish w → IsFew (record { draws = draws; past = past; wishes = w ∷ [] })
one-order draws past w few is = record { draws = few; orders = omega arith; each = one w is }

no-order : (past : List ℕ) → IsFew (record { draws = 0; past = past; wishes = [] })
no-order past = record { draws = omega arith; orders = omega arith; each = All-nil IsWish }

value-few : (v : Sight) (past : List ℕ) (q : Quote) (size margin guess coin : ℕ) → IsSize size → IsFew (value_by v past q size margin guess coin)
value-few v past q size margin guess coin is =
    elim (cases_Bool (not (q.ask == 0) && nat_le (q.ask + margin) guess)) [
      | inl buys ↦ rw buys (one-order 1 past _ (omega arith) (record { shares = is; extra = omega arith }))
      | inr dear ↦ rw dear (elim (cases_Bool (not (q.bid == 0) && nat_le (guess + margin) q.bid)) [
        | inl sells ↦ rw sells (one-order 1 past _ (omega arith) (record { shares = is; extra = omega arith }))
        | inr cheap ↦ rw cheap (elim (cases_Bool (coin == 0)) [
          | inl heads ↦ rw heads (one-order 2 past _ (omega arith) (record { shares = is; extra = omega arith }))
          | inr tails ↦ rw tails (one-order 2 past _ (omega arith) (record { shares = is; extra = omega arith }))
        ])
      ])
    ]

momentum-few : (t : Trader) (q : Quote) (size short long : ℕ) → IsSize size → IsFew (momentum_choice t q size short long)
momentum-few t q size short long is =
    let past = remembered long (middle q) t.past in
    elim (cases_Bool (has_both q)) [
      | inl both ↦ rw both (elim (cases_Bool (nat_lt (length past) long)) [
        | inl early ↦ rw early (no-order past)
        | inr full ↦ rw full (elim (cases_Bool (nat_lt (sum past * short) (sum (last_of short past) * long))) [
          | inl rises ↦ rw rises (one-order 0 past _ (omega arith) (record { shares = is; extra = omega arith }))
          | inr not_up ↦ rw not_up (elim (cases_Bool (nat_lt (sum (last_of short past) * long) (sum past * short))) [
            | inl falls ↦ rw falls (one-order 0 past _ (omega arith) (record { shares = is; extra = omega arith }))
            | inr still ↦ rw still (no-order past)
          ])
        ])
      ])
      | inr absent ↦ rw absent (no-order t.past)
    ]

levels-length : (m : Levels) (bands : List Band) (centre i n : ℕ) → length (levels_from m bands centre i n) ≡ 2 * n
levels-length m bands centre i zero = refl
levels-length m bands centre i (suc n) = omega (arith, levels-length m bands centre (suc i) n)

levels-each : (m : Levels) (bands : List Band) (centre i n : ℕ) → IsSize m.size → IsHour m.pause → i + n ≤ 8 → All IsWish (levels_from m bands centre i n)
levels-each m bands centre i zero size pause high = All-nil IsWish
levels-each m bands centre i (suc n) size pause high =
    let far : i ≤ 7 = omega arith in
    let late : i * m.pause ≤ 7 * 3600000000000 = mul-le-mul far pause in
    let rest = levels_from m bands centre (suc i) n in
    let buy : IsWish (buy_at m bands centre i) = record { shares = size; extra = omega arith } in
    let sell : IsWish (sell_at m bands centre i) = record { shares = size; extra = omega arith } in
    All-cons IsWish (buy_at m bands centre i) (sell_at m bands centre i ∷ rest) buy
    (All-cons IsWish (sell_at m bands centre i) rest sell (levels-each m bands centre (suc i) n size pause (omega arith)))

maker-few : (v : Sight) (t : Trader) (q : Quote) (levels : ℕ) (m : Levels) → IsSize m.size → IsHour m.pause → levels ≤ 8 → IsFew (maker_choice v t q levels m)
maker-few v t q levels m size pause high = record {
  draws = omega arith;
  orders = omega (arith, levels-length m v.bands (centre_of q v.value) 0 levels);
  each = levels-each m v.bands (centre_of q v.value) 0 levels size pause (omega arith);
}

by-few : (kind : Kind) (v : Sight) (t : Trader) (q : Quote) → IsKind kind → IsFew (choice_by kind v t q)
by-few Watcher v t q is = no-order t.past
by-few (Noise size) v t q is = noise-few v t q size is
by-few (Value size noise margin) v t q is = value-few v t.past q size margin _ _ is.0
by-few (Momentum size short long) v t q is = momentum-few t q size short long is.0
by-few (Maker size half step levels pause) v t q is = maker-few v t q levels _ is.0 is.4 is.3.not_above

pub choice-few : (v : Sight) (t : Trader) (q : Quote) → IsTrader t → IsFew (choice_of v t q)
choice-few v t q sound = by-few t.setting.kind v t q sound.setting.kind

pub noise-shares : (v : Sight) (t : Trader) (q : Quote) (size : ℕ) → 1 ≤ size → All (λ (w : Wish). IsBetween 1 size w.shares) (noise_choice v t q size).wishes
noise-shares v t q size some =
    let P : Wish → Type 0 = λ w. IsBetween 1 size w.shares in
    let low = below-low (trader_word v t (t.draws + 1)) size (word-low v.key t.orders.agent (t.draws + 1)) some in
    All-cons P _ [] (noise-between v q _ _ size (within _ size low)) (All-nil P)
