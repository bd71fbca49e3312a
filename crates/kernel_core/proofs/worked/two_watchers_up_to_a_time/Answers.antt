use Rattle.std.proofs.Common.{◌≡◌, ℕ, true, false, [], ◌∷◌, Some, refl, sym, ◌∙◌}
use Rattle.rand_core.specs.Steps.{u32_at}
use Rattle.rand_chacha.specs.Block.{block_word, column_round, diagonal_round, double_rounds, quarter_round}
use Rattle.market_types.specs.declared.entry.End.TheVariants.{Closed}
use Rattle.market_floor.specs.declared.opening.Opening.{Opening}
use Rattle.market_floor.specs.OpeningWorked.{market, watcher}
use Rattle.market_floor.specs.Reaction.{reaction}
use Rattle.market_floor.specs.Ruled.{ruled}
use Rattle.kernel_core.specs.Due.{due_by, until_time}
use Rattle.kernel_core.specs.Step.{end_of, event_of}
use Rattle.kernel_core.specs.Until.{Run, advanced, advanced_by}
use Rattle.kernel_core.specs.Worked.{full_run, opening_run}
use Rattle.kernel_core.proofs.Runs.{advanced_by_ended}
use Rattle.kernel_core.proofs.Times.{due_first, over_by}
use Rattle.kernel_core.proofs.worked.two_watchers_up_to_a_time.Goals as goal

-- the market of the two watchers, and its run after so many events
abbrev two : Opening
two = market 1005 0 (watcher 1000 ∷ watcher 1000 ∷ [])

abbrev ran : ℕ → Run
ran n = advanced_by n two (opening_run two)

-- four events are due, and then the market is closed
due-once : due_by two 5000 (ran 0).state ≡ true
unfolding event_of advanced reaction ruled u32_at block_word double_rounds column_round diagonal_round quarter_round
due-once = refl

due-twice : due_by two 5000 (ran 1).state ≡ true
unfolding event_of advanced reaction ruled u32_at block_word double_rounds column_round diagonal_round quarter_round
due-twice = refl

due-thrice : due_by two 5000 (ran 2).state ≡ true
unfolding event_of advanced reaction ruled u32_at block_word double_rounds column_round diagonal_round quarter_round
due-thrice = refl

due-last : due_by two 5000 (ran 3).state ≡ true
unfolding event_of advanced reaction ruled u32_at block_word double_rounds column_round diagonal_round quarter_round
due-last = refl

none-due : due_by two 5000 (ran 4).state ≡ false
unfolding event_of advanced reaction ruled u32_at block_word double_rounds column_round diagonal_round quarter_round
none-due = refl

is-closed : end_of two (ran 4).state ≡ Some Closed
unfolding event_of advanced reaction ruled u32_at block_word double_rounds column_round diagonal_round quarter_round
is-closed = refl

closed-run : until_time two 5000 100 (opening_run two) ≡ full_run two
closed-run =
    due_first 99 two 5000 (ran 0) due-once
    ∙ due_first 98 two 5000 (ran 1) due-twice
    ∙ due_first 97 two 5000 (ran 2) due-thrice
    ∙ due_first 96 two 5000 (ran 3) due-last
    ∙ over_by 96 two 5000 (ran 4) none-due
    ∙ sym (advanced_by_ended 96 two (ran 4) Closed is-closed)

pub returns-clause-before : goal.returns-clause-before
unfolding event_of advanced reaction ruled u32_at block_word double_rounds column_round diagonal_round quarter_round
returns-clause-before c = refl

pub returns-clause-due : goal.returns-clause-due
unfolding event_of advanced reaction ruled u32_at block_word double_rounds column_round diagonal_round quarter_round
returns-clause-due c = refl

pub returns-clause-none : goal.returns-clause-none
unfolding event_of advanced reaction ruled u32_at block_word double_rounds column_round diagonal_round quarter_round
returns-clause-none c = refl

pub returns-clause-both : goal.returns-clause-both
unfolding event_of advanced reaction ruled u32_at block_word double_rounds column_round diagonal_round quarter_round
returns-clause-both c = refl

pub returns-clause-between : goal.returns-clause-between
unfolding event_of advanced reaction ruled u32_at block_word double_rounds column_round diagonal_round quarter_round
returns-clause-between c = refl

pub returns-clause-most : goal.returns-clause-most
unfolding event_of advanced reaction ruled u32_at block_word double_rounds column_round diagonal_round quarter_round
returns-clause-most c = refl

pub returns-clause-over : goal.returns-clause-over
unfolding event_of advanced reaction ruled u32_at block_word double_rounds column_round diagonal_round quarter_round
returns-clause-over c = refl

pub returns-clause-closed : goal.returns-clause-closed
returns-clause-closed c = closed-run
