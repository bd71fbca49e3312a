use Rattle.std.proofs.Common.{◌∙◌, sym, ap}
use Rattle.toml.specs.View.{table_view}
use Rattle.study_market.specs.EntryTests.{broken_at}
use Rattle.study_market.specs.FirstBroken.{market_rules}
use Rattle.study_market.proofs.EntryOrder.{all_kept, broken_after, told}
use Rattle.study_market.proofs.Judging.{if-ok, if-err}
use Rattle.study_market.proofs.early_refusal.keep_market_rules.Goals as goal

pub returns-in_err-unbroken-clause-refused : goal.returns-in_err-unbroken-clause-refused
returns-in_err-unbroken-clause-refused c =
    told c.from_residual.result c.in_err-unbroken.field-0.0 _ c.from_residual.ensures (λ p same. broken_after 0 market_rules (table_view c.args.table.now) p
    (ap (broken_at 1) (sym c.top_keys_broken.ensures) ∙ c.in_err-unbroken.ensures.refused p same))

pub returns-in_err-unbroken-2-clause-refused : goal.returns-in_err-unbroken-2-clause-refused
returns-in_err-unbroken-2-clause-refused c =
    told c.from_residual-in_err-unbroken-2.result c.in_err-unbroken-2.field-0.0 _ c.from_residual-in_err-unbroken-2.ensures (λ p same. broken_after 1 market_rules (table_view c.args.table.now) p (
      sym c.top_keys_broken.ensures ∙ c.in_ok-unbroken.ensures.kept,
      ap (broken_at 2) (sym c.version_broken.ensures) ∙ c.in_err-unbroken-2.ensures.refused p same,
    ))

pub returns-in_err-unbroken-3-clause-refused : goal.returns-in_err-unbroken-3-clause-refused
returns-in_err-unbroken-3-clause-refused c =
    told c.from_residual-in_err-unbroken-3.result c.in_err-unbroken-3.field-0.0 _ c.from_residual-in_err-unbroken-3.ensures (λ p same. broken_after 2 market_rules (table_view c.args.table.now) p (
      sym c.top_keys_broken.ensures ∙ c.in_ok-unbroken.ensures.kept,
      (
        sym c.version_broken.ensures ∙ c.in_ok-unbroken-2.ensures.kept,
        ap (broken_at 3) (sym c.key_broken.ensures) ∙ c.in_err-unbroken-3.ensures.refused p same,
      ),
    ))

pub returns-in_err-unbroken-4-clause-refused : goal.returns-in_err-unbroken-4-clause-refused
returns-in_err-unbroken-4-clause-refused c =
    told c.from_residual-in_err-unbroken-4.result c.in_err-unbroken-4.field-0.0 _ c.from_residual-in_err-unbroken-4.ensures (λ p same. broken_after 3 market_rules (table_view c.args.table.now) p (
      sym c.top_keys_broken.ensures ∙ c.in_ok-unbroken.ensures.kept,
      (
        sym c.version_broken.ensures ∙ c.in_ok-unbroken-2.ensures.kept,
        (
          sym c.key_broken.ensures ∙ c.in_ok-unbroken-3.ensures.kept,
          ap (broken_at 4) (sym c.day_broken.ensures) ∙ c.in_err-unbroken-4.ensures.refused p same,
        ),
      ),
    ))

pub returns-in_err-unbroken-5-clause-refused : goal.returns-in_err-unbroken-5-clause-refused
returns-in_err-unbroken-5-clause-refused c =
    told c.from_residual-in_err-unbroken-5.result c.in_err-unbroken-5.field-0.0 _ c.from_residual-in_err-unbroken-5.ensures (λ p same. broken_after 4 market_rules (table_view c.args.table.now) p (
      sym c.top_keys_broken.ensures ∙ c.in_ok-unbroken.ensures.kept,
      (
        sym c.version_broken.ensures ∙ c.in_ok-unbroken-2.ensures.kept,
        (
          sym c.key_broken.ensures ∙ c.in_ok-unbroken-3.ensures.kept,
          (
            sym c.day_broken.ensures ∙ c.in_ok-unbroken-4.ensures.kept,
            ap (broken_at 5) (sym c.limits_broken.ensures) ∙ c.in_err-unbroken-5.ensures.refused p same,
          ),
        ),
      ),
    ))

pub returns-in_err-unbroken-6-clause-refused : goal.returns-in_err-unbroken-6-clause-refused
returns-in_err-unbroken-6-clause-refused c =
    told c.from_residual-in_err-unbroken-6.result c.in_err-unbroken-6.field-0.0 _ c.from_residual-in_err-unbroken-6.ensures (λ p same. broken_after 5 market_rules (table_view c.args.table.now) p (
      sym c.top_keys_broken.ensures ∙ c.in_ok-unbroken.ensures.kept,
      (
        sym c.version_broken.ensures ∙ c.in_ok-unbroken-2.ensures.kept,
        (
          sym c.key_broken.ensures ∙ c.in_ok-unbroken-3.ensures.kept,
          (
            sym c.day_broken.ensures ∙ c.in_ok-unbroken-4.ensures.kept,
            (
              sym c.limits_broken.ensures ∙ c.in_ok-unbroken-5.ensures.kept,
              ap (broken_at 6) (sym c.parts_broken.ensures) ∙ c.in_err-unbroken-6.ensures.refused p same,
            ),
          ),
        ),
      ),
    ))

pub returns-in_err-unbroken-7-clause-refused : goal.returns-in_err-unbroken-7-clause-refused
returns-in_err-unbroken-7-clause-refused c =
    told c.from_residual-in_err-unbroken-7.result c.in_err-unbroken-7.field-0.0 _ c.from_residual-in_err-unbroken-7.ensures (λ p same. broken_after 6 market_rules (table_view c.args.table.now) p (
      sym c.top_keys_broken.ensures ∙ c.in_ok-unbroken.ensures.kept,
      (
        sym c.version_broken.ensures ∙ c.in_ok-unbroken-2.ensures.kept,
        (
          sym c.key_broken.ensures ∙ c.in_ok-unbroken-3.ensures.kept,
          (
            sym c.day_broken.ensures ∙ c.in_ok-unbroken-4.ensures.kept,
            (
              sym c.limits_broken.ensures ∙ c.in_ok-unbroken-5.ensures.kept,
              (
                sym c.parts_broken.ensures ∙ c.in_ok-unbroken-6.ensures.kept,
                ap (broken_at 7) (sym c.squares_broken.ensures) ∙ c.in_err-unbroken-7.ensures.refused p same,
              ),
            ),
          ),
        ),
      ),
    ))

pub returns-in_err-unbroken-8-clause-refused : goal.returns-in_err-unbroken-8-clause-refused
returns-in_err-unbroken-8-clause-refused c =
    told c.from_residual-in_err-unbroken-8.result c.in_err-unbroken-8.field-0.0 _ c.from_residual-in_err-unbroken-8.ensures (λ p same. broken_after 7 market_rules (table_view c.args.table.now) p (
      sym c.top_keys_broken.ensures ∙ c.in_ok-unbroken.ensures.kept,
      (
        sym c.version_broken.ensures ∙ c.in_ok-unbroken-2.ensures.kept,
        (
          sym c.key_broken.ensures ∙ c.in_ok-unbroken-3.ensures.kept,
          (
            sym c.day_broken.ensures ∙ c.in_ok-unbroken-4.ensures.kept,
            (
              sym c.limits_broken.ensures ∙ c.in_ok-unbroken-5.ensures.kept,
              (
                sym c.parts_broken.ensures ∙ c.in_ok-unbroken-6.ensures.kept,
                (
                  sym c.squares_broken.ensures ∙ c.in_ok-unbroken-7.ensures.kept,
                  ap (broken_at 8) (sym c.cells_broken.ensures) ∙ c.in_err-unbroken-8.ensures.refused p same,
                ),
              ),
            ),
          ),
        ),
      ),
    ))

pub returns-clause-kept : goal.returns-clause-kept
returns-clause-kept c =
    if-ok c.unbroken-9.result _ _ (λ a none. all_kept market_rules (table_view c.args.table.now) (
      sym c.top_keys_broken.ensures ∙ c.in_ok-unbroken.ensures.kept,
      (
        sym c.version_broken.ensures ∙ c.in_ok-unbroken-2.ensures.kept,
        (
          sym c.key_broken.ensures ∙ c.in_ok-unbroken-3.ensures.kept,
          (
            sym c.day_broken.ensures ∙ c.in_ok-unbroken-4.ensures.kept,
            (
              sym c.limits_broken.ensures ∙ c.in_ok-unbroken-5.ensures.kept,
              (
                sym c.parts_broken.ensures ∙ c.in_ok-unbroken-6.ensures.kept,
                (
                  sym c.squares_broken.ensures ∙ c.in_ok-unbroken-7.ensures.kept,
                  (
                    sym c.cells_broken.ensures ∙ c.in_ok-unbroken-8.ensures.kept,
                    (sym c.exchange_broken.ensures ∙ none, tt),
                  ),
                ),
              ),
            ),
          ),
        ),
      ),
    )) c.unbroken-9.ensures.kept

pub returns-clause-refused : goal.returns-clause-refused
returns-clause-refused c =
    if-err c.unbroken-9.result _ _ (λ e said p same. broken_after 8 market_rules (table_view c.args.table.now) p (
      sym c.top_keys_broken.ensures ∙ c.in_ok-unbroken.ensures.kept,
      (
        sym c.version_broken.ensures ∙ c.in_ok-unbroken-2.ensures.kept,
        (
          sym c.key_broken.ensures ∙ c.in_ok-unbroken-3.ensures.kept,
          (
            sym c.day_broken.ensures ∙ c.in_ok-unbroken-4.ensures.kept,
            (
              sym c.limits_broken.ensures ∙ c.in_ok-unbroken-5.ensures.kept,
              (
                sym c.parts_broken.ensures ∙ c.in_ok-unbroken-6.ensures.kept,
                (
                  sym c.squares_broken.ensures ∙ c.in_ok-unbroken-7.ensures.kept,
                  (
                    sym c.cells_broken.ensures ∙ c.in_ok-unbroken-8.ensures.kept,
                    ap (broken_at 9) (sym c.exchange_broken.ensures) ∙ said p same,
                  ),
                ),
              ),
            ),
          ),
        ),
      ),
    )) c.unbroken-9.ensures.refused
