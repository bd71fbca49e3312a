use Rattle.std.proofs.Common.{◌≡◌, ◌∙◌, ◌++◌, ◌∷◌, [], Option, map, unwrap_or, ap, rules}
use Rattle.toml.specs.Data.{Members, no_members}
use Rattle.toml.specs.View.{view, table_view}
use Rattle.market_rules.specs.declared.changes.Dated.{Dated}
use Rattle.study_market.specs.StockRules.{symbol_in}
use Rattle.study_market.specs.Entries.{entry_of}
use Rattle.study_market.specs.Changes.{dated_of}
use Rattle.study_market.proofs.change_parts.ChangeReadingEntryReading.read.Goals as goal

pub returns-in_ok-push-in-Ok-clause-said : goal.returns-in_ok-push-in-Ok-clause-said
returns-in_ok-push-in-Ok-clause-said c = λ none.
    let known = map symbol_in (map view c.args.self.now.stocks.now) in
    let said = rw c.in-Ok.is at c.in_ok-dated.ensures.said in
    let same : table_view c.in-Some.table.now ≡ entry_of (view c.args.entry.now)
    = ap (λ (o : Option Members). unwrap_or o no_members) c.in-Some.ensures in
    c.in_ok-push-in-Ok.ensures.items ∙ ap (λ (d : Dated). c.args.list.now.items ++ d ∷ []) (said ∙ ap (dated_of known) same)
