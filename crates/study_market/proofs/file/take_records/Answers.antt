use Rattle.std.proofs.Common.{Bor, Bool, List, ℕ, Option, Some, None, Err, ◌≡◌, ◌∙◌, ◌∷◌, ◌++◌, [], sym, ap, subst, refl, inl, map, append-nil, append_assoc, if◌then◌else◌, arith}
use Rattle.toml.specs.View.{view}
use Rattle.csv.specs.Reading.{ReadRecord, Reached, default_config, records_from, strip_bom}
use Rattle.csv.specs.Records.{fields_of}
use Rattle.csv.specs.declared.parser.State.TheVariants as st
use Rattle.csv.proofs.ReadFacts.{rows-end, rows-more}
use Rattle.study_market.specs.Records.{records_of}
use Rattle.study_market.specs.Rows.{after_record, rows_from}
use Rattle.study_market.proofs.OneByOne.{taken, low-taken, refused, same_refusal}
use Rattle.study_market.proofs.Whole.{split, whole}
use Rattle.study_market.proofs.file.take_records.Goals as goal

pub records-init : goal.records-init
unfolding Reached
records-init c = (
  omega arith,
  c.requires.untrimmed,
  c.requires.flexible,
  c.requires.ready,
  c.requires.config,
  c.requires.length,
  λ text same. (strip_bom text, same, [], (sym c.requires.state, refl), λ rest. refl),
)

pub records-preserved : goal.records-preserved
records-preserved c =
    let (low, trim, flexible, ready, config, lengths, before) = c.records.invariant in
    let rem : Bor (List ℕ) → Option (List ℕ) = λ s. Some s.now in
    let fields = fields_of c.next_record.new.line in
    let read = subst (λ (found : Bool). ReadRecord rem c.records.reader c.next_record.new.reader found fields) c.if-not-found.false c.in-Ok.ensures.reads in
    let stocks = map view c.args.stocks.now in
    let step : after_record stocks c.records.number c.records.tables fields ≡ Some c.take_record.new.tables
    = c.in-Ok-take_record.ensures.taken ∙ ap (λ (b : Bool). if b then Some c.take_record.new.tables else None) c.if-not-taken.false in (
      low-taken stocks c.records.number c.records.tables c.take_record.new.tables fields step,
      read.3 ∙ trim,
      c.in-Ok.ensures.flexible,
      inl c.in-Ok.ensures.ready,
      read.2 ∙ config,
      c.take_record.ensures.length ∙ lengths,
      λ text same.
          let (y, source, done, reached, none) = before text same in
          let more = rows-more rem c.records.reader c.next_record.new.reader fields default_config st.StartRecord (strip_bom text) y done config source reached read in (
            more.0,
            more.1,
            done ++ fields ∷ [],
            more.2,
            λ rest. ap (rows_from stocks 0 c.args.tables.now) (append_assoc done (fields ∷ []) rest) ∙ none (fields ∷ rest)
                ∙ taken stocks c.records.number c.records.tables c.take_record.new.tables fields rest step,
          ),
    )

pub returns-then-not-found-clause-rows : goal.returns-then-not-found-clause-rows
returns-then-not-found-clause-rows c text same =
    let (low, trim, flexible, ready, config, lengths, before) = c.records.invariant in
    let (y, source, done, reached, none) = before text same in
    let rem : Bor (List ℕ) → Option (List ℕ) = λ s. Some s.now in
    let fields = fields_of c.next_record.new.line in
    let read = subst (λ (found : Bool). ReadRecord rem c.records.reader c.next_record.new.reader found fields) c.if-not-found.true c.in-Ok.ensures.reads in
    let all : done ≡ records_of text = whole default_config (strip_bom text) y c.records.reader.state done reached
    (rows-end rem c.records.reader c.next_record.new.reader fields default_config y config source read) in
    ap (rows_from (map view c.args.stocks.now) 0 c.args.tables.now) (sym all ∙ sym (append-nil done)) ∙ none []

pub returns-then-not-taken-clause-refused : goal.returns-then-not-taken-clause-refused
returns-then-not-taken-clause-refused c n e text same =
    let (low, trim, flexible, ready, config, lengths, before) = c.records.invariant in
    let (y, source, done, reached, none) = before text same in
    let rem : Bor (List ℕ) → Option (List ℕ) = λ s. Some s.now in
    let fields = fields_of c.next_record.new.line in
    let read = subst (λ (found : Bool). ReadRecord rem c.records.reader c.next_record.new.reader found fields) c.if-not-found.false c.in-Ok.ensures.reads in
    let more = rows-more rem c.records.reader c.next_record.new.reader fields default_config st.StartRecord (strip_bom text) y done config source reached read in
    let stocks = map view c.args.stocks.now in
    let stop : after_record stocks c.records.number c.records.tables fields ≡ None
    = c.in-Ok-take_record.ensures.taken ∙ ap (λ (b : Bool). if b then Some c.take_record.new.tables else None) c.if-not-taken.true in
    let parts = split default_config (strip_bom text) more.0 c.next_record.new.reader.state (done ++ fields ∷ []) more.2 in
    let after = records_from default_config parts.0 c.next_record.new.reader.state more.0 in
    ap (rows_from stocks 0 c.args.tables.now) (parts.3 ∙ append_assoc done (fields ∷ []) after) ∙ none (fields ∷ after)
    ∙ refused stocks c.records.number c.records.tables fields after stop
    ∙ ap Err (same_refusal c.records.number n e)
