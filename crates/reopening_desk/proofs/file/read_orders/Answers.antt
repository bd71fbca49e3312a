use Rattle.std.proofs.Common.{Bor, Bool, List, ℕ, Option, Result, Some, None, Ok, Err, ◌≡◌, ◌∙◌, ◌∷◌, ◌++◌, [], sym, ap, subst, refl, inl, inr, append-nil, append_assoc, IfOk, IfErr, option_map, if◌then◌else◌, arith}
use Rattle.std.proofs.lemmas.Result.{IfOk-weaker}
use Rattle.csv.specs.Reading.{ReadRecord, Reached, builder_config, builder_is_flexible, builder_names_headers, builder_trim, default_config, records_from, strip_bom}
use Rattle.csv.specs.Records.{fields_of}
use Rattle.csv.specs.declared.parser.State.TheVariants as st
use Rattle.csv.proofs.ReadFacts.{rows-end, rows-more}
use Rattle.reopen_cross.specs.declared.cross.Interest.{Interest}
use Rattle.reopening_desk.specs.declared.file.OrdersError.{OrdersError}
use Rattle.reopening_desk.specs.declared.file.OrdersError.TheVariants.{Refused}
use Rattle.study_market.specs.Records.{records_of}
use Rattle.reopening_desk.specs.Orders.{at_end, before, orders_from, orders_of, said_by}
use Rattle.reopening_desk.proofs.Filed.{file-says}
use Rattle.reopening_desk.proofs.OneByOne.{low-taken, nothing-before, refused, same-refusal, taken}
use Rattle.study_market.proofs.Whole.{split, whole}
use Rattle.reopening_desk.proofs.file.read_orders.Goals as goal

pub records-init : goal.records-init
unfolding Reached
records-init c =
    let from = c.from_reader-reader.ensures in
    let trim = from.trim ∙ ap builder_trim c.flexible.ensures ∙ ap builder_trim c.has_headers.ensures ∙ c.new.ensures.trim in
    let named = from.has_headers ∙ ap builder_names_headers c.flexible.ensures ∙ ap builder_names_headers c.has_headers.ensures in
    let flexible = from.flexible ∙ ap builder_is_flexible c.flexible.ensures in
    let config = from.config ∙ ap builder_config c.flexible.ensures ∙ ap builder_config c.has_headers.ensures ∙ c.new.ensures.config in
    let none : c.new-orders.result.items ≡ [] = search c.new-orders.ensures in (
      omega arith,
      trim,
      flexible,
      inr (inr (named, from.headers)),
      config,
      strip_bom c.args.text.now,
      from.source,
      [],
      (sym from.state, refl),
      λ rest. sym (ap (λ (os : List Interest). before os (orders_from c.args.traders 0 rest)) none ∙ nothing-before (orders_from c.args.traders 0 rest)),
    )

pub records-preserved : goal.records-preserved
records-preserved c =
    let (low, trim, flexible, ready, config, y, source, done, reached, none) = c.records.invariant in
    let rem : Bor (List ℕ) → Option (List ℕ) = λ s. Some s.now in
    let fields = fields_of c.next_record.new.line in
    let read = subst (λ (found : Bool). ReadRecord rem c.records.reader c.next_record.new.reader found fields) c.if-not-found.false c.in-Ok.ensures.reads in
    let more = rows-more rem c.records.reader c.next_record.new.reader fields default_config st.StartRecord (strip_bom c.args.text.now) y done config source reached read in
    let orders : List Interest = c.records.orders.items in
    let step : option_map (λ xs. orders ++ xs) (said_by c.args.traders c.records.number fields) ≡ Some c.take_record.new.orders.items
    = c.in-Ok-take_record.ensures ∙ ap (λ (b : Bool). if b then Some c.take_record.new.orders.items else None) c.if-not-taken.false in (
      low-taken c.args.traders c.records.number orders c.take_record.new.orders.items fields step,
      read.3 ∙ trim,
      c.in-Ok.ensures.flexible,
      inl c.in-Ok.ensures.ready,
      read.2 ∙ config,
      more.0,
      more.1,
      done ++ fields ∷ [],
      more.2,
      λ rest. ap (orders_from c.args.traders 0) (append_assoc done (fields ∷ []) rest) ∙ none (fields ∷ rest)
          ∙ taken c.args.traders c.records.number orders c.take_record.new.orders.items fields rest step,
    )

pub returns-then-not-found : goal.returns-then-not-found
returns-then-not-found c =
    let (low, trim, flexible, ready, config, y, source, done, reached, none) = c.records.invariant in
    let rem : Bor (List ℕ) → Option (List ℕ) = λ s. Some s.now in
    let fields = fields_of c.next_record.new.line in
    let read = subst (λ (found : Bool). ReadRecord rem c.records.reader c.next_record.new.reader found fields) c.if-not-found.true c.in-Ok.ensures.reads in
    let all : done ≡ records_of c.args.text.now = whole default_config (strip_bom c.args.text.now) y c.records.reader.state done reached
    (rows-end rem c.records.reader c.next_record.new.reader fields default_config y config source read) in
    let same : orders_of c.args.traders c.args.text.now ≡ before c.records.orders.items (at_end c.records.number)
    = ap (orders_from c.args.traders 0) (sym all ∙ sym (append-nil done)) ∙ none [] in
    let orders : IfOk c.finished.result (λ v. orders_of c.args.traders c.args.text.now ≡ Ok v.items)
    = IfOk-weaker c.finished.result _ _ (λ v h. same ∙ h) c.finished.ensures.orders in record {
      orders = orders;
      filed = IfOk-weaker c.finished.result _ _ (λ v h. file-says c.args.traders c.args.text.now v.items h) orders;
      refused = subst (λ (r : Result (List Interest) ℕ). IfErr c.finished.result (λ (e : OrdersError). (n : ℕ) → e ≡ Refused n → r ≡ Err n)) (sym same) c.finished.ensures.refused;
    }

pub returns-then-not-taken-clause-refused : goal.returns-then-not-taken-clause-refused
returns-then-not-taken-clause-refused c n e =
    let (low, trim, flexible, ready, config, y, source, done, reached, none) = c.records.invariant in
    let rem : Bor (List ℕ) → Option (List ℕ) = λ s. Some s.now in
    let fields = fields_of c.next_record.new.line in
    let read = subst (λ (found : Bool). ReadRecord rem c.records.reader c.next_record.new.reader found fields) c.if-not-found.false c.in-Ok.ensures.reads in
    let more = rows-more rem c.records.reader c.next_record.new.reader fields default_config st.StartRecord (strip_bom c.args.text.now) y done config source reached read in
    let orders : List Interest = c.records.orders.items in
    let stop : option_map (λ xs. orders ++ xs) (said_by c.args.traders c.records.number fields) ≡ None
    = c.in-Ok-take_record.ensures ∙ ap (λ (b : Bool). if b then Some c.take_record.new.orders.items else None) c.if-not-taken.true in
    let parts = split default_config (strip_bom c.args.text.now) more.0 c.next_record.new.reader.state (done ++ fields ∷ []) more.2 in
    let after = records_from default_config parts.0 c.next_record.new.reader.state more.0 in
    ap (orders_from c.args.traders 0) (parts.3 ∙ append_assoc done (fields ∷ []) after) ∙ none (fields ∷ after)
    ∙ refused c.args.traders c.records.number orders fields after stop
    ∙ ap Err (same-refusal c.records.number n e)
