use Rattle.std.proofs.lemmas.Bool.Decides.{nat_tests}
use Rattle.std.proofs.Common.{if◌then◌else◌, sym, subst, arith, rules, ap, ap₂, refl, true, false, List, Some, None, [], ◌∷◌, ◌≡◌, ◌∙◌, inl, inr}
use Rattle.clap.specs.Words.{HasKind, Kinds, Row, Text, fault_of, is_simple, is_simple_and_free, kind_of, matches_of, app_of}
use Rattle.clap.specs.Walk.{is_empty}
use Rattle.clap.specs.declared.error.Error.{Error}
use Rattle.clap.specs.declared.error.kind.ErrorKind.{ErrorKind}
use Rattle.clap.specs.declared.error.kind.ErrorKind.TheVariants.{OutOfMemory}
use Rattle.clap.proofs.OnLiterals.{clap_on_literals}
use Rattle.command_words.specs.Line.{abides, rows_for}
use Rattle.command_words.proofs.line.matches_in.Goals as goal

-- the command is one whose matches and faults are known
free : is_simple_and_free abides ≡ true
unfolding clap_on_literals
free = refl

simple : is_simple abides ≡ true
unfolding clap_on_literals
simple = refl

-- a list that has something
some : (k : ErrorKind) (ks : Kinds) → is_empty (k ∷ ks) ≡ false
some k ks = grind (arith, nat_tests)

-- an error of another kind than memory is one of those that come
comes : (kinds : Kinds) (e : Error) → ¬ (kind_of e ≡ OutOfMemory) → HasKind kinds e → is_empty kinds ≡ false
comes [] e other has = elim has [ inl memory ↦ absurd (other memory) | inr none ↦ absurd none ]
comes (k ∷ ks) e other has = some k ks

-- the line of words that the command takes, and of words that it refuses
taken : (words : List Text) (rows : List Row) → fault_of abides words ≡ [] → rows ≡ matches_of abides words → Some rows ≡ rows_for words
unfolding rows_for
taken words rows none same = sym ((λ i. if is_empty (none i) then Some (matches_of abides words) else None) ∙ ap Some (sym same))

refused : (words : List Text) → is_empty (fault_of abides words) ≡ false → None ≡ rows_for words
unfolding rows_for
refused words some = sym (λ i. if some i then Some (matches_of abides words) else None)

pub returns-in-Ok-try_get_matches_from : goal.returns-in-Ok-try_get_matches_from
returns-in-Ok-try_get_matches_from c =
    let app_is : app_of c.in-Ok.command ≡ abides = c.in-Ok.ensures in
    let parsed = c.in-Ok-try_get_matches_from.ensures in
    let none = ap₂ fault_of (sym app_is) refl ∙ parsed.kinds (ap is_simple_and_free app_is ∙ free) in
    let rows = (parsed.matches (ap is_simple app_is ∙ simple)).0 ∙ ap₂ matches_of app_is refl in
    taken _ _ none rows

pub returns : goal.returns
returns c =
    let app_is : app_of c.in-Ok.command ≡ abides = c.in-Ok.ensures in
    let failed = c.in-Err-try_get_matches_from.ensures in
    let other : ¬ (kind_of c.in-Err-try_get_matches_from.error ≡ OutOfMemory) = search rules in
    let has = subst (λ kinds. HasKind kinds c.in-Err-try_get_matches_from.error) (ap₂ fault_of app_is refl) (failed.kinds (ap is_simple_and_free app_is ∙ free)) in
    refused _ (comes _ c.in-Err-try_get_matches_from.error other has)
