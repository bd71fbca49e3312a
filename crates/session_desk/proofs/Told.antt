-- What the answer tells of a script.
use Rattle.std.proofs.Common.{◌≡◌, ◌≤◌, ◌∙◌, Bool, true, false, ℕ, List, Option, Some, None, Ok, Err, refl, sym, ap, subst, inl, inr, if◌then◌else◌}
use Rattle.std.specs.Prelude.{Result, IfOk, IfErr, ◌⊎◌}
use Rattle.std.specs.List.{filter_map}
use Rattle.toml.specs.Data.{Data, Members}
use Rattle.kernel_copy.specs.Courses.{CourseTold}
use Rattle.study_file.specs.Tables.{table_of}
use Rattle.study_file.specs.Values.{first_failing}
use Rattle.study_rules.specs.Entries.{entry_of}
use Rattle.study_rules.specs.Scope.{Scope, scope_of_opening}
use Rattle.session_desk.specs.declared.act.Act.{Act}
use Rattle.session_desk.specs.declared.act.ScriptError.{ScriptError}
use Rattle.session_desk.specs.declared.act.ScriptError.TheVariants.{NotToml, BadAct, Memory}
use Rattle.session_desk.specs.Acts.{act_in, is_act}
use Rattle.session_desk.specs.Script.{act_entries, is_fit, acts_of, acts_in, script_of}
use Rattle.session_desk.specs.Told.{AreSaidBy, IsFirstBad}
use Rattle.session_desk.proofs.Entries.{Said, all-said, each-says, first-says}

abbrev Answer : Type 0
Answer = Result (List Act) ScriptError

same-number : (m n : ℕ) → ◌≡◌ {A = Answer} (Err (BadAct m)) (Err (BadAct n)) → m ≡ n
same-number m n h = cc h

same-acts : (xs ys : List Act) → ◌≡◌ {A = Answer} (Ok xs) (Ok ys) → xs ≡ ys
same-acts xs ys h = cc h

-- the table of a script

abbrev with_table : CourseTold → Option Members → Answer
with_table c o = elim o [ None ↦ Err NotToml | Some t ↦ acts_in c t ]

pub script-acts : (c : CourseTold) (bytes : List ℕ) (t : Members) → table_of bytes ≡ Some t → script_of c bytes ≡ acts_in c t
unfolding script_of
script-acts c bytes t e = ap (with_table c) e

pub script-none : (c : CourseTold) (bytes : List ℕ) → table_of bytes ≡ None → script_of c bytes ≡ Err NotToml
unfolding script_of
script-none c bytes e = ap (with_table c) e

-- an answer by one that it is equal to

pub ok-by : {A : Type 0} (r : Result A ScriptError) (items : A → List Act) (x y : Answer) → x ≡ y → IfOk r (λ a. y ≡ Ok (items a)) → IfOk r (λ a. x ≡ Ok (items a))
ok-by (Ok a) items x y e h = e ∙ h
ok-by (Err error) items x y e h = tt

pub err-by : {A : Type 0} (r : Result A ScriptError) (x y : Answer) → x ≡ y → IfErr r (λ e. (e ≡ Memory) ⊎ (y ≡ Err e)) → IfErr r (λ e. (e ≡ Memory) ⊎ (x ≡ Err e))
err-by (Ok a) x y e h = tt
err-by (Err error) x y e h = elim h [ inl m ↦ inl m | inr said ↦ inr (e ∙ said) ]

-- what each such answer is

pub ok-is : {A : Type 0} (r : Result A ScriptError) (items : A → List Act) (x : Answer) (P : List Act → Type 0)
    → ((acts : List Act) → x ≡ Ok acts → P acts) → IfOk r (λ a. x ≡ Ok (items a)) → IfOk r (λ a. P (items a))
ok-is (Ok a) items x P each h = each (items a) h
ok-is (Err e) items x P each h = tt

pub err-is : {A : Type 0} (r : Result A ScriptError) (x : Answer) → ((n : ℕ) → x ≡ Err (BadAct n) → n ≤ 64)
    → IfErr r (λ e. (e ≡ Memory) ⊎ (x ≡ Err e)) → IfErr r (λ e. (n : ℕ) → e ≡ BadAct n → n ≤ 64)
err-is (Ok a) x each h = tt
err-is (Err e) x each h = λ n is. elim h [ inl m ↦ absurd (cc (sym m ∙ is)) | inr said ↦ each n (said ∙ ap Err is) ]

-- the acts of entries

abbrev pub with_failing : List Act → Option ℕ → Answer
with_failing acts o = elim o [ Some at ↦ Err (BadAct at) | None ↦ Ok acts ]

taken-if : (o : Option ℕ) (all acts : List Act) → with_failing all o ≡ Ok acts → (o ≡ None) × (all ≡ acts)
taken-if None all acts h = (refl, same-acts all acts h)
taken-if (Some at) all acts h = absurd (cc h)

bad-if : (o : Option ℕ) (all : List Act) (n : ℕ) → with_failing all o ≡ Err (BadAct n) → o ≡ Some n
bad-if None all n h = absurd (cc h)
bad-if (Some at) all n h = ap Some (same-number at n h)

abbrev act_at : Scope → Data → Option Act
act_at scope d = act_in scope (entry_of d)

taken : (scope : Scope) (ds : List Data) (acts : List Act) → acts_of scope ds ≡ Ok acts → Said (act_at scope) ds acts
taken scope ds acts h =
    let parts = taken-if (first_failing (is_act scope) ds) (filter_map (act_at scope) ds) acts h in
    subst (Said (act_at scope) ds) parts.1 (all-said (act_at scope) ds (each-says scope ds parts.0))

-- the whole

fit-if : (b : Bool) (r : Answer) (acts : List Act) → (if b then r else Err (BadAct 64)) ≡ Ok acts → (b ≡ true) × (r ≡ Ok acts)
fit-if true r acts h = (refl, h)
fit-if false r acts h = absurd (cc h)

pub one-by-one : (c : CourseTold) (bytes : List ℕ) (t : Members) (acts : List Act) → table_of bytes ≡ Some t → script_of c bytes ≡ Ok acts → AreSaidBy c t acts
one-by-one c bytes t acts e h =
    let scope : Scope = scope_of_opening c.opening in
    let parts = fit-if (is_fit c t) (acts_of scope (act_entries t)) acts (sym (script-acts c bytes t e) ∙ h) in
    let said = taken scope (act_entries t) acts parts.1 in
    record { whole = parts.0; count = said.count; each = said.each }

bad-whole : (b : Bool) (r : Answer) (n : ℕ) → (if b then r else Err (BadAct 64)) ≡ Err (BadAct n) → b ≡ false → n ≡ 64
bad-whole true r n h e = absurd (cc e)
bad-whole false r n h e = sym (same-number 64 n h)

bad-entry : (b : Bool) (r : Answer) (n : ℕ) → (if b then r else Err (BadAct 64)) ≡ Err (BadAct n) → b ≡ true → r ≡ Err (BadAct n)
bad-entry true r n h e = h
bad-entry false r n h e = absurd (cc e)

pub first-bad : (c : CourseTold) (bytes : List ℕ) (t : Members) (n : ℕ) → table_of bytes ≡ Some t → script_of c bytes ≡ Err (BadAct n) → IsFirstBad c t n
first-bad c bytes t n e h =
    let scope : Scope = scope_of_opening c.opening in
    let ds : List Data = act_entries t in
    let all : List Act = filter_map (act_at scope) ds in
    let answer : (if is_fit c t then acts_of scope ds else Err (BadAct 64)) ≡ Err (BadAct n) = sym (script-acts c bytes t e) ∙ h in
    record {
      whole = bad-whole (is_fit c t) (acts_of scope ds) n answer;
      earlier = λ fit k d below. (first-says scope ds n (bad-if (first_failing (is_act scope) ds) all n (bad-entry (is_fit c t) (acts_of scope ds) n answer fit))).1.1 k d below;
      there = λ fit d.
          let first = first-says scope ds n (bad-if (first_failing (is_act scope) ds) all n (bad-entry (is_fit c t) (acts_of scope ds) n answer fit)) in
          (first.0, first.1.0 d);
    }

entries-never : (scope : Scope) (ds : List Data) (o : Option ℕ) (acts : List Act) → ◌≡◌ {A = Answer} (with_failing acts o) (Err NotToml) → ⊥
entries-never scope ds None acts h = absurd (cc h)
entries-never scope ds (Some at) acts h = absurd (cc h)

fit-never : (b : Bool) (r : Answer) → (r ≡ Err NotToml → ⊥) → (if b then r else Err (BadAct 64)) ≡ Err NotToml → ⊥
fit-never true r never h = never h
fit-never false r never h = absurd (cc h)

table-none : (c : CourseTold) (o : Option Members) → with_table c o ≡ Err NotToml → o ≡ None
table-none c None h = refl
table-none c (Some t) h =
    let scope : Scope = scope_of_opening c.opening in
    absurd (fit-never (is_fit c t) (acts_of scope (act_entries t))
    (entries-never scope (act_entries t) (first_failing (is_act scope) (act_entries t)) (filter_map (act_at scope) (act_entries t))) h)

pub no-table : (c : CourseTold) (bytes : List ℕ) → script_of c bytes ≡ Err NotToml → table_of bytes ≡ None
unfolding script_of
no-table c bytes h = table-none c (table_of bytes) h

-- a script that is taken is a table

taken-table : (c : CourseTold) (o : Option Members) (acts : List Act) → with_table c o ≡ Ok acts → (t : Members) × (o ≡ Some t)
taken-table c None acts h = absurd (cc h)
taken-table c (Some t) acts h = (t, refl)

pub is-table : (c : CourseTold) (bytes : List ℕ) (acts : List Act) → script_of c bytes ≡ Ok acts → (t : Members) × (table_of bytes ≡ Some t)
unfolding script_of
is-table c bytes acts h = taken-table c (table_of bytes) acts h
