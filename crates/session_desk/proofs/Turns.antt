-- Acts one after another: what was done, and what is still to come.
use Rattle.std.proofs.Common.{◌≡◌, ◌<◌, ◌≤◌, ℕ, ◌+◌, ◌*◌, false, List, [], ◌∷◌, ◌++◌, Option, Some, None, length, get_or, drop, refl, sym, ap, ◌∙◌, subst, arith, ◌⊎◌, inl, inr, append_assoc, append-nil}
use Rattle.std.proofs.lemmas.Bool.{cases_Bool}
use Rattle.std.proofs.lemmas.List.{drop_all, drop_more}
use Rattle.probe_desk.specs.Probe.{Meaning}
use Rattle.session_desk.specs.Session.{SessionTold}
use Rattle.session_desk.specs.declared.act.Act.{Act}
use Rattle.session_desk.specs.declared.act.Act.TheVariants.{Fork, Undo, Edit, Rewind, Close, Values}
use Rattle.session_desk.specs.declared.end.PastAct.{PastAct}
use Rattle.session_desk.specs.declared.end.SessionEnd.{SessionEnd}
use Rattle.session_desk.specs.declared.end.SessionEnd.TheVariants.{NoEvent, Memory}
use Rattle.session_desk.specs.Acting.{after_act}
use Rattle.session_desk.specs.Answered.{answer_of, answers_of}
use Rattle.session_desk.specs.Counted.{Kept, all_run, all_reached, reached_for, run_for}
use Rattle.session_desk.specs.Past.{past_act, past_from, past_last, past_or}
use Rattle.session_desk.specs.Refused.{act_refused, is_refused, refused_from}

-- The acts before this one were carried out: what was done and what the rest comes to are what all come to.
pub record IsUnderWay (limit : ℕ) (kept : Kept) (ms : List Meaning) (first : SessionTold) (acts : List Act) (before i : ℕ) (s : SessionTold) (out : List ℕ) (steps : ℕ) : Type 0 where
  pub course : s.course ≡ first.course
  pub stands : refused_from i s (drop i acts) ≡ None
  pub bytes : out ++ answers_of ms s (drop i acts) ≡ answers_of ms first acts
  pub past : past_from i s (drop i acts) ≡ past_act first acts
  pub rose : steps + (all_run s (drop i acts) + all_reached kept s (drop i acts)) ≡ before + (all_run first acts + all_reached kept first acts)
  pub least : before ≤ steps
  pub most : steps + length (drop i acts) * limit ≤ before + length acts * limit

-- before the first act nothing was done
pub none-yet : (limit : ℕ) (kept : Kept) (ms : List Meaning) (first : SessionTold) (acts : List Act) (before : ℕ) (s : SessionTold) (out : List ℕ) → s ≡ first → out ≡ [] → act_refused first acts ≡ None
    → IsUnderWay limit kept ms first acts before 0 s out before
none-yet limit kept ms first acts before s out same none stands =
    subst (λ (t : SessionTold). IsUnderWay limit kept ms first acts before 0 t out before) (sym same) (record {
      course = refl;
      stands = stands;
      bytes = ap (λ (xs : List ℕ). xs ++ answers_of ms first acts) none;
      past = refl;
      rose = refl;
      least = omega arith;
      most = omega arith;
    })

-- an act changes nothing of the course
pub course-stays : (s : SessionTold) (a : Act) → (after_act s a).course ≡ s.course
course-stays s (Fork name parent at edits) = refl
course-stays s Undo = refl
course-stays s (Edit name edits) = refl
course-stays s (Rewind name event) = refl
course-stays s (Close name) = refl
course-stays s (Values name) = refl

-- the rest begins with the next act
pub next-is : (acts : List Act) (i : ℕ) (a : Act) → i < length acts → a ≡ get_or acts i a → drop i acts ≡ a ∷ drop (i + 1) acts
next-is acts i a within is = drop_more acts i a within ∙ ap (λ (x : Act). x ∷ drop (i + 1) acts) (sym is)

refused-first : (i : ℕ) (s : SessionTold) (a : Act) (rest : List Act) → refused_from i s (a ∷ rest) ≡ None → is_refused s a ≡ false
refused-first i s a rest none = elim (cases_Bool (is_refused s a)) [
  | inl refuses ↦ cc
  | inr stands ↦ stands
]

refused-rest : (i : ℕ) (s : SessionTold) (a : Act) (rest : List Act) → refused_from i s (a ∷ rest) ≡ None → refused_from (i + 1) (after_act s a) rest ≡ None
refused-rest i s a rest none = elim (cases_Bool (is_refused s a)) [
  | inl refuses ↦ cc
  | inr stands ↦ cc
]

-- the next act isn't refused
pub next-stands : (acts : List Act) (i : ℕ) (s : SessionTold) (a : Act) → i < length acts → a ≡ get_or acts i a
    → refused_from i s (drop i acts) ≡ None → is_refused s a ≡ false
next-stands acts i s a within is none =
    refused-first i s a (drop (i + 1) acts) (subst (λ (xs : List Act). refused_from i s xs ≡ None) (next-is acts i a within is) none)

-- the next act is past its last event, so it is the first
pub next-past : (acts : List Act) (i : ℕ) (s first : SessionTold) (a : Act) (p : PastAct) → i < length acts → a ≡ get_or acts i a
    → past_from i s (drop i acts) ≡ past_act first acts → p.act ≡ i → past_last s a ≡ Some p.last → past_act first acts ≡ Some p
next-past acts i s first a p within is past act last =
    sym past
    ∙ ap (λ (xs : List Act). past_from i s xs) (next-is acts i a within is)
    ∙ ap (λ (x : Option ℕ). past_or i x (past_from (i + 1) (after_act s a) (drop (i + 1) acts))) last
    ∙ ap (λ (n : ℕ). Some (record { act = n; last = p.last })) (sym act)

-- one more act was carried out
pub one-more : (limit : ℕ) (kept : Kept) (ms : List Meaning) (first : SessionTold) (acts : List Act) (before i : ℕ) (s : SessionTold) (out : List ℕ) (steps : ℕ)
    (a : Act) (then : SessionTold) (more : List ℕ) (stepped : ℕ)
    → IsUnderWay limit kept ms first acts before i s out steps → i < length acts → a ≡ get_or acts i a
    → past_last s a ≡ None → more ≡ out ++ answer_of ms s a → then ≡ after_act s a
    → stepped ≡ steps + run_for s a + reached_for kept s a → steps ≤ stepped → stepped ≤ steps + limit
    → IsUnderWay limit kept ms first acts before (i + 1) then more stepped
one-more limit kept ms first acts before i s out steps a then more stepped way within is none bytes made rose least most =
    let rest = drop (i + 1) acts in
    let next : drop i acts ≡ a ∷ rest = next-is acts i a within is in
    let count : steps + (all_run s (a ∷ rest) + all_reached kept s (a ∷ rest)) ≡ before + (all_run first acts + all_reached kept first acts) =
    subst (λ (xs : List Act). steps + (all_run s xs + all_reached kept s xs) ≡ before + (all_run first acts + all_reached kept first acts)) next way.rose in
    let upper : steps + length (a ∷ rest) * limit ≤ before + length acts * limit =
    subst (λ (xs : List Act). steps + length xs * limit ≤ before + length acts * limit) next way.most in
    subst (λ (t : SessionTold). IsUnderWay limit kept ms first acts before (i + 1) t more stepped) (sym made) (record {
      course = course-stays s a ∙ way.course;
      stands = refused-rest i s a rest (subst (λ (xs : List Act). refused_from i s xs ≡ None) next way.stands);
      bytes =
          ap (λ (x : List ℕ). x ++ answers_of ms (after_act s a) rest) bytes
          ∙ append_assoc out (answer_of ms s a) (answers_of ms (after_act s a) rest)
          ∙ ap (λ (xs : List Act). out ++ answers_of ms s xs) (sym next)
          ∙ way.bytes;
      past =
          sym (ap (λ (x : Option ℕ). past_or i x (past_from (i + 1) (after_act s a) rest)) none)
          ∙ ap (λ (xs : List Act). past_from i s xs) (sym next)
          ∙ way.past;
      rose = omega (arith, count, rose);
      least = omega (arith, way.least, least);
      most = omega (arith, upper, most);
    })

-- one more act's steps are within those of all
pub one-within : (limit : ℕ) (kept : Kept) (ms : List Meaning) (first : SessionTold) (acts : List Act) (before i : ℕ) (s : SessionTold) (out : List ℕ) (steps : ℕ) (a : Act) (stepped : ℕ)
    → IsUnderWay limit kept ms first acts before i s out steps → i < length acts → a ≡ get_or acts i a → stepped ≤ steps + limit
    → stepped ≤ before + length acts * limit
one-within limit kept ms first acts before i s out steps a stepped way within is most =
    let upper : steps + length (a ∷ drop (i + 1) acts) * limit ≤ before + length acts * limit =
    subst (λ (xs : List Act). steps + length xs * limit ≤ before + length acts * limit) (next-is acts i a within is) way.most in
    omega (arith, upper, most)

-- once no act is left, what was done is what all come to
pub all-answered : (limit : ℕ) (kept : Kept) (ms : List Meaning) (first : SessionTold) (acts : List Act) (before i : ℕ) (s : SessionTold) (out : List ℕ) (steps : ℕ)
    → IsUnderWay limit kept ms first acts before i s out steps → length acts ≤ i → out ≡ answers_of ms first acts
all-answered limit kept ms first acts before i s out steps way done =
    sym (append-nil out) ∙ ap (λ (xs : List Act). out ++ answers_of ms s xs) (sym (drop_all i acts done)) ∙ way.bytes

-- nor did one go past its branch's last event
pub all-there : (limit : ℕ) (kept : Kept) (ms : List Meaning) (first : SessionTold) (acts : List Act) (before i : ℕ) (s : SessionTold) (out : List ℕ) (steps : ℕ)
    → IsUnderWay limit kept ms first acts before i s out steps → length acts ≤ i → past_act first acts ≡ None
all-there limit kept ms first acts before i s out steps way done =
    sym way.past ∙ ap (λ (xs : List Act). past_from i s xs) (drop_all i acts done)

-- and the steps are those of all
pub all-counted : (limit : ℕ) (kept : Kept) (ms : List Meaning) (first : SessionTold) (acts : List Act) (before i : ℕ) (s : SessionTold) (out : List ℕ) (steps : ℕ)
    → IsUnderWay limit kept ms first acts before i s out steps → length acts ≤ i → steps ≡ before + all_run first acts + all_reached kept first acts
all-counted limit kept ms first acts before i s out steps way done =
    let count : steps + (all_run s [] + all_reached kept s []) ≡ before + (all_run first acts + all_reached kept first acts) =
    subst (λ (xs : List Act). steps + (all_run s xs + all_reached kept s xs) ≡ before + (all_run first acts + all_reached kept first acts)) (drop_all i acts done) way.rose in
    omega (arith, count)

-- why the next act has no answer is why all have none
pub next-ends : (acts : List Act) (i : ℕ) (s first : SessionTold) (a : Act) (e : SessionEnd) → i < length acts → a ≡ get_or acts i a
    → past_from i s (drop i acts) ≡ past_act first acts
    → (e ≡ Memory) ⊎ ((p : PastAct) × (e ≡ NoEvent p) × (p.act ≡ i) × (past_last s a ≡ Some p.last))
    → (e ≡ Memory) ⊎ ((p : PastAct) × (e ≡ NoEvent p) × (past_act first acts ≡ Some p))
next-ends acts i s first a e within is past (inl memory) = inl memory
next-ends acts i s first a e within is past (inr (p, same, act, last)) = inr (p, same, next-past acts i s first a p within is past act last)
