-- What is asked for lies in its ranges.
use Rattle.std.proofs.Common.{ℕ, suc, ◌<◌, ◌≤◌, ◌^◌, Bool, true, false, ◌==◌, List, [], ◌∷◌, ◌≡◌, ◌≢◌, Option, Some, None, option_map, option_and_then, if◌then◌else◌, length, codes, bytes_eq, refl, sym, ap, subst, arith}
use Rattle.std.specs.Prelude.{All, IfSome, slice_index_or}
use Rattle.std.specs.Int.{is_in_range}
use Rattle.std.specs.Str.Parse.{digits_value}
use Rattle.std.proofs.lemmas.Bool.Decides.{nat_tests}
use Rattle.std.proofs.lemmas.List.Elements.{All-cons, All-nil}
use Rattle.command_words.specs.Line.{Parts}
use Rattle.command_words.specs.Numbers.{number_of, count_of}
use Rattle.command_words.specs.Marks.{IsSpelled, mark_before, mark_of, marks_of}
use Rattle.command_words.specs.Asked.{alone, request_of, asked_from, asked_in}
use Rattle.command_words.specs.declared.asked.Crossing.{Crossing}
use Rattle.command_words.specs.Ranges.{IsMark, AreMarks, IsRequest, IsInRange}
use Rattle.command_words.specs.declared.mark.Mark.{Mark}
use Rattle.command_words.specs.declared.asked.Task.TheVariants.{Run, Table, Check, Rewind, Cross, Session}
use Rattle.command_words.specs.declared.asked.Request.{Request}
use Rattle.command_words.specs.declared.asked.Request.TheVariants.{File, Large, Bundle}
use Rattle.command_words.specs.declared.asked.Asked.{Asked}
use Rattle.command_words.proofs.Numbers.{digits_are_short, number_is_short, count_is_in_range}
use Rattle.command_words.proofs.Spelled.{is_spelled}

is_mark : (word : List ℕ) (mark : Mark) → mark_of word ≡ Some mark → IsMark mark
is_mark word mark h =
    let spelled : IsSpelled word mark = is_spelled word mark h in
    let short : digits_value 10 spelled.digits < 10 ^ 7 = digits_are_short 7 spelled.digits spelled.written in
    let event : mark.event ≡ digits_value 10 spelled.digits = spelled.event in
    record { branch = spelled.named; event = omega arith }

abbrev AreOf : ℕ → List Mark → Type 0
AreOf n marks = (length marks ≡ n) × All IsMark marks

joined : (o : Option Mark) (rest : Option (List Mark)) (marks : List Mark) (n : ℕ) → mark_before o rest ≡ Some marks
    → ((m : Mark) → o ≡ Some m → IsMark m) → ((ms : List Mark) → rest ≡ Some ms → AreOf n ms) → AreOf (suc n) marks
joined None None marks n h one more = cc
joined None (Some ms) marks n h one more = cc
joined (Some m) None marks n h one more = cc
joined (Some m) (Some ms) marks n h one more =
    let same : m ∷ ms ≡ marks = cc in
    let rest = more ms refl in
    subst (AreOf (suc n)) same (ap suc rest.0, All-cons IsMark m ms (one m refl) rest.1)

-- each word gives one mark
marks_are : (words : List (List ℕ)) (marks : List Mark) → marks_of words ≡ Some marks → AreOf (length words) marks
marks_are [] marks h =
    let same : [] ≡ marks = cc in
    subst (AreOf 0) same (refl, All-nil IsMark)
marks_are (word ∷ words) marks h =
    joined (mark_of word) (marks_of words) marks (length words) h (is_mark word) (marks_are words)

-- a value under a test is one of the two
either : (P : Request → Type 0) (test : Bool) (x y : Option Request) (r : Request) → (if test then x else y) ≡ Some r
    → (test ≡ true → x ≡ Some r → P r) → (y ≡ Some r → P r) → P r
either P true x y r h f g = f refl h
either P false x y r h f g = g h

stands_alone : (request : Request) (more : List (List ℕ)) (r : Request) → alone request more ≡ Some r → IsRequest request → IsRequest r
stands_alone request [] r h fits =
    let same : request ≡ r = cc in
    subst IsRequest same fits
stands_alone request (word ∷ more) r h fits = cc

rewinds : (study : List ℕ) (places : ℕ) (o : Option (List Mark)) (r : Request) → option_map (λ (ms : List Mark). File (Rewind ms places) study) o ≡ Some r
    → study ≢ [] → places ≤ 128 → ((ms : List Mark) → o ≡ Some ms → AreMarks ms) → IsRequest r
rewinds study places None r h some few are = cc
rewinds study places (Some ms) r h some few are =
    let same : File (Rewind ms places) study ≡ r = cc in
    subst IsRequest same ((are ms refl, few), some)

counted : (o : Option ℕ) (more : List (List ℕ)) (r : Request) → option_and_then (λ n. alone (Large n) more) o ≡ Some r
    → ((n : ℕ) → o ≡ Some n → n ≤ 9999) → IsRequest r
counted None more r h short = cc
counted (Some n) more r h short = stands_alone (Large n) more r h (short n refl)

-- a text that has some bytes
filled : (text : List ℕ) → (length text == 0) ≡ false → text ≢ []
filled [] h = λ e. cc
filled (b ∷ bs) h = λ e. cc

-- a crossing's mark is one, and its file has a name
abbrev IsCrossing : Crossing → Type 0
IsCrossing x = IsMark x.mark × (x.file ≢ [])

marked : (symbol file : List ℕ) (o : Option Mark) (x : Crossing) → option_map (λ (mark : Mark). record { mark = mark; symbol = symbol; file = file }) o ≡ Some x
    → ((m : Mark) → o ≡ Some m → IsMark m) → file ≢ [] → IsCrossing x
marked symbol file None x h is some = cc
marked symbol file (Some m) x h is some =
    let same : record { mark = m; symbol = symbol; file = file } ≡ x = cc in
    subst IsCrossing same (is m refl, some)

named : (word symbol file : List ℕ) (empty : Bool) (x : Crossing) → (length file == 0) ≡ empty
    → (if empty then None else option_map (λ (mark : Mark). record { mark = mark; symbol = symbol; file = file }) (mark_of word)) ≡ Some x → IsCrossing x
named word symbol file true x is h = cc
named word symbol file false x is h = marked symbol file (mark_of word) x h (is_mark word) (filled file is)

crosses : (study : List ℕ) (places : ℕ) (o : Option Crossing) (r : Request) → option_map (λ (x : Crossing). File (Cross x places) study) o ≡ Some r
    → study ≢ [] → places ≤ 128 → ((x : Crossing) → o ≡ Some x → IsCrossing x) → IsRequest r
crosses study places None r h some few are = cc
crosses study places (Some x) r h some few are =
    let same : File (Cross x places) study ≡ r = cc in
    subst IsRequest same (((are x refl).0, (are x refl).1, few), some)

scripts : (study script : List ℕ) (places : ℕ) (empty : Bool) (r : Request) → (length script == 0) ≡ empty
    → (if empty then None else Some (File (Session script places) study)) ≡ Some r → study ≢ [] → places ≤ 128 → IsRequest r
scripts study script places true r is h some few = cc
scripts study script places false r is h some few =
    let same : File (Session script places) study ≡ r = cc in
    subst IsRequest same ((filled script is, few), some)

is_request : (name study : List ℕ) (more : List (List ℕ)) (places : ℕ) (r : Request) → study ≢ [] → places ≤ 128 → request_of name study more places ≡ Some r → IsRequest r
is_request name study more places r some few h =
    let marks : is_in_range 1 64 (length more) ≡ true → (ms : List Mark) → marks_of more ≡ Some ms → AreMarks ms = λ within ms e.
    let are = marks_are more ms e in
    let count : length ms ≡ length more = are.0 in
    record { some = grind (arith, nat_tests); few = grind (arith, nat_tests); each = are.1 } in
    either IsRequest (bytes_eq name (codes "run")) _ _ r h (λ _ e. stands_alone (File Run study) more r e (tt, some)) (λ h.
    either IsRequest (bytes_eq name (codes "table")) _ _ r h (λ _ e. stands_alone (File Table study) more r e (tt, some)) (λ h.
    either IsRequest (bytes_eq name (codes "check")) _ _ r h (λ _ e. stands_alone (File Check study) more r e (tt, some)) (λ h.
    either IsRequest (bytes_eq name (codes "rewind")) _ _ r h (λ _ e.
    either IsRequest (is_in_range 1 64 (length more)) _ _ r e (λ within e. rewinds study places (marks_of more) r e some few (marks within)) (λ e. cc)) (λ h.
    either IsRequest (bytes_eq name (codes "big")) _ _ r h (λ _ e. counted (number_of 4 study) more r e (λ n e.
    let short : n < 10 ^ 4 = number_is_short 4 study n e in
    omega arith)) (λ h.
    either IsRequest (bytes_eq name (codes "cross")) _ _ r h (λ _ e.
    either IsRequest (length more == 3) _ _ r e (λ three e. crosses study places _ r e some few (λ x e. named (slice_index_or more 0 []) (slice_index_or more 1 []) (slice_index_or more 2 []) _ x refl e)) (λ e. cc)) (λ h.
    either IsRequest (bytes_eq name (codes "audit")) _ _ r h (λ _ e. stands_alone (Bundle study) more r e some) (λ h.
    either IsRequest (bytes_eq name (codes "session")) _ _ r h (λ _ e.
    either IsRequest (length more == 1) _ _ r e (λ one e. scripts study (slice_index_or more 0 []) places _ r refl e some few) (λ e. cc)) (λ e. cc))))))))

-- what a command asks for, with its workers
staffed : (o : Option Request) (workers : ℕ) (asked : Asked) → option_map (λ (r : Request). record { request = r; workers = workers }) o ≡ Some asked
    → ((r : Request) → o ≡ Some r → IsRequest r) → (1 ≤ workers) × (workers ≤ 64) → IsInRange asked
staffed None workers asked h is within = cc
staffed (Some r) workers asked h is within =
    let same : record { request = r; workers = workers } ≡ asked = cc in
    subst IsInRange same (record { request = is r refl; some_workers = within.0; few_workers = within.1 })

ranged : (line : Parts) (workers places : Option ℕ) (asked : Asked) → asked_from line workers places ≡ Some asked → line.study ≢ []
    → ((n : ℕ) → workers ≡ Some n → (1 ≤ n) × (n ≤ 64))
    → ((n : ℕ) → places ≡ Some n → (0 ≤ n) × (n ≤ 128))
    → IsInRange asked
ranged line None places asked h some w p = cc
ranged line (Some workers) None asked h some w p = cc
ranged line (Some workers) (Some places) asked h some w p =
    staffed (request_of line.command line.study line.more places) workers asked h
    (λ r of. is_request line.command line.study line.more places r some (p places refl).1 of) (w workers refl)

unless_empty : (empty : Bool) (answer : Option Asked) (asked : Asked) → (if empty then None else answer) ≡ Some asked
    → (empty ≡ false → answer ≡ Some asked → IsInRange asked) → IsInRange asked
unless_empty true answer asked h f = cc
unless_empty false answer asked h f = f refl h

-- what a line asks for is in its ranges
pub line_is_in_range : (line : Parts) (answer : Option Asked) → answer ≡ asked_in line → IfSome answer IsInRange
line_is_in_range line None h = tt
line_is_in_range line (Some asked) h =
    unless_empty (length line.study == 0) _ asked (sym h) (λ some e.
    ranged line (count_of 1 64 line.workers) (count_of 0 128 line.places) asked e (filled line.study some)
    (count_is_in_range 1 64 line.workers) (count_is_in_range 0 128 line.places))
