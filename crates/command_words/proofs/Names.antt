-- Commands by their names.
use Rattle.std.proofs.Common.{ℕ, Bool, true, false, ◌==◌, List, ◌≡◌, ◌∙◌, Option, None, Some, if◌then◌else◌, length, codes, bytes_eq, refl, sym, ap}
use Rattle.command_words.specs.Line.{Parts}
use Rattle.command_words.specs.Numbers.{count_of}
use Rattle.command_words.specs.declared.asked.Asked.{Asked}
use Rattle.command_words.specs.Asked.{alone, rewind_of, big_of, cross_of, session_of, request_of, asked_from, asked_in}
use Rattle.command_words.specs.declared.asked.Request.{Request}
use Rattle.command_words.specs.declared.asked.Request.TheVariants.{File, Bundle}
use Rattle.command_words.specs.declared.asked.Task.TheVariants.{Run, Table, Check}

-- a rewind is no command before it
pub rewind_is : (name study : List ℕ) (more : List (List ℕ)) (places : ℕ) → bytes_eq name (codes "run") ≡ false → bytes_eq name (codes "table") ≡ false
    → bytes_eq name (codes "check") ≡ false → bytes_eq name (codes "rewind") ≡ true → rewind_of study more places ≡ request_of name study more places
rewind_is name study more places run table check rewind =
    let none : Option Request = None in
    sym (λ i.
    if run i then alone (File Run study) more
    else if table i then alone (File Table study) more
    else if check i then alone (File Check study) more
    else if rewind i then rewind_of study more places
    else if bytes_eq name (codes "big") then big_of study more
    else if bytes_eq name (codes "cross") then cross_of study more places
    else if bytes_eq name (codes "audit") then alone (Bundle study) more
    else if bytes_eq name (codes "session") then session_of study more places
    else none)

-- a name of none of them
pub none_is : (name study : List ℕ) (more : List (List ℕ)) (places : ℕ) → bytes_eq name (codes "run") ≡ false → bytes_eq name (codes "table") ≡ false
    → bytes_eq name (codes "check") ≡ false → bytes_eq name (codes "rewind") ≡ false → bytes_eq name (codes "big") ≡ false
    → bytes_eq name (codes "cross") ≡ false → bytes_eq name (codes "audit") ≡ false → bytes_eq name (codes "session") ≡ false
    → None ≡ request_of name study more places
none_is name study more places run table check rewind big cross audit session =
    let none : Option Request = None in
    sym (λ i.
    if run i then alone (File Run study) more
    else if table i then alone (File Table study) more
    else if check i then alone (File Check study) more
    else if rewind i then rewind_of study more places
    else if big i then big_of study more
    else if cross i then cross_of study more places
    else if audit i then alone (Bundle study) more
    else if session i then session_of study more places
    else none)

-- a line that asks for nothing, with a study or without one
without : (empty : Bool) (answer : Option Asked) → None ≡ answer → None ≡ (if empty then None else answer)
without true answer none = refl
without false answer none = none

lacks_places : (line : Parts) (workers : Option ℕ) → None ≡ asked_from line workers None
lacks_places line None = refl
lacks_places line (Some workers) = refl

-- one whose workers are no number in their range
pub no_workers : (line : Parts) → None ≡ count_of 1 64 line.workers → None ≡ asked_in line
no_workers line none =
    let places = count_of 0 128 line.places in
    without (length line.study == 0) (asked_from line (count_of 1 64 line.workers) places) (ap (λ (w : Option ℕ). asked_from line w places) none)

-- or whose places are none
pub no_places : (line : Parts) → None ≡ count_of 0 128 line.places → None ≡ asked_in line
no_places line none =
    let workers = count_of 1 64 line.workers in
    without (length line.study == 0) (asked_from line workers (count_of 0 128 line.places))
    (lacks_places line workers ∙ ap (λ (p : Option ℕ). asked_from line workers p) none)
