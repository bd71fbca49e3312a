-- The acts of a session by their numbers, and how a session ends whose script says none.
use Rattle.std.specs.Prelude.{ℕ, zero, suc, List, [], ◌∷◌, ◌++◌, codes}
use Rattle.std.specs.Fmt.{decimal}
use Rattle.session_desk.specs.declared.act.ScriptError.{ScriptError}
use Rattle.session_desk.specs.declared.act.ScriptError.TheVariants as error
use Rattle.abides_run.specs.declared.status.Status.{Status}
use Rattle.abides_run.specs.declared.status.Status.TheVariants.{BadScript, Memory}

-- an act by its number, which counts from 0
abbrev pub act_word : ℕ → List ℕ
act_word i = codes "act " ++ decimal i

-- the acts before this one
abbrev pub act_words_before : ℕ → List (List ℕ)
act_words_before zero = []
act_words_before (suc n) = act_words_before n ++ act_word n ∷ []

-- `act 0` to `act 63`: the acts that a script may have
abbrev pub act_words : List (List ℕ)
act_words = act_words_before 64

-- what is told of a script that says no acts: the number of its first bad act, or 64 for the whole
abbrev pub bad_act : ScriptError → ℕ
bad_act error.NotToml = 64
bad_act (error.BadAct i) = i
bad_act error.Memory = 64

-- the status for it
abbrev pub status_for : ScriptError → Status
status_for error.NotToml = BadScript 64
status_for (error.BadAct i) = BadScript i
status_for error.Memory = Memory
