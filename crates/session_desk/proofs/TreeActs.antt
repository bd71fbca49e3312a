-- Acts one after another.
use Rattle.std.proofs.Common.{◌≡◌, List, [], ◌∷◌, ◌++◌, refl}
use Rattle.session_desk.specs.Session.{SessionTold}
use Rattle.session_desk.specs.TreeActs.{Act, acted, after_acts}

pub acts-push : (s : SessionTold) (acts : List Act) (act : Act) → after_acts s (acts ++ act ∷ []) ≡ acted (after_acts s acts) act
acts-push s [] act = refl
acts-push s (a ∷ acts) act = acts-push (acted s a) acts act
