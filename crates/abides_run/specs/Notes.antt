-- The line that each status leaves on the notes.
use Rattle.std.specs.Prelude.{ℕ, List, [], ◌∷◌, ◌++◌, codes}
use Rattle.std.specs.Fmt.{decimal}
use Rattle.abides_run.specs.declared.status.Status.{Status}
use Rattle.abides_run.specs.declared.status.Status.TheVariants.{Ok, Usage, NoStudy, TooLong, Refused, ReadFault, WriteFault, NoBranch, NoStock, BadOrders, BadBundle, AuditFailed, BadScript, ActRefused, NoEvent, Memory}

-- the line for a broken rule
abbrev pub refused_line : ℕ → ℕ → List ℕ
refused_line rule place = codes "study refused: rule " ++ decimal rule ++ codes ", place " ++ decimal place ++ 10 ∷ []

-- the line for the first record of a file of orders that breaks a rule
abbrev pub orders_line : ℕ → List ℕ
orders_line number = codes "orders refused: record " ++ decimal number ++ 10 ∷ []

-- the line for bytes that are no bundle: the number of the reason, and the bytes that are left from a cut frame on or the place of
-- the frame
abbrev pub bundle_line : ℕ → ℕ → List ℕ
bundle_line reason at = codes "bad bundle: " ++ decimal reason ++ codes " at " ++ decimal at ++ 10 ∷ []

-- the line for the first branch of a bundle whose closing isn't what its feed tells
abbrev pub failing_line : ℕ → ℕ → List ℕ
failing_line branch reference = codes "audit failed: branch " ++ decimal branch ++ codes ", reference " ++ decimal reference ++ 10 ∷ []

-- the line for the first bad act of a script, or for a whole that is none
abbrev pub script_line : ℕ → List ℕ
script_line act = codes "script refused: act " ++ decimal act ++ 10 ∷ []

-- the line for the first act that the tree refuses
abbrev pub act_line : ℕ → List ℕ
act_line act = codes "act refused: " ++ decimal act ++ 10 ∷ []

-- an argument, with the number of the last event of the branch that it names
abbrev pub past_event : List ℕ → ℕ → List ℕ
past_event word last = word ++ codes ", last event " ++ decimal last

-- the line for a status, where this is the name that it speaks of: a file's, an argument's, a stock's symbol, or an argument or
-- an act with the last event of its branch
abbrev pub note : List ℕ → Status → List ℕ
note name Ok = []
note name Usage = codes "usage: abides COMMAND STUDY [MORE...] [--workers N] [--places N]\n"
note name NoStudy = codes "no such file: " ++ name ++ 10 ∷ []
note name TooLong = codes "file too long: " ++ name ++ 10 ∷ []
note name (Refused rule place) = refused_line rule place
note name ReadFault = codes "read failed: " ++ name ++ 10 ∷ []
note name WriteFault = codes "write failed\n"
note name NoBranch = codes "no branch: " ++ name ++ 10 ∷ []
note name NoStock = codes "no stock: " ++ name ++ 10 ∷ []
note name (BadOrders number) = orders_line number
note name (BadBundle reason at) = bundle_line reason at
note name (AuditFailed branch reference) = failing_line branch reference
note name (BadScript act) = script_line act
note name (ActRefused act) = act_line act
note name NoEvent = codes "no event: " ++ name ++ 10 ∷ []
note name Memory = codes "out of memory\n"
