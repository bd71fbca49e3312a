use Rattle.std.proofs.Common.{◌≡◌, ℕ, suc, ◌+◌, ◌<◌, true, false, List, ◌∷◌, Some, drop, length, get_or, refl, sym, ap, add-one, drop-cons, bytes_eq, string_bytes}
use Rattle.std.specs.declared.string.String.{String}
use Rattle.std.specs.declared.vec.Vec.{Vec}
use Rattle.std.specs.declared.alloc.Global.{Global}
use Rattle.outside.specs.Files.{held, files_in}

-- the list from a place on begins with what stands there
pub from_here : {X : Type 0} (xs : List X) (i : ℕ) (x : X) → i < length xs → x ≡ get_or xs i x → drop i xs ≡ x ∷ drop (i + 1) xs
from_here xs i x within is = rw (add-one, drop-cons xs i x within) (ap (λ y. y ∷ drop (suc i) xs) (sym is))

-- a file of another name is passed over
pub held-passed : (files : List (String Global × Vec ℕ Global)) (i : ℕ) (name : List ℕ) (file : String Global × Vec ℕ Global)
    → i < length files → file ≡ get_or files i file → bytes_eq (string_bytes file.0) name ≡ false
    → held (files_in (drop i files)) name ≡ held (files_in (drop (i + 1) files)) name
held-passed files i name file within is other = rw (from_here files i file within is) (rw other refl)

-- the first file of that name has the bytes
pub held-found : (files : List (String Global × Vec ℕ Global)) (i : ℕ) (name : List ℕ) (file : String Global × Vec ℕ Global)
    → i < length files → file ≡ get_or files i file → bytes_eq (string_bytes file.0) name ≡ true
    → held (files_in (drop i files)) name ≡ Some file.1.items
held-found files i name file within is same = rw (from_here files i file within is) (rw same refl)
