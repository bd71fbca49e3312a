-- What is kept where it is the entries themselves.
use Rattle.std.proofs.Common.{◌≡◌, ℕ, List, [], ap, subst, sym}
use Rattle.market_types.specs.Told.{EntryTold}
use Rattle.kernel_copy.specs.declared.tally.Tally.{Tally}
use Rattle.kernel_copy.specs.Kept.{KeptTold, entries, frames, nothing, tallied}

listed : KeptTold → List EntryTold
listed (entries xs) = xs
listed (frames bytes) = []
listed (tallied tally) = []
listed nothing = []

abbrev IsListed : KeptTold → Type 0
IsListed (entries xs) = Unit {0}
IsListed (frames bytes) = ⊥
IsListed (tallied tally) = ⊥
IsListed nothing = ⊥

-- entries that are kept themselves are those that were to be
pub entries-only : (xs ys : List EntryTold) → entries xs ≡ entries ys → xs ≡ ys
unfolding listed
entries-only xs ys e = ap listed e

-- what holds entries themselves holds nothing else
pub no-frames : (bytes : List ℕ) (ys : List EntryTold) → frames bytes ≡ entries ys → ⊥
no-frames bytes ys e = subst IsListed (sym e) tt

pub no-tally : (tally : Tally) (ys : List EntryTold) → tallied tally ≡ entries ys → ⊥
no-tally tally ys e = subst IsListed (sym e) tt

pub not-nothing : (ys : List EntryTold) → nothing ≡ entries ys → ⊥
not-nothing ys e = subst IsListed (sym e) tt
