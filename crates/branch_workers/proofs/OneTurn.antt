-- The one turn of a seat.
use Rattle.std.proofs.Common.{◌≡◌, ℕ, true, List, [], ◌∷◌, ap, refl, ◌∙◌}
use Rattle.shelf_core.specs.declared.plan.Key.{Key}
use Rattle.shelf_core.specs.Views.{has_turn, other_turns}
use Rattle.shelf_core.proofs.Plans.{key_self}

own_turn : (place : ℕ) (key : Key) → has_turn key ((place, key) ∷ []) ≡ true
own_turn place key = rw (key_self key) refl

none_left : (place : ℕ) (key : Key) → other_turns key ((place, key) ∷ []) ≡ []
none_left place key = rw (key_self key) refl

pub has_one_turn : (place : ℕ) (turn key : Key) (turns : List (ℕ × Key)) → turn ≡ key → turns ≡ (place, key) ∷ [] → has_turn turn turns ≡ true
has_one_turn place turn key turns same is =
    ap (λ (k : Key). has_turn k turns) same ∙ ap (λ (ts : List (ℕ × Key)). has_turn key ts) is ∙ own_turn place key

pub no_turn_left : (place : ℕ) (turn key : Key) (turns : List (ℕ × Key)) → turn ≡ key → turns ≡ (place, key) ∷ [] → other_turns turn turns ≡ []
no_turn_left place turn key turns same is =
    ap (λ (k : Key). other_turns k turns) same ∙ ap (λ (ts : List (ℕ × Key)). other_turns key ts) is ∙ none_left place key
