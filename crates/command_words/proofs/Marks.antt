-- Marks that are read one after another.
use Rattle.std.proofs.Common.{ℕ, ◌+◌, ◌<◌, ◌≤◌, List, [], ◌∷◌, ◌++◌, ◌≡◌, Option, Some, None, map, drop, length, get_or, refl, sym, append_assoc, append-nil, ap, ◌∙◌, add-one, drop-cons}
use Rattle.std.proofs.lemmas.List.{drop_all}
use Rattle.command_words.specs.Marks.{mark_before, mark_of, marks_of}
use Rattle.command_words.specs.declared.mark.Mark.{Mark}

-- these marks before those, where there are those
abbrev pub marks_after : List Mark → Option (List Mark) → Option (List Mark)
marks_after marks None = None
marks_after marks (Some rest) = Some (marks ++ rest)

-- no marks change nothing
pub marks_after-none : (o : Option (List Mark)) → marks_after [] o ≡ o
marks_after-none None = refl
marks_after-none (Some marks) = refl

-- one more mark
pub marks_after-push : (marks : List Mark) (mark : Mark) (o : Option (List Mark)) → marks_after marks (mark_before (Some mark) o) ≡ marks_after (marks ++ mark ∷ []) o
marks_after-push marks mark None = refl
marks_after-push marks mark (Some rest) = ap Some (rw append_assoc refl)

module _ {W : Type 0} (text : W → List ℕ) (words : List W) (i : ℕ) (marks : List Mark) (before : marks_of (map text words) ≡ marks_after marks (marks_of (map text (drop i words)))) where
  -- the marks of the words from a place on begin with that of the word that stands there
  here : (d : W) (mark : Option Mark) → i < length words → mark ≡ mark_of (text (get_or words i d))
      → marks_of (map text words) ≡ marks_after marks (mark_before mark (marks_of (map text (drop (i + 1) words))))
  here d mark within has = let from : drop i words ≡ get_or words i d ∷ drop (i + 1) words = rw (add-one, drop-cons words i d within) refl in
      before ∙ ap (λ ws. marks_after marks (marks_of (map text ws))) from ∙ ap (λ m. marks_after marks (mark_before m (marks_of (map text (drop (i + 1) words))))) (sym has)

  -- one more word is a mark
  pub read-more : (d : W) (mark : Mark) (read : List Mark) → i < length words → Some mark ≡ mark_of (text (get_or words i d)) → read ≡ marks ++ mark ∷ []
      → marks_of (map text words) ≡ marks_after read (marks_of (map text (drop (i + 1) words)))
  read-more d mark read within has is = here d (Some mark) within has ∙ marks_after-push marks mark (marks_of (map text (drop (i + 1) words))) ∙ ap (λ ms. marks_after ms (marks_of (map text (drop (i + 1) words)))) (sym is)

  -- one more word is no mark
  pub read-none : (d : W) → i < length words → None ≡ mark_of (text (get_or words i d)) → None ≡ marks_of (map text words)
  read-none d within has = sym (here d None within has)

  -- all words are read
  pub read-all : length words ≤ i → Some marks ≡ marks_of (map text words)
  read-all all = sym (before ∙ ap (λ ws. marks_after marks (marks_of (map text ws))) (drop_all i words all) ∙ ap Some (append-nil marks))
