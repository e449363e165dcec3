-- The entries up to a level, as they enter a new trail one by one.
use Rattle.std.proofs.Common.{◌≡◌, ℕ, ◌+◌, ◌<◌, ◌≤◌, true, leb, List, [], ◌∷◌, ◌++◌, length, take, drop, get_or, sym, ap, ◌∙◌, take-append-drop}
use Rattle.std.proofs.lemmas.Bool.{le-leb, lt-leb, cond-true, cond-false}
use Rattle.std.proofs.lemmas.List.{map-append, take_more, append-nil}
use Rattle.calculus.specs.Trails.{Entry, up_to}
use Rattle.calculus.proofs.Trailing.{up_to_append}
use Rattle.tables.specs.declared.entry as code
use Rattle.tables.specs.Keys.{ranged, free, tidy}
use Rattle.tables.specs.Views.{entry_of, entries_of}
use Rattle.tables.proofs.Tidying.{tidy_prefix, tidy_enters, free_up_to}

module _ (k : ℕ) (es : List code.Entry.Entry) (i : ℕ) (d : code.Entry.Entry) (l : i < length es) where
  -- the next of the entries
  next : entries_of (take (i + 1) es) ≡ entries_of (take i es) ++ entry_of (get_or es i d) ∷ []
  next = ap entries_of (take_more es i d l) ∙ map-append entry_of (take i es) (get_or es i d ∷ [])

  pub enters : (kept : List Entry) → tidy (entries_of es) ≡ true → kept ≡ up_to k (entries_of (take i es)) → (ranged (entry_of (get_or es i d)).content ≡ true) × (free (entry_of (get_or es i d)).content kept ≡ true)
  enters kept h s =
      let whole : entries_of es ≡ entries_of (take (i + 1) es) ++ entries_of (drop (i + 1) es) = ap entries_of (sym (take-append-drop (i + 1) es)) ∙ map-append entry_of (take (i + 1) es) (drop (i + 1) es) in
      let part : tidy (entries_of (take i es) ++ entry_of (get_or es i d) ∷ []) ≡ true = ap tidy (sym next) ∙ tidy_prefix (entries_of (take (i + 1) es)) (entries_of (drop (i + 1) es)) (ap tidy (sym whole) ∙ h) in
      let r = tidy_enters (entries_of (take i es)) (entry_of (get_or es i d)) [] part in
      (r.0, ap (free (entry_of (get_or es i d)).content) s ∙ free_up_to (entry_of (get_or es i d)).content k (entries_of (take i es)) r.1)

  pub kept_in : (kept more : List Entry) → (entry_of (get_or es i d)).level ≤ k → more ≡ kept ++ entry_of (get_or es i d) ∷ [] → kept ≡ up_to k (entries_of (take i es)) → more ≡ up_to k (entries_of (take (i + 1) es))
  kept_in kept more h m s =
      m ∙ ap (λ t. t ++ entry_of (get_or es i d) ∷ []) s
      ∙ ap (λ t. up_to k (entries_of (take i es)) ++ t) (sym (cond-true (leb (entry_of (get_or es i d)).level k) (entry_of (get_or es i d) ∷ []) [] (le-leb (entry_of (get_or es i d)).level k h)))
      ∙ sym (up_to_append k (entries_of (take i es)) (entry_of (get_or es i d))) ∙ ap (up_to k) (sym next)

  pub kept_out : (kept : List Entry) → k < (entry_of (get_or es i d)).level → kept ≡ up_to k (entries_of (take i es)) → kept ≡ up_to k (entries_of (take (i + 1) es))
  kept_out kept h s =
      s ∙ sym (append-nil (up_to k (entries_of (take i es))))
      ∙ ap (λ t. up_to k (entries_of (take i es)) ++ t) (sym (cond-false (leb (entry_of (get_or es i d)).level k) (entry_of (get_or es i d) ∷ []) [] (lt-leb (entry_of (get_or es i d)).level k h)))
      ∙ sym (up_to_append k (entries_of (take i es)) (entry_of (get_or es i d))) ∙ ap (up_to k) (sym next)
