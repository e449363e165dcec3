-- The numerators of the measures: kept as values come and go.
use Rattle.std.proofs.Common.{◌≡◌, ℕ, ◌≤◌, Bool, true, false, cond, List, [], ◌∷◌, ◌++◌, length, get_or, set, ℤ, pos, sym, refl, ap, ◌∙◌, ⊎_elim, arith}
use Rattle.std.proofs.lemmas.Bool.{or_parts, eq-eqb, ne_eqb, cond-true, cond-false, cases_eq}
use Rattle.std.proofs.lemmas.List.{get_or-set_same, get_or-set_other}
use Rattle.calculus.specs.Trails.{Content, Entry, Origin, no_entry, entry_for, has_entry, values, valued, value, numerator}
use Rattle.tables.specs.Keys.{Weighed}
use Rattle.calculus.specs.Trails.Content.{Value, Literal}

-- an entry that does not pass is not found
passed_over : (p : Content → Bool) (t : List Entry) (e : Entry) → p e.content ≡ false → entry_for p (t ++ e ∷ []) ≡ entry_for p t
passed_over p [] e f = cond-false (p e.content) e no_entry f
passed_over p (d ∷ t) e f = ap (λ x. cond (p d.content) d x) (passed_over p t e f)

-- one that passes is, where none before it does
found_last : (p : Content → Bool) (t : List Entry) (e : Entry) → has_entry p t ≡ false → p e.content ≡ true → entry_for p (t ++ e ∷ []) ≡ e
found_last p [] e h y = cond-true (p e.content) e no_entry y
found_last p (d ∷ t) e h y =
    let b = or_parts (p d.content) (has_entry p t) h in
    cond-false (p d.content) d (entry_for p (t ++ e ∷ [])) b.0 ∙ found_last p t e b.1 y

none_found : (p : Content → Bool) (t : List Entry) → has_entry p t ≡ false → entry_for p t ≡ no_entry
none_found p [] h = refl
none_found p (d ∷ t) h =
    let b = or_parts (p d.content) (has_entry p t) h in
    cond-false (p d.content) d (entry_for p t) b.0 ∙ none_found p t b.1

-- a literal has no numerator
literal_same : (t : List Entry) (l : ℤ) (o : Origin) (k j : ℕ) → value j (t ++ record { content = Literal l o; level = k } ∷ []) ≡ value j t
literal_same t l o k j = ap (λ e. numerator e.content) (passed_over (values j) t _ refl)

module _ (xs : List ℤ) (long : length xs ≡ 17) (t : List Entry) (m k : ℕ) (x y : ℤ) (low : m ≤ 16) (free : valued m t ≡ false) where
  abbrev entry : Entry
  entry = record { content = Value m x; level = k }

  other : (j : ℕ) → (j ≡ m → ⊥) → value j (t ++ entry ∷ []) ≡ value j t
  other j apart = ap (λ e. numerator e.content) (passed_over (values j) t entry (ne_eqb m j (λ q. apart (sym q))))

  -- a table in which the numerator of the measure is changed
  changed : (f g : ℕ → ℤ) → ((j : ℕ) → j ≤ 16 → get_or xs j (pos 0) ≡ f j) → y ≡ g m → ((j : ℕ) → (j ≡ m → ⊥) → f j ≡ g j) → (j : ℕ) → j ≤ 16 → get_or (set xs m y) j (pos 0) ≡ g j
  changed f g h e same j l =
      ⊎_elim
      (λ (q : j ≡ m). ap (λ i. get_or (set xs m y) i (pos 0)) q ∙ get_or-set_same xs m y (pos 0) (omega (arith, low, long)) ∙ e ∙ ap g (sym q))
      (λ (apart : j ≡ m → ⊥). get_or-set_other xs m j y (pos 0) apart ∙ h j l ∙ same j apart)
      (cases_eq j m)

  -- a value comes
  pub value_weighed : Weighed xs t → y ≡ x → Weighed (set xs m y) (t ++ entry ∷ [])
  value_weighed h e = changed (λ j. value j t) (λ j. value j (t ++ entry ∷ [])) h (e ∙ sym (ap (λ d. numerator d.content) (found_last (values m) t entry free (eq-eqb m m refl)))) (λ j apart. sym (other j apart))

  -- and goes
  pub value_unweighed : Weighed xs (t ++ entry ∷ []) → y ≡ pos 0 → Weighed (set xs m y) t
  value_unweighed h e = changed (λ j. value j (t ++ entry ∷ [])) (λ j. value j t) h (e ∙ sym (ap (λ d. numerator d.content) (none_found (values m) t free))) other

module _ (xs : List ℤ) (t : List Entry) (l : ℤ) (o : Origin) (k : ℕ) where
  pub literal_weighed : Weighed xs t → Weighed xs (t ++ record { content = Literal l o; level = k } ∷ [])
  literal_weighed h j b = h j b ∙ sym (literal_same t l o k j)

  pub literal_unweighed : Weighed xs (t ++ record { content = Literal l o; level = k } ∷ []) → Weighed xs t
  literal_unweighed h j b = h j b ∙ literal_same t l o k j
