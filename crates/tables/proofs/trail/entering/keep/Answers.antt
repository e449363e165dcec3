use Rattle.std.proofs.Common.{◌≡◌, ℕ, ◌≤◌, true, [], ◌∷◌, ◌++◌, set, ℤ, pos, sym, ap, ◌∙◌, subst, arith, to_z-of_z, w32, to_z, of_z}
use Rattle.std.proofs.lemmas.Bool.{and_parts, not-true}
use Rattle.calculus.specs.Limits.{most_measures, most_numerator, within, sized}
use Rattle.calculus.specs.Trails.{Entry, numerator}
use Rattle.tables.specs.declared.entry as code
use Rattle.tables.specs.declared.entry.Entry.TheVariants as entry
use Rattle.tables.specs.Views.{entry_of}
use Rattle.tables.specs.Keys.{ranged, free, Weighed}
use Rattle.tables.proofs.Placing.{within_parts}
use Rattle.tables.proofs.Numerators.{value_weighed, value_unweighed, literal_weighed, literal_unweighed}
use Rattle.tables.proofs.trail.entering.keep.Goals as goal

low : (e : code.Entry.Entry) (m : ℕ) (x : ℤ) (k : ℕ) → e ≡ entry.Value m x k → ranged (entry_of e).content ≡ true → m ≤ 16
low e m x k is r = (within_parts most_measures m (and_parts (within most_measures m) (sized most_numerator x) (sym (ap (λ d. ranged (entry_of d).content) is) ∙ r)).0).1

pub bounds-numerators-from : goal.bounds-numerators-from
bounds-numerators-from c = omega (arith, low c.args.entry _ _ _ c.in-Value.is c.requires.in_range, c.from.ensures)

pub returns-in-Value-clause-comes : goal.returns-in-Value-clause-comes
returns-in-Value-clause-comes c t =
    let xs = c.args.numerators.now in
    let y = to_z w32 (of_z w32 c.args.numerator) in
    subst (λ (e : Entry). free e.content t ≡ true → c.args.numerator ≡ numerator e.content → Weighed xs t → Weighed (set xs c.from.result y) (t ++ e ∷ [])) (sym (ap entry_of c.in-Value.is))
    (λ f e h. subst (λ m. Weighed (set xs m y) (t ++ entry_of (entry.Value c.in-Value.measure c.in-Value.numerator c.in-Value.level) ∷ [])) (sym c.from.ensures) (value_weighed xs c.requires.wide t c.in-Value.measure c.in-Value.level c.in-Value.numerator y (low c.args.entry _ _ _ c.in-Value.is c.requires.in_range) (not-true _ f) h (to_z-of_z c.ranges.numerator ∙ e)))

pub returns-in-Value-clause-goes : goal.returns-in-Value-clause-goes
returns-in-Value-clause-goes c t =
    let xs = c.args.numerators.now in
    let y = to_z w32 (of_z w32 c.args.numerator) in
    subst (λ (e : Entry). free e.content t ≡ true → c.args.numerator ≡ pos 0 → Weighed xs (t ++ e ∷ []) → Weighed (set xs c.from.result y) t) (sym (ap entry_of c.in-Value.is))
    (λ f e h. subst (λ m. Weighed (set xs m y) t) (sym c.from.ensures) (value_unweighed xs c.requires.wide t c.in-Value.measure c.in-Value.level c.in-Value.numerator y (low c.args.entry _ _ _ c.in-Value.is c.requires.in_range) (not-true _ f) h (to_z-of_z c.ranges.numerator ∙ e)))

pub returns-in_default-clause-comes : goal.returns-in_default-clause-comes
returns-in_default-clause-comes c t =
    subst (λ (e : Entry). free e.content t ≡ true → c.args.numerator ≡ numerator e.content → Weighed c.args.numerators.now t → Weighed c.args.numerators.now (t ++ e ∷ [])) (sym (ap entry_of c.in_default.is))
    (λ _ _ h. literal_weighed c.args.numerators.now t _ _ _ h)

pub returns-in_default-clause-goes : goal.returns-in_default-clause-goes
returns-in_default-clause-goes c t =
    subst (λ (e : Entry). free e.content t ≡ true → c.args.numerator ≡ pos 0 → Weighed c.args.numerators.now (t ++ e ∷ []) → Weighed c.args.numerators.now t) (sym (ap entry_of c.in_default.is))
    (λ _ _ h. literal_unweighed c.args.numerators.now t _ _ _ h)
