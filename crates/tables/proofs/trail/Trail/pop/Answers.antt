use Rattle.std.proofs.Common.{◌≡◌, ℕ, List, [], ◌∷◌, ◌++◌, ◌+◌, cond, true, refl, sym, ap, subst, ◌∙◌, arith}
use Rattle.std.proofs.lemmas.List.{map-append}
use Rattle.fixedvec.specs.Items.{items_of}
use Rattle.calculus.specs.Trails.{choice, choices}
use Rattle.calculus.proofs.Trailing.{choices_push}
use Rattle.tables.specs.declared.entry as code
use Rattle.tables.specs.declared.trail.Trail.{Trail}
use Rattle.tables.specs.Views.{entry_of, entries_of}
use Rattle.tables.specs.Keys.{ranged, free, tidy, placed, Weighed}
use Rattle.tables.specs.Tables.{trail_of}
use Rattle.tables.proofs.Counting.{byte_of}
use Rattle.tables.proofs.Tidying.{tidy_prefix, tidy_enters}
use Rattle.tables.proofs.Placing.{placed_prefix}
use Rattle.tables.proofs.trail.Trail.pop.Goals as goal

-- a trail of what is left, and then the entry that goes
module _ (t : Trail) (left : List code.Entry.Entry) (e : code.Entry.Entry) (is : items_of t.entries ≡ left ++ e ∷ []) where
  parts : trail_of t ≡ entries_of left ++ entry_of e ∷ []
  parts = ap entries_of is ∙ map-append entry_of left (e ∷ [])

  counted : (n : ℕ) → n ≡ cond (choice (entry_of e).content) 1 0 → t.count ≡ choices (entries_of left) + n
  counted n h = omega (arith, t.counted, ap choices parts, choices_push (entries_of left) (entry_of e), h)

  -- the entry is in its range, and what is left has none like it
  entered : (ranged (entry_of e).content ≡ true) × (free (entry_of e).content (entries_of left) ≡ true)
  entered = tidy_enters (entries_of left) (entry_of e) [] (sym (ap tidy parts) ∙ t.tidied)

pub overflow_sub-self : goal.overflow_sub-self
overflow_sub-self c = omega (arith, counted c.args.self.now _ _ c.in-Some.ensures.items _ (c.from.ensures ∙ byte_of c.is_choice.result ∙ ap {B = ℕ} (λ b. cond b 1 0) c.is_choice.ensures))

pub keep-requires-clause-in_range : goal.keep-requires-clause-in_range
keep-requires-clause-in_range c = (entered c.args.self.now _ _ c.in-Some.ensures.items).0

pub invariant_of-self : goal.invariant_of-self
invariant_of-self c =
    let t = c.args.self.now in
    let left = items_of c.pop.new.self in
    let is = c.in-Some.ensures.items in
    let p = parts t left c.in-Some.entry is in
    record {
      tidied = tidy_prefix (entries_of left) _ (sym (ap tidy p) ∙ t.tidied);
      keyed = t.keyed;
      found = placed_prefix t.places (entries_of left) _ 0 (sym (ap (placed t.places 0) p) ∙ t.found);
      counted = omega (arith, counted t left c.in-Some.entry is _ (c.from.ensures ∙ byte_of c.is_choice.result ∙ ap {B = ℕ} (λ b. cond b 1 0) c.is_choice.ensures));
      wide = c.keep.ensures.wide;
      weighed = c.keep.ensures.goes (entries_of left) (entered t left c.in-Some.entry is).1 refl (subst (Weighed t.numerators) p t.weighed);
    }
