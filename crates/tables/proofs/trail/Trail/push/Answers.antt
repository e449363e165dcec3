use Rattle.std.proofs.Common.{◌≡◌, ℕ, [], ◌∷◌, ◌++◌, cond, ap, ◌∙◌, sym, subst, arith, rules, to_z-of_z, w32, SFits}
use Rattle.std.proofs.lemmas.List.{map-append, length-map, length-set}
use Rattle.fixedvec.specs.Items.{items_of}
use Rattle.calculus.proofs.Trailing.{choices_push}
use Rattle.calculus.specs.Trails.{choice, choices}
use Rattle.tables.specs.Views.{entry_of, entries_of}
use Rattle.tables.specs.Keys.{tidy, placed, Weighed}
use Rattle.tables.specs.Tables.{trail_of}
use Rattle.tables.proofs.Tidying.{tidy_push}
use Rattle.tables.proofs.Tables.{room_of}
use Rattle.tables.proofs.Counting.{count_few, byte_of, at_most_one}
use Rattle.tables.proofs.Placing.{placed_push}
use Rattle.tables.proofs.trail.Trail.push.Goals as goal

pub push-requires : goal.push-requires
push-requires c = (omega arith, room_of c.args.self.now c.args.entry c.requires.in_range c.requires.off_trail)

pub overflow_add-self : goal.overflow_add-self
overflow_add-self c = record { fits = omega (arith, count_few c.args.self.now, c.from-2.ensures, byte_of c.is_choice.result, at_most_one c.is_choice.result) }

pub invariant_of-self : goal.invariant_of-self
invariant_of-self c =
    let e : entries_of (items_of c.push.new.self) ≡ trail_of c.args.self.now ++ entry_of c.args.entry ∷ [] = ap entries_of c.push.ensures.items ∙ map-append entry_of (items_of c.args.self.now.entries) (c.args.entry ∷ []) in
    let chosen : cond c.is_choice.result 1 0 ≡ cond (choice (entry_of c.args.entry).content) 1 0 = ap {B = ℕ} (λ b. cond b 1 0) c.is_choice.ensures in
    let f : SFits w32 c.numerator.result = search rules in
    record {
      tidied = ap tidy e ∙ tidy_push (trail_of c.args.self.now) (entry_of c.args.entry) c.args.self.now.tidied c.requires.in_range c.requires.off_trail;
      keyed = length-set _ _ _ ∙ c.args.self.now.keyed;
      found = ap (placed _ 0) e ∙ placed_push c.args.self.now.places (trail_of c.args.self.now) _ _ (entry_of c.args.entry) c.args.self.now.keyed (c.from.ensures ∙ c.key.ensures) (c.len.ensures.value ∙ sym (length-map (items_of c.args.self.now.entries) entry_of)) c.args.self.now.tidied c.requires.in_range c.requires.off_trail c.args.self.now.found;
      counted = omega (arith, c.args.self.now.counted, ap choices e, choices_push (trail_of c.args.self.now) (entry_of c.args.entry), c.from-2.ensures, byte_of c.is_choice.result, chosen);
      wide = c.keep.ensures.wide;
      weighed = subst (Weighed _) (sym e) (c.keep.ensures.comes (trail_of c.args.self.now) c.requires.off_trail (to_z-of_z f ∙ c.numerator.ensures) c.args.self.now.weighed);
    }
