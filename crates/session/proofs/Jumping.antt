-- What a jump comes to when its tests are known.
use Rattle.std.proofs.Common.{◌≡◌, ℕ, ◌-◌, true, false, cond, ◌&&◌, eqb, ltb, ℤ, Ok, Err, sym, ap, ◌∙◌}
use Rattle.faults.specs.declared.InputCause.TheVariants.{BadLiteral}
use Rattle.faults.specs.declared.StateCause.TheVariants.{WrongPhase, Full, Absent, NotResolvable, NotAllowed}
use Rattle.faults.specs.declared.SessionFault.TheVariants as session
use Rattle.std.proofs.lemmas.Bool.{cond-true, cond-false}
use Rattle.calculus.specs.Limits.{within}
use Rattle.calculus.specs.Literals.{number, proper, holds_literal}
use Rattle.calculus.specs.Calls.Call.{Jump}
use Rattle.calculus.specs.Kinds.{Kind}
use Rattle.calculus.specs.Trails.{false_at}
use Rattle.calculus.specs.States.{State, is_analysing}
use Rattle.calculus.specs.Steps.{Outcome, step, need, has_room, top_of, others, all_read, forced, split}
use Rattle.calculus.specs.Steps.Reply.{Done}
use Rattle.session.proofs.Needing.{need_yes, need_no}

module _ (K : Kind) (s : State K) (l : ℤ) (p : is_analysing s.phase ≡ true) (q : has_room K s ≡ true) (r : proper l ≡ true) (n : within s.numbers (number l) ≡ true) (h : holds_literal l s.open_clause ≡ true) where
  -- the levels, by their own names
  module _ (top next : ℕ) (e : top ≡ top_of K s s.open_clause) (f : next ≡ top_of K s (others l s.open_clause)) where
    abbrev behind : ℕ → ℕ → Outcome K
    behind a b = need K (ltb 0 a && eqb (false_at s.trail l) a) (session.State NotAllowed) s (cond (ltb b a) (Ok Done, forced K s l b) (need K (all_read s.trail a s.open_clause) (session.State NotAllowed) s (Ok Done, split K s l (a - 1))))

    tested : step K s (Jump l) ≡ behind top next
    tested =
        need_yes K (is_analysing s.phase) (session.State WrongPhase) s _ p
        ∙ need_yes K (has_room K s) (session.State Full) s _ q
        ∙ need_yes K (proper l) (session.Input BadLiteral) s _ r
        ∙ need_yes K (within s.numbers (number l)) (session.State Absent) s _ n
        ∙ need_yes K (holds_literal l s.open_clause) (session.State NotResolvable) s _ h
        ∙ ap (λ a. behind a (top_of K s (others l s.open_clause))) (sym e)
        ∙ ap (behind top) (sym f)

    pub jump_low : (ltb 0 top && eqb (false_at s.trail l) top) ≡ false → step K s (Jump l) ≡ (Err (session.State NotAllowed), s)
    jump_low x = tested ∙ need_no K _ _ s _ x

    module _ (x : (ltb 0 top && eqb (false_at s.trail l) top) ≡ true) where
      pub jump_forced : ltb next top ≡ true → step K s (Jump l) ≡ (Ok Done, forced K s l next)
      jump_forced y = tested ∙ need_yes K _ _ s _ x ∙ cond-true _ _ _ y

      pub jump_split : ltb next top ≡ false → all_read s.trail top s.open_clause ≡ true → step K s (Jump l) ≡ (Ok Done, split K s l (top - 1))
      jump_split y z = tested ∙ need_yes K _ _ s _ x ∙ cond-false _ _ _ y ∙ need_yes K _ _ s _ z
