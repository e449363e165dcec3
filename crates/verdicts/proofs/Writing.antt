-- The calls that the records of a case and of a log write.
use Rattle.std.proofs.Common.{◌≡◌, ℕ, Bool, true, false, cond, eqb, leb, ◌⊎◌, List, [], ◌∷◌, length, take, drop, ℤ, sym, refl, subst, inl, inr}
use Rattle.std.proofs.lemmas.Bool.{eqb-true, cond_both}
use Rattle.numerals.specs.Numbers.{four_bytes, signed_byte, signed_word, signed_bytes}
use Rattle.faults.specs.declared.InputCause.{InputCause}
use Rattle.faults.specs.declared.InputCause.TheVariants.{WrongLength}
use Rattle.calculus.specs.Calls.{Call}
use Rattle.calculus.specs.Calls.Call.{Counts, Declare, Admit, Rule, Seal, Lemma, Choose, Set, Propagate, Read, Conflict, Resolve, Jump, Concede, Claim, Abandon}
use Rattle.calculus.specs.Kinds.{Kind}
use Rattle.calculus.specs.Questions.{left}
use Rattle.files.specs.Records.{Entry, Reading, Then}
use Rattle.files.specs.Decoding.{no_bytes, one, two, four, five, counted, case_call, log_call}
use Rattle.verdicts.specs.Stated.{switches_of, rules_of, told_by}

-- what is said of the call, if there is one
abbrev pub IfCall : (Call → Type 0) → InputCause ⊎ Call → Type 0
IfCall P (inl x) = Unit {0}
IfCall P (inr c) = P c

call_so : (P : Call → Type 0) (o : InputCause ⊎ Call) (c : Call) → o ≡ inr c → IfCall P o → P c
call_so P o c e h = subst (IfCall P) e h

module _ (P : Call → Type 0) where
  pub either : (b : Bool) (x y : InputCause ⊎ Call) → IfCall P x → IfCall P y → IfCall P (cond b x y)
  either true x y p q = p
  either false x y p q = q

  pub no_bytes_so : (c : Call) (body : List ℕ) → P c → IfCall P (no_bytes c body)
  no_bytes_so c [] h = h
  no_bytes_so c (a ∷ more) h = tt

  pub one_so : (f : ℕ → Call) (body : List ℕ) → ((a : ℕ) → P (f a)) → IfCall P (one f body)
  one_so f [] h = tt
  one_so f (a ∷ more) h = no_bytes_so (f a) more (h a)

  pub two_so : (f : ℕ → ℕ → Call) (body : List ℕ) → ((a b : ℕ) → P (f a b)) → IfCall P (two f body)
  two_so f [] h = tt
  two_so f (a ∷ more) h = one_so (f a) more (h a)

  pub four_so : (f : ℕ → ℕ → ℕ → ℕ → Call) (body : List ℕ) → ((a b c d : ℕ) → P (f a b c d)) → IfCall P (four f body)
  four_so f [] h = tt
  four_so f (a ∷ []) h = tt
  four_so f (a ∷ b ∷ more) h = two_so (f a b) more (h a b)

  pub five_so : (f : ℕ → ℕ → ℕ → ℕ → ℕ → Call) (body : List ℕ) → ((a b c d e : ℕ) → P (f a b c d e)) → IfCall P (five f body)
  five_so f [] h = tt
  five_so f (a ∷ more) h = four_so (f a) more (h a)

  counted_so : (body : List ℕ) → ((ls : List ℤ) (hint : List ℕ) → P (Lemma ls hint)) → IfCall P (counted body)
  counted_so [] h = tt
  counted_so (n ∷ more) h = either (leb n (length more)) (inr (Lemma (signed_bytes (take n more)) (drop n more))) (inl WrongLength) (h (signed_bytes (take n more)) (drop n more)) tt

-- a log writes neither counts nor declarations nor rules
abbrev pub OfLog : Call → Type 0
OfLog (Counts w t) = ⊥
OfLog (Declare body) = ⊥
OfLog (Admit body) = Unit {0}
OfLog (Rule ls) = ⊥
OfLog (Seal d) = Unit {0}
OfLog (Lemma ls hint) = Unit {0}
OfLog (Choose l) = Unit {0}
OfLog (Set j x) = Unit {0}
OfLog (Propagate c l) = Unit {0}
OfLog (Read n) = Unit {0}
OfLog (Conflict c) = Unit {0}
OfLog (Resolve n) = Unit {0}
OfLog (Jump l) = Unit {0}
OfLog Concede = Unit {0}
OfLog Claim = Unit {0}
OfLog Abandon = Unit {0}

pub of_log : (kind : ℕ) (body : List ℕ) (c : Call) → log_call kind body ≡ inr c → OfLog c
of_log kind body c e =
    call_so OfLog (log_call kind body) c e
    (either OfLog (eqb kind 3) _ _ tt
    (either OfLog (eqb kind 10) _ _ (four_so OfLog (λ a b c d. Seal (four_bytes a b c d)) body (λ a b c d. tt))
    (either OfLog (eqb kind 11) _ _ (counted_so OfLog body (λ ls hint. tt))
    (either OfLog (eqb kind 12) _ _ (one_so OfLog (λ l. Choose (signed_byte l)) body (λ a. tt))
    (either OfLog (eqb kind 13) _ _ (five_so OfLog (λ j a b c d. Set j (signed_word a b c d)) body (λ j a b c d. tt))
    (either OfLog (eqb kind 14) _ _ (two_so OfLog (λ c l. Propagate c (signed_byte l)) body (λ a b. tt))
    (either OfLog (eqb kind 15) _ _ (one_so OfLog (λ n. Read n) body (λ a. tt))
    (either OfLog (eqb kind 16) _ _ (one_so OfLog (λ c. Conflict c) body (λ a. tt))
    (either OfLog (eqb kind 17) _ _ (one_so OfLog (λ n. Resolve n) body (λ a. tt))
    (either OfLog (eqb kind 18) _ _ (one_so OfLog (λ l. Jump (signed_byte l)) body (λ a. tt))
    (either OfLog (eqb kind 19) _ _ (no_bytes_so OfLog Concede body tt)
    (either OfLog (eqb kind 20) _ _ (no_bytes_so OfLog Claim body tt)
    (either OfLog (eqb kind 21) _ _ (no_bytes_so OfLog Abandon body tt) tt)))))))))))))

-- what a record adds to the switches, the theory and the rules that are stated
pub record Adds (K : Kind) (e : Entry) (w : ℕ → ℕ) (m : K.Model → K.Model) (rules : List (List ℤ) → List (List ℤ)) : Type 0 where
  pub switches : (more : Reading) → switches_of (Then e more) ≡ w (switches_of more)
  pub model : (n : K.Model) → told_by K e n ≡ m n
  pub stated : (more : Reading) → rules_of (Then e more) ≡ rules (rules_of more)

-- a case writes counts, declarations, admissions and rules, and states what they say
abbrev pub OfCase : (K : Kind) → Entry → Call → Type 0
OfCase K e (Counts w t) = Adds K e (λ _. w) (λ n. left K n (K.count n t)) (λ rs. rs)
OfCase K e (Declare body) = Adds K e (λ w. w) (λ n. left K n (K.declare n body)) (λ rs. rs)
OfCase K e (Admit body) = Adds K e (λ w. w) (λ n. left K n (K.admit n body)) (λ rs. rs)
OfCase K e (Rule ls) = Adds K e (λ w. w) (λ n. n) (λ rs. ls ∷ rs)
OfCase K e (Seal d) = ⊥
OfCase K e (Lemma ls hint) = ⊥
OfCase K e (Choose l) = ⊥
OfCase K e (Set j x) = ⊥
OfCase K e (Propagate c l) = ⊥
OfCase K e (Read n) = ⊥
OfCase K e (Conflict c) = ⊥
OfCase K e (Resolve n) = ⊥
OfCase K e (Jump l) = ⊥
OfCase K e Concede = ⊥
OfCase K e Claim = ⊥
OfCase K e Abandon = ⊥

module _ (K : Kind) (number start : ℕ) where
  abbrev entry : ℕ → List ℕ → Entry
  entry kind body = record { number = number; start = start; kind = kind; body = body }

  counts_so : (body : List ℕ) → IfCall (OfCase K (entry 1 body)) (two (λ switches measures. Counts switches measures) body)
  counts_so [] = tt
  counts_so (a ∷ []) = tt
  counts_so (a ∷ b ∷ []) = record { switches = λ more. refl; model = λ n. refl; stated = λ more. refl }
  counts_so (a ∷ b ∷ c ∷ more) = tt

  module _ (kind : ℕ) (body : List ℕ) where
    of_kind : (k : ℕ) (x y : InputCause ⊎ Call) → IfCall (OfCase K (entry k body)) x → IfCall (OfCase K (entry kind body)) y → IfCall (OfCase K (entry kind body)) (cond (eqb kind k) x y)
    of_kind k x y p q = cond_both (eqb kind k) x y (IfCall (OfCase K (entry kind body))) (λ h. subst (λ j. IfCall (OfCase K (entry j body)) x) (sym (eqb-true kind k h)) p) (λ _. q)

    of_entry : IfCall (OfCase K (entry kind body)) (case_call kind body)
    of_entry =
        of_kind 1 _ _ (counts_so body)
        (of_kind 2 _ _ (record { switches = λ more. refl; model = λ n. refl; stated = λ more. refl })
        (of_kind 3 _ _ (record { switches = λ more. refl; model = λ n. refl; stated = λ more. refl })
        (of_kind 4 _ _ (record { switches = λ more. refl; model = λ n. refl; stated = λ more. refl }) tt)))

pub of_case : (K : Kind) (e : Entry) (c : Call) → case_call e.kind e.body ≡ inr c → OfCase K e c
of_case K e c h = call_so (OfCase K e) (case_call e.kind e.body) c h (of_entry K e.number e.start e.kind e.body)
