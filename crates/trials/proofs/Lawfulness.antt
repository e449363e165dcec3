-- The theory of signs keeps the laws.
use Rattle.std.proofs.Common.{◌≡◌, ℕ, zero, suc, ◌+◌, ◌-◌, ◌*◌, ◌<◌, ◌≤◌, Bool, true, false, cond, ◌&&◌, ◌||◌, eqb, ltb, leb, List, [], ◌∷◌, length, get_or, ℤ, pos, negsuc, Ok, Err, ◌*ℤ◌, neg_ℤ, sym, refl, ap, ◌∙◌, subst, inl, inr, ⊎_elim, mul-pos, arith, length-append}
use lib.ListN.{get_or-append, get_or-eq_default}
use lib.IntN.{pos-*ℤ-pos, negsuc-*ℤ-pos, zero-*ℤ}
use Rattle.std.proofs.lemmas.Bool.{true≢false, and_parts, or_cases, or_left, or_right, le-leb, lt-leb, ltb-true, eqb-true, eq-eqb, ne_eqb, cases_lt, cond-true, cond-false, not-true}
use Rattle.faults.specs.declared.InputCause.TheVariants.{OutOfRange}
use Rattle.faults.specs.declared.StateCause.TheVariants.{WrongPhase, NotAdmitted}
use Rattle.faults.specs.declared.TheoryFault.{TheoryFault}
use Rattle.faults.specs.declared.TheoryFault.TheVariants as theory
use Rattle.faults.specs.Causes.{theory_code}
use Rattle.calculus.specs.Lists.{every, some, nth}
use Rattle.calculus.specs.Limits.{most_measures, within}
use Rattle.calculus.specs.Literals.{number}
use Rattle.calculus.specs.Arrangements.{SameFraction}
use Rattle.calculus.specs.Kinds.{Lawful, OnlyCounted, OneMore, Narrower, InPile, not_vouched, some_atom}
use Rattle.calculus.proofs.Tabling.{nth_absent}
use Rattle.calculus.proofs.Testing.{every_same}
use Rattle.calculus.proofs.Refusing.{refused_not_taken, taken_not_refused, no_not_yes, yes_not_no, admitted_so, first_in_pile, refused_in_pile, no_in_pile}
use Rattle.trials.specs.Signs as spec
use Rattle.trials.specs.Signs.{Signs, Sign, sign, no_atom, atom, with_count, with_atom, with_signed, too_many, not_zero, judged, alike, affirms_sign, both_signs, signs}

-- equal fractions have one sign
sign_negative : (k : ℕ) → 0 < k → (sign true (neg_ℤ (pos k)) ≡ true) × (sign false (neg_ℤ (pos k)) ≡ false)
sign_negative zero p = absurd (omega arith)
sign_negative (suc k) p = (refl, refl)

sign_positive : (k : ℕ) → 0 < k → sign false (pos k) ≡ true
sign_positive zero p = absurd (omega arith)
sign_positive (suc k) p = refl

sign_times : (b : Bool) (x : ℤ) (e : ℕ) → 0 < e → sign b (x *ℤ pos e) ≡ sign b x
sign_times true (pos n) e p = ap (sign true) (pos-*ℤ-pos n e)
sign_times true (negsuc n) e p = ap (sign true) (negsuc-*ℤ-pos n e) ∙ (sign_negative (suc n * e) (mul-pos (omega arith) p)).0
sign_times false (pos zero) e p = ap (sign false) (zero-*ℤ (pos e))
sign_times false (pos (suc n)) e p = ap (sign false) (pos-*ℤ-pos (suc n) e) ∙ sign_positive (suc n * e) (mul-pos (omega arith) p)
sign_times false (negsuc n) e p = ap (sign false) (negsuc-*ℤ-pos n e) ∙ (sign_negative (suc n * e) (mul-pos (omega arith) p)).1

same_sign : (b : Bool) (x y : ℤ) (d e : ℕ) → 0 < d → 0 < e → SameFraction x d y e → sign b x ≡ sign b y
same_sign b x y d e p q h = sym (sign_times b x e q) ∙ ap (sign b) h ∙ sign_times b y d p

sign_local : (b : Bool) (j t : ℕ) (xs ys : List ℤ) (d e : ℕ) → length xs ≡ t → length ys ≡ t → 0 < d → 0 < e → (0 < j → j ≤ t → SameFraction (nth (pos 0) xs j) d (nth (pos 0) ys j) e) → sign b (nth (pos 0) xs j) ≡ sign b (nth (pos 0) ys j)
sign_local b zero t xs ys d e lx ly p q h = refl
sign_local b (suc j) t xs ys d e lx ly p q h =
    ⊎_elim (λ l. same_sign b (get_or xs j (pos 0)) (get_or ys j (pos 0)) d e p q (h (omega arith) (omega arith)))
    (λ l. let ax : length xs ≤ j = omega arith in let ay : length ys ≤ j = omega arith in ap (sign b) (get_or-eq_default xs (pos 0) ax ∙ sym (get_or-eq_default ys (pos 0) ay))) (cases_lt j t)

-- a refusal in layer 1
many_top : (b : Bool) (n : Signs) (f : TheoryFault) → too_many b n ≡ inl f → InPile (theory_code f).layer
many_top true n f e = taken_not_refused e
many_top false n f e = refused_in_pile first_in_pile e

-- counting
again : (b : Bool) (m : Signs) (t : ℕ) → b ≡ true → (layer : ℕ) × (spec.counting b m t ≡ inl (theory.State WrongPhase layer))
again true m t e = (1, refl)
again false m t e = absurd (true≢false (sym e))

many : (b : Bool) (m : Signs) (t : ℕ) → b ≡ false → most_measures < t → (layer : ℕ) × (spec.counting b m t ≡ inl (theory.Input OutOfRange layer))
many true m t e p = absurd (true≢false e)
many false m t e p = (1, cond-false (leb t most_measures) (inr (with_count m t)) (inl (theory.Input OutOfRange 1)) (lt-leb t most_measures p))

few : (b : Bool) (m : Signs) (t : ℕ) → b ≡ false → t ≤ most_measures → (n : Signs) × (spec.counting b m t ≡ inr n) × OnlyCounted signs m n t
few true m t e p = absurd (true≢false e)
few false m t e p = (
  with_count m t,
  cond-true (leb t most_measures) (inr (with_count m t)) (inl (theory.Input OutOfRange 1)) (le-leb t most_measures p),
  record { counted = refl; measures = refl; atoms = refl; mentioned = refl; truth = refl; admitted = refl },
)

count_layer : (b : Bool) (m : Signs) (t : ℕ) (f : TheoryFault) → spec.counting b m t ≡ inl f → InPile (theory_code f).layer
count_layer true m t f e = refused_in_pile first_in_pile e
count_layer false m t f e = many_top (leb t most_measures) (with_count m t) f e

-- what was taken is what the test let through
taken_so : (P : Signs → Type 0) (b : Bool) (m n : Signs) → P m → too_many b m ≡ inr n → P n
taken_so P true m n h e = let same : m ≡ n = cc in subst P same h
taken_so P false m n h e = refused_not_taken e

one_more : (m : Signs) (r : Sign) → OneMore signs m (with_atom m r)
one_more m r = record {
  counted = refl;
  measures = refl;
  atoms = length-append m.atoms (r ∷ []);
  mentioned = λ a p l. ap (λ q i. eqb q.measure i) (old a p l);
  truth = λ a p l. ap (λ q xs d. sign q.negative (nth (pos 0) xs q.measure)) (old a p l);
  admitted = refl;
}
  where
    old : (a : ℕ) → 0 < a → a ≤ length m.atoms → atom (with_atom m r) a ≡ atom m a
    old zero p l = refl
    old (suc a) p l = get_or-append m.atoms (r ∷ []) (record { measure = 0; negative = true }) a (omega arith)

admitted_one : (m : Signs) (body : List ℕ) (n : Signs) → spec.admitting m body ≡ inr n → OneMore signs m n
admitted_one m [] n e = refused_not_taken e
admitted_one m (j ∷ []) n e = refused_not_taken e
admitted_one m (j ∷ k ∷ []) n e = taken_so (OneMore signs m) (within m.measures j && ltb k 2) (with_atom m (record { measure = j; negative = eqb k 0 })) n (one_more m (record { measure = j; negative = eqb k 0 })) e
admitted_one m (j ∷ k ∷ i ∷ is) n e = refused_not_taken e

admit_layer : (m : Signs) (body : List ℕ) (f : TheoryFault) → spec.admitting m body ≡ inl f → InPile (theory_code f).layer
admit_layer m [] f e = refused_in_pile first_in_pile e
admit_layer m (j ∷ []) f e = refused_in_pile first_in_pile e
admit_layer m (j ∷ k ∷ []) f e = many_top (within m.measures j && ltb k 2) (with_atom m (record { measure = j; negative = eqb k 0 })) f e
admit_layer m (j ∷ k ∷ i ∷ is) f e = refused_in_pile first_in_pile e

judged_layer : (b : Bool) (f : TheoryFault) → judged b ≡ Err f → (layer : ℕ) × (f ≡ theory.State NotAdmitted layer) × InPile layer
judged_layer true f e = yes_not_no e
judged_layer false f e = let same : theory.State NotAdmitted 1 ≡ f = cc in (1, sym same, first_in_pile)

narrower : (m : Signs) (j : ℕ) → Narrower signs m (with_signed m j)
narrower m j = record {
  counted = refl;
  measures = refl;
  atoms = refl;
  mentioned = refl;
  truth = refl;
  admitted = λ xs d w e. ap judged (and_parts (not_zero xs j) (every (not_zero xs) m.signed) (admitted_so (not_zero xs j && every (not_zero xs) m.signed) e)).1;
}

declared_narrower : (m : Signs) (body : List ℕ) (n : Signs) → spec.declaring m body ≡ inr n → Narrower signs m n
declared_narrower m [] n e = refused_not_taken e
declared_narrower m (j ∷ []) n e = taken_so (Narrower signs m) (within m.measures j) (with_signed m j) n (narrower m j) e
declared_narrower m (j ∷ k ∷ ks) n e = refused_not_taken e

declare_layer : (m : Signs) (body : List ℕ) (f : TheoryFault) → spec.declaring m body ≡ inl f → InPile (theory_code f).layer
declare_layer m [] f e = refused_in_pile first_in_pile e
declare_layer m (j ∷ []) f e = many_top (within m.measures j) (with_signed m j) f e
declare_layer m (j ∷ k ∷ ks) f e = refused_in_pile first_in_pile e

-- vouching
vouched_so : (m : Signs) (s : ℕ) (ls : List ℤ) (hint : List ℕ) → spec.vouching m s ls hint ≡ Ok tt → (j : ℕ) × (both_signs m s ls j ≡ true)
vouched_so m s ls [] e = no_not_yes e
vouched_so m s ls (j ∷ k ∷ ks) e = no_not_yes e
vouched_so m s ls (j ∷ []) e = (j, go (within m.measures j) (both_signs m s ls j) e)
  where
    go : (a b : Bool) → cond a (cond b (Ok tt) (not_vouched 1)) (Err (theory.Input OutOfRange 1)) ≡ Ok tt → b ≡ true
    go true true q = refl
    go true false q = no_not_yes q
    go false b q = no_not_yes q

vouching_layer : (m : Signs) (s : ℕ) (ls : List ℤ) (hint : List ℕ) (f : TheoryFault) → spec.vouching m s ls hint ≡ Err f → InPile (theory_code f).layer
vouching_layer m s ls [] f e = no_in_pile first_in_pile e
vouching_layer m s ls (j ∷ k ∷ ks) f e = no_in_pile first_in_pile e
vouching_layer m s ls (j ∷ []) f e = go (within m.measures j) (both_signs m s ls j) e
  where
    go : (a b : Bool) → cond a (cond b (Ok tt) (not_vouched 1)) (Err (theory.Input OutOfRange 1)) ≡ Err f → InPile (theory_code f).layer
    go true true q = yes_not_no q
    go true false q = no_in_pile first_in_pile q
    go false b q = no_in_pile first_in_pile q

alike_same : (a b : Bool) → alike a b ≡ true → a ≡ b
alike_same true b e = sym e
alike_same false b e = sym (not-true b e)

-- a literal that affirms a sign is true where the measure has it
affirmed_true : (m : Signs) (s j : ℕ) (b : Bool) (xs : List ℤ) (d : ℕ) (ls : List ℤ) → sign b (nth (pos 0) xs j) ≡ true → some (affirms_sign m s j b) ls ≡ true → some_atom signs m s xs d ls ≡ true
affirmed_true m s j b xs d [] h e = absurd (true≢false (sym e))
affirmed_true m s j b xs d (negsuc n ∷ ls) h e = or_right _ (some_atom signs m s xs d ls) (affirmed_true m s j b xs d ls h e)
affirmed_true m s j b xs d (pos n ∷ ls) h e =
    ⊎_elim
    (λ y.
    let p = and_parts (ltb s n) (eqb (atom m (n - s)).measure j && alike (atom m (n - s)).negative b) y in
    let q = and_parts (eqb (atom m (n - s)).measure j) (alike (atom m (n - s)).negative b) p.1 in
    or_left (cond (leb n s) false (sign (atom m (n - s)).negative (nth (pos 0) xs (atom m (n - s)).measure))) (some_atom signs m s xs d ls)
    (cond-false (leb n s) false (sign (atom m (n - s)).negative (nth (pos 0) xs (atom m (n - s)).measure)) (lt-leb n s (ltb-true s n p.0))
    ∙ ap (λ i. sign (atom m (n - s)).negative (nth (pos 0) xs i)) (eqb-true (atom m (n - s)).measure j q.0)
    ∙ ap (λ v. sign v (nth (pos 0) xs j)) (alike_same (atom m (n - s)).negative b q.1) ∙ h))
    (λ y. or_right (cond (leb n s) false (sign (atom m (n - s)).negative (nth (pos 0) xs (atom m (n - s)).measure))) (some_atom signs m s xs d ls) (affirmed_true m s j b xs d ls h y))
    (or_cases (affirms_sign m s j b (pos n)) (some (affirms_sign m s j b) ls) e)

declared_not_zero : (xs : List ℤ) (j : ℕ) (js : List ℕ) → some (eqb j) js ≡ true → every (not_zero xs) js ≡ true → not_zero xs j ≡ true
declared_not_zero xs j [] s e = absurd (true≢false (sym s))
declared_not_zero xs j (i ∷ js) s e =
    let p = and_parts (not_zero xs i) (every (not_zero xs) js) e in
    ⊎_elim (λ y. ap (not_zero xs) (eqb-true j i y) ∙ p.0) (λ y. declared_not_zero xs j js y p.1) (or_cases (eqb j i) (some (eqb j) js) s)

vouched_true : (m : Signs) (s : ℕ) (ls : List ℤ) (j : ℕ) → both_signs m s ls j ≡ true → (xs : List ℤ) (d : ℕ) → judged (every (not_zero xs) m.signed) ≡ Ok tt → some_atom signs m s xs d ls ≡ true
vouched_true m s ls j e xs d y =
    let p = and_parts (every (λ l. within (s + length m.atoms) (number l)) ls) (some (eqb j) m.signed && (some (affirms_sign m s j true) ls && some (affirms_sign m s j false) ls)) e in
    let q = and_parts (some (eqb j) m.signed) (some (affirms_sign m s j true) ls && some (affirms_sign m s j false) ls) p.1 in
    let r = and_parts (some (affirms_sign m s j true) ls) (some (affirms_sign m s j false) ls) q.1 in
    ⊎_elim (λ z. affirmed_true m s j true xs d ls z r.0) (λ z. affirmed_true m s j false xs d ls z r.1)
    (or_cases (sign true (nth (pos 0) xs j)) (sign false (nth (pos 0) xs j)) (declared_not_zero xs j m.signed q.0 (admitted_so (every (not_zero xs) m.signed) y)))

pub signs_lawful : Lawful signs
signs_lawful = record {
  few = omega arith;
  not_counted = refl;
  no_measures = refl;
  no_atoms = refl;
  count_again = λ m. again m.counted m;
  count_many = λ m. many m.counted m;
  counting = λ m. few m.counted m;
  declaring = declared_narrower;
  admitting = admitted_one;
  declare_empty = λ m. (1, refl);
  admit_empty = λ m. (1, refl);
  vouch_empty = λ m s ls. (1, refl);
  count_layer = λ m. count_layer m.counted m;
  declare_layer = declare_layer;
  admit_layer = admit_layer;
  admitted_layer = λ m xs d. judged_layer (every (not_zero xs) m.signed);
  vouched_layer = vouching_layer;
  local = λ m a xs ys d e p q h. sign_local (atom m a).negative (atom m a).measure m.measures xs ys d e p.0 q.0 p.1 q.1 (λ x y. h (atom m a).measure x y (eq-eqb (atom m a).measure (atom m a).measure refl));
  fair = λ m xs ys d e p q h y.
      ap judged (every_same (not_zero ys) (not_zero xs)
      (λ j. let same : (b : Bool) → sign b (nth (pos 0) ys j) ≡ sign b (nth (pos 0) xs j) = λ b. sym (sign_local b j m.measures xs ys d e p.0 q.0 p.1 q.1 (h j)) in
      ap (λ b. b || sign false (nth (pos 0) ys j)) (same true) ∙ ap (λ b. sign true (nth (pos 0) xs j) || b) (same false)) m.signed) ∙ y;
  absent_mentions = λ m a j e p. ap (λ r. eqb r.measure j) (nth_absent no_atom m.atoms a e) ∙ ne_eqb 0 j (λ q. omega arith);
  absent_false = λ m a xs d e. ap (λ r. sign r.negative (nth (pos 0) xs r.measure)) (nth_absent no_atom m.atoms a e);
  equated_there = λ m a i j e. absurd (true≢false (sym e));
  equating = λ m a i j e. absurd (true≢false (sym e));
  vouched_there = λ m s ls hint e. let v = vouched_so m s ls hint e in (and_parts (every (λ l. within (s + length m.atoms) (number l)) ls) (some (eqb v.0) m.signed && (some (affirms_sign m s v.0 true) ls && some (affirms_sign m s v.0 false) ls)) v.1).0;
  vouching = λ m s ls hint e xs d w y. let v = vouched_so m s ls hint e in vouched_true m s ls v.0 v.1 xs d y;
}
