-- The linear theory keeps the laws.
use Rattle.std.proofs.Common.{◌≡◌, ℕ, zero, suc, ◌+◌, ◌*◌, ◌<◌, ◌≤◌, Bool, true, false, cond, not, ◌&&◌, eqb, ltb, leb, ◌⊎◌, List, [], ◌∷◌, length, ℤ, pos, Ok, Err, sym, refl, ap, ◌∙◌, subst, inl, inr, arith, length-append}
use lib.ListN.{get_or-append}
use lib.IntN.{zero-*ℤ}
use lib.Signed.{lt_z}
use Rattle.std.proofs.lemmas.Bool.{and_parts, le-leb, lt-leb}
use Rattle.faults.specs.declared.InputCause.TheVariants.{OutOfRange}
use Rattle.faults.specs.declared.StateCause.TheVariants.{WrongPhase}
use Rattle.faults.specs.declared.TheoryFault.{TheoryFault}
use Rattle.faults.specs.declared.TheoryFault.TheVariants as theory
use Rattle.faults.specs.Causes.{theory_code}
use Rattle.calculus.specs.Lists.{every, some}
use Rattle.calculus.specs.Limits.{most_measures, within, sized}
use Rattle.calculus.specs.Kinds.{Lawful, Answer, OneMore, InPile, RefusedFor}
use Rattle.calculus.proofs.Refusing.{refused_not_taken, taken_not_refused, yes_not_no, first_in_pile, refused_in_pile}
use Rattle.calculus.proofs.Tabling.{nth_absent}
use Rattle.rows.specs.Bounds.{most_atoms, most_size}
use Rattle.rows.specs.Rows.{Row, no_row, true_of, mentions}
use Rattle.rows.specs.Bodies.{byte_at, row_in, proper_row}
use Rattle.rows.specs.Hints.{multipliers, parts, refutes, splits, all_known}
use Rattle.rows.specs.Linear.{Table, input, need, counting_of, declaring, with_row, admitting, atom, equates, equating, if_shown, by_multipliers, by_split, vouching, linear}
use Rattle.rows.proofs.Farkas.{farkas, true_by}
use Rattle.rows.proofs.Splits.{split}
use Rattle.rows.proofs.Locals as locals

-- what is not refused has passed the test
passed : {M : Type 0} (b : Bool) (f : TheoryFault) (next : TheoryFault ⊎ M) (n : M) → need b f next ≡ inr n → next ≡ inr n
passed true f next n e = e
passed false f next n e = refused_not_taken e

-- refused in a layer of the pile, if at all
abbrev Layered : {M : Type 0} → TheoryFault ⊎ M → Type 0
Layered o = (f : TheoryFault) → o ≡ inl f → InPile (theory_code f).layer

layered_need : {M : Type 0} (b : Bool) (f : TheoryFault) (next : TheoryFault ⊎ M) → InPile (theory_code f).layer → Layered next → Layered (need b f next)
layered_need true f next a h g e = h g e
layered_need false f next a h g e = refused_in_pile a e

layered_taken : {M : Type 0} (n : M) → Layered {M = M} (inr n)
layered_taken n f e = taken_not_refused e

count_layered : (m : Table) (t : ℕ) → Layered (counting_of m t)
count_layered m t = layered_need (not m.counted) _ _ first_in_pile (layered_need (leb t most_measures) _ _ first_in_pile (layered_taken _))

declare_layered : (m : Table) (body : List ℕ) → Layered (declaring m body)
declare_layered m body = layered_need (ltb 0 (length body)) _ _ first_in_pile (λ f e. refused_in_pile first_in_pile e)

admit_layered : (m : Table) (body : List ℕ) → Layered (admitting m body)
admit_layered m body =
    layered_need (ltb 0 (length body)) _ _ first_in_pile
    (layered_need (ltb (length m.rows) most_atoms) _ _ first_in_pile
    (layered_need (within 3 (byte_at body 0)) _ _ first_in_pile
    (layered_need (eqb (length body) (6 + 5 * byte_at body 1)) _ _ first_in_pile
    (layered_need (proper_row m.measures (row_in body)) _ _ first_in_pile (layered_taken _)))))

one_more : (m : Table) (r : Row) → OneMore linear m (with_row m r)
one_more m r = record {
  counted = refl;
  measures = refl;
  atoms = length-append m.rows (r ∷ []);
  mentioned = λ a p l. ap (λ q j. mentions j q) (kept a p l);
  truth = λ a p l. ap true_of (kept a p l);
  admitted = refl;
}
  where
    kept : (a : ℕ) → 0 < a → a ≤ length m.rows → atom (with_row m r) a ≡ atom m a
    kept zero p l = refl
    kept (suc a) p l = get_or-append m.rows (r ∷ []) no_row a (omega arith)

admitted_so : (m : Table) (body : List ℕ) (n : Table) → admitting m body ≡ inr n → OneMore linear m n
admitted_so m body n e =
    let e₁ = passed (ltb 0 (length body)) _ _ n e in
    let e₂ = passed (ltb (length m.rows) most_atoms) _ _ n e₁ in
    let e₃ = passed (within 3 (byte_at body 0)) _ _ n e₂ in
    let e₄ = passed (eqb (length body) (6 + 5 * byte_at body 1)) _ _ n e₃ in
    let e₅ = passed (proper_row m.measures (row_in body)) _ _ n e₄ in
    let z : with_row m (row_in body) ≡ n = cc in
    subst (OneMore linear m) z (one_more m (row_in body))

declared_never : (m : Table) (body : List ℕ) (n : Table) → declaring m body ≡ inr n → ⊥
declared_never m body n e = refused_not_taken (passed (ltb 0 (length body)) _ _ n e)

-- the answer to a hint: the clause was shown, or a layer of the pile says no
abbrev Shown : Table → ℕ → List ℤ → Type 0
Shown m s ls = (all_known m.rows s ls ≡ true) × ((xs : List ℤ) (d : ℕ) → length xs ≡ m.measures → 0 < d → some (true_by m.rows s xs d) ls ≡ true)

abbrev FairAnswer : Table → ℕ → List ℤ → Answer → Type 0
FairAnswer m s ls (Ok u) = Shown m s ls
FairAnswer m s ls (Err f) = InPile (theory_code f).layer

module _ (m : Table) (s : ℕ) (ls : List ℤ) where
  abbrev Fair : Answer → Type 0
  Fair v = FairAnswer m s ls v

  choose : (b : Bool) (v w : Answer) → Fair v → Fair w → Fair (cond b v w)
  choose true v w a c = a
  choose false v w a c = c

  shown : (b : Bool) → (b ≡ true → Shown m s ls) → Fair (if_shown b)
  shown true h = h refl
  shown false h = first_in_pile

  multiplied : (hint : List ℕ) → Fair (by_multipliers m s ls hint)
  multiplied hint =
      choose (eqb (length hint) (1 + 4 * length ls)) _ _
      (choose (every (sized most_size) (multipliers (length ls) hint)) _ _
      (shown (all_known m.rows s ls && refutes m.measures (parts m.rows s ls (multipliers (length ls) hint))) by) first_in_pile) first_in_pile
    where
      by : (all_known m.rows s ls && refutes m.measures (parts m.rows s ls (multipliers (length ls) hint))) ≡ true → Shown m s ls
      by t =
          let a = and_parts (all_known m.rows s ls) (refutes m.measures (parts m.rows s ls (multipliers (length ls) hint))) t in
          (a.0, λ xs d l p. farkas m.rows s xs d ls (multipliers (length ls) hint) p (subst (λ (k : ℕ). refutes k (parts m.rows s ls (multipliers (length ls) hint)) ≡ true) (sym l) a.1))

  halved : (hint : List ℕ) → Fair (by_split m s ls hint)
  halved hint = choose (eqb (length hint) 1) _ _ (shown (all_known m.rows s ls && splits m.rows s ls) by) first_in_pile
    where
      by : (all_known m.rows s ls && splits m.rows s ls) ≡ true → Shown m s ls
      by t = let a = and_parts (all_known m.rows s ls) (splits m.rows s ls) t in (a.0, λ xs d l p. split m.rows s xs d ls a.1)

  answered_fairly : (hint : List ℕ) → Fair (vouching m s ls hint)
  answered_fairly hint =
      choose (eqb (length hint) 0) _ _ first_in_pile
      (choose (eqb (byte_at hint 0) 1) _ _ (multiplied hint)
      (choose (eqb (byte_at hint 0) 2) _ _ (halved hint) first_in_pile))

  answer : (hint : List ℕ) (v : Answer) → vouching m s ls hint ≡ v → Fair v
  answer hint v e = subst (FairAnswer m s ls) e (answered_fairly hint)

count_many : (m : Table) (t : ℕ) → m.counted ≡ false → most_measures < t → RefusedFor OutOfRange (counting_of m t)
count_many m t e h = (1, ap (λ b. need (not b) (theory.State WrongPhase 1) (need (leb t most_measures) (input OutOfRange) (inr (record { counted = true; measures = t; rows = m.rows })))) e ∙ ap (λ b. need b (input OutOfRange) (inr (record { counted = true; measures = t; rows = m.rows }))) (lt-leb t most_measures h))

count_once : (m : Table) (t : ℕ) → m.counted ≡ false → t ≤ most_measures → counting_of m t ≡ inr (record { counted = true; measures = t; rows = m.rows })
count_once m t e h = ap (λ b. need (not b) (theory.State WrongPhase 1) (need (leb t most_measures) (input OutOfRange) (inr (record { counted = true; measures = t; rows = m.rows })))) e ∙ ap (λ b. need b (input OutOfRange) (inr (record { counted = true; measures = t; rows = m.rows }))) (le-leb t most_measures h)

count_again : (m : Table) (t : ℕ) → m.counted ≡ true → counting_of m t ≡ inl (theory.State WrongPhase 1)
count_again m t e = ap (λ b. need (not b) (theory.State WrongPhase 1) (need (leb t most_measures) (input OutOfRange) (inr (record { counted = true; measures = t; rows = m.rows })))) e

equated_parts : (m : Table) (a i j : ℕ) → equating m a i j ≡ true → (within (length m.rows) a ≡ true) × (within m.measures i ≡ true) × (within m.measures j ≡ true) × (equates i j (atom m a) ≡ true)
equated_parts m a i j t =
    let p = and_parts (within (length m.rows) a) (within m.measures i && (within m.measures j && equates i j (atom m a))) t in
    let q = and_parts (within m.measures i) (within m.measures j && equates i j (atom m a)) p.1 in
    let r = and_parts (within m.measures j) (equates i j (atom m a)) q.1 in
    (p.0, q.0, r.0, r.1)

pub linear_lawful : Lawful linear
linear_lawful = record {
  few = omega arith;
  not_counted = refl;
  no_measures = refl;
  no_atoms = refl;
  count_again = λ m t e. (1, count_again m t e);
  count_many = count_many;
  counting = λ m t e h. (record { counted = true; measures = t; rows = m.rows }, count_once m t e h, record { counted = refl; measures = refl; atoms = refl; mentioned = refl; truth = refl; admitted = refl });
  declaring = λ m body n e. absurd (declared_never m body n e);
  admitting = admitted_so;
  declare_empty = λ m. (1, refl);
  admit_empty = λ m. (1, refl);
  vouch_empty = λ m s clause. (1, refl);
  count_layer = count_layered;
  declare_layer = declare_layered;
  admit_layer = admit_layered;
  vouched_layer = λ m s clause hint f e. answer m s clause hint (Err f) e;
  admitted_layer = λ m xs d f e. yes_not_no e;
  local = λ m a xs ys d e p q h. locals.local (atom m a) m.measures xs ys d e p.0 q.0 p.1 q.1 h;
  fair = λ m xs ys d e p q h y. refl;
  absent_mentions = λ m a j e p. ap (mentions j) (nth_absent no_row m.rows a e);
  absent_false = λ m a xs d e. ap (λ r. true_of r xs d) (nth_absent no_row m.rows a e) ∙ ap (lt_z (pos 0)) (zero-*ℤ (pos d));
  equated_there = λ m a i j t. let p = equated_parts m a i j t in (p.0, p.1, p.2);
  equating = λ m a i j t xs d w. locals.equates_so i j (atom m a) xs d (equated_parts m a i j t).3;
  vouched_there = λ m s clause hint e. (answer m s clause hint (Ok tt) e).0;
  vouching = λ m s clause hint e xs d w y. (answer m s clause hint (Ok tt) e).1 xs d w.0 w.1;
}
