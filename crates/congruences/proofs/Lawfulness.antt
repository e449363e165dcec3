-- Congruence over a lawful theory is a lawful theory.
use Rattle.std.specs.Prelude.{◌≡◌, ℕ, ◌+◌, Bool, true, false, cond, ◌&&◌, ◌⊎◌, List, [], ◌∷◌, ◌++◌, length, take, ℤ, Ok, Err, ◌==◌, nat_lt, slice_index, refl}
use Rattle.std.proofs.Common.{sym, ◌∙◌, ap, subst, inl, inr, arith}
use Rattle.std.proofs.lemmas.Bool.{and_parts, cond_both}
use Rattle.faults.specs.declared.InputCause.{InputCause}
use Rattle.faults.specs.declared.InputCause.TheVariants.{WrongLength, OutOfRange}
use Rattle.faults.specs.declared.StateCause.TheVariants.{Full, NotVouched, NotAdmitted}
use Rattle.faults.specs.declared.TheoryFault.{TheoryFault}
use Rattle.faults.specs.declared.TheoryFault.TheVariants as theory
use Rattle.faults.specs.Causes.{theory_code, one_lower, raised}
use Rattle.calculus.specs.Lists.{every, nth}
use Rattle.calculus.specs.Limits.{within}
use Rattle.calculus.specs.Kinds.{Kind, Lawful, Whole, some_atom, all_there, OnlyCounted, OneMore, Narrower, Answer, not_admitted, not_vouched, InPile}
use Rattle.calculus.proofs.Refusing.{refused_not_taken, taken_not_refused, no_not_yes, yes_not_no, admitted_so, first_in_pile, refused_in_pile, no_in_pile}
use Rattle.congruences.specs.Applications.{Application, most_applications, most_arguments, no_application, consistent}
use Rattle.congruences.specs.Congruences as spec
use Rattle.congruences.specs.Congruences.{Congruences, raised_result, and_then, own_kind, passed, with_application, applied, declared, congruent, matched, judging, congruence}
use Rattle.congruences.proofs.Fractions.{consistent_same}
use Rattle.congruences.proofs.Consistency.{fewer_consistent, two_agree, congruent_true}

lower_in_pile : (l : ℕ) → InPile (one_lower l)
lower_in_pile l = (omega arith, omega arith)

raised_in_pile : (f : TheoryFault) → InPile (theory_code (raised f)).layer
raised_in_pile (theory.Input c l) = lower_in_pile l
raised_in_pile (theory.State c l) = lower_in_pile l

judged_yes : (j own : Answer) → and_then (raised_result j) own ≡ Ok tt → (j ≡ Ok tt) × (own ≡ Ok tt)
judged_yes (Ok u) own e = (refl, e)
judged_yes (Err f) own e = no_not_yes e

abbrev ToldByLayer : TheoryFault → Type 0
ToldByLayer f = (layer : ℕ) × (f ≡ theory.State NotAdmitted layer) × InPile layer

-- whatever was answered below: a layer of the pile
judged_layer : (j : Answer) (b : Bool) (g : TheoryFault) → and_then (raised_result j) (cond b (Ok tt) (not_admitted 1)) ≡ Err g → InPile (theory_code g).layer
judged_layer (Ok u) true g e = yes_not_no e
judged_layer (Ok u) false g e = no_in_pile first_in_pile e
judged_layer (Err f) b g e = no_in_pile (raised_in_pile f) e

-- and where that was told by a layer, so is this
judged_told : (j : Answer) (b : Bool) → ((f : TheoryFault) → j ≡ Err f → ToldByLayer f) → (g : TheoryFault) → and_then (raised_result j) (cond b (Ok tt) (not_admitted 1)) ≡ Err g → ToldByLayer g
judged_told (Ok u) true h g e = yes_not_no e
judged_told (Ok u) false h g e = let same : theory.State NotAdmitted 1 ≡ g = cc in (1, sym same, first_in_pile)
judged_told (Err f) b h g e =
    let same : raised f ≡ g = cc in
    let told = h f refl in
    (one_lower told.0, sym same ∙ ap raised told.1, lower_in_pile told.0)

module _ (K : Kind) (L : Lawful K) where
  -- what was passed down and taken
  passed_taken : (P : Congruences K → Type 0) (m : Congruences K) (o : TheoryFault ⊎ K.Model) (n : Congruences K) → passed K m o ≡ inr n → ((k : K.Model) → o ≡ inr k → P (record { below = k; applications = m.applications })) → P n
  passed_taken P m (inl f) n e h = refused_not_taken e
  passed_taken P m (inr k) n e h = let same : record { below = k; applications = m.applications } ≡ n = cc in subst P same (h k refl)

  passed_refused : (m : Congruences K) (o : TheoryFault ⊎ K.Model) (f : TheoryFault) → passed K m o ≡ inl f → InPile (theory_code f).layer
  passed_refused m (inl g) f e = refused_in_pile (raised_in_pile g) e
  passed_refused m (inr k) f e = taken_not_refused e

  passed_input : (m : Congruences K) (c : InputCause) (o : TheoryFault ⊎ K.Model) → (layer : ℕ) × (o ≡ inl (theory.Input c layer)) → (layer : ℕ) × (passed K m o ≡ inl (theory.Input c layer))
  passed_input m c o h = (one_lower h.0, ap (passed K m) h.1)

  -- the lower theory's changes
  below_narrower : (m : Congruences K) (k : K.Model) → Narrower K m.below k → Narrower (congruence K) m (record { below = k; applications = m.applications })
  below_narrower m k h = record {
    counted = h.counted;
    measures = h.measures;
    atoms = h.atoms;
    mentioned = h.mentioned;
    truth = h.truth;
    admitted = λ xs d w e. let y = judged_yes (K.admitted k xs d) (judging K (consistent m.applications xs)) e in
        ap (λ j. and_then (raised_result j) (judging K (consistent m.applications xs))) (h.admitted xs d w y.0) ∙ y.1;
  }

  below_more : (m : Congruences K) (k : K.Model) → OneMore K m.below k → OneMore (congruence K) m (record { below = k; applications = m.applications })
  below_more m k h = record {
    counted = h.counted;
    measures = h.measures;
    atoms = h.atoms;
    mentioned = h.mentioned;
    truth = h.truth;
    admitted = ap (λ f xs d. and_then (raised_result (f xs d)) (judging K (consistent m.applications xs))) h.admitted;
  }

  below_counted : (m : Congruences K) (k : K.Model) (t : ℕ) → OnlyCounted K m.below k t → OnlyCounted (congruence K) m (record { below = k; applications = m.applications }) t
  below_counted m k t h = record {
    counted = h.counted;
    measures = h.measures;
    atoms = h.atoms;
    mentioned = h.mentioned;
    truth = h.truth;
    admitted = ap (λ f xs d. and_then (raised_result (f xs d)) (judging K (consistent m.applications xs))) h.admitted;
  }

  -- an application more
  one_application : (m : Congruences K) (p : Application) → Narrower (congruence K) m (with_application K m p)
  one_application m p = record {
    counted = refl;
    measures = refl;
    atoms = refl;
    mentioned = refl;
    truth = refl;
    admitted = λ xs d w e. let y = judged_yes (K.admitted m.below xs d) (judging K (consistent (m.applications ++ p ∷ []) xs)) e in
        ap (λ j. and_then (raised_result j) (judging K (consistent m.applications xs))) y.0
        ∙ ap (judging K) (fewer_consistent m.applications p xs (admitted_so (consistent (m.applications ++ p ∷ []) xs) y.1));
  }

  -- of what is refused here or passed on
  either_refused : (a : Bool) (f : TheoryFault) (o : TheoryFault ⊎ Congruences K) (P : TheoryFault ⊎ Congruences K → Type 0) → P (inl f) → P o → P (cond a o (inl f))
  either_refused true f o P x y = y
  either_refused false f o P x y = x

  abbrev FairOutcome : Congruences K → TheoryFault ⊎ Congruences K → Type 0
  FairOutcome m o = ((n : Congruences K) → o ≡ inr n → Narrower (congruence K) m n) × ((f : TheoryFault) → o ≡ inl f → InPile (theory_code f).layer)

  refused_fair : (m : Congruences K) (f : TheoryFault) → InPile (theory_code f).layer → FairOutcome m (inl f)
  refused_fair m f h = (λ n e. refused_not_taken e, λ g e. refused_in_pile h e)

  applied_fair : (m : Congruences K) (f n : ℕ) (places : List ℕ) → FairOutcome m (applied K m f n places)
  applied_fair m f n places =
      either_refused (length places == n + 1) (theory.Input WrongLength 1) _ (FairOutcome m) (refused_fair m (theory.Input WrongLength 1) first_in_pile)
      (either_refused (within most_arguments n && every (within (K.measures m.below)) places) (theory.Input OutOfRange 1) _ (FairOutcome m) (refused_fair m (theory.Input OutOfRange 1) first_in_pile) (
        λ k e. let same : with_application K m (record { function = f; arguments = take n places; result = slice_index places n }) ≡ k = cc in subst (Narrower (congruence K) m) same (one_application m _),
        λ g e. taken_not_refused e,
      ))

  declared_fair : (m : Congruences K) (rest : List ℕ) → FairOutcome m (declared K m rest)
  declared_fair m [] = refused_fair m (theory.Input WrongLength 1) first_in_pile
  declared_fair m (f ∷ []) = refused_fair m (theory.Input WrongLength 1) first_in_pile
  declared_fair m (f ∷ n ∷ places) = applied_fair m f n places

  passed_fair : (m : Congruences K) (body : List ℕ) → FairOutcome m (passed K m (K.declare m.below body))
  passed_fair m body = (
    λ n e. passed_taken (Narrower (congruence K) m) m (K.declare m.below body) n e (λ k q. below_narrower m k (L.declaring m.below body k q)),
    λ f e. passed_refused m (K.declare m.below body) f e,
  )

  declaring_fair : (m : Congruences K) (body : List ℕ) → FairOutcome m (spec.declaring K m body)
  declaring_fair m [] = passed_fair m []
  declaring_fair m (k ∷ rest) =
      cond_both (k == own_kind) _ _ (FairOutcome m)
      (λ _. either_refused (nat_lt (length m.applications) most_applications) (theory.State Full 1) _ (FairOutcome m) (refused_fair m (theory.State Full 1) first_in_pile) (declared_fair m rest))
      (λ _. passed_fair m (k ∷ rest))

  -- vouching
  abbrev FairVouching : Congruences K → ℕ → List ℤ → Answer → Type 0
  FairVouching m s ls v =
      (v ≡ Ok tt → (all_there K m.below s ls ≡ true) × ((xs : List ℤ) (d : ℕ) → Whole K m.below xs d → K.admitted m.below xs d ≡ Ok tt → consistent m.applications xs ≡ true → some_atom K m.below s xs d ls ≡ true))
      × ((f : TheoryFault) → v ≡ Err f → InPile (theory_code f).layer)

  refused_vouching : (m : Congruences K) (s : ℕ) (ls : List ℤ) (f : TheoryFault) → InPile (theory_code f).layer → FairVouching m s ls (Err f)
  refused_vouching m s ls f h = (
    λ e. no_not_yes e,
    λ g e. no_in_pile h e,
  )

  matched_fair : (m : Congruences K) (s : ℕ) (ls : List ℤ) (rest : List ℕ) → FairVouching m s ls (matched K m s ls rest)
  matched_fair m s ls [] = refused_vouching m s ls (theory.Input WrongLength 1) first_in_pile
  matched_fair m s ls (a ∷ []) = refused_vouching m s ls (theory.Input WrongLength 1) first_in_pile
  matched_fair m s ls (a ∷ b ∷ c ∷ cs) = refused_vouching m s ls (theory.Input WrongLength 1) first_in_pile
  matched_fair m s ls (a ∷ b ∷ []) =
      cond_both (within (length m.applications) a && within (length m.applications) b) _ _ (FairVouching m s ls)
      (λ y. let i = and_parts (within (length m.applications) a) (within (length m.applications) b) y in
      cond_both (all_there K m.below s ls && congruent K m.below s ls p q) (Ok tt) (not_vouched 1) (FairVouching m s ls)
      (λ z. let h = and_parts (all_there K m.below s ls) (congruent K m.below s ls p q) z in (
        λ _. (h.0, λ xs d w _ c. congruent_true K L m.below s xs d w ls p q (two_agree m.applications xs a b c i.0 i.1) h.1),
        λ g e. yes_not_no e,
      ))
      (λ _. refused_vouching m s ls (theory.State NotVouched 1) first_in_pile))
      (λ _. refused_vouching m s ls (theory.Input OutOfRange 1) first_in_pile)
    where
      p : Application
      p = nth no_application m.applications a

      q : Application
      q = nth no_application m.applications b

  raised_fair : (m : Congruences K) (s : ℕ) (ls : List ℤ) (hint : List ℕ) (v : Answer) → K.vouched m.below s ls hint ≡ v → FairVouching m s ls (raised_result v)
  raised_fair m s ls hint (Ok u) e = (
    λ _. (L.vouched_there m.below s ls hint e, λ xs d w y _. L.vouching m.below s ls hint e xs d w y),
    λ g e. yes_not_no e,
  )
  raised_fair m s ls hint (Err f) e = refused_vouching m s ls (raised f) (raised_in_pile f)

  vouching_fair : (m : Congruences K) (s : ℕ) (ls : List ℤ) (hint : List ℕ) → FairVouching m s ls (spec.vouching K m s ls hint)
  vouching_fair m s ls [] = raised_fair m s ls [] (K.vouched m.below s ls []) refl
  vouching_fair m s ls (k ∷ rest) =
      cond_both (k == own_kind) _ _ (FairVouching m s ls) (λ _. matched_fair m s ls rest) (λ _. raised_fair m s ls (k ∷ rest) (K.vouched m.below s ls (k ∷ rest)) refl)

  pub congruence_lawful : Lawful (congruence K)
  congruence_lawful = record {
    few = L.few;
    not_counted = L.not_counted;
    no_measures = L.no_measures;
    no_atoms = L.no_atoms;
    count_again = λ m t e. let h = L.count_again m.below t e in (one_lower h.0, ap (passed K m) h.1);
    count_many = λ m t e l. passed_input m OutOfRange (K.count m.below t) (L.count_many m.below t e l);
    counting = λ m t e l. let h = L.counting m.below t e l in (record { below = h.0; applications = m.applications }, ap (passed K m) h.1, below_counted m h.0 t h.2);
    declaring = λ m body. (declaring_fair m body).0;
    admitting = λ m body n e. passed_taken (OneMore (congruence K) m) m (K.admit m.below body) n e (λ k q. below_more m k (L.admitting m.below body k q));
    declare_empty = λ m. passed_input m WrongLength (K.declare m.below []) (L.declare_empty m.below);
    admit_empty = λ m. passed_input m WrongLength (K.admit m.below []) (L.admit_empty m.below);
    vouch_empty = λ m s ls. let h = L.vouch_empty m.below s ls in (one_lower h.0, ap raised_result h.1);
    count_layer = λ m t f e. passed_refused m (K.count m.below t) f e;
    declare_layer = λ m body. (declaring_fair m body).1;
    admit_layer = λ m body f e. passed_refused m (K.admit m.below body) f e;
    vouched_layer = λ m s ls hint. (vouching_fair m s ls hint).1;
    admitted_layer = λ m xs d. judged_told (K.admitted m.below xs d) (consistent m.applications xs) (L.admitted_layer m.below xs d);
    local = λ m. L.local m.below;
    fair = λ m xs ys d e p q h y. let z = judged_yes (K.admitted m.below xs d) (judging K (consistent m.applications xs)) y in
        ap (λ j. and_then (raised_result j) (judging K (consistent m.applications ys))) (L.fair m.below xs ys d e p q h z.0)
        ∙ ap (judging K) (sym (consistent_same (K.measures m.below) xs ys d e p.0 q.0 p.1 q.1 h m.applications))
        ∙ z.1;
    absent_mentions = λ m. L.absent_mentions m.below;
    absent_false = λ m. L.absent_false m.below;
    equated_there = λ m. L.equated_there m.below;
    equating = λ m. L.equating m.below;
    vouched_there = λ m s ls hint e. ((vouching_fair m s ls hint).0 e).0;
    vouching = λ m s ls hint e xs d w y. let z = judged_yes (K.admitted m.below xs d) (judging K (consistent m.applications xs)) y in
        ((vouching_fair m s ls hint).0 e).1 xs d w z.0 (admitted_so (consistent m.applications xs) z.1);
  }
