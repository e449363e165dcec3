-- A tidy trail: no two entries clash, each is in range, and there is room for what is free.
use Rattle.std.proofs.Common.{◌≡◌, ℕ, ◌<◌, ◌≤◌, Bool, true, false, ◌&&◌, eqb, List, [], ◌∷◌, ◌++◌, length, sym, refl, ◌∙◌, arith}
use Rattle.std.specs.List.{AllByRecursion}
use Rattle.std.proofs.lemmas.List.{length_push}
use Rattle.std.proofs.lemmas.List.Folds.{list_any-append}
use Rattle.std.proofs.ByRecursion.{All-weaker, All-push}
use Rattle.std.proofs.lemmas.Bool.{and_parts, and_from, or_parts, or_from, not-true, not_from_false, eqb-false, ne_eqb}
use Rattle.calculus.specs.Limits.{most_numbers, most_measures, most_numerator, within, sized}
use Rattle.calculus.specs.Literals.{number}
use Rattle.calculus.specs.Trails.{Content, Entry, Origin, concerns, values, has_entry, up_to}
use Rattle.calculus.specs.Trails.Content.{Value, Literal}
use Rattle.calculus.proofs.Trailing.{clash, Apart, apart_push, apart_up_to, up_to_weaken}
use Rattle.calculus.proofs.Meaning.{Known}
use Rattle.calculus.proofs.Room.{room}
use Rattle.tables.specs.Keys.{ranged, free, tidy}

eqb_flip : (a b : ℕ) → eqb a b ≡ false → eqb b a ≡ false
eqb_flip a b h = ne_eqb b a (λ e. eqb-false a b h (sym e))

-- none passes, if none does that fails
none_all : (p : Content → Bool) (P : Entry → Type 0) → ((e : Entry) → p e.content ≡ false → P e) → (t : List Entry) → has_entry p t ≡ false → AllByRecursion P t
none_all p P f [] h = tt
none_all p P f (e ∷ t) h = let b = or_parts (p e.content) (has_entry p t) h in (f e b.0, none_all p P f t b.1)

all_none : (p : Content → Bool) (P : Entry → Type 0) → ((e : Entry) → P e → p e.content ≡ false) → (t : List Entry) → AllByRecursion P t → has_entry p t ≡ false
all_none p P f [] h = refl
all_none p P f (e ∷ t) h = or_from (p e.content) (has_entry p t) (f e h.0) (all_none p P f t h.1)

measure_clash : (j : ℕ) (x : _) (c : Content) → values j c ≡ clash c (Value j x)
measure_clash j x (Value i y) = refl
measure_clash j x (Literal l o) = refl

number_clash : (l : _) (o : Origin) (c : Content) → concerns (number l) c ≡ clash c (Literal l o)
number_clash l o (Value i y) = refl
number_clash l o (Literal k p) = refl

clash_flip : (b c : Content) → clash b c ≡ false → clash c b ≡ false
clash_flip (Value i x) (Value j y) h = eqb_flip i j h
clash_flip (Value i x) (Literal l p) h = refl
clash_flip (Literal k o) (Value j y) h = refl
clash_flip (Literal k o) (Literal l p) h = eqb_flip (number k) (number l) h

pub free_apart : (c : Content) (t : List Entry) → free c t ≡ true → AllByRecursion (λ f. clash f.content c ≡ false) t
free_apart (Value j x) t h = none_all (values j) (λ f. clash f.content (Value j x) ≡ false) (λ e y. sym (measure_clash j x e.content) ∙ y) t (not-true _ h)
free_apart (Literal l o) t h = none_all (concerns (number l)) (λ f. clash f.content (Literal l o) ≡ false) (λ e y. sym (number_clash l o e.content) ∙ y) t (not-true _ h)

pub apart_free : (c : Content) (t : List Entry) → AllByRecursion (λ f. clash f.content c ≡ false) t → free c t ≡ true
apart_free (Value j x) t h = not_from_false _ (all_none (values j) (λ f. clash f.content (Value j x) ≡ false) (λ e y. measure_clash j x e.content ∙ y) t h)
apart_free (Literal l o) t h = not_from_false _ (all_none (concerns (number l)) (λ f. clash f.content (Literal l o) ≡ false) (λ e y. number_clash l o e.content ∙ y) t h)

flipped : (c : Content) (t : List Entry) → AllByRecursion (λ f. clash f.content c ≡ false) t → AllByRecursion (λ f. clash c f.content ≡ false) t
flipped c t h = All-weaker (λ f. clash f.content c ≡ false) (λ f. clash c f.content ≡ false) (λ f y. clash_flip f.content c y) t h

flopped : (c : Content) (t : List Entry) → AllByRecursion (λ f. clash c f.content ≡ false) t → AllByRecursion (λ f. clash f.content c ≡ false) t
flopped c t h = All-weaker (λ f. clash c f.content ≡ false) (λ f. clash f.content c ≡ false) (λ f y. clash_flip c f.content y) t h

pub tidy_apart : (t : List Entry) → tidy t ≡ true → Apart t
tidy_apart [] h = tt
tidy_apart (e ∷ t) h =
    let b = and_parts (ranged e.content && free e.content t) (tidy t) h in
    let a = and_parts (ranged e.content) (free e.content t) b.0 in
    (flipped e.content t (free_apart e.content t a.1), tidy_apart t b.1)

pub tidy_ranged : (t : List Entry) → tidy t ≡ true → AllByRecursion (λ e. ranged e.content ≡ true) t
tidy_ranged [] h = tt
tidy_ranged (e ∷ t) h =
    let b = and_parts (ranged e.content && free e.content t) (tidy t) h in
    let a = and_parts (ranged e.content) (free e.content t) b.0 in
    (a.0, tidy_ranged t b.1)

pub apart_tidy : (t : List Entry) → Apart t → AllByRecursion (λ e. ranged e.content ≡ true) t → tidy t ≡ true
apart_tidy [] a r = refl
apart_tidy (e ∷ t) a r = and_from _ _ (and_from _ _ r.0 (apart_free e.content t (flopped e.content t a.0))) (apart_tidy t a.1 r.1)

pub tidy_push : (t : List Entry) (e : Entry) → tidy t ≡ true → ranged e.content ≡ true → free e.content t ≡ true → tidy (t ++ e ∷ []) ≡ true
tidy_push t e h r f = apart_tidy (t ++ e ∷ []) (apart_push t e (tidy_apart t h) (free_apart e.content t f)) (All-push (λ x. ranged x.content ≡ true) t e (tidy_ranged t h) r)

pub tidy_up_to : (k : ℕ) (t : List Entry) → tidy t ≡ true → tidy (up_to k t) ≡ true
tidy_up_to k t h = apart_tidy (up_to k t) (apart_up_to k t (tidy_apart t h)) (up_to_weaken (λ e. ranged e.content ≡ true) k t (tidy_ranged t h))

free_prefix : (c : Content) (t u : List Entry) → free c (t ++ u) ≡ true → free c t ≡ true
free_prefix (Value j x) t u h = not_from_false _ (or_parts (has_entry (values j) t) (has_entry (values j) u) (sym (list_any-append (λ e. values j e.content) t u) ∙ not-true _ h)).0
free_prefix (Literal l o) t u h = not_from_false _ (or_parts (has_entry (concerns (number l)) t) (has_entry (concerns (number l)) u) (sym (list_any-append (λ e. concerns (number l) e.content) t u) ∙ not-true _ h)).0

pub tidy_prefix : (t u : List Entry) → tidy (t ++ u) ≡ true → tidy t ≡ true
tidy_prefix [] u h = refl
tidy_prefix (e ∷ t) u h =
    let b = and_parts (ranged e.content && free e.content (t ++ u)) (tidy (t ++ u)) h in
    let a = and_parts (ranged e.content) (free e.content (t ++ u)) b.0 in
    and_from _ _ (and_from _ _ a.0 (free_prefix e.content t u a.1)) (tidy_prefix t u b.1)

middle : (P : Entry → Type 0) (t : List Entry) (e : Entry) (u : List Entry) → AllByRecursion P (t ++ e ∷ u) → P e
middle P [] e u h = h.0
middle P (f ∷ t) e u h = middle P t e u h.1

-- an entry of a tidy trail may enter what stands before it
pub tidy_enters : (t : List Entry) (e : Entry) (u : List Entry) → tidy (t ++ e ∷ u) ≡ true → (ranged e.content ≡ true) × (free e.content t ≡ true)
tidy_enters [] e u h =
    let b = and_parts (ranged e.content && free e.content u) (tidy u) h in
    ((and_parts (ranged e.content) (free e.content u) b.0).0, apart_free e.content [] tt)
tidy_enters (f ∷ t) e u h =
    let b = and_parts (ranged f.content && free f.content (t ++ e ∷ u)) (tidy (t ++ e ∷ u)) h in
    let a = and_parts (ranged f.content) (free f.content (t ++ e ∷ u)) b.0 in
    let r = tidy_enters t e u b.1 in
    (r.0, apart_free e.content (f ∷ t) (clash_flip e.content f.content (middle (λ g. clash g.content f.content ≡ false) t e u (free_apart f.content (t ++ e ∷ u) a.1)), free_apart e.content t r.1))

-- what may enter a trail may enter its part up to a level
pub free_up_to : (c : Content) (k : ℕ) (t : List Entry) → free c t ≡ true → free c (up_to k t) ≡ true
free_up_to c k t h = apart_free c (up_to k t) (up_to_weaken (λ f. clash f.content c ≡ false) k t (free_apart c t h))

ranged_known : (c : Content) → ranged c ≡ true → Known most_numbers most_measures c
ranged_known (Value j x) h = (and_parts (within most_measures j) (sized most_numerator x) h).0
ranged_known (Literal l o) h = h

pub tidy_room : (t : List Entry) → tidy t ≡ true → length t ≤ 143
tidy_room t h = room most_numbers most_measures t (tidy_apart t h) (All-weaker (λ e. ranged e.content ≡ true) (λ e. Known most_numbers most_measures e.content) (λ e. ranged_known e.content) t (tidy_ranged t h))

pub free_room : (t : List Entry) (e : Entry) → tidy t ≡ true → ranged e.content ≡ true → free e.content t ≡ true → length t < 143
free_room t e h r f = omega (arith, tidy_room (t ++ e ∷ []) (tidy_push t e h r f), length_push t e)
