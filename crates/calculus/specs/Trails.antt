-- The trail: what is on it, and what it says.
use Rattle.std.specs.Prelude.{ℕ, ◌+◌, ◌-◌, Bool, true, false, cond, not, ◌&&◌, ◌||◌, List, [], ◌∷◌, ◌++◌, map, ℤ, pos, neg_ℤ, ◌==◌, nat_le, nat_lt}
use Rattle.std.specs.List.{range_with_len}
use Rattle.calculus.specs.Lists.{every, some, highest}
use Rattle.calculus.specs.Literals.{same, number, signed}
use Rattle.calculus.specs.Kinds.{Kind}

-- how a literal came: chosen, propagated with a clause as its reason, or read off the values
pub data Origin : Type 0 where
  Chosen : Origin
  Propagated : ℕ → Origin
  Read : Origin

-- a value for a measure, as a numerator, or a literal
pub data Content : Type 0 where
  Value : ℕ → ℤ → Content
  Literal : ℤ → Origin → Content

pub record Entry : Type 0 where
  pub content : Content
  pub level : ℕ

-- what a look-up finds where there is nothing
abbrev pub no_entry : Entry
no_entry = record { content = Value 0 (pos 0); level = 0 }

abbrev pub chosen_so : Origin → Bool
chosen_so Chosen = true
chosen_so (Propagated c) = false
chosen_so Read = false

abbrev pub read_so : Origin → Bool
read_so Chosen = false
read_so (Propagated c) = false
read_so Read = true

-- the number of the reason, or 0
abbrev pub reason_so : Origin → ℕ
reason_so Chosen = 0
reason_so (Propagated c) = c
reason_so Read = 0

-- a choice is a value or a chosen literal
abbrev pub choice : Content → Bool
choice (Value j x) = true
choice (Literal l o) = chosen_so o

-- the content is the literal l
abbrev pub affirms : ℤ → Content → Bool
affirms l (Value j x) = false
affirms l (Literal k o) = same k l

-- it is a literal on the number n
abbrev pub concerns : ℕ → Content → Bool
concerns n (Value j x) = false
concerns n (Literal k o) = number k == n

-- it is a value for the measure j
abbrev pub values : ℕ → Content → Bool
values j (Value i x) = i == j
values j (Literal k o) = false

abbrev pub numerator : Content → ℤ
numerator (Value j x) = x
numerator (Literal k o) = pos 0

abbrev pub was_read : Content → Bool
was_read (Value j x) = false
was_read (Literal k o) = read_so o

abbrev pub reason : Content → ℕ
reason (Value j x) = 0
reason (Literal k o) = reason_so o

-- the first entry with such a content
abbrev pub entry_for : (Content → Bool) → List Entry → Entry
entry_for p [] = no_entry
entry_for p (e ∷ t) = cond (p e.content) e (entry_for p t)

abbrev pub has_entry : (Content → Bool) → List Entry → Bool
has_entry p t = some (λ e. p e.content) t

abbrev pub on_trail : ℤ → List Entry → Bool
on_trail l t = has_entry (affirms l) t

-- a literal is false when its denial is on the trail
abbrev pub false_on : List Entry → ℤ → Bool
false_on t l = on_trail (neg_ℤ l) t

-- at its denial's level
abbrev pub false_at : List Entry → ℤ → ℕ
false_at t l = (entry_for (affirms (neg_ℤ l)) t).level

-- the number is on the trail, affirmed or denied
abbrev pub taken : ℕ → List Entry → Bool
taken n t = has_entry (concerns n) t

abbrev pub valued : ℕ → List Entry → Bool
valued j t = has_entry (values j) t

abbrev pub value : ℕ → List Entry → ℤ
value j t = numerator (entry_for (values j) t).content

-- how many choices there are
abbrev pub choices : List Entry → ℕ
choices [] = 0
choices (e ∷ t) = cond (choice e.content) 1 0 + choices t

-- the entries of level up to k, in their order
abbrev pub up_to : ℕ → List Entry → List Entry
up_to k [] = []
up_to k (e ∷ t) = cond (nat_le e.level k) (e ∷ up_to k t) (up_to k t)

-- with one entry more
abbrev pub enter : List Entry → Content → ℕ → List Entry
enter t c k = t ++ record { content = c; level = k } ∷ []

-- a choice enters at the count of choices up to and with it
abbrev pub enter_choice : List Entry → Content → List Entry
enter_choice t c = enter t c (choices t + 1)

-- the value of each measure, or 0
abbrev pub numerators : (K : Kind) → K.Model → List Entry → List ℤ
numerators K m t = map (λ j. value j t) (range_with_len 1 (K.measures m))

-- where the numbers up to w are switches, and the number w + a is the atom a
module _ (K : Kind) (m : K.Model) (w : ℕ) where
  -- an atom is readable when all measures that it mentions have values
  abbrev pub readable : List Entry → ℕ → Bool
  readable t n = nat_lt w n && every (λ j. not (K.mentioned m (n - w) j) || valued j t) (range_with_len 1 (K.measures m))

  -- the highest level of the values of its measures, or 0
  abbrev pub reading_level : List Entry → ℕ → ℕ
  reading_level t n = highest (λ j. cond (K.mentioned m (n - w) j) (entry_for (values j) t).level 0) (range_with_len 1 (K.measures m))

  -- the literal on an atom as the values over the denominator d make it
  abbrev pub by_values : ℕ → List Entry → ℤ → Bool
  by_values d t l = signed l (λ n. K.truth m (n - w) (numerators K m t) d)

  -- the atom, or its denial, whichever the values make true
  abbrev pub reading : ℕ → List Entry → ℕ → ℤ
  reading d t n = cond (by_values d t (pos n)) (pos n) (neg_ℤ (pos n))

  -- a literal that becomes readable from the trail t to the trail u is true on u
  abbrev pub stays_true : ℕ → List Entry → List Entry → Content → Bool
  stays_true d t u (Value j x) = true
  stays_true d t u (Literal l o) = readable t (number l) || (not (readable u (number l)) || by_values d u l)
