-- Literals and clauses: the literal n affirms the number n, and -n denies it.
use Rattle.std.specs.Prelude.{ℕ, suc, Bool, true, false, not, ◌&&◌, List, [], ◌∷◌, length, ℤ, pos, negsuc, ◌==◌, nat_le}
use Rattle.calculus.specs.Lists.{every, some}
use Rattle.calculus.specs.Limits.{most_literals}

abbrev pub same : ℤ → ℤ → Bool
same (pos a) (pos b) = a == b
same (pos a) (negsuc b) = false
same (negsuc a) (pos b) = false
same (negsuc a) (negsuc b) = a == b

-- the number that a literal affirms or denies
abbrev pub number : ℤ → ℕ
number (pos n) = n
number (negsuc n) = suc n

-- whether a literal is true, given which numbers are
abbrev pub signed : ℤ → (ℕ → Bool) → Bool
signed (pos n) holds = holds n
signed (negsuc n) holds = not (holds (suc n))

-- neither 0 nor -128, which has no denial in a signed byte
abbrev pub proper : ℤ → Bool
proper l = not (same l (pos 0)) && not (same l (negsuc 127))

-- no two of the literals are on one number
abbrev pub distinct : List ℤ → Bool
distinct [] = true
distinct (l ∷ ls) = every (λ k. not (number k == number l)) ls && distinct ls

-- a clause has at most 16 literals, on different numbers
abbrev pub clause_like : List ℤ → Bool
clause_like ls = nat_le (length ls) most_literals && distinct ls

abbrev pub holds_literal : ℤ → List ℤ → Bool
holds_literal l ls = some (λ k. same k l) ls
