-- The derived comparisons answer what the definitions of rows say.
use Rattle.std.proofs.Common.{◌≡◌, ◌&&◌, eqb, List, [], ◌∷◌, ℤ, int_eq, refl, ap₂, arith}
use Rattle.std.proofs.lemmas.Bool.Decides.{Decides-int_eq}
use lib.Pointwise.{pointwise}
use denote.Enum.Bare.{sameb}
use Rattle.calculus.specs.Literals.{same}
use Rattle.calculus.proofs.Testing.{same_refl, same_true}
use Rattle.rows.specs.contracts.Relation.{the_type}
use Rattle.rows.specs.contracts.EntryPartialEq.TheImpl.{eq-value}
use Rattle.rows.specs.declared.Relation.{Relation}
use Rattle.rows.specs.declared.Relation.TheVariants.{Less, AtMost, Equal}
use Rattle.rows.specs.declared.Entry.{Entry}
use Rattle.rows.specs.Rows.{same_relation, same_entries}

pub relations_alike : (R S : Relation) → sameb the_type R S ≡ same_relation R S
relations_alike Less Less = refl
relations_alike Less AtMost = refl
relations_alike Less Equal = refl
relations_alike AtMost Less = refl
relations_alike AtMost AtMost = refl
relations_alike AtMost Equal = refl
relations_alike Equal Less = refl
relations_alike Equal AtMost = refl
relations_alike Equal Equal = refl

pub integers_alike : (a b : ℤ) → int_eq a b ≡ same a b
integers_alike a b = grind (arith, Decides-int_eq a b, same_refl a, same_true a b)

pub entries_alike : (es fs : List Entry) → pointwise (eq-value).it es fs ≡ same_entries es fs
entries_alike [] [] = refl
entries_alike [] (f ∷ fs) = refl
entries_alike (e ∷ es) [] = refl
entries_alike (e ∷ es) (f ∷ fs) = ap₂ (λ x y. (eqb e.measure f.measure && x) && y) (integers_alike e.coefficient f.coefficient) (entries_alike es fs)
