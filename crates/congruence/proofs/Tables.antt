-- A test of all applications of the table.
use Rattle.std.proofs.Common.{◌≡◌, Bool, List, map, sym, ◌∙◌}
use Rattle.std.specs.List.{list_all}
use Rattle.std.proofs.lemmas.List.Folds.{list_all-map}
use Rattle.congruence.specs.declared.application as code
use Rattle.congruences.specs.Applications.{Application}
use Rattle.congruence.specs.Views.{application_of}

pub all_rows : (test : Application → Bool) (rows : List code.Application.Application) (r : Bool) → r ≡ list_all (λ a. test (application_of a)) rows → r ≡ list_all test (map application_of rows)
all_rows test rows r h = h ∙ sym (list_all-map test application_of rows)
