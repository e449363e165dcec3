use Rattle.std.proofs.Common.{◌≡◌, ◌-◌, not, ◌&&◌, take, drop, length, get_or, ℤ, pos, nat_abs, sym, ap, ◌∙◌, to_z-of_z, w8, SFits, rules, arith}
use Rattle.std.proofs.lemmas.List.{take_all, length-drop}
use Rattle.calculus.specs.Literals.{number}
use Rattle.tables.proofs.Narrowing.{abs_number}
use Rattle.tables.proofs.Sifting.{distinct_step, distinct_first}
use Rattle.tables.proofs.literals.+are_distinct.Goals as goal

pub returns-then-not-has_number : goal.returns-then-not-has_number
returns-then-not-has_number t c =
    let ls = c.args.literals.now in
    let z : ℤ = get_or ls 0 (pos 0) in
    let f : SFits w8 z = search rules in
    let n : c.unsigned_abs.result ≡ number z = c.unsigned_abs.ensures.value ∙ ap nat_abs (to_z-of_z f) ∙ abs_number z in
    ap (λ b. not b && c.are_distinct.result) (sym c.if-not-has_number.true) ∙ distinct_step ls _ c.unsigned_abs.result _ _ c.in-len1-up.len_at_least n (take_all _ _ (omega (arith, length-drop 1 ls))) c.has_number.ensures c.are_distinct.ensures

pub returns-else-not-has_number : goal.returns-else-not-has_number
returns-else-not-has_number t c =
    let ls = c.args.literals.now in
    let z : ℤ = get_or ls 0 (pos 0) in
    let f : SFits w8 z = search rules in
    let n : c.unsigned_abs.result ≡ number z = c.unsigned_abs.ensures.value ∙ ap nat_abs (to_z-of_z f) ∙ abs_number z in
    let e = distinct_first ls c.unsigned_abs.result c.in-len1-up.len_at_least n in
    let r : take (length ls - 1) (drop 1 ls) ≡ drop 1 ls = take_all _ _ (omega (arith, length-drop 1 ls)) in
    grind (arith, r, e)
