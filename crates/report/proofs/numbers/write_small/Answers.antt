use Rattle.std.proofs.Common.{◌≤◌, length, decimal, arith}
use Rattle.std.proofs.lemmas.Fmt.{length-decimal-le}
use Rattle.report.proofs.numbers.write_small.Goals as goal

pub write_digits-requires : goal.write_digits-requires
write_digits-requires c =
    let short : length (decimal c.args.n) ≤ 3 = length-decimal-le 3 c.args.n (omega arith) (omega arith) (omega arith) in
    omega arith

pub returns : goal.returns
returns c =
    let short : length (decimal c.args.n) ≤ 3 = length-decimal-le 3 c.args.n (omega arith) (omega arith) (omega arith) in
    record { wrote = c.write_digits.ensures; bound = omega (arith, c.write_digits.ensures.count) }
