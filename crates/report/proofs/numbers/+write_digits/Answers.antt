use Rattle.std.proofs.Common.{◌≡◌, ℕ, ◌+◌, ◌/◌, ◌%◌, ◌^◌, ◌<◌, ◌≤◌, [], length, decimal, ap, ◌∙◌, arith}
use Rattle.std.proofs.lemmas.List.{length_push}
use Rattle.std.proofs.lemmas.Fmt.{decimal_step, decimal_digit}
use Rattle.report.proofs.Writing.{nothing, one_more}
use Rattle.report.proofs.numbers.+write_digits.Goals as goal

single : (n : ℕ) → n < 10 → length (decimal n) ≡ 1
single n h = ap length (decimal_digit n h)

-- without its last digit a number is one digit shorter
shorter : (n : ℕ) → 10 ≤ n → n < 2 ^ 64 → length (decimal n) ≡ length (decimal (n / 10)) + 1
shorter n h small = ap length (decimal_step n h small) ∙ length_push (decimal (n / 10)) (48 + n % 10)

pub bounds-rest-0 : goal.bounds-rest-0
bounds-rest-0 t c = omega (arith, single c.args.n (omega arith))

pub returns-then-n-lt10 : goal.returns-then-n-lt10
returns-then-n-lt10 t c =
    rw (decimal_digit c.args.n (omega arith))
    (one_more [] c.args.rest.now c.args.rest.now 0 (48 + c.args.n) (nothing c.args.rest.now) (omega (arith, single c.args.n (omega arith))))

pub write_digits-at-requires : goal.write_digits-at-requires
write_digits-at-requires t c = omega (arith, shorter c.args.n (omega arith) (omega arith))

pub bounds-rest-at : goal.bounds-rest-at
bounds-rest-at t c = omega (arith, c.write_digits-at.ensures.count, shorter c.args.n (omega arith) (omega arith))

pub overflow_add-result : goal.overflow_add-result
overflow_add-result t c = omega (arith, c.write_digits-at.ensures.count, shorter c.args.n (omega arith) (omega arith))

pub returns : goal.returns
returns t c =
    rw (decimal_step c.args.n (omega arith) (omega arith))
    (one_more (decimal (c.args.n / 10)) c.args.rest.now c.write_digits-at.new.rest c.write_digits-at.result (48 + c.args.n % 10) c.write_digits-at.ensures (omega (arith, c.write_digits-at.ensures.count, shorter c.args.n (omega arith) (omega arith))))
