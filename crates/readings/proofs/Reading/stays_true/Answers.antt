use Rattle.std.proofs.Common.{◌≡◌, ◌-◌, Bool, true, false, not, ◌&&◌, ◌||◌, sym, ap, ◌∙◌, rules, tests}
use Rattle.calculus.specs.Literals.{number}
use Rattle.calculus.specs.Trails.{readable, by_values}
use Rattle.readings.proofs.Asking.{mentioned_so, stays_by}
use Rattle.readings.proofs.Reading.stays_true.Goals as goal

pub returns-then-not-is_readable_by : goal.returns-then-not-is_readable_by
returns-then-not-is_readable_by g c t u just there without values limited =
    let K = g.T.Theory.kind in
    let r = c.args.self.now in
    let m = g.T.Theory.model r.atoms.theory.now in
    let w = r.atoms.switches in
    let l = c.in-Literal.literal in
    let n = c.unsigned_abs-number.result in
    let asked = c.is_readable_by.ensures u without ∙ ap (λ b. b && readable K m w u n) (mentioned_so K g.met.T.Theory.lawful m (n - w) c.args.measure there) in
    let so = stays_by K m w c.args.measure t u just there n (by_values K m w r.denominator u l) in
    search (rules, tests, asked, so)

pub returns-else-not-is_readable_by : goal.returns-else-not-is_readable_by
returns-else-not-is_readable_by g c t u just there without values limited =
    let K = g.T.Theory.kind in
    let r = c.args.self.now in
    let m = g.T.Theory.model r.atoms.theory.now in
    let w = r.atoms.switches in
    let l = c.in-Literal.literal in
    let n = c.unsigned_abs-number.result in
    let asked = c.is_readable_by.ensures u without ∙ ap (λ b. b && readable K m w u n) (mentioned_so K g.met.T.Theory.lawful m (n - w) c.args.measure there) in
    let so = stays_by K m w c.args.measure t u just there n (by_values K m w r.denominator u l) in
    search (rules, tests, asked, so, values, limited)
