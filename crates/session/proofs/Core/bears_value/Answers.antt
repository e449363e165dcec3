use Rattle.std.proofs.Common.{◌≡◌, ℕ, ◌-◌, Bool, List, length, take, sym, ap, ◌∙◌, subst}
use Rattle.std.proofs.lemmas.List.{take-map, length-map}
use Rattle.calculus.specs.Lists.{every}
use Rattle.calculus.specs.Limits.{within}
use Rattle.calculus.specs.Trails.{Entry, stays_true}
use Rattle.tables.specs.Views.{entry_of, entries_of}
use Rattle.tables.specs.Tables.{trail_of}
use Rattle.readings.specs.Valuing.{JustValued}
use Rattle.session.proofs.Setting.{all_but_last}
use Rattle.session.proofs.Core.bears_value.Goals as goal

pub returns-in-len1-up : goal.returns-in-len1-up
returns-in-len1-up g c t just there =
    let K = g.T.Theory.kind in
    let model = g.T.Theory.model in
    let s = c.args.self.now in
    let u = trail_of s.trail in
    let r = c.reading.result in
    let es = c.entries.result.now in
    let front : entries_of (take (length es - 1) es) ≡ t =
    sym (take-map entry_of (length es - 1) es) ∙ ap (λ n. take (n - 1) (entries_of es)) (sym (length-map es entry_of)) ∙ ap (λ v. take (length v - 1) v) (c.entries.ensures ∙ just.now) ∙ all_but_last t just.entry in
    let bear : K.Model → ℕ → ℕ → List Entry → Bool = λ m w d b. every (λ (e : Entry). stays_true K m w d b u e.content) b in
    c.bears.ensures (subst (λ b. JustValued c.args.measure b u) (sym front) just) (ap (λ x. within (K.measures (model x)) c.args.measure) c.reading.ensures.theory ∙ there)
    ∙ ap (λ x. bear (model x) r.atoms.switches r.denominator (entries_of (take (length es - 1) es))) c.reading.ensures.theory
    ∙ ap (λ w. bear (model s.theory) w r.denominator (entries_of (take (length es - 1) es))) c.reading.ensures.switches
    ∙ ap (λ d. bear (model s.theory) s.counts.switches d (entries_of (take (length es - 1) es))) c.reading.ensures.denominator
    ∙ ap (bear (model s.theory) s.counts.switches s.counts.denominator) front
