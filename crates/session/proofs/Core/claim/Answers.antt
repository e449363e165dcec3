use Rattle.std.proofs.Common.{◌≡◌, [], Err, sym, ap, ◌∙◌, rules}
use Rattle.faults.specs.declared.SessionFault.TheVariants as session
use Rattle.calculus.specs.Arrangements.{Arrangement}
use Rattle.calculus.specs.Calls.Call.{Claim}
use Rattle.calculus.specs.Questions.{says_admitted}
use Rattle.calculus.specs.Trails.{numerators}
use Rattle.calculus.specs.States.Phase.{Closed}
use Rattle.calculus.specs.States.Verdict.{Possible}
use Rattle.calculus.specs.Steps.{Outcome, step, arranged, if_agreed, turned}
use Rattle.calculus.specs.Steps.Reply.{Handed}
use Rattle.tables.specs.Tables.{trail_of}
use Rattle.session.specs.Cores.{tables_of, view}
use Rattle.session.specs.Replies.{handed_of}
use Rattle.session.proofs.Claimed.{claim_tested, admitted_so}
use Rattle.session.proofs.Core.claim.Goals as goal

pub returns-in_err-admits : goal.returns-in_err-admits
returns-in_err-admits g c =
    let K = g.T.Theory.kind in
    let model = g.T.Theory.model in
    let s = c.args.self.now in
    let v = view K model s in
    let m = model s.theory in
    let t = trail_of s.trail in
    let f = c.in_err-admits.field-0.0 in
    let tested = claim_tested K v (sym (c.if-not-serves.ensures (arranged K (tables_of K model s)))) (sym c.if-not-are_valued.ensures) (sym c.if-not-are_rules_met.ensures) in
    let xs = c.numerators.ensures.value ∙ ap (λ (a : Arrangement). a.numerators) c.arrangement-arrangement.ensures in
    let d = c.denominator.result in
    let judged : c.admits.result ≡ K.admitted m (numerators K m t) s.counts.denominator =
    c.admits.ensures ∙ ap (λ ys. says_admitted K m ys d) xs ∙ admitted_so K m t d s.trail.tidied c.denominator.ensures.bound ∙ ap (K.admitted m (numerators K m t)) c.denominator.ensures.count in
    let e : step K v Claim ≡ (Err (session.Theory f), v) = tested ∙ ap (λ j. if_agreed K j v (Handed (arranged K v)) (turned K v (Closed (Possible (arranged K v))) [])) (sym judged ∙ c.in_err-admits.was) in
    let h : handed_of c.from_residual.result ≡ Err (session.Theory f) = search rules in
    (h ∙ sym (ap (λ (o : Outcome K). o.0) e), sym (ap (λ (o : Outcome K). o.1) e))
