use Rattle.std.proofs.Common.{ℕ, eqb, sym, ap, ◌∙◌}
use Rattle.files.proofs.Copies.{signed_length}
use Rattle.files.proofs.calls.Literals.is_empty.Goals as goal

pub returns : goal.returns
returns c = c.is_empty.ensures ∙ ap (λ (n : ℕ). eqb n 0) (sym (signed_length c.args.self.now.bytes.now))
