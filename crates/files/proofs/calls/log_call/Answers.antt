use Rattle.std.proofs.Common.{ℕ, sym, ap, ◌∙◌, rules}
use Rattle.files.specs.Decoding.{log_call}
use Rattle.files.specs.Views.{in_file}
use Rattle.files.proofs.Lemmas.{counted_is}
use Rattle.files.proofs.calls.log_call.Goals as goal

pub returns-in-11-len1-up : goal.returns-in-11-len1-up
returns-in-11-len1-up c =
    ap in_file (counted_is c.args.body.now c.from-in-11-len1-up.result c.split_at.result.0.now c.split_at.result.1.now (search rules) c.from-in-11-len1-up.ensures (search rules) c.split_at.ensures.front c.split_at.ensures.back)
    ∙ ap (λ (kind : ℕ). in_file (log_call kind c.args.body.now)) (sym c.in-11-len1-up.is-0)
