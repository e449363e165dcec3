use Rattle.std.proofs.Common.{ap, rules}
use Rattle.files.specs.Views.{in_file}
use Rattle.files.proofs.Cuts.{framed_is}
use Rattle.files.proofs.frames.Frame.of.Goals as goal

pub returns : goal.returns
returns c =
    ap in_file (framed_is c.args.input.now c.unsigned_word-n.result c.split_at.result.0.now c.split_at.result.1.now (search rules) c.unsigned_word-n.ensures (search rules) (search rules) c.split_at.ensures.front c.split_at.ensures.back)
