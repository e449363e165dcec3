use Rattle.std.proofs.Common.{sym}
use Rattle.files.proofs.Copies.{signed_length}
use Rattle.files.proofs.calls.Literals.len.Goals as goal

pub returns : goal.returns
returns c = sym (signed_length c.args.self.now.bytes.now)
