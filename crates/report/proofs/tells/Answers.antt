use Rattle.report.proofs.Told.{lines_tell}
use Rattle.report.proofs.tells.Goals as goal

pub returns : goal.returns
returns c = lines_tell
