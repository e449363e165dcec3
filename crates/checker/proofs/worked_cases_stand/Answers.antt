use Rattle.std.proofs.Common.{refl}
use Rattle.std.specs.Fmt.{digits}
use Rattle.checker.proofs.worked_cases_stand.Goals as goal

pub returns : goal.returns
unfolding digits
returns c = record {
  reports = (refl, (refl, (refl, (refl, (refl, (refl, (refl, (refl, (refl, (refl, (refl, (refl, (refl, tt)))))))))))));
  refusals = (refl, (refl, (refl, (refl, (refl, (refl, (refl, (refl, tt))))))));
  case_kinds = refl;
  log_kinds = refl;
  too_long = refl;
  too_short = refl;
  right = refl;
  lengths = (refl, (refl, (refl, (refl, (refl, tt)))));
  switches = refl;
  others = (refl, (refl, tt));
  framed = refl;
  unframed = (refl, (refl, (refl, tt)));
  chosen = refl;
}
