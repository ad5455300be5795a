-- `check::check`: the judgement, and the laws of the rules. Assumes nothing.
use Rattle.hierarchy.proofs.Checks.{check_law}
use Rattle.hierarchy.proofs.Landings.{landing_law}
use Rattle.hierarchy.proofs.Meant.{meant_proper}
use Rattle.hierarchy.proofs.Rower.{rows}
use Rattle.hierarchy.specs.Meant.{hierarchy_of}
use Rattle.soundness.proofs.check.check.Goals as goal

pub returns : goal.returns
returns c = record { answer = c.judge.ensures; rules = λ p. check_law (hierarchy_of p) (meant_proper p); landings = landing_law; rows = rows }
