-- The rows of the worked chart, by calculation. Assumes nothing.
use Rattle.std.proofs.Common.{refl}
use Rattle.hierarchy.specs.Rower.{Rows}

pub rows : Rows
rows = record { stands = refl; half_landing = refl; twice_landing = refl; later = refl }
