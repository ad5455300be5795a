-- A count reads back from its spelling, and from nothing else. Assumes nothing.
use Rattle.std.proofs.Common.{false}
use Rattle.format.specs.Elements.{Spells}
use Rattle.format.specs.Numbers.{number_exact}
use Rattle.chart_text.specs.Counts.{positive_kind, natural_kind}

pub positive_exact : Spells positive_kind 2
positive_exact = number_exact 1 false

pub natural_exact : Spells natural_kind 2
natural_exact = number_exact 0 false
