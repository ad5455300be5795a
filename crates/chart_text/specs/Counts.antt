-- How many of something a text says there are. Assumes nothing.
--     positive_kind     an element that is a number from 1 on
--     natural_kind      an element that is a number from 0 on
use Rattle.std.specs.Prelude.{ℕ, false}
use Rattle.format.specs.Elements.{Kind, number_no, number_kind}
use Rattle.format.specs.declared.number.Number.{Number}
use Rattle.chart_text.specs.declared.count.FromOne.{FromOne}
use Rattle.chart_text.specs.declared.count.FromZero.{FromZero}

abbrev pub Positive : Type 0
Positive = Number FromOne

abbrev pub Natural : Type 0
Natural = Number FromZero

abbrev pub positive_no : ℕ → Positive
positive_no = number_no

abbrev pub natural_no : ℕ → Natural
natural_no = number_no

abbrev pub positive_kind : Kind Positive
positive_kind = number_kind 1 false

abbrev pub natural_kind : Kind Natural
natural_kind = number_kind 0 false
