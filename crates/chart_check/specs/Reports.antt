-- What a report tells of a text. Assumes nothing.
--     Sums p n s       the summary s has the name and the counts of the plan p, and n bytes were written
--     Told x n r       the report r of a text of n bytes, of which the reader makes x: no chart comes back changed
use Rattle.std.specs.Prelude.{◌≡◌, ℕ, length, Ok, Err, Result}
use Rattle.fixed.specs.Items.{items}
use Rattle.format.specs.declared.fault.TextFault.{TextFault}
use Rattle.chart.specs.Plans.{Plan}
use Rattle.chart_check.specs.Refusals.{Tells}
use Rattle.chart_check.specs.declared.report.Summary.{Summary}
use Rattle.chart_check.specs.declared.report.Report.{Report}
use Rattle.chart_check.specs.declared.report.Report.TheVariants.{Accepted, Changed, Refused}

pub record Sums (p : Plan) (n : ℕ) (s : Summary) : Type 0 where
  pub name : items s.name.bytes ≡ p.name
  pub events : s.events ≡ p.events
  pub automata : s.automata ≡ length p.automata
  pub states : s.states ≡ length p.states
  pub transitions : s.transitions ≡ length p.transitions
  pub written : s.written ≡ n

abbrev pub Told : Result Plan TextFault → ℕ → Report → Type 0
Told (Ok p) n (Accepted s) = Sums p n s
Told (Ok p) n Changed = ⊥
Told (Ok p) n (Refused r) = ⊥
Told (Err f) n (Accepted s) = ⊥
Told (Err f) n Changed = ⊥
Told (Err f) n (Refused r) = Tells f r
