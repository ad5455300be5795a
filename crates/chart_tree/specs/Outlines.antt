-- What a drawing's parts are in its hierarchy. Assumes nothing.
--     drawn d             the hierarchy that a drawing means
--     home_in h v         the automaton that v lies in, if there are both in the chart
--     StandGives h a r    r is the state that automaton a stands under, and that state's automaton, if they are in the chart
use Rattle.std.specs.Prelude.{◌≡◌, ℕ, ◌<◌, ◌≤◌, cond, Some, None, Option, nat_lt}
use Rattle.chart.specs.Kinds.{automaton_no}
use Rattle.chart.specs.Plans.{plan_of}
use Rattle.chart.specs.Ids.{AutomatonId}
use Rattle.chart.specs.declared.drawing.Drawing.{Drawing}
use Rattle.hierarchy.specs.Hierarchies.{Hierarchy, Under}
use Rattle.hierarchy.specs.Meant.{hierarchy_of}
use Rattle.chart_tree.specs.declared.outline.Stand.{Stand}

-- shut, so that proofs argue by the hierarchy and not by places of lists
unfoldable pub drawn : Drawing → Hierarchy
drawn d = hierarchy_of (plan_of d)

abbrev pub home_in : Hierarchy → ℕ → Option AutomatonId
home_in h v = cond (nat_lt (h.home v) h.automata) (Some (automaton_no (h.home v))) None

pub record Stands (h : Hierarchy) (a : ℕ) (s : Stand) : Type 0 where
  pub under : Under h a s.state.0
  pub home : h.home s.state.0 ≡ s.home.0
  pub known : s.home.0 < h.automata

abbrev pub StandGives : Hierarchy → ℕ → Option Stand → Type 0
StandGives h a None = (p : ℕ) → Under h a p → h.automata ≤ h.home p
StandGives h a (Some s) = Stands h a s
