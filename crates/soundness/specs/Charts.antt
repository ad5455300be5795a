-- What a chart is, and what the check makes of a drawing. Assumes nothing.
--     chart_drawing c       the drawing of a chart
--     chart_plan c          what the drawing says
--     chart_hierarchy c     the hierarchy that it means
--     checked d             the drawing itself, where it breaks no rule; else the first rule that it breaks
--     SourceGives h t r     r is the source of transition t, if the chart has it
--     Related h u v         two states are equal, or one is below the other
--     KnownConflict h t u   t and u are transitions of the chart, and conflict
--     none_plan             the chart `none`: one event, one automaton, one state, no transition
--     RulesLaw              what the calculation of the first broken rule means, for every plan
use Rattle.std.specs.Prelude.{◌≡◌, ℕ, ◌<◌, ◌≤◌, ◌⊎◌, [], ◌∷◌, Some, None, codes, Option, Result}
use Rattle.chart.specs.Ids.{StateId}
use Rattle.chart.specs.declared.drawing.Drawing.{Drawing}
use Rattle.chart.specs.declared.drawing.Parent.TheVariants.{Top}
use Rattle.chart.specs.Kinds.{state_no, automaton_no}
use Rattle.chart.specs.Plans.{Plan, plan_of}
use Rattle.hierarchy.specs.Checks.{first_fault, unless_broken, Checked}
use Rattle.hierarchy.specs.Hierarchies.{Hierarchy, Below, Conflict}
use Rattle.hierarchy.specs.Meant.{hierarchy_of}
use Rattle.hierarchy.specs.declared.fault.ChartFault.{ChartFault}
use Rattle.chart_tree.specs.Outlines.{drawn}
use Rattle.soundness.specs.declared.sound_chart.Chart.{Chart}

abbrev pub chart_drawing : Chart → Drawing
chart_drawing c = c.outline.drawing

abbrev pub chart_hierarchy : Chart → Hierarchy
chart_hierarchy c = drawn c.outline.drawing

abbrev pub chart_plan : Chart → Plan
chart_plan c = plan_of c.outline.drawing

abbrev pub checked : Drawing → Result Drawing ChartFault
checked d = unless_broken d (first_fault (drawn d))

abbrev pub RulesLaw : Type 0
RulesLaw = (p : Plan) → Checked (hierarchy_of p)

abbrev pub none_plan : Plan
none_plan = record {
  name = codes "none";
  events = 1;
  automata = record { parent = Top; initial = state_no 0 } ∷ [];
  states = record { automaton = automaton_no 0 } ∷ [];
  transitions = [];
}

abbrev pub SourceGives : Hierarchy → ℕ → Option StateId → Type 0
SourceGives h t None = h.transitions ≤ t
SourceGives h t (Some s) = (t < h.transitions) × (h.source t ≡ s.0)

abbrev pub Related : Hierarchy → ℕ → ℕ → Type 0
Related h u v = (u ≡ v) ⊎ (Below h u v ⊎ Below h v u)

abbrev pub KnownConflict : Hierarchy → ℕ → ℕ → Type 0
KnownConflict h t u = (t < h.transitions) × (u < h.transitions) × Conflict h t u
