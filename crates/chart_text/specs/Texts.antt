-- What a chart text is: the spelling of a plan, and which plans are within the limits. Assumes nothing.
--     counts_of p        how many events, automata and states there are: what numbers are measured by
--     line_text k v      a line: key, value, byte 10
--     text_of p          the text of a plan: five lines of name and counts, then its automata, states and transitions
--     Within p           every name, count, list and number of the plan is within its limits
use Rattle.std.specs.Prelude.{◌≡◌, ℕ, ◌<◌, ◌≤◌, true, List, [], ◌∷◌, ◌++◌, length}
use Rattle.std.specs.List.{flat_map, AllByRecursion}
use Rattle.format.specs.Bytes.{spelled}
use Rattle.format.specs.Elements.{GoodList, list_text}
use Rattle.chart.specs.declared.drawing.Automaton.{Automaton}
use Rattle.chart.specs.declared.drawing.State.{State}
use Rattle.chart.specs.Plans.{Plan, TransitionPlan}
use Rattle.chart_text.specs.Keys.{key_text}
use Rattle.chart.specs.Kinds.{state_kind, automaton_kind, event_kind, term_kind, parent_kind, Named}
use Rattle.chart_text.specs.declared.count.Counts.{Counts}
use Rattle.chart_text.specs.declared.line.Key.{Key}
use Rattle.chart_text.specs.declared.line.Key.TheVariants.{Chart, Events, Automata, States, Transitions, Under, First, In, From, With, On, If, Do, To, Into}

abbrev pub counts_of : Plan → Counts
counts_of p = record { events = p.events; automata = length p.automata; states = length p.states }

abbrev pub line_text : Key → List ℕ → List ℕ
line_text k v = key_text k ++ (v ++ (10 ∷ []))

abbrev pub automaton_text : Automaton → List ℕ
automaton_text a = line_text Under (parent_kind.spell a.parent) ++ line_text First (state_kind.spell a.initial)

abbrev pub state_text : State → List ℕ
state_text s = line_text In (automaton_kind.spell s.automaton)

abbrev pub transition_text : TransitionPlan → List ℕ
transition_text t =
    line_text From (state_kind.spell t.source)
    ++ (line_text With (list_text state_kind t.restriction)
    ++ (line_text On (event_kind.spell t.trigger)
    ++ (line_text If (list_text term_kind t.guard)
    ++ (line_text Do (list_text event_kind t.actions)
    ++ (line_text To (state_kind.spell t.target)
    ++ line_text Into (list_text state_kind t.determinator))))))

abbrev pub text_of : Plan → List ℕ
text_of p =
    line_text Chart p.name
    ++ (line_text Events (spelled p.events)
    ++ (line_text Automata (spelled (length p.automata))
    ++ (line_text States (spelled (length p.states))
    ++ (line_text Transitions (spelled (length p.transitions))
    ++ (flat_map automaton_text p.automata
    ++ (flat_map state_text p.states
    ++ flat_map transition_text p.transitions))))))

pub record GoodAutomaton (c : Counts) (a : Automaton) : Type 0 where
  pub parent : parent_kind.inside c.states a.parent ≡ true
  pub initial : a.initial.0 < c.states

pub record GoodTransition (c : Counts) (t : TransitionPlan) : Type 0 where
  pub source : t.source.0 < c.states
  pub restriction : GoodList state_kind 8 c.states t.restriction
  pub trigger : t.trigger.0 < c.events
  pub guard : GoodList term_kind 8 c.states t.guard
  pub actions : GoodList event_kind 8 c.events t.actions
  pub target : t.target.0 < c.states
  pub determinator : GoodList state_kind 24 c.states t.determinator

pub record FromTo (low high n : ℕ) : Type 0 where
  pub least : low ≤ n
  pub greatest : n ≤ high

pub record Within (p : Plan) : Type 0 where
  pub name : Named p.name
  pub events : FromTo 1 64 p.events
  pub automata : FromTo 1 24 (length p.automata)
  pub states : FromTo 1 64 (length p.states)
  pub transitions : FromTo 0 96 (length p.transitions)
  pub each_automaton : AllByRecursion (GoodAutomaton (counts_of p)) p.automata
  pub each_state : AllByRecursion (λ s. s.automaton.0 < length p.automata) p.states
  pub each_transition : AllByRecursion (GoodTransition (counts_of p)) p.transitions
