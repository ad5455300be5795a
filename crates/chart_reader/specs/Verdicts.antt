-- What is made of a text: the plan that it spells, or its first fault. Assumes nothing.
--     one k l n          one line with the key n: its value is one element of the kind k, its number below l
--     some k m l n       one line with the key n: its value is a list of at most m such elements
--     automaton_lines .. the lines of one automaton, one state, one transition
--     drawn              the lines of a whole chart, under the names of its parts
--     due_end p          the line behind the last due one
--     read_through t     all lines that are due, and then nothing may be left
--     verdict t          what is made of a text: it has at most 16,384 bytes, and is read through
--     Exactly            a text is accepted with a plan just if it is the spelling of that plan, which is within the limits
--     GivesBack          the spelling of what was accepted is the text
--     OneText            no two texts are accepted with one plan
use Rattle.std.specs.Prelude.{◌≡◌, ℕ, ◌+◌, ◌*◌, ◌≤◌, cond, List, length, Ok, Err, Result, nat_le}
use Rattle.format.specs.Elements.{and_then, single_of, list_of, Kind}
use Rattle.format.specs.Readers.{Reader, field, both, times, named, ended}
use Rattle.format.specs.declared.fault.TextFault.{TextFault}
use Rattle.format.specs.declared.fault.TextFault.TheVariants.{Oversize}
use Rattle.chart.specs.Ids.{StateId}
use Rattle.chart.specs.Ids.{AutomatonId}
use Rattle.chart.specs.Ids.{EventId}
use Rattle.chart.specs.declared.drawing.Parent.{Parent}
use Rattle.chart.specs.declared.drawing.Term.{Term}
use Rattle.chart.specs.declared.drawing.Automaton.{Automaton}
use Rattle.chart.specs.declared.drawing.State.{State}
use Rattle.chart.specs.Kinds.{state_kind, automaton_kind, event_kind, term_kind, parent_kind, name_of}
use Rattle.chart.specs.Plans.{Plan, TransitionPlan}
use Rattle.chart_text.specs.Counts.{positive_kind, natural_kind}
use Rattle.chart_text.specs.Keys.{key_text}
use Rattle.chart_text.specs.Texts.{text_of, Within}
use Rattle.chart_text.specs.declared.count.Counts.{Counts}
use Rattle.chart_text.specs.Counts.{Positive}
use Rattle.chart_text.specs.Counts.{Natural}
use Rattle.chart_text.specs.declared.line.Key.{Key}
use Rattle.chart_text.specs.declared.line.Key.TheVariants.{Chart, Events, Automata, States, Transitions, Under, First, In, From, With, On, If, Do, To, Into}

abbrev pub one : {E : Type 0} → Kind E → ℕ → Key → Reader E
one k limit name = field (single_of k limit) (key_text name)

abbrev pub some : {E : Type 0} → Kind E → ℕ → ℕ → Key → Reader (List E)
some k most limit name = field (list_of k most limit) (key_text name)

abbrev pub automaton : Parent × StateId → Automaton
automaton x = record { parent = x.0; initial = x.1 }

abbrev pub automaton_lines : Counts → Reader Automaton
automaton_lines c = named automaton (both 1 (one parent_kind c.states Under) (λ _. one state_kind c.states First))

abbrev pub state : AutomatonId → State
state a = record { automaton = a }

abbrev pub state_lines : Counts → Reader State
state_lines c = named state (one automaton_kind c.automata In)

abbrev pub TransitionParts : Type 0
TransitionParts = StateId × (List StateId × (EventId × (List Term × (List EventId × (StateId × List StateId)))))

abbrev pub transition : TransitionParts → TransitionPlan
transition x = record {
  source = x.0;
  restriction = x.1.0;
  trigger = x.1.1.0;
  guard = x.1.1.1.0;
  actions = x.1.1.1.1.0;
  target = x.1.1.1.1.1.0;
  determinator = x.1.1.1.1.1.1;
}

abbrev pub transition_lines : Counts → Reader TransitionPlan
transition_lines c = named transition (
    both 1 (one state_kind c.states From) (λ _.
    both 1 (some state_kind 8 c.states With) (λ _.
    both 1 (one event_kind c.events On) (λ _.
    both 1 (some term_kind 8 c.states If) (λ _.
    both 1 (some event_kind 8 c.events Do) (λ _.
    both 1 (one state_kind c.states To) (λ _.
    some state_kind 24 c.states Into)))))))

abbrev pub Rows : Type 0
Rows = List Automaton × (List State × List TransitionPlan)

abbrev pub rows : Counts → ℕ → Reader Rows
rows c count =
    both (2 * c.automata) (times c.automata 2 (automaton_lines c)) (λ _.
    both c.states (times c.states 1 (state_lines c)) (λ _.
    times count 7 (transition_lines c)))

-- a name and four counts, and then the rows that are counted
abbrev pub PlanParts : Type 0
PlanParts = List ℕ × (Positive × (Positive × (Positive × (Natural × Rows))))

abbrev pub plan : PlanParts → Plan
plan x = record { name = x.0; events = x.1.0.0; automata = x.1.1.1.1.1.0; states = x.1.1.1.1.1.1.0; transitions = x.1.1.1.1.1.1.1 }

abbrev pub counted : Positive → Positive → Positive → Counts
counted events automata states = record { events = events.0; automata = automata.0; states = states.0 }

abbrev pub drawn : Reader Plan
drawn = named plan (
    both 1 (field name_of (key_text Chart)) (λ _.
    both 1 (one positive_kind 65 Events) (λ events.
    both 1 (one positive_kind 25 Automata) (λ automata.
    both 1 (one positive_kind 65 States) (λ states.
    both 1 (one natural_kind 97 Transitions) (λ transitions.
    rows (counted events automata states) transitions.0))))))

abbrev pub due_end : Plan → ℕ
due_end p = 6 + 2 * length p.automata + length p.states + 7 * length p.transitions

abbrev pub read_through : List ℕ → Result Plan TextFault
read_through t = and_then (drawn 1 t) (λ x. ended (due_end x.0) x)

abbrev pub verdict : List ℕ → Result Plan TextFault
verdict t = cond (nat_le (length t) 16384) (read_through t) (Err Oversize)

pub record Spelled (t : List ℕ) (p : Plan) : Type 0 where
  pub limits : Within p
  pub bytes : t ≡ text_of p
  pub size : length t ≤ 16384

abbrev pub Exactly : Type 0
Exactly = (t : List ℕ) (p : Plan) → (verdict t ≡ Ok p → Spelled t p) × (Spelled t p → verdict t ≡ Ok p)

abbrev pub GivesBack : Type 0
GivesBack = (t : List ℕ) (p : Plan) → verdict t ≡ Ok p → text_of p ≡ t

abbrev pub OneText : Type 0
OneText = (t u : List ℕ) (p : Plan) → verdict t ≡ Ok p → verdict u ≡ Ok p → t ≡ u
