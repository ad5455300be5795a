-- How the parts of a chart are written as elements of a text: numbers of states, automata and events, terms, and what
-- an automaton stands under; and a chart's name. Assumes nothing.
--     state_kind, ..     what each is: its shape, its order in a list, its limits and its spelling
--     Named v            a name has 1 to 16 bytes of a to z, 0 to 9 and underscore
--     name_of v          the name that v is: bounds and bytes are its form
use Rattle.std.specs.Prelude.{◌≡◌, ℕ, ◌≤◌, Bool, true, false, cond, ◌&&◌, ◌||◌, List, [], ◌∷◌, length, Some, None, Ok, Err, codes, Option, Result, ◌==◌, nat_le, nat_lt}
use Rattle.std.specs.List.{list_all, AllByRecursion}
use Rattle.std.specs.Str.{bytes_eq}
use Rattle.std.specs.Option.{option_map}
use Rattle.format.specs.Bytes.{number_of, spelled}
use Rattle.format.specs.Elements.{Kind, number_no, number_kind, any_order}
use Rattle.format.specs.declared.fault.ElementFault.{ElementFault}
use Rattle.format.specs.declared.fault.ElementFault.TheVariants.{Form}
use Rattle.chart.specs.Ids.{StateId}
use Rattle.chart.specs.Ids.{AutomatonId}
use Rattle.chart.specs.Ids.{EventId}
use Rattle.chart.specs.Ids.{ConditionId}
use Rattle.chart.specs.declared.drawing.Term.{Term}
use Rattle.chart.specs.declared.drawing.Term.TheVariants.{Active, Inactive, Holds, Fails}
use Rattle.chart.specs.declared.drawing.Parent.{Parent}
use Rattle.chart.specs.declared.drawing.Parent.TheVariants.{Top, State}

abbrev pub state_no : ℕ → StateId
state_no = number_no

abbrev pub automaton_no : ℕ → AutomatonId
automaton_no = number_no

abbrev pub event_no : ℕ → EventId
event_no = number_no

abbrev pub condition_no : ℕ → ConditionId
condition_no = number_no

-- a list of states ascends strictly
abbrev pub state_kind : Kind StateId
state_kind = number_kind 0 true

abbrev pub automaton_kind : Kind AutomatonId
automaton_kind = number_kind 0 false

-- events stand in any order, and may stand twice
abbrev pub event_kind : Kind EventId
event_kind = number_kind 0 false

-- a term is one of four letters and a number: s and n name a state, c and d a condition
abbrev pub term_of : ℕ → ℕ → Option Term
term_of letter n = cond (letter == 115) (Some (Active (state_no n))) (cond (letter == 110) (Some (Inactive (state_no n)))
    (cond (letter == 99) (Some (Holds (condition_no n))) (cond (letter == 100) (Some (Fails (condition_no n))) None)))

abbrev pub lettered : ℕ → Option ℕ → Option Term
lettered letter None = None
lettered letter (Some n) = term_of letter n

abbrev pub term_shape : List ℕ → Option Term
term_shape [] = None
term_shape (letter ∷ digits) = lettered letter (number_of digits)

abbrev pub term_inside : ℕ → Term → Bool
term_inside limit (Active s) = nat_lt s.0 limit
term_inside limit (Inactive s) = nat_lt s.0 limit
term_inside limit (Holds c) = nat_lt c.0 32
term_inside limit (Fails c) = nat_lt c.0 32

abbrev pub term_text : Term → List ℕ
term_text (Active s) = 115 ∷ spelled s.0
term_text (Inactive s) = 110 ∷ spelled s.0
term_text (Holds c) = 99 ∷ spelled c.0
term_text (Fails c) = 100 ∷ spelled c.0

abbrev pub term_kind : Kind Term
term_kind = record { shape = term_shape; after = any_order; inside = term_inside; spell = term_text }

-- an automaton stands under `top` or under a state
abbrev pub under_state : ℕ → Parent
under_state n = State (state_no n)

abbrev pub parent_shape : List ℕ → Option Parent
parent_shape v = cond (bytes_eq v (codes "top")) (Some Top) (option_map under_state (number_of v))

abbrev pub parent_inside : ℕ → Parent → Bool
parent_inside limit Top = true
parent_inside limit (State s) = nat_lt s.0 limit

abbrev pub parent_text : Parent → List ℕ
parent_text Top = codes "top"
parent_text (State s) = spelled s.0

abbrev pub parent_kind : Kind Parent
parent_kind = record { shape = parent_shape; after = any_order; inside = parent_inside; spell = parent_text }

abbrev pub is_name_byte : ℕ → Bool
is_name_byte b = nat_le 97 b && nat_le b 122 || nat_le 48 b && nat_le b 57 || b == 95

pub record Named (v : List ℕ) : Type 0 where
  pub some : 1 ≤ length v
  pub short : length v ≤ 16
  pub plain : AllByRecursion (λ b. is_name_byte b ≡ true) v

abbrev pub name_of : List ℕ → Result (List ℕ) ElementFault
name_of v = cond (nat_le 1 (length v) && (nat_le (length v) 16 && list_all is_name_byte v)) (Ok v) (Err (Form 0))
