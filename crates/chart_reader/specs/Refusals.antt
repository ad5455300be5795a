-- What each refusal of a chart text means, in the order of the lines: one law above the verdict. Assumes nothing.
--     due_keys a s k        the keys in their order: of the head, of a automata, s states and k transitions
--     next_line s           what follows the first line of s; nothing where that has no end
--     skip_lines k s        what follows the first k lines of s
--     stated k n s          the number that line n says, which begins s and has the key k; 0 where it says none
--     counts_in t, keys_in t    the counts that a text states on its lines 2 to 4, and the keys that are due by its counts
--     BadValue c k v f      the value v of a line with the key k has the fault f, where c are the counts
--     WrongLine c k n s f   line n, which begins s and has to have the key k, has the fault f
--     RightLines c ks n s   the lines from n on, as many as the keys ks, have no fault
--     FirstWrong c ks s f   f is the fault of the first line with a fault, where ks are the keys that are due in s
--     Refusals              each refusal comes exactly when the format says
use Rattle.std.specs.Prelude.{◌≡◌, ℕ, zero, suc, ◌+◌, ◌<◌, ◌≤◌, List, [], ◌∷◌, ◌++◌, length, Some, None, Ok, Err, Option, Result}
use Rattle.format.specs.Bytes.{cut_at, number_of}
use Rattle.format.specs.Readers.{line_at}
use Rattle.format.specs.Wrongs.{SingleWrong, ListWrong, LineWrong}
use Rattle.format.specs.declared.fault.ElementFault.{ElementFault}
use Rattle.format.specs.declared.fault.ElementFault.TheVariants.{Form}
use Rattle.format.specs.declared.fault.LineFault.{LineFault}
use Rattle.format.specs.declared.fault.TextFault.TheVariants.{Oversize, Line, Trailing}
use Rattle.chart.specs.Kinds.{state_kind, automaton_kind, event_kind, term_kind, parent_kind, Named}
use Rattle.chart_text.specs.Counts.{positive_kind, natural_kind}
use Rattle.chart_text.specs.Keys.{key_text}
use Rattle.chart_text.specs.declared.count.Counts.{Counts}
use Rattle.chart_text.specs.declared.line.Key.{Key}
use Rattle.chart_text.specs.declared.line.Key.TheVariants.{Chart, Events, Automata, States, Transitions, Under, First, In, From, With, On, If, Do, To, Into}
use Rattle.chart_reader.specs.Verdicts.{verdict}

abbrev pub head_keys : List Key
head_keys = Chart ∷ (Events ∷ (Automata ∷ (States ∷ (Transitions ∷ []))))

abbrev pub transition_keys : List Key
transition_keys = From ∷ (With ∷ (On ∷ (If ∷ (Do ∷ (To ∷ (Into ∷ []))))))

abbrev pub repeated : ℕ → List Key → List Key
repeated zero ks = []
repeated (suc n) ks = ks ++ repeated n ks

abbrev pub row_keys : ℕ → ℕ → ℕ → List Key
row_keys automata states transitions = repeated automata (Under ∷ (First ∷ [])) ++ (repeated states (In ∷ []) ++ repeated transitions transition_keys)

abbrev pub due_keys : ℕ → ℕ → ℕ → List Key
due_keys automata states transitions = head_keys ++ row_keys automata states transitions

abbrev pub after_cut : Option (List ℕ × List ℕ) → List ℕ
after_cut None = []
after_cut (Some p) = p.1

abbrev pub next_line : List ℕ → List ℕ
next_line s = after_cut (cut_at 10 s)

abbrev pub skip_lines : ℕ → List ℕ → List ℕ
skip_lines zero s = s
skip_lines (suc k) s = skip_lines k (next_line s)

abbrev pub or_zero : Option ℕ → ℕ
or_zero None = 0
or_zero (Some n) = n

abbrev pub number_in : Result (List ℕ × List ℕ) LineFault → ℕ
number_in (Ok p) = or_zero (number_of p.0)
number_in (Err f) = 0

abbrev pub stated : Key → ℕ → List ℕ → ℕ
stated k n s = number_in (line_at (key_text k) n s)

abbrev pub counts_in : List ℕ → Counts
counts_in t = record { events = stated Events 2 (skip_lines 1 t); automata = stated Automata 3 (skip_lines 2 t); states = stated States 4 (skip_lines 3 t) }

abbrev pub keys_in : List ℕ → List Key
keys_in t = due_keys (counts_in t).automata (counts_in t).states (stated Transitions 5 (skip_lines 4 t))

abbrev pub BadValue : Counts → Key → List ℕ → ElementFault → Type 0
BadValue c Chart v f = (Named v → ⊥) × (f ≡ Form 0)
BadValue c Events v f = SingleWrong positive_kind 65 v f
BadValue c Automata v f = SingleWrong positive_kind 25 v f
BadValue c States v f = SingleWrong positive_kind 65 v f
BadValue c Transitions v f = SingleWrong natural_kind 97 v f
BadValue c Under v f = SingleWrong parent_kind c.states v f
BadValue c First v f = SingleWrong state_kind c.states v f
BadValue c In v f = SingleWrong automaton_kind c.automata v f
BadValue c From v f = SingleWrong state_kind c.states v f
BadValue c With v f = ListWrong state_kind 8 c.states v f
BadValue c On v f = SingleWrong event_kind c.events v f
BadValue c If v f = ListWrong term_kind 8 c.states v f
BadValue c Do v f = ListWrong event_kind 8 c.events v f
BadValue c To v f = SingleWrong state_kind c.states v f
BadValue c Into v f = ListWrong state_kind 24 c.states v f

abbrev pub WrongLine : Counts → Key → ℕ → List ℕ → LineFault → Type 0
WrongLine c k n s f = LineWrong (key_text k) (BadValue c k) n s f

abbrev pub RightLines : Counts → List Key → ℕ → List ℕ → Type 0
RightLines c [] n s = Unit {0}
RightLines c (k ∷ ks) n s = ((f : LineFault) → WrongLine c k n s f → ⊥) × RightLines c ks (n + 1) (next_line s)

pub record FirstWrong (c : Counts) (ks : List Key) (s : List ℕ) (f : LineFault) : Type 0 where
  pub before : List Key
  pub due : Key
  pub after : List Key
  pub split : ks ≡ before ++ (due ∷ after)
  pub right : RightLines c before 1 s
  pub wrong : WrongLine c due (1 + length before) (skip_lines (length before) s) f

-- every due line is right, and something is left on line n
pub record GoesOn (c : Counts) (ks : List Key) (s : List ℕ) (n : ℕ) : Type 0 where
  pub right : RightLines c ks 1 s
  pub rest : skip_lines (length ks) s ≡ [] → ⊥
  pub line : n ≡ 1 + length ks

pub record Refused (t : List ℕ) : Type 0 where
  pub oversize : (verdict t ≡ Err Oversize → 16384 < length t) × (16384 < length t → verdict t ≡ Err Oversize)
  pub in_a_line : (f : LineFault) → (verdict t ≡ Err (Line f) → (length t ≤ 16384) × FirstWrong (counts_in t) (keys_in t) t f)
      × ((length t ≤ 16384) × FirstWrong (counts_in t) (keys_in t) t f → verdict t ≡ Err (Line f))
  pub trailing : (n : ℕ) → (verdict t ≡ Err (Trailing n) → (length t ≤ 16384) × GoesOn (counts_in t) (keys_in t) t n)
      × ((length t ≤ 16384) × GoesOn (counts_in t) (keys_in t) t n → verdict t ≡ Err (Trailing n))

abbrev pub Refusals : Type 0
Refusals = (t : List ℕ) → Refused t
