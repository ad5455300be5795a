-- The keys of a chart text, as they are written, and what a line of one borrows. Assumes nothing.
--     key_text k         the key and the sign behind it
--     due_key, due_value the key of a read line, and its value
--     DueGives k x l m r r is the next line of l, with the key k and the value of x, and the lines m that are left have the
--                        rest of x; or it is x's fault, and all lines l are left
use Rattle.std.specs.Prelude.{◌≡◌, ℕ, List, Ok, Err, codes, Result}
use Rattle.format.specs.Gives.{next_number}
use Rattle.format.specs.declared.fault.LineFault.{LineFault}
use Rattle.format.specs.declared.line.Lines.{Lines}
use Rattle.chart_text.specs.declared.line.Line.{Line}
use Rattle.chart_text.specs.declared.line.Key.{Key}
use Rattle.chart_text.specs.declared.line.Key as key
use Rattle.chart_text.specs.declared.line.Due.{Due}
use Rattle.chart_text.specs.declared.line.Due as due

abbrev pub key_text : Key → List ℕ
key_text key.TheVariants.Chart = codes "chart="
key_text key.TheVariants.Events = codes "events="
key_text key.TheVariants.Automata = codes "automata="
key_text key.TheVariants.States = codes "states="
key_text key.TheVariants.Transitions = codes "transitions="
key_text key.TheVariants.Under = codes "under="
key_text key.TheVariants.First = codes "first="
key_text key.TheVariants.In = codes "in="
key_text key.TheVariants.From = codes "from="
key_text key.TheVariants.With = codes "with="
key_text key.TheVariants.On = codes "on="
key_text key.TheVariants.If = codes "if="
key_text key.TheVariants.Do = codes "do="
key_text key.TheVariants.To = codes "to="
key_text key.TheVariants.Into = codes "into="

abbrev pub due_key : Due → Key
due_key (due.TheVariants.Chart v) = key.TheVariants.Chart
due_key (due.TheVariants.Events v) = key.TheVariants.Events
due_key (due.TheVariants.Automata v) = key.TheVariants.Automata
due_key (due.TheVariants.States v) = key.TheVariants.States
due_key (due.TheVariants.Transitions v) = key.TheVariants.Transitions
due_key (due.TheVariants.Under v) = key.TheVariants.Under
due_key (due.TheVariants.First v) = key.TheVariants.First
due_key (due.TheVariants.In v) = key.TheVariants.In
due_key (due.TheVariants.From v) = key.TheVariants.From
due_key (due.TheVariants.With v) = key.TheVariants.With
due_key (due.TheVariants.On v) = key.TheVariants.On
due_key (due.TheVariants.If v) = key.TheVariants.If
due_key (due.TheVariants.Do v) = key.TheVariants.Do
due_key (due.TheVariants.To v) = key.TheVariants.To
due_key (due.TheVariants.Into v) = key.TheVariants.Into

abbrev pub due_value : Due → List ℕ
due_value (due.TheVariants.Chart v) = v.now
due_value (due.TheVariants.Events v) = v.now
due_value (due.TheVariants.Automata v) = v.now
due_value (due.TheVariants.States v) = v.now
due_value (due.TheVariants.Transitions v) = v.now
due_value (due.TheVariants.Under v) = v.now
due_value (due.TheVariants.First v) = v.now
due_value (due.TheVariants.In v) = v.now
due_value (due.TheVariants.From v) = v.now
due_value (due.TheVariants.With v) = v.now
due_value (due.TheVariants.On v) = v.now
due_value (due.TheVariants.If v) = v.now
due_value (due.TheVariants.Do v) = v.now
due_value (due.TheVariants.To v) = v.now
due_value (due.TheVariants.Into v) = v.now

pub record DueRead (k : Key) (x : Result (List ℕ × List ℕ) LineFault) (before after : Lines) (line : Line) : Type 0 where
  pub number : line.number ≡ before.number
  pub named : due_key line.due ≡ k
  pub value : x ≡ Ok (due_value line.due, after.rest.now)
  pub next : after.number ≡ next_number before.number

abbrev pub DueGives : Key → Result (List ℕ × List ℕ) LineFault → Lines → Lines → Result Line LineFault → Type 0
DueGives k x before after (Ok line) = DueRead k x before after line
DueGives k x before after (Err f) = (x ≡ Err f) × (after ≡ before)
