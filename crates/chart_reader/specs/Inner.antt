-- What the reader's inner functions answer, against the values of the definitions. Assumes nothing.
--     Gives s m x l n r     of the lines l the code's answer r is the reader's answer x, its value by what it says, s; and
--                           n is what is left behind the m lines that were read
--     more_rows ..          rows read behind those that are there
--     rows_in d             the rows that a drawing has
--     Fitting c n           there is room for so many rows
--     Filled x d e n r      the rows of x were read into the drawing d, which is e then, and the lines n are left; or x is
--                           the fault
use Rattle.std.specs.Prelude.{◌≡◌, ℕ, ◌+◌, ◌≤◌, List, map, Ok, Err, Result}
use Rattle.format.specs.Readers.{Reader, times, rows_behind}
use Rattle.format.specs.declared.fault.TextFault.{TextFault}
use Rattle.format.specs.declared.line.Lines.{Lines}
use Rattle.chart.specs.Plans.{plan_of}
use Rattle.chart.specs.declared.drawing.Drawing.{Drawing}
use Rattle.chart_text.specs.declared.count.Counts.{Counts}
use Rattle.chart_reader.specs.Verdicts.{Rows, due_end}

abbrev pub Gives : {A V F : Type 0} → (V → A) → ℕ → Result (A × List ℕ) F → Lines → Lines → Result V F → Type 0
Gives said height x before after (Ok v) = (x ≡ Ok (said v, after.rest.now)) × (after.number ≡ before.number + height)
Gives said height x before after (Err f) = x ≡ Err f

-- rows read behind those that are there
abbrev pub more_rows : {X A : Type 0} → (X → A) → ℕ → Reader A → List X → ℕ → ℕ → List ℕ → Result (List A × List ℕ) TextFault
more_rows said height p before count n t = rows_behind (map said before) (times count height p n t)

-- the rows that a drawing has
abbrev pub rows_in : Drawing → Rows
rows_in d = ((plan_of d).automata, ((plan_of d).states, (plan_of d).transitions))

-- there is room for so many rows
pub record Fitting (c : Counts) (count : ℕ) : Type 0 where
  pub automata : c.automata ≤ 24
  pub states : c.states ≤ 64
  pub transitions : count ≤ 96

-- the rows were read into the drawing, nothing else of it changed, and the line behind them comes next; or they have a fault
pub record RowsRead (x : Result (Rows × List ℕ) TextFault) (before after : Drawing) (left : Lines) : Type 0 where
  pub answer : x ≡ Ok (rows_in after, left.rest.now)
  pub name : after.name ≡ before.name
  pub events : after.events ≡ before.events
  pub number : left.number ≡ due_end (plan_of after)

abbrev pub Filled : Result (Rows × List ℕ) TextFault → Drawing → Drawing → Lines → Result (Unit {0}) TextFault → Type 0
Filled x before after left (Ok _) = RowsRead x before after left
Filled x before after left (Err f) = x ≡ Err f
