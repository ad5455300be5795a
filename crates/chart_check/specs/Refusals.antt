-- What a refusal tells of a fault. Assumes nothing.
--     place_line p       the line of a place, counted from 1; 0 for the whole text
--     place_element p    the element of a place, counted from 0, where it has one
--     meaning f          what is wrong, in words; line_meaning_lem and element_meaning_lem for a fault of a line and of an element
--     Tells f r          the refusal r has the number, the line, the element and the meaning of the fault f
use Rattle.std.specs.Prelude.{◌≡◌, ℕ, List, Some, None, codes, Option}
use Rattle.format.specs.Faults.{fault_number, fault_line, fault_element}
use Rattle.format.specs.declared.fault.ElementFault.{ElementFault}
use Rattle.format.specs.declared.fault.ElementFault.TheVariants.{Form, Range}
use Rattle.format.specs.declared.fault.LineFault.{LineFault}
use Rattle.format.specs.declared.fault.LineFault.TheVariants.{Unended, Overlong, WrongKey, Element}
use Rattle.format.specs.declared.fault.TextFault.{TextFault}
use Rattle.format.specs.declared.fault.TextFault.TheVariants.{Oversize, Line, Trailing}
use Rattle.chart_check.specs.declared.refusal.Place.{Place}
use Rattle.chart_check.specs.declared.refusal.Place as place
use Rattle.chart_check.specs.declared.refusal.Refusal.{Refusal}

abbrev pub place_line : Place → ℕ
place_line place.TheVariants.Text = 0
place_line (place.TheVariants.Line n) = n
place_line (place.TheVariants.Element n i) = n

abbrev pub place_element : Place → Option ℕ
place_element place.TheVariants.Text = None
place_element (place.TheVariants.Line n) = None
place_element (place.TheVariants.Element n i) = Some i

abbrev pub element_meaning_lem : ElementFault → List ℕ
element_meaning_lem (Form i) = codes "the element is not written as it should be"
element_meaning_lem (Range i) = codes "the element is outside its limits or names something that there is not"

abbrev pub line_meaning_lem : LineFault → List ℕ
line_meaning_lem (Unended n) = codes "the line has no end: no byte 10 follows from its start on"
line_meaning_lem (Overlong n) = codes "the line has more than 96 bytes"
line_meaning_lem (WrongKey n) = codes "the line does not begin with the key that is due and `=`"
line_meaning_lem (Element n f) = element_meaning_lem f

abbrev pub meaning : TextFault → List ℕ
meaning Oversize = codes "the text has more than 16,384 bytes"
meaning (Line f) = line_meaning_lem f
meaning (Trailing n) = codes "the text goes on behind its last due line"

pub record Tells (f : TextFault) (r : Refusal) : Type 0 where
  pub number : r.number ≡ fault_number f
  pub line : place_line r.place ≡ fault_line f
  pub element : place_element r.place ≡ fault_element f
  pub words : r.meaning.now ≡ meaning f
