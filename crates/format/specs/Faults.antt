-- What a fault of a text is numbered, and the place that it names. Assumes nothing.
--     fault_number f     the refusal's number
--     fault_line f       the line that it names, counted from 1; 0 for the text as a whole
--     fault_element f    the element that it names, counted from 0, where it names one
use Rattle.std.specs.Prelude.{ℕ, Some, None, Option}
use Rattle.format.specs.declared.fault.ElementFault.TheVariants.{Form, Range}
use Rattle.format.specs.declared.fault.LineFault.TheVariants.{Unended, Overlong, WrongKey, Element}
use Rattle.format.specs.declared.fault.TextFault.{TextFault}
use Rattle.format.specs.declared.fault.TextFault.TheVariants.{Oversize, Line, Trailing}

abbrev pub fault_number : TextFault → ℕ
fault_number Oversize = 1
fault_number (Line (Unended n)) = 2
fault_number (Line (Overlong n)) = 3
fault_number (Line (WrongKey n)) = 4
fault_number (Line (Element n (Form i))) = 5
fault_number (Line (Element n (Range i))) = 6
fault_number (Trailing n) = 7

abbrev pub fault_line : TextFault → ℕ
fault_line Oversize = 0
fault_line (Line (Unended n)) = n
fault_line (Line (Overlong n)) = n
fault_line (Line (WrongKey n)) = n
fault_line (Line (Element n f)) = n
fault_line (Trailing n) = n

abbrev pub fault_element : TextFault → Option ℕ
fault_element Oversize = None
fault_element (Line (Unended n)) = None
fault_element (Line (Overlong n)) = None
fault_element (Line (WrongKey n)) = None
fault_element (Line (Element n (Form i))) = Some i
fault_element (Line (Element n (Range i))) = Some i
fault_element (Trailing n) = None
