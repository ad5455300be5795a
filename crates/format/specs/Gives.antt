-- What the code's answers say, against the values of the definitions. Assumes nothing.
--     CutGives x r       r is two parts of a text, which are those of x
--     next_number n      the number of the line behind line n, as far as two bytes reach
--     LineGives x l m r  r is a line's value, which is that of x, and the lines m that are left have the rest of x;
--                        or it is x's fault, and all lines l are left
--     GrownGives x es r the list has become es, which is x's, or x is the fault
use Rattle.std.specs.Prelude.{◌≡◌, ℕ, ◌+◌, min, List, Some, None, Ok, Err, Option, Result}
use Rattle.std.specs.Borrow.{Bor}
use Rattle.format.specs.declared.bytes.Parts.{Parts}
use Rattle.format.specs.declared.line.Lines.{Lines}
use Rattle.format.specs.declared.fault.ElementFault.{ElementFault}
use Rattle.format.specs.declared.fault.LineFault.{LineFault}

abbrev pub CutGives : Option (List ℕ × List ℕ) → Option Parts → Type 0
CutGives x None = x ≡ None
CutGives x (Some p) = x ≡ Some (p.front.now, p.rest.now)

abbrev pub next_number : ℕ → ℕ
next_number n = min 65535 (n + 1)

abbrev pub LineGives : Result (List ℕ × List ℕ) LineFault → Lines → Lines → Result (Bor (List ℕ)) LineFault → Type 0
LineGives x before after (Ok v) = (x ≡ Ok (v.now, after.rest.now)) × (after.number ≡ next_number before.number)
LineGives x before after (Err f) = (x ≡ Err f) × (after ≡ before)

abbrev pub GrownGives : {E : Type 0} → Result (List E) ElementFault → List E → Result (Unit {0}) ElementFault → Type 0
GrownGives x es (Ok _) = x ≡ Ok es
GrownGives x es (Err f) = x ≡ Err f
