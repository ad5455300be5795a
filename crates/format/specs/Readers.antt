-- Readers of `key=value` lines, one after the other, and when they read exactly what is spelled. Assumes nothing.
--     Reader A           from the number of the first line and the text from there on, to a value and the rest of the text
--     line_at k n t      the value of line n, which is the first of t and begins with the key k; and the rest
--     field f k          one line: its key k, its value read by f
--     both m p q         p, which takes m lines, and then q, which may depend on what p read
--     times c m p        p, which takes m lines, c times
--     named f p          p, with what it read given other names by f
--     ended n            nothing is left on line n and after
--     Whole f G s        f reads of a whole value just the spellings s of what is good, G
--     Exact p G s        p reads from the front of a text just the spellings s of what is good, G
use Rattle.std.specs.Prelude.{◌≡◌, ℕ, zero, suc, ◌+◌, ◌≤◌, cond, List, [], ◌∷◌, ◌++◌, length, Some, None, Ok, Err, Option, Result, nat_le}
use Rattle.format.specs.Bytes.{cut_at, after_key, Free}
use Rattle.format.specs.Elements.{and_then}
use Rattle.format.specs.declared.fault.ElementFault.{ElementFault}
use Rattle.format.specs.declared.fault.LineFault.{LineFault}
use Rattle.format.specs.declared.fault.LineFault.TheVariants.{Unended, Overlong, WrongKey, Element}
use Rattle.format.specs.declared.fault.TextFault.{TextFault}
use Rattle.format.specs.declared.fault.TextFault.TheVariants.{Line, Trailing}

abbrev pub Reader : Type 0 → Type 0
Reader A = ℕ → List ℕ → Result (A × List ℕ) TextFault

abbrev pub keyed : ℕ → List ℕ → Option (List ℕ) → Result (List ℕ × List ℕ) LineFault
keyed n rest None = Err (WrongKey n)
keyed n rest (Some v) = Ok (v, rest)

-- a line has at most 96 bytes
abbrev pub measured : List ℕ → ℕ → Option (List ℕ × List ℕ) → Result (List ℕ × List ℕ) LineFault
measured key n None = Err (Unended n)
measured key n (Some p) = cond (nat_le (length p.0) 96) (keyed n p.1 (after_key key p.0)) (Err (Overlong n))

abbrev pub line_at : List ℕ → ℕ → List ℕ → Result (List ℕ × List ℕ) LineFault
line_at key n t = measured key n (cut_at 10 t)

-- an element's fault goes whole into its line's
abbrev pub in_line : {A : Type 0} → ℕ → List ℕ → Result A ElementFault → Result (A × List ℕ) LineFault
in_line n rest (Ok a) = Ok (a, rest)
in_line n rest (Err f) = Err (Element n f)

abbrev pub value_at : {A : Type 0} → (List ℕ → Result A ElementFault) → List ℕ → ℕ → List ℕ → Result (A × List ℕ) LineFault
value_at f key n t = and_then (line_at key n t) (λ p. in_line n p.1 (f p.0))

-- and a line's fault into its text's
abbrev pub in_text : {X : Type 0} → Result X LineFault → Result X TextFault
in_text (Ok x) = Ok x
in_text (Err f) = Err (Line f)

abbrev pub field : {A : Type 0} → (List ℕ → Result A ElementFault) → List ℕ → Reader A
field f key n t = in_text (value_at f key n t)

abbrev pub both : {A B : Type 0} → ℕ → Reader A → (A → Reader B) → Reader (A × B)
both m p q n t = and_then (p n t) (λ x. and_then (q x.0 (n + m) x.1) (λ y. Ok ((x.0, y.0), y.1)))

abbrev pub times : {A : Type 0} → ℕ → ℕ → Reader A → Reader (List A)
times zero m p n t = Ok ([], t)
times (suc c) m p n t = and_then (p n t) (λ x. and_then (times c m p (n + m) x.1) (λ y. Ok (x.0 ∷ y.0, y.1)))

-- what is read of a list, put behind what was read before
abbrev pub rows_behind : {A : Type 0} → List A → Result (List A × List ℕ) TextFault → Result (List A × List ℕ) TextFault
rows_behind before r = and_then r (λ y. Ok (before ++ y.0, y.1))

abbrev pub named : {A B : Type 0} → (A → B) → Reader A → Reader B
named f p n t = and_then (p n t) (λ x. Ok (f x.0, x.1))

abbrev pub ended : {A : Type 0} → ℕ → A × List ℕ → Result A TextFault
ended n (a, []) = Ok a
ended n (a, b ∷ rest) = Err (Trailing n)

pub record Whole {A : Type 0} (f : List ℕ → Result A ElementFault) (good : A → Type 0) (spell : A → List ℕ) : Type 0 where
  pub to : (v : List ℕ) (a : A) → f v ≡ Ok a → good a × (v ≡ spell a)
  pub from : (a : A) → good a → f (spell a) ≡ Ok a
  pub free : (a : A) → good a → Free 10 (spell a)
  pub short : (a : A) → good a → length (spell a) ≤ 80

pub record Exact {A : Type 0} (p : Reader A) (good : A → Type 0) (spell : A → List ℕ) : Type 0 where
  pub to : (n : ℕ) (t : List ℕ) (a : A) (r : List ℕ) → p n t ≡ Ok (a, r) → good a × (t ≡ spell a ++ r)
  pub from : (n : ℕ) (a : A) (r : List ℕ) → good a → p n (spell a ++ r) ≡ Ok (a, r)
