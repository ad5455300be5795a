-- What is wrong with a value and with a line, in the order in which it is tried: one case to a rule. Assumes nothing.
--     SingleWrong k l v f     the one element v has the fault f: its shape, then its limits
--     Formed k m ps es        the pieces ps are the elements es: not too many, each of its shape and behind the one before
--     Misplaced k m es p      the piece p cannot come behind the elements es
--     ListWrong k m l v f     the list v has the fault f: the first element out of form, or, where there is none, the
--                             first outside its limits
--     LineWrong k b n s f     line n, which begins s, has the fault f, where k is its key and b says what a value's faults are
use Rattle.std.specs.Prelude.{◌≡◌, ℕ, ◌<◌, ◌≤◌, true, false, List, ◌∷◌, ◌++◌, map, length, Some, None, ◌≢◌}
use Rattle.std.specs.List.{AllByRecursion}
use Rattle.fixed.specs.Items.{last_of}
use Rattle.format.specs.Bytes.{Free, elements_of}
use Rattle.format.specs.Elements.{Kind, follows, Ascends}
use Rattle.format.specs.declared.fault.ElementFault.{ElementFault}
use Rattle.format.specs.declared.fault.ElementFault.TheVariants.{Form, Range}
use Rattle.format.specs.declared.fault.LineFault.{LineFault}
use Rattle.format.specs.declared.fault.LineFault.TheVariants.{Unended, Overlong, WrongKey, Element}

pub data SingleWrong {E : Type 0} (k : Kind E) (limit : ℕ) (v : List ℕ) : ElementFault → Type 0 where
  shapeless : k.shape v ≡ None → SingleWrong k limit v (Form 0)
  outside : (e : E) → k.shape v ≡ Some e → k.inside limit e ≡ false → SingleWrong k limit v (Range 0)

pub record Formed {E : Type 0} (k : Kind E) (most : ℕ) (ps : List (List ℕ)) (es : List E) : Type 0 where
  pub few : length es ≤ most
  pub shapes : map k.shape ps ≡ map (λ e. Some e) es
  pub order : Ascends k None es

pub data Misplaced {E : Type 0} (k : Kind E) (most : ℕ) (es : List E) (p : List ℕ) : Type 0 where
  too_many : most ≤ length es → Misplaced k most es p
  misshapen : k.shape p ≡ None → Misplaced k most es p
  unordered : (e : E) → k.shape p ≡ Some e → follows k (last_of es) e ≡ false → Misplaced k most es p

pub data ListWrong {E : Type 0} (k : Kind E) (most limit : ℕ) (v : List ℕ) : ElementFault → Type 0 where
  form : (ps : List (List ℕ)) (p : List ℕ) (qs : List (List ℕ)) (es : List E)
      → elements_of v ≡ ps ++ (p ∷ qs) → Formed k most ps es → Misplaced k most es p → ListWrong k most limit v (Form (length es))
  range : (es : List E) (e : E) (fs : List E)
      → Formed k most (elements_of v) (es ++ (e ∷ fs)) → AllByRecursion (λ x. k.inside limit x ≡ true) es → k.inside limit e ≡ false → ListWrong k most limit v (Range (length es))

pub data LineWrong (key : List ℕ) (bad : List ℕ → ElementFault → Type 0) (n : ℕ) (s : List ℕ) : LineFault → Type 0 where
  unended : Free 10 s → LineWrong key bad n s (Unended n)
  overlong : (line rest : List ℕ) → s ≡ line ++ (10 ∷ rest) → Free 10 line → 96 < length line → LineWrong key bad n s (Overlong n)
  wrong_key : (line rest : List ℕ) → s ≡ line ++ (10 ∷ rest) → Free 10 line → length line ≤ 96 → ((v : List ℕ) → line ≢ key ++ v) → LineWrong key bad n s (WrongKey n)
  element : (v rest : List ℕ) (f : ElementFault) → s ≡ (key ++ v) ++ (10 ∷ rest) → Free 10 (key ++ v) → length (key ++ v) ≤ 96 → bad v f → LineWrong key bad n s (Element n f)
