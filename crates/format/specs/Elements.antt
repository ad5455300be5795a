-- Values of one element and of a list of elements: the form of all, then the range of all. Assumes nothing.
--     Kind E             what an element is: its shape, its order, its limits and its spelling
--     numbered m n a i   the kind of an element that is a number: m makes it, n is its number, a its order, i its limits
--     number_no n        the number n of whatever is numbered
--     number_kind m a    the kind of numbers from m on, which ascend strictly in a list if a says so
--     single_of k l v    the one element that v is, with its number below l; a fault names element 0
--     formed k m i o ps  the elements that the pieces ps are, the first of them element i behind o: each in turn is
--                        tried for too many (over m), for its shape, and for its place behind the one before
--     next_of k m es p   the element that the piece p is behind the list es
--     grown k m es p     the list es with that element more
--     first_outside      the first element outside its limits, where there is one
--     list_of k m l v    the list that v is: the form of every element, then the range of every element
--     Ascends k o es     each element may stand behind the one before it, the first behind o
--     GoodList k m l es at most m elements, in order, each within its limits
--     list_text k es     the elements as they are written
use Rattle.std.specs.Prelude.{◌≡◌, ℕ, ◌+◌, ◌<◌, ◌≤◌, Bool, true, cond, not, ◌&&◌, ◌||◌, List, [], ◌∷◌, ◌++◌, map, length, Some, None, Ok, Err, Option, Result, nat_le, nat_lt}
use Rattle.std.specs.List.{AllByRecursion}
use Rattle.std.specs.Option.{option_map}
use Rattle.fixed.specs.Items.{last_of}
use Rattle.format.specs.Bytes.{elements_of, commas, number_of, spelled, Free}
use Rattle.format.specs.declared.number.Number.{Number}
use Rattle.format.specs.declared.fault.ElementFault.{ElementFault}
use Rattle.format.specs.declared.fault.ElementFault.TheVariants.{Form, Range}

-- go on with what was read, or keep the fault
abbrev pub and_then : {A B E : Type 0} → Result A E → (A → Result B E) → Result B E
and_then (Ok a) f = f a
and_then (Err e) f = Err e

pub record Kind (E : Type 0) : Type 0 where
  pub shape : List ℕ → Option E
  pub after : E → E → Bool
  pub inside : ℕ → E → Bool
  pub spell : E → List ℕ

abbrev pub numbered : {E : Type 0} → (ℕ → E) → (E → ℕ) → (E → E → Bool) → (ℕ → E → Bool) → Kind E
numbered make num after inside = record { shape = λ v. option_map make (number_of v); after = after; inside = inside; spell = λ e. spelled (num e) }

abbrev pub any_order : {E : Type 0} → E → E → Bool
any_order x y = true

abbrev pub number_no : {R : Type 0} → ℕ → Number R
number_no n = record { 0 = n; 1 = record {} }

abbrev pub number_kind : {R : Type 0} → ℕ → Bool → Kind (Number R)
number_kind least ascends =
    numbered number_no (λ x. x.0) (λ x y. not ascends || nat_lt x.0 y.0) (λ limit x. nat_le least x.0 && nat_lt x.0 limit)

-- the shapes are just the spellings: some bytes, at most wide of them, none below the digit 0
pub record Spells {E : Type 0} (k : Kind E) (wide : ℕ) : Type 0 where
  pub to : (v : List ℕ) (e : E) → k.shape v ≡ Some e → v ≡ k.spell e
  pub from : (limit : ℕ) → limit ≤ 100 → (e : E) → k.inside limit e ≡ true → k.shape (k.spell e) ≡ Some e
  pub some : (e : E) → 0 < length (k.spell e)
  pub short : (e : E) → length (k.spell e) ≤ wide
  pub free : (b : ℕ) → b < 48 → (e : E) → Free b (k.spell e)

abbrev pub limited : {E : Type 0} → Kind E → ℕ → Option E → Result E ElementFault
limited k limit None = Err (Form 0)
limited k limit (Some e) = cond (k.inside limit e) (Ok e) (Err (Range 0))

abbrev pub single_of : {E : Type 0} → Kind E → ℕ → List ℕ → Result E ElementFault
single_of k limit v = limited k limit (k.shape v)

-- whether e may stand behind what comes before it, if anything does
abbrev pub follows : {E : Type 0} → Kind E → Option E → E → Bool
follows k None e = true
follows k (Some x) e = k.after x e

abbrev pub placed : {E : Type 0} → Kind E → ℕ → Option E → Option E → Result E ElementFault
placed k i before None = Err (Form i)
placed k i before (Some e) = cond (follows k before e) (Ok e) (Err (Form i))

abbrev pub formed_one : {E : Type 0} → Kind E → ℕ → ℕ → Option E → List ℕ → Result E ElementFault
formed_one k most i before p = cond (nat_lt i most) (placed k i before (k.shape p)) (Err (Form i))

abbrev pub put_first : {E F : Type 0} → E → Result (List E) F → Result (List E) F
put_first e (Ok es) = Ok (e ∷ es)
put_first e (Err f) = Err f

abbrev pub formed : {E : Type 0} → Kind E → ℕ → ℕ → Option E → List (List ℕ) → Result (List E) ElementFault
formed k most i before [] = Ok []
formed k most i before (p ∷ ps) = and_then (formed_one k most i before p) (λ e. put_first e (formed k most (i + 1) (Some e) ps))

abbrev pub next_of : {E : Type 0} → Kind E → ℕ → List E → List ℕ → Result E ElementFault
next_of k most es p = formed_one k most (length es) (last_of es) p

abbrev pub grown : {E : Type 0} → Kind E → ℕ → List E → List ℕ → Result (List E) ElementFault
grown k most es p = and_then (next_of k most es p) (λ e. Ok (es ++ (e ∷ [])))

abbrev pub first_outside : {E : Type 0} → (E → Bool) → ℕ → List E → Option ℕ
first_outside inside i [] = None
first_outside inside i (e ∷ es) = cond (inside e) (first_outside inside (i + 1) es) (Some i)

abbrev pub unless_outside : {E : Type 0} → List E → Option ℕ → Result (List E) ElementFault
unless_outside es None = Ok es
unless_outside es (Some i) = Err (Range i)

abbrev pub list_of : {E : Type 0} → Kind E → ℕ → ℕ → List ℕ → Result (List E) ElementFault
list_of k most limit v = and_then (formed k most 0 None (elements_of v)) (λ es. unless_outside es (first_outside (k.inside limit) 0 es))

abbrev pub Ascends : {E : Type 0} → Kind E → Option E → List E → Type 0
Ascends k before [] = Unit {0}
Ascends k before (e ∷ es) = (follows k before e ≡ true) × Ascends k (Some e) es

pub record GoodList {E : Type 0} (k : Kind E) (most limit : ℕ) (es : List E) : Type 0 where
  pub few : length es ≤ most
  pub order : Ascends k None es
  pub range : AllByRecursion (λ e. k.inside limit e ≡ true) es

abbrev pub list_text : {E : Type 0} → Kind E → List E → List ℕ
list_text k es = commas (map k.spell es)

-- a result by what its value says
abbrev pub by : {X Y E : Type 0} → (X → Y) → Result X E → Result Y E
by f (Ok x) = Ok (f x)
by f (Err e) = Err e
