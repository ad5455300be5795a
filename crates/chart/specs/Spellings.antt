-- Every part of a chart that is an element of a text reads back from its spelling, and from nothing else. Assumes nothing.
use Rattle.std.specs.Prelude.{◌≡◌, ℕ, ◌<◌, ◌≤◌, true, false, List, [], ◌∷◌, length, Some, None, codes, Option, nat_lt, refl}
use Rattle.std.proofs.Common.{⊎_elim, ap, ◌∙◌, arith}
use Rattle.std.specs.Option.{option_map}
use Rattle.std.specs.Str.{bytes_eq}
use Rattle.std.proofs.lemmas.Slice.Eq.{bytes_eq-Decides}
use Rattle.std.proofs.lemmas.Bool.{cases_Bool, cases_eq, eq-eqb, ne_eqb, ltb-true}
use Rattle.format.specs.Bytes.{Free, number_of, spelled}
use Rattle.format.specs.Elements.{Spells}
use Rattle.format.specs.Numbers.{number_to, number_from, spelled_free, spelled_some, spelled_short, number_exact}
use Rattle.chart.specs.Kinds.{state_no, condition_no, under_state, state_kind, automaton_kind, event_kind, term_kind, parent_kind, term_of, lettered, term_shape, term_inside, term_text, parent_shape, parent_inside, parent_text}
use Rattle.chart.specs.declared.drawing.Term.{Term}
use Rattle.chart.specs.declared.drawing.Term.TheVariants.{Active, Inactive, Holds, Fails}
use Rattle.chart.specs.declared.drawing.Parent.{Parent}
use Rattle.chart.specs.declared.drawing.Parent.TheVariants.{Top, State}

-- below a limit that is at most 100
below : (n limit : ℕ) → limit ≤ 100 → nat_lt n limit ≡ true → n < 100
below n limit l h = omega (arith, ltb-true n limit h)

pub state_exact : Spells state_kind 2
state_exact = number_exact 0 true

pub automaton_exact : Spells automaton_kind 2
automaton_exact = number_exact 0 false

pub event_exact : Spells event_kind 2
event_exact = number_exact 0 false

-- ---- terms

never : {A : Type 0} {C : Type 0} (a : A) → ◌≡◌ {A = Option A} None (Some a) → C
never a h = absurd (let z : ◌≡◌ {A = ℕ} 0 1 = cc in omega arith)

-- the letter of a term and its number
term_parts : (letter n : ℕ) (e : Term) → term_of letter n ≡ Some e → letter ∷ spelled n ≡ term_text e
term_parts letter n e h =
    ⊎_elim (λ s. let t = eq-eqb letter 115 s in same 115 (Active (state_no n)) s refl (rw t at h))
    (λ ns. let f = ne_eqb letter 115 ns in let h1 = rw f at h in
    ⊎_elim (λ s. let t = eq-eqb letter 110 s in same 110 (Inactive (state_no n)) s refl (rw t at h1))
    (λ nn. let f1 = ne_eqb letter 110 nn in let h2 = rw f1 at h1 in
    ⊎_elim (λ s. let t = eq-eqb letter 99 s in same 99 (Holds (condition_no n)) s refl (rw t at h2))
    (λ nc. let f2 = ne_eqb letter 99 nc in let h3 = rw f2 at h2 in
    ⊎_elim (λ s. let t = eq-eqb letter 100 s in same 100 (Fails (condition_no n)) s refl (rw t at h3))
    (λ nd. let f3 = ne_eqb letter 100 nd in never e (rw f3 at h3))
    (cases_eq letter 100))
    (cases_eq letter 99))
    (cases_eq letter 110))
    (cases_eq letter 115)
  where
    same : (b : ℕ) (t : Term) → letter ≡ b → b ∷ spelled n ≡ term_text t → Some t ≡ Some e → letter ∷ spelled n ≡ term_text e
    same b t l s q = let r : t ≡ e = cc in ap (λ x. x ∷ spelled n) l ∙ s ∙ ap term_text r

lettered_parts : (letter : ℕ) (digits : List ℕ) (o : Option ℕ) → number_of digits ≡ o → (e : Term) → lettered letter o ≡ Some e → letter ∷ digits ≡ term_text e
lettered_parts letter digits None d e h = never e h
lettered_parts letter digits (Some n) d e h = ap (λ v. letter ∷ v) (number_to digits n d).1 ∙ term_parts letter n e h

term_to : (v : List ℕ) (e : Term) → term_shape v ≡ Some e → v ≡ term_text e
term_to [] e h = never e h
term_to (letter ∷ digits) e h = lettered_parts letter digits (number_of digits) refl e h

term_from : (limit : ℕ) → limit ≤ 100 → (e : Term) → term_inside limit e ≡ true → term_shape (term_text e) ≡ Some e
term_from limit l (Active s) h = ap (lettered 115) (number_from s.0 (below s.0 limit l h))
term_from limit l (Inactive s) h = ap (lettered 110) (number_from s.0 (below s.0 limit l h))
term_from limit l (Holds c) h = ap (lettered 99) (number_from c.0 (below c.0 32 (omega arith) h))
term_from limit l (Fails c) h = ap (lettered 100) (number_from c.0 (below c.0 32 (omega arith) h))

term_some : (e : Term) → 0 < length (term_text e)
term_some (Active s) = omega arith
term_some (Inactive s) = omega arith
term_some (Holds c) = omega arith
term_some (Fails c) = omega arith

term_short : (e : Term) → length (term_text e) ≤ 3
term_short (Active s) = omega (arith, spelled_short s.0)
term_short (Inactive s) = omega (arith, spelled_short s.0)
term_short (Holds c) = omega (arith, spelled_short c.0)
term_short (Fails c) = omega (arith, spelled_short c.0)

term_free : (b : ℕ) → b < 48 → (e : Term) → Free b (term_text e)
term_free b h (Active s) = (λ e. omega arith, spelled_free b s.0 h)
term_free b h (Inactive s) = (λ e. omega arith, spelled_free b s.0 h)
term_free b h (Holds c) = (λ e. omega arith, spelled_free b c.0 h)
term_free b h (Fails c) = (λ e. omega arith, spelled_free b c.0 h)

pub term_exact : Spells term_kind 3
term_exact = record { to = term_to; from = term_from; some = term_some; short = term_short; free = term_free }

-- ---- what an automaton stands under

-- a numeral is not `top`: it is shorter
not_top : (n : ℕ) → bytes_eq (spelled n) (codes "top") ≡ false
not_top n = ⊎_elim (λ e. absurd (clash ((bytes_eq-Decides (spelled n) (codes "top")).0 e))) (λ f. f) (cases_Bool (bytes_eq (spelled n) (codes "top")))
  where
    clash : spelled n ≡ codes "top" → ⊥
    clash e = let l = spelled_short n in let k = ap length e in omega arith

number_under : (o : Option ℕ) (v : List ℕ) → number_of v ≡ o → (e : Parent) → option_map under_state o ≡ Some e → v ≡ parent_text e
number_under None v d e h = never e h
number_under (Some n) v d e h = let q : State (state_no n) ≡ e = cc in (number_to v n d).1 ∙ ap parent_text q

parent_to : (v : List ℕ) (e : Parent) → parent_shape v ≡ Some e → v ≡ parent_text e
parent_to v e h =
    ⊎_elim
    (λ t. let g : Some Top ≡ Some e = rw t at h in let q : Top ≡ e = cc in (bytes_eq-Decides v (codes "top")).0 t ∙ ap parent_text q)
    (λ f. number_under (number_of v) v refl e (rw f at h))
    (cases_Bool (bytes_eq v (codes "top")))

parent_from : (limit : ℕ) → limit ≤ 100 → (e : Parent) → parent_inside limit e ≡ true → parent_shape (parent_text e) ≡ Some e
parent_from limit l Top h = refl
parent_from limit l (State s) h = let f = not_top s.0 in rw f (ap (option_map under_state) (number_from s.0 (below s.0 limit l h)))

parent_some : (e : Parent) → 0 < length (parent_text e)
parent_some Top = omega arith
parent_some (State s) = spelled_some s.0

parent_short : (e : Parent) → length (parent_text e) ≤ 3
parent_short Top = omega arith
parent_short (State s) = omega (arith, spelled_short s.0)

parent_free : (b : ℕ) → b < 48 → (e : Parent) → Free b (parent_text e)
parent_free b h Top = (λ e. omega arith, (λ e. omega arith, (λ e. omega arith, tt)))
parent_free b h (State s) = spelled_free b s.0 h

pub parent_exact : Spells parent_kind 3
parent_exact = record { to = parent_to; from = parent_from; some = parent_some; short = parent_short; free = parent_free }
