-- What is known of a state by the automaton that it lies in, or by there being none. Assumes nothing.
use Rattle.std.proofs.Common.{◌≡◌, ℕ, ◌<◌, ◌≤◌, ltb, Some, None, sym, ap, ◌∙◌, ⊎_elim, inl, inr, arith}
use Rattle.std.specs.Bool.{then_some}
use Rattle.std.proofs.lemmas.Bool.{cases_lt, cond-true, cond-false, lt-ltb, le-ltb}
use Rattle.chart.specs.Kinds.{automaton_no}
use Rattle.chart.specs.Ids.{AutomatonId}
use Rattle.hierarchy.specs.Hierarchies.{Hierarchy}
use Rattle.hierarchy.proofs.Tree.{not_some}
use Rattle.chart_tree.specs.Outlines.{home_in}

pub none_in : (h : Hierarchy) (v : ℕ) → h.automata ≤ h.home v → None ≡ home_in h v
none_in h v past = sym (cond-false _ _ _ (le-ltb _ _ past))

pub some_in : (h : Hierarchy) (v : ℕ) (a : AutomatonId) → h.home v ≡ a.0 → a.0 < h.automata → Some a ≡ home_in h v
some_in h v a e lt = let here : h.home v < h.automata = omega arith in ap (λ n. Some (automaton_no n)) (sym e) ∙ sym (cond-true _ _ _ (lt-ltb _ _ here))

pub either_in : (h : Hierarchy) (v : ℕ) (a : AutomatonId) (n : ℕ) → h.home v ≡ a.0 → n ≡ h.automata → then_some (ltb a.0 n) a ≡ home_in h v
either_in h v a n here all =
    elim (cases_lt a.0 n) [
      | inl lt ↦ let known = lt-ltb a.0 n lt in rw known (some_in h v a here (omega arith))
      | inr le ↦ let past = le-ltb a.0 n le in rw past (none_in h v (omega arith))
    ]

pub none_out : (h : Hierarchy) (v : ℕ) → None ≡ home_in h v → h.automata ≤ h.home v
none_out h v e = ⊎_elim (λ lt. absurd (not_some _ (automaton_no (h.home v)) (sym e) (cond-true _ _ _ (lt-ltb _ _ lt)))) (λ le. le) (cases_lt (h.home v) h.automata)

pub some_out : (h : Hierarchy) (v : ℕ) (a : AutomatonId) → Some a ≡ home_in h v → (h.home v ≡ a.0) × (h.home v < h.automata)
some_out h v a e =
    ⊎_elim
    (λ lt. let same : Some a ≡ Some (automaton_no (h.home v)) = e ∙ cond-true _ _ _ (lt-ltb _ _ lt) in let one : a ≡ automaton_no (h.home v) = cc in (sym (ap (λ (x : AutomatonId). x.0) one), lt))
    (λ le. absurd (not_some _ a (cond-false _ _ _ (le-ltb _ _ le)) (sym e)))
    (cases_lt (h.home v) h.automata)
