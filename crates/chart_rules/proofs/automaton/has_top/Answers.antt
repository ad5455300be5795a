-- `automaton::has_top`: what the first automaton's parent says. Assumes nothing.
use Rattle.std.proofs.Common.{◌≡◌, ◌<◌, ◌≤◌, Bool, false, List, length, None, Some, Option, MatchOption, Bor, Decides, sym, refl, ap, ◌∙◌, inl, inr, arith, rules}
use Rattle.std.specs.List.{HoldsAt}
use Rattle.std.proofs.lemmas.Bool.{both_ways}
use Rattle.std.proofs.lemmas.Bool.Decides.{Decides-like}
use Rattle.fixed.specs.Items.{items}
use Rattle.chart.specs.declared.drawing.Automaton.{Automaton}
use Rattle.chart.specs.declared.drawing.Drawing.{Drawing}
use Rattle.chart.specs.declared.drawing.Parent.{Parent}
use Rattle.chart.specs.declared.drawing.Parent.TheVariants.{Top, State}
use Rattle.hierarchy.specs.Hierarchies.{Hierarchy}
use Rattle.hierarchy.specs.Meant.{parent_state}
use Rattle.hierarchy.specs.Rules.{Placed}
use Rattle.chart_tree.specs.Outlines.{drawn}
use Rattle.chart_tree.proofs.Drawn.{automata_are, parent_read}
use Rattle.chart_rules.proofs.Somes.{some_weaker}
use Rattle.chart_rules.proofs.automaton.has_top.Goals as goal

top_free : (h : Hierarchy) → Placed h 0 → (0 < h.automata) × (h.parent 0 ≡ None)
top_free h p = elim p [ inl x ↦ (x.1, x.2) | inr x ↦ absurd (omega (arith, x.0)) ]

top_of : (p : Parent) → parent_state p ≡ None → p ≡ Top
top_of Top e = refl
top_of (State s) e = cc

first_top : (d : Drawing) (xs : List Automaton) (r : Bool) (o : Option (Bor Automaton)) → xs ≡ items d.automata
    → MatchOption o (length xs ≤ 0) (λ (x : Bor Automaton). (0 < length xs) × HoldsAt (λ (y : Automaton). x.now ≡ y) xs 0)
    → MatchOption o (r ≡ false) (λ (x : Bor Automaton). Decides r (x.now.parent ≡ Top)) → Decides r (Placed (drawn d) 0)
first_top d xs r None same past off = (
  (λ t. absurd (both_ways r off t)),
  λ p. absurd (omega (arith, (top_free (drawn d) p).0, automata_are d, ap length same, past)),
)
first_top d xs r (Some x) same here is-top =
    let said = parent_read d 0 x.now xs same here.0 (here.1 x.now) in
    Decides-like r
    (λ e. inl (refl, omega (arith, automata_are d, ap length same, here.0), said ∙ ap parent_state e))
    (λ p. top_of x.now.parent (sym said ∙ (top_free (drawn d) p).1))
    is-top

pub returns : goal.returns
returns c =
    first_top c.args.drawing.now _ _ c.first.result c.as_slice-automata.ensures.value c.first.ensures.item.3
    (some_weaker _ (λ (x : Bor Automaton). Decides c.is_some_and.result (x.now.parent ≡ Top)) c.first.result c.is_some_and.ensures (λ x q. search rules))
