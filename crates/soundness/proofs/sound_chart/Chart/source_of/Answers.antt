-- `Chart::source_of`: what the transition in its place says. Assumes nothing.
use Rattle.std.proofs.Common.{◌≡◌, ℕ, ◌<◌, ◌≤◌, List, length, Some, None, Option, MatchOption, Bor, sym, ap, subst, arith, rules}
use Rattle.std.specs.List.{HoldsAt}
use Rattle.fixed.specs.Items.{items}
use Rattle.chart.specs.declared.drawing.Drawing.{Drawing}
use Rattle.chart.specs.declared.drawing.Transition.{Transition}
use Rattle.chart.specs.Ids.{StateId}
use Rattle.chart_rules.specs.Lists.{Says}
use Rattle.chart_rules.proofs.Said.{transitions_are, says}
use Rattle.chart_rules.proofs.Somes.{some_weaker, some_only}
use Rattle.chart_tree.specs.Outlines.{drawn}
use Rattle.soundness.specs.Charts.{SourceGives}
use Rattle.soundness.proofs.sound_chart.Chart.source_of.Goals as goal

gives : (d : Drawing) (t : ℕ) (xs : List Transition) (o : Option (Bor Transition)) (r : Option StateId) → xs ≡ items d.transitions
    → MatchOption o (length xs ≤ t) (λ (x : Bor Transition). (t < length xs) × HoldsAt (λ (y : Transition). x.now ≡ y) xs t)
    → MatchOption o (r ≡ None) (λ (x : Bor Transition). r ≡ Some x.now.source) → SourceGives (drawn d) t r
gives d t xs None r same past none = subst (SourceGives (drawn d) t) (sym none) (omega (arith, transitions_are d, ap length same, past))
gives d t xs (Some x) r same here said =
    let s = subst (Says (drawn d) t) (sym (here.1 x.now)) (says d t x.now xs same here.0) in subst (SourceGives (drawn d) t) (sym said) (s.known, s.source)

pub returns : goal.returns
returns c =
    gives c.args.self.now.outline.drawing c.args.transition.0 _ c.get.result _ c.as_slice-transitions.ensures.value c.get.ensures.lookup.3
    (some_weaker _ (λ (x : Bor Transition). c.map.result ≡ Some x.now.source) c.get.result c.map.ensures.cases (λ x q. some_only c.map.result x.now.source q (λ y p. search rules)))
