-- `transition::is_full`: the list within the basic states below the target, and none missing. Assumes nothing.
use Rattle.std.proofs.Common.{ℕ, Decides}
use Rattle.std.proofs.lemmas.Bool.Decides.{Decides-at, Decides-like, Decides-and, Decides-not}
use Rattle.set64.specs.Sets.{has}
use Rattle.chart_tree.specs.Outlines.{drawn}
use Rattle.chart_rules.specs.Lists.{End}
use Rattle.chart_rules.proofs.transition.is_full.Goals as goal

pub returns-then-are_orthogonal_in : goal.returns-then-are_orthogonal_in
returns-then-are_orthogonal_in c rooted =
    let at : (v : ℕ) → Decides (has c.without-ends.result v) (End (drawn c.args.outline.now.drawing) c.args.target.0 v) =
    λ v. Decides-like _ (λ x. ((λ a k. x.1 (a, k)), x.0)) (λ x. (x.1, λ y. x.0 y.0 y.1))
    (Decides-at _ _ (c.without-ends.ensures v) (Decides-and _ _ (c.below.ensures rooted v) (Decides-not _ (c.composite.ensures rooted v)))) in
    let only = (c.are_orthogonal_in.ensures rooted).0 c.if-are_orthogonal_in.true in
    let covers = c.cover.ensures rooted in
    ((λ on. ((λ v m. (at v).0 (only.0 v m)), (only.1, λ v end. covers.0 on v ((at v).1 end)))), λ x. covers.1 (λ v on. x.1.1 v ((at v).0 on)))
