-- `transition::check_transition`: the ends, the restriction, the determinator. Assumes nothing.
use Rattle.std.proofs.Common.{◌∙◌}
use Rattle.chart_tree.specs.Outlines.{drawn}
use Rattle.chart_tree.proofs.Drawn.{proper}
use Rattle.chart_rules.proofs.Transitions.{joins_is, formed_is, full_is}
use Rattle.chart_rules.proofs.transition.check_transition.Goals as goal

pub returns-then-not-is_well_formed : goal.returns-then-not-is_well_formed
returns-then-not-is_well_formed c rooted says =
    let d = c.args.outline.now.drawing in
    let h = drawn d in
    let t = c.args.id.0 in
    let x = c.args.transition.now in
    let j = joins_is h (proper d) t x says _ c.are_together.ensures in
    let w = formed_is h (proper d) t x says rooted _ _ c.as_slice-restriction.ensures.value (c.is_well_formed.ensures rooted) in
    rw (j ∙ c.if-not-are_together.false, w ∙ c.if-not-is_well_formed.true)

pub returns-then-not-is_full : goal.returns-then-not-is_full
returns-then-not-is_full c rooted says =
    let d = c.args.outline.now.drawing in
    let h = drawn d in
    let t = c.args.id.0 in
    let x = c.args.transition.now in
    let j = joins_is h (proper d) t x says _ c.are_together.ensures in
    let w = formed_is h (proper d) t x says rooted _ _ c.as_slice-restriction.ensures.value (c.is_well_formed.ensures rooted) in
    let f = full_is h (proper d) t x says rooted _ _ c.as_slice-determinator.ensures.value (c.is_full.ensures rooted) in
    rw (j ∙ c.if-not-are_together.false, w ∙ c.if-not-is_well_formed.false, f ∙ c.if-not-is_full.true)

pub returns : goal.returns
returns c rooted says =
    let d = c.args.outline.now.drawing in
    let h = drawn d in
    let t = c.args.id.0 in
    let x = c.args.transition.now in
    let j = joins_is h (proper d) t x says _ c.are_together.ensures in
    let w = formed_is h (proper d) t x says rooted _ _ c.as_slice-restriction.ensures.value (c.is_well_formed.ensures rooted) in
    let f = full_is h (proper d) t x says rooted _ _ c.as_slice-determinator.ensures.value (c.is_full.ensures rooted) in
    rw (j ∙ c.if-not-are_together.false, w ∙ c.if-not-is_well_formed.false, f ∙ c.if-not-is_full.false)
