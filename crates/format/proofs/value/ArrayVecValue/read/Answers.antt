-- `ArrayVec::read`: the form of all elements, then the first that is outside its limits. Assumes nothing.
use Rattle.std.proofs.Common.{not, position, sym, ap, ◌∙◌}
use Rattle.fixed.specs.Items.{items}
use Rattle.format.specs.Elements.{and_then, first_outside, unless_outside}
use Rattle.format.proofs.Lists.{outside_is}
use Rattle.format.proofs.value.ArrayVecValue.read.Goals as goal

pub returns-in-None : goal.returns-in-None
returns-in-None g c =
    let es = items c.in_ok-list.list in
    let inside = g.E.Element.kind.inside c.args.limit in
    ap (unless_outside es) (c.in-None.ensures ∙ ap (λ xs. position (λ e. not (inside e)) xs) c.as_slice.ensures.value ∙ sym (outside_is inside es))
    ∙ ap (λ r. and_then r (λ es. unless_outside es (first_outside inside 0 es))) c.in_ok-list.ensures

pub returns-in-Some : goal.returns-in-Some
returns-in-Some g c =
    let es = items c.in_ok-list.list in
    let inside = g.E.Element.kind.inside c.args.limit in
    ap (unless_outside es) (c.in-Some.ensures ∙ ap (λ xs. position (λ e. not (inside e)) xs) c.as_slice.ensures.value ∙ sym (outside_is inside es))
    ∙ ap (λ r. and_then r (λ es. unless_outside es (first_outside inside 0 es))) c.in_ok-list.ensures
