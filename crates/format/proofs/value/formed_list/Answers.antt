-- `value::formed_list`: each turn moves the first piece that is left into the list. Assumes nothing.
use Rattle.std.proofs.Common.{sym, ◌∙◌}
use Rattle.std.proofs.lemmas.Result.{err_from_is_err_and}
use Rattle.fixed.specs.Items.{items, most}
use Rattle.format.proofs.Cuts.{cut_less}
use Rattle.format.proofs.Lists.{formed_more, formed_stop, formed_last}
use Rattle.format.proofs.value.formed_list.Goals as goal

pub returns-in_err-add : goal.returns-in_err-add
returns-in_err-add g c =
    let p = err_from_is_err_and c.from_residual.result c.from_residual.ensures.1 in
    rw (p.1, p.2) (sym (formed_stop g.E.Element.kind (most g.row.N) (items c.loop-parts.list) c.loop-parts.rest.now
    c.in-Some.parts.front.now c.in-Some.parts.rest.now _ c.in-Some.ensures c.in_err-add.ensures) ∙ c.loop-parts.invariant)

pub loop-parts-smaller : goal.loop-parts-smaller
loop-parts-smaller g c = cut_less 44 c.loop-parts.rest.now c.in-Some.parts.front.now c.in-Some.parts.rest.now c.in-Some.ensures

pub loop-parts-preserved : goal.loop-parts-preserved
loop-parts-preserved g c =
    formed_more g.E.Element.kind (most g.row.N) (items c.loop-parts.list) (items c.add.new.list) c.loop-parts.rest.now
    c.in-Some.parts.front.now c.in-Some.parts.rest.now c.in-Some.ensures c.in_ok-add.ensures ∙ c.loop-parts.invariant

pub returns-in_err-add-2 : goal.returns-in_err-add-2
returns-in_err-add-2 g c =
    let p = err_from_is_err_and c.from_residual-in_err-add-2.result c.from_residual-in_err-add-2.ensures.1 in
    rw (p.1, p.2) (sym c.in_err-add-2.ensures
    ∙ sym (formed_last g.E.Element.kind (most g.row.N) (items c.loop-parts.list) c.loop-parts.rest.now c.in_default.ensures) ∙ c.loop-parts.invariant)

pub returns : goal.returns
returns g c =
    sym c.in_ok-add-2.ensures
    ∙ sym (formed_last g.E.Element.kind (most g.row.N) (items c.loop-parts.list) c.loop-parts.rest.now c.in_default.ensures) ∙ c.loop-parts.invariant
