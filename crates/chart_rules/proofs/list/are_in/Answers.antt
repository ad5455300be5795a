-- `list::are_in`: by the answers on each state. Assumes nothing.
use Rattle.std.proofs.Common.{◌≡◌, true, rules}
use Rattle.std.proofs.lemmas.Bool.{both_ways}
use Rattle.std.proofs.lemmas.Iterator.{cases_from_all, YieldsList-from_slice}
use Rattle.set64.specs.Sets.{has}
use Rattle.chart.specs.Ids.{StateId}
use Rattle.chart_rules.proofs.Lists.{all_are}
use Rattle.chart_rules.proofs.list.are_in.Goals as goal

pub returns : goal.returns
returns c =
    let set = c.args.set in
    all_are (λ v. has set v ≡ true) _ c.args.states.now
    (cases_from_all _ _ _ (λ (s : StateId). has set s.0 ≡ true) (λ (s : StateId). has set s.0 ≡ true → ⊥) c.all.ensures.ran (YieldsList-from_slice c.args.states.now cc) (λ x q k. search rules) (λ x q k. search (rules, both_ways)))
