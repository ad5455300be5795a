-- `regions::members`: the state i joins the set of its automaton. Assumes nothing.
use Rattle.std.proofs.Common.{◌≡◌, ℕ, ◌+◌, ◌<◌, length, Decides, sym, ap, ◌∙◌, inl, inr, arith}
use Rattle.std.proofs.lemmas.Bool.{cases_eq}
use Rattle.std.proofs.lemmas.Bool.Decides.{Decides-like}
use Rattle.set64.specs.Sets.{has}
use Rattle.set64.specs.declared.Set64.{Set64}
use Rattle.chart_tree.specs.Outlines.{drawn}
use Rattle.chart_tree.specs.Tables.{set_at}
use Rattle.chart_tree.specs.declared.table.Table.{Table}
use Rattle.chart_tree.proofs.Drawn.{states_are, home_read}
use Rattle.chart_tree.proofs.Stages.{Joined, decides_joined, decides_one}
use Rattle.chart_tree.proofs.regions.members.Goals as goal

one_more : (home : ℕ → ℕ) (old new : Table 24) (i place : ℕ) (one : Set64) → home i ≡ place → Joined old place one new → ((v : ℕ) → Decides (has one v) (v ≡ i))
    → ((a v : ℕ) → a < 24 → Decides (set_at old a v) ((v < i) × (home v ≡ a))) → (a v : ℕ) → a < 24 → Decides (set_at new a v) ((v < i + 1) × (home v ≡ a))
one_more home old new i place one here j only inv a v lt =
    Decides-like _
    (λ s. elim s [ inl x ↦ (omega (arith, x.0), x.1) | inr x ↦ (omega (arith, x.1), ap home x.1 ∙ here ∙ sym x.0.1) ])
    (λ x. elim (cases_eq v i) [ inl e ↦ let at = sym here ∙ ap home (sym e) ∙ x.1 in inr ((omega arith, omega arith), e) | inr ne ↦ inl (omega (arith, x.0), x.1) ])
    (decides_joined old new place a v one j (inv a v lt) (only v))

pub loop-i-preserved : goal.loop-i-preserved
loop-i-preserved c =
    let d = c.args.drawing.now in
    let few : c.loop-i.i < 64 = omega arith in
    let here = home_read d c.loop-i.i _ _ c.as_slice-states.ensures.value c.loop-i-test.true in
    one_more (drawn d).home c.loop-i.members _ c.loop-i.i _ _ here c.join.ensures (decides_one _ _ _ few c.empty.ensures c.insert.ensures) c.loop-i.invariant

pub returns : goal.returns
returns c =
    let n = states_are c.args.drawing.now in
    let all = ap length c.as_slice-states.ensures.value in
    record { few = omega arith; each = λ a v lt. Decides-like _ (λ x. (omega (arith, x.0), x.1)) (λ x. (omega (arith, x.0), x.1)) (c.loop-i.invariant a v lt) }
