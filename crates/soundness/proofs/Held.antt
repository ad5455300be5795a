-- What a chart holds by its type, taken out of the type: each rule is decided, so none can fail. Assumes nothing.
use Rattle.hierarchy.specs.Rules.{Sound}
use Rattle.hierarchy.proofs.Checks.{decide_sound}
use Rattle.chart_tree.specs.Outlines.{drawn}
use Rattle.chart_tree.proofs.Drawn.{proper}
use Rattle.chart_tree.proofs.Held.{never}
use Rattle.soundness.specs.declared.sound_chart.Chart.{Chart}
use Rattle.std.proofs.Common.{inl, inr}

pub chart_sound : (c : Chart) → Sound (drawn c.outline.drawing)
chart_sound c = elim (decide_sound (drawn c.outline.drawing) (proper c.outline.drawing)) [ inl s ↦ s | inr none ↦ absurd (never c.sound none) ]
