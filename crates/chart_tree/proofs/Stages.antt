-- The tables, automaton by automaton. Assumes nothing.
use Rattle.std.proofs.Common.{◌≡◌, ℕ, ◌+◌, ◌<◌, ◌≤◌, false, not, ◌&&◌, ◌||◌, eqb, ltb, ◌⊎◌, Decides, sym, ap, ◌∙◌, subst, inl, inr, arith}
use Rattle.std.proofs.lemmas.Bool.{cases_eq, both_ways, or_from, and_left, and_right, ne_eqb}
use Rattle.std.proofs.lemmas.Bool.Decides.{Decides-at, Decides-like, Decides-and, Decides-or, Decides-not, Decides-eqb, Decides-ltb}
use Rattle.set64.specs.Sets.{has}
use Rattle.set64.specs.declared.Set64.{Set64}
use Rattle.hierarchy.specs.Hierarchies.{Hierarchy, Under, Below, Lies, Orthogonal, Proper}
use Rattle.hierarchy.specs.Rules.{Rooted}
use Rattle.hierarchy.proofs.Tree.{lies_step, below_under, under_lt, orthogonal_step}
use Rattle.chart_tree.specs.Outlines.{Stands}
use Rattle.chart_tree.specs.Regions.{Members, Stage, Sides}
use Rattle.chart_tree.specs.Tables.{set_at}
use Rattle.chart_tree.specs.declared.outline.Stand.{Stand}
use Rattle.chart_tree.specs.declared.table.Table.{Table}
use Rattle.chart_tree.specs.declared.regions.Regions.{Regions}

-- the members of a table after more have joined the set in one of its places
abbrev pub Joined : {N : ℕ} → Table N → ℕ → Set64 → Table N → Type 0
Joined {N} old place more new = (i v : ℕ) → set_at new i v ≡ (set_at old i v || ((ltb place N && eqb i place) && has more v))

pub decides_joined : {N : ℕ} {P Q : Type 0} (old new : Table N) (place i v : ℕ) (more : Set64) → Joined old place more new → Decides (set_at old i v) P → Decides (has more v) Q
    → Decides (set_at new i v) (P ⊎ (((place < N) × (i ≡ place)) × Q))
decides_joined {N} old new place i v more j p q =
    Decides-at _ _ (j i v) (Decides-or _ _ p (Decides-and _ _ (Decides-and _ _ (Decides-ltb place N) (Decides-eqb i place)) q))

-- a set of one number
pub decides_one : (i : ℕ) (none one : Set64) → i < 64 → ((m : ℕ) → has none m ≡ false) → ((m : ℕ) → has one m ≡ (has none m || (ltb i 64 && eqb m i))) → (v : ℕ) → Decides (has one v) (v ≡ i)
decides_one i none one lt empty is v =
    Decides-like _ (λ s. elim s [ inl t ↦ absurd (both_ways _ (empty v) t) | inr x ↦ x.1 ]) (λ e. inr (lt, e))
    (Decides-at _ _ (is v) (Decides-or _ _ ((λ t. t), (λ t. t)) (Decides-and _ _ (Decides-ltb i 64) (Decides-eqb v i))))

module _ (h : Hierarchy) (proper : Proper h) where
  -- before any automaton is gathered
  pub stage_start : (r : Regions) → Members h r.within → h.automata ≤ 24 → ((u v : ℕ) → set_at r.below u v ≡ false) → ((u : ℕ) → has r.composite u ≡ false)
      → Stage h h.automata r
  stage_start r m few none plain =
      let over : (b s : ℕ) → h.automata ≤ b → Under h b s → ⊥ = λ b s k u. omega (arith, proper.parent b s u) in
      record {
        few_automata = few;
        few_states = m.few;
        within = λ a v lt. Decides-like _ (λ x. inl x.1) (λ s. elim s [ inl e ↦ (proper.home v (omega arith), e) | inr x ↦ absurd (over x.0 x.1 x.2 x.3) ]) (m.each a v (omega arith));
        below = λ u v. ((λ t. absurd (both_ways _ (none u v) t)), (λ x. absurd (over x.0 u x.1 x.2)));
        composite = λ u. ((λ t. absurd (both_ways _ (plain u) t)), (λ x. absurd (over x.0 u x.1 x.2)));
      }

  module _ (rooted : Rooted h) (k : ℕ) where
    -- an automaton whose inner automata are gathered has its states and all below
    pub gathered : (r : Regions) → Stage h (k + 1) r → k < h.automata → (v : ℕ) → Decides (set_at r.within k v) (Lies h v k)
    gathered r stage lt v =
        let l = lies_step h v k in
        Decides-like _
        (λ s. l.1 (elim s [ inl e ↦ inl e | inr x ↦ inr (x.0, x.1, x.3, x.4, x.5) ]))
        (λ y. elim (l.0 y) [ inl e ↦ inl e | inr x ↦ inr (x.0, x.1, omega (arith, under_lt h rooted x.0 x.1 x.2, x.3), x.2, x.3, x.4) ])
        (stage.within k v lt)

    -- an automaton under no state
    pub stage_skip : (r : Regions) → ((p : ℕ) → Under h k p → ⊥) → Stage h (k + 1) r → Stage h k r
    stage_skip r top stage =
        let on : (b s : ℕ) → k ≤ b → Under h b s → k + 1 ≤ b = λ b s le u. elim (cases_eq b k) [ inl e ↦ absurd (top s (subst (λ z. Under h z s) e u)) | inr ne ↦ omega arith ] in
        record {
          few_automata = stage.few_automata;
          few_states = stage.few_states;
          within = λ a v lt. Decides-like _
              (λ s. elim s [ inl e ↦ inl e | inr x ↦ inr (x.0, x.1, omega (arith, x.2), x.3, x.4, x.5) ])
              (λ s. elim s [ inl e ↦ inl e | inr x ↦ inr (x.0, x.1, on x.0 x.1 x.2 x.3, x.3, x.4, x.5) ]) (stage.within a v lt);
          below = λ u v. Decides-like _ (λ x. (x.0, omega (arith, x.1), x.2, x.3)) (λ x. (x.0, on x.0 u x.1 x.2, x.2, x.3)) (stage.below u v);
          composite = λ u. Decides-like _ (λ x. (x.0, omega (arith, x.1), x.2)) (λ x. (x.0, on x.0 u x.1 x.2, x.2)) (stage.composite u);
        }

    -- an automaton under the state s of an automaton of the chart
    module _ (s : Stand) (stands : Stands h k s) (r : Regions) (stage : Stage h (k + 1) r) where
      under_s : (b p : ℕ) → b ≡ k → Under h b p → p ≡ s.state.0
      under_s b p e u = let v : Under h k p = subst (λ z. Under h z p) e u in let w = stands.under in cc

      later : (b : ℕ) → k ≤ b → (b ≡ k → ⊥) → k + 1 ≤ b
      later b le ne = omega arith

      inner_lt : k < h.automata
      inner_lt = proper.parent k s.state.0 stands.under

      state_lt : s.state.0 < h.states
      state_lt = proper.home s.state.0 (omega (arith, stands.home, stands.known))

      pub stage_more : (inner composite : Set64) (within : Table 24) (below : Table 64) → ((v : ℕ) → has inner v ≡ set_at r.within k v)
          → Joined r.within s.home.0 inner within → Joined r.below s.state.0 inner below
          → ((m : ℕ) → has composite m ≡ (has r.composite m || (ltb s.state.0 64 && eqb m s.state.0)))
          → Stage h k (record { within = within; below = below; composite = composite })
      stage_more inner composite within below same in-home in-state put =
          let all : (v : ℕ) → Decides (has inner v) (Lies h v k) = λ v. Decides-at _ _ (same v) (gathered r stage inner_lt v) in
          record {
            few_automata = stage.few_automata;
            few_states = stage.few_states;
            within = λ a v lt. Decides-like _
                (λ y. elim y [
                  | inl (inl e) ↦ inl e
                  | inl (inr x) ↦ inr (x.0, x.1, omega (arith, x.2), x.3, x.4, x.5)
                  | inr x ↦ inr (k, s.state.0, omega arith, stands.under, stands.home ∙ sym x.0.1, x.1)
                ])
                (λ y. elim y [
                  | inl e ↦ inl (inl e)
                  | inr x ↦ elim (cases_eq x.0 k) [
                    | inl e ↦ let at = sym stands.home ∙ ap h.home (sym (under_s x.0 x.1 e x.3)) ∙ x.4 in
                        inr ((omega (arith, stands.known, stage.few_automata), sym at), subst (λ z. Lies h v z) e x.5)
                    | inr ne ↦ inl (inr (x.0, x.1, later x.0 x.2 ne, x.3, x.4, x.5))
                  ]
                ])
                (decides_joined r.within within s.home.0 a v inner in-home (stage.within a v lt) (all v));
            below = λ u v. Decides-like _
                (λ y. elim y [
                  | inl x ↦ (x.0, omega (arith, x.1), x.2, x.3)
                  | inr x ↦ (k, omega arith, subst (λ z. Under h k z) (sym x.0.1) stands.under, x.1)
                ])
                (λ x. elim (cases_eq x.0 k) [
                  | inl e ↦ inr ((omega (arith, state_lt, stage.few_states), under_s x.0 u e x.2), subst (λ z. Lies h v z) e x.3)
                  | inr ne ↦ inl (x.0, later x.0 x.1 ne, x.2, x.3)
                ])
                (decides_joined r.below below s.state.0 u v inner in-state (stage.below u v) (all v));
            composite = λ u. Decides-like _
                (λ y. elim y [ inl x ↦ (x.0, omega (arith, x.1), x.2) | inr x ↦ (k, omega arith, subst (λ z. Under h k z) (sym x.1) stands.under) ])
                (λ x. elim (cases_eq x.0 k) [
                  | inl e ↦ inr (omega (arith, state_lt, stage.few_states), under_s x.0 u e x.2)
                  | inr ne ↦ inl (x.0, later x.0 x.1 ne, x.2)
                ])
                (Decides-at _ _ (put u) (Decides-or _ _ (stage.composite u) (Decides-and _ _ (Decides-ltb s.state.0 64) (Decides-eqb u s.state.0))));
          }

  -- once all automata are gathered
  module _ (rooted : Rooted h) (r : Regions) (stage : Stage h 0 r) where
    pub all_within : (a v : ℕ) → a < h.automata → Decides (set_at r.within a v) (Lies h v a)
    all_within a v lt =
        Decides-like _
        (λ s. (lies_step h v a).1 (elim s [ inl e ↦ inl e | inr x ↦ inr (x.0, x.1, x.3, x.4, x.5) ]))
        (λ y. elim ((lies_step h v a).0 y) [ inl e ↦ inl e | inr x ↦ inr (x.0, x.1, omega arith, x.2, x.3, x.4) ])
        (stage.within a v lt)

    pub all_below : (u v : ℕ) → Decides (set_at r.below u v) (Below h v u)
    all_below u v = Decides-like _ (λ x. (below_under h v u).1 (x.0, x.2, x.3)) (λ d. let x = (below_under h v u).0 d in (x.0, omega arith, x.1, x.2)) (stage.below u v)

    pub all_composite : (u : ℕ) → Decides (has r.composite u) ((b : ℕ) × Under h b u)
    all_composite u = Decides-like _ (λ x. (x.0, x.2)) (λ x. (x.0, omega arith, x.1)) (stage.composite u)

    -- of an automaton under no state, nothing is orthogonal to the states
    pub no_sides : (a v w : ℕ) → ((p : ℕ) → Under h a p → ⊥) → h.home v ≡ a → Orthogonal h v w → ⊥
    no_sides a v w top e o = let x = (orthogonal_step h rooted v w).0 o in top x.0 (subst (λ z. Under h z x.0) e x.1)

    -- of an automaton under the state s: what is orthogonal to s, and what lies below s elsewhere
    pub sides_more : (a : ℕ) (s : Stand) → Stands h a s → (beside : Table 24) → Sides h a beside → (old under own others all : Set64)
        → ((v : ℕ) → has old v ≡ set_at beside s.home.0 v) → ((v : ℕ) → has under v ≡ set_at r.below s.state.0 v) → ((v : ℕ) → has own v ≡ set_at r.within a v)
        → ((v : ℕ) → has others v ≡ (has under v && not (has own v))) → ((v : ℕ) → has all v ≡ (has old v || has others v))
        → (v w : ℕ) → h.home v ≡ a → Decides (has all w) (Orthogonal h v w)
    sides_more a s stands beside sides old under own others all is-old is-under is-own is-others is_all v w e =
        let step = orthogonal_step h rooted v w in
        let here : Under h (h.home v) s.state.0 = subst (λ z. Under h z s.state.0) (sym e) stands.under in
        let inner : a < h.automata = proper.parent a s.state.0 stands.under in
        let lower : s.home.0 < a = omega (arith, under_lt h rooted a s.state.0 stands.under, stands.home) in
        let up = sides.done s.home.0 s.state.0 w lower stands.home in
        let apart = Decides-at _ _ (is-others w) (Decides-and _ _ (Decides-at _ _ (is-under w) (all_below s.state.0 w)) (Decides-not _ (Decides-at _ _ (is-own w) (all_within a w inner)))) in
        Decides-like _
        (λ y. step.1 (s.state.0, here, elim y [ inl o ↦ inl o | inr x ↦ inr (x.0, λ l. x.1 (subst (λ z. Lies h w z) e l)) ]))
        (λ o. let x = step.0 o in let same : x.0 ≡ s.state.0 = one_parent x.0 x.1 here in
        elim x.2 [ inl q ↦ inl (subst (λ z. Orthogonal h z w) same q) | inr q ↦ inr (subst (λ z. Below h w z) same q.0, λ l. q.1 (subst (λ z. Lies h w z) (sym e) l)) ])
        (Decides-at _ _ (is_all w) (Decides-or _ _ (Decides-at _ _ (is-old w) up) apart))
      where
        one_parent : (p : ℕ) → Under h (h.home v) p → Under h (h.home v) s.state.0 → p ≡ s.state.0
        one_parent p x y = cc

-- one automaton's sides more
pub sides_next : (h : Hierarchy) (a : ℕ) (old new : Table 24) (more : Set64) → a < 24 → Sides h a old → Joined old a more new
    → ((v w : ℕ) → h.home v ≡ a → Decides (has more w) (Orthogonal h v w)) → Sides h (a + 1) new
sides_next h a old new more lt sides j here =
    record {
      done = λ x v w le e. elim (cases_eq x a) [
        | inl same ↦ Decides-like _ (λ y. elim y [ inl t ↦ absurd (both_ways _ (sides.blank x w (omega arith)) t) | inr z ↦ z.1 ]) (λ o. inr ((lt, same), o))
            (decides_joined old new a x w more j ((λ t. t), (λ t. t)) (here v w (e ∙ same)))
        | inr ne ↦ Decides-like _ (λ y. elim y [ inl o ↦ o | inr z ↦ absurd (ne z.0.1) ]) (λ o. inl o) (decides_joined old new a x w more j (sides.done x v w (omega arith) e) ((λ t. t), (λ t. t)))
      ];
      blank = λ x w le. j x w ∙ not_there x w le;
    }
  where
    not_there : (x w : ℕ) → a + 1 ≤ x → (set_at old x w || ((ltb a 24 && eqb x a) && has more w)) ≡ false
    not_there x w le =
        or_from _ _ (sides.blank x w (omega arith)) (and_left _ _ (and_right (ltb a 24) _ (ne_eqb x a (λ (e : x ≡ a). omega arith))))
