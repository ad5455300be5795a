-- A full determinator enters exactly one state of each automaton under a state that it enters. Assumes nothing.
use Rattle.std.proofs.Common.{◌≡◌, ℕ, zero, suc, ◌+◌, ◌<◌, ◌≤◌, ◌⊎◌, sym, refl, ◌∙◌, subst, inl, inr, arith}
use Rattle.std.proofs.lemmas.Bool.{cases_eq, cases_Bool, both_ways}
use Rattle.hierarchy.specs.Hierarchies.{◌∈◌, these, Hierarchy, Under, Basic, Below, AtOrBelow, Lies, Orthogonal}
use Rattle.hierarchy.specs.Laws.{Enters, OneEntered, LandingLaw}
use Rattle.hierarchy.specs.Rules.{Full, Sound}
use Rattle.hierarchy.proofs.Tree.{Decided, cases_option, not_some, least, below_trans, chain, chain_at, lies_below, lies_same, below_lies, lies_down, orthogonal_at, one_of_home, one_under, not_below_self, under_lt, decide_lies}

pub decide_under : (h : Hierarchy) (a p : ℕ) → Decided (Under h a p)
decide_under h a p =
    elim (cases_option (h.parent a)) [
      | inl e ↦ inr (λ j. not_some _ _ e j)
      | inr r ↦ elim (cases_eq r.0 p) [ inl e ↦ let f = r.1 in inl (cc) | inr ne ↦ inr (λ j. let f = r.1 in ne (cc)) ]
    ]

module _ (h : Hierarchy) (sound : Sound h) where
  -- each automaton has a basic state in it or below it
  some_basic_in : (n a : ℕ) → a < h.automata → h.automata ≤ a + n → (v : ℕ) × (v < h.states) × Basic h v × Lies h v a
  some_basic_in zero a j k = absurd (omega arith)
  some_basic_in (suc n) a j k =
      let s = h.initial a in
      let f = sound.rooted.initial a j in
      elim (least (λ b. Under h b s) (λ b. decide_under h b s) h.automata) [
        | inr never ↦ (s, f.0, (λ b u. never b (sound.rooted.under b s u).0 u), (s, f.1, inl refl))
        | inl r ↦
            let m = some_basic_in n r.0 r.1 (omega (arith, under_lt h sound.rooted r.0 s r.2, f.1)) in
            (m.0, m.1, m.2, (s, f.1, inr (lies_below h m.0 s r.0 r.2 m.3)))
      ]

  pub some_basic : (a : ℕ) → a < h.automata → (v : ℕ) × (v < h.states) × Basic h v × Lies h v a
  some_basic a j = some_basic_in h.automata a j (omega arith)

  module _ (t : ℕ) (full : Full h t) where
    -- of the determinator, at or below v
    abbrev Reaches : ℕ → Type 0
    Reaches v = (w : ℕ) × (w ∈ these (h.determinator t)) × AtOrBelow h w v

    -- p is the target, or lies between the target and a state of the determinator
    abbrev Between : ℕ → Type 0
    Between p = (p ≡ h.target t) ⊎ (Below h p (h.target t) × ((w : ℕ) × (w ∈ these (h.determinator t)) × Below h w p))

    -- a state entered that an automaton stands under is none of the determinator
    between : (a p : ℕ) → Under h a p → Enters h t p → Between p
    between a p u (inl e) = inl e
    between a p u (inr (inl l)) = absurd ((full.only p l).1 a u)
    between a p u (inr (inr r)) = inr r

    -- z in or below automaton a under p is orthogonal to w of the determinator, if w is not in or below a
    apart_target : (a p z w : ℕ) → Under h a p → Lies h z a → (Lies h w a → ⊥) → Below h w p → Orthogonal h z w
    apart_target a p z w u l not d =
        let r = below_lies h w p d in
        record { over = p; left = a; right = r.0; differ = λ e. not (subst (λ x. Lies h w x) (sym e) r.2); left_under = u; right_under = r.1; left_holds = l; right_holds = r.2 }

    apart_other : (a p z w x : ℕ) → Under h a p → Lies h z a → (Lies h w a → ⊥) → Below h x p → Orthogonal h x w → Orthogonal h z w
    apart_other a p z w x u l not d o =
        elim (chain h x o.over p (lies_below h x o.over o.left o.left_under o.left_holds) d) [
          | inl e ↦ apart_target a p z w u l not (subst (λ y. Below h w y) e dw)
          | inr (inl m) ↦ apart_target a p z w u l not (below_trans h w o.over p dw m)
          | inr (inr m) ↦
              let r = below_lies h p o.over m in
              let e : r.0 ≡ o.left = one_under h sound.rooted x o.over r.0 o.left r.1 o.left_under (lies_down h x p r.0 (inr d) r.2) o.left_holds in
              orthogonal_at h x z w o (subst (λ y. Lies h z y) e (lies_down h z p r.0 (inr (lies_below h z p a u l)) r.2))
        ]
      where
        dw : Below h w o.over
        dw = lies_below h w o.over o.right o.right_under o.right_holds

    apart : (a p z w : ℕ) → Under h a p → Between p → Lies h z a → w ∈ these (h.determinator t) → (Lies h w a → ⊥) → Orthogonal h z w
    apart a p z w u (inl e) l k not = apart_target a p z w u l not (subst (λ y. Below h w y) (sym e) (full.only w k).2)
    apart a p z w u (inr r) l k not =
        let x = r.1.0 in
        elim (cases_eq x w) [
          | inl e ↦ apart_target a p z w u l not (subst (λ y. Below h y p) e r.1.2)
          | inr ne ↦ apart_other a p z w x u l not r.1.2 (full.pairwise x w r.1.1 k ne)
        ]

    under_target : (a p v : ℕ) → Under h a p → Between p → Lies h v a → Below h v (h.target t)
    under_target a p v u (inl e) l = subst (λ y. Below h v y) e (lies_below h v p a u l)
    under_target a p v u (inr r) l = below_trans h v p (h.target t) (lies_below h v p a u l) r.0

    -- some state of the determinator lies in or below each automaton under a state entered
    pub determined_in : (a p : ℕ) → Under h a p → Between p → (w : ℕ) × (w ∈ these (h.determinator t)) × Lies h w a
    determined_in a p u b =
        elim (least (λ w. (w ∈ these (h.determinator t)) × Lies h w a) both h.states) [
          | inl r ↦ (r.0, r.2.0, r.2.1)
          | inr never ↦
              let z = some_basic a (sound.rooted.under a p u).0 in
              let not_in : (w : ℕ) → w ∈ these (h.determinator t) → Lies h w a → ⊥ = λ w k l. never w (full.only w k).0 (k, l) in
              elim (cases_Bool (these (h.determinator t) z.0)) [
                | inl on ↦ absurd (not_in z.0 on z.3)
                | inr off ↦
                    absurd (full.whole z.0 z.1 z.2 (under_target a p z.0 u b z.3) off (λ w k. apart a p z.0 w u b z.3 k (not_in w k)))
              ]
        ]
      where
        both : (w : ℕ) → Decided ((w ∈ these (h.determinator t)) × Lies h w a)
        both w =
            elim (cases_Bool (these (h.determinator t) w)) [
              | inl on ↦ elim (decide_lies h sound.rooted w a) [ inl l ↦ inl (on, l) | inr not ↦ inr (λ p. not p.1) ]
              | inr off ↦ inr (λ p. both_ways _ off p.0)
            ]

    enters_at : (a p w s : ℕ) → Under h a p → Between p → w ∈ these (h.determinator t) → h.home s ≡ a → AtOrBelow h w s → Enters h t s
    enters_at a p w s u b k j (inl e) = inr (inl (subst (λ y. y ∈ these (h.determinator t)) e k))
    enters_at a p w s u b k j (inr d) = inr (inr (under_target a p s u b (s, j, inl refl), (w, k, d)))

    -- a state entered in an automaton under a state is no target, so some state of the determinator is at it or below it
    reaches : (s : ℕ) → Below h s (h.target t) → Enters h t s → Reaches s
    reaches s d (inl e) = absurd (not_below_self h sound.rooted s (subst (λ y. Below h s y) (sym e) d))
    reaches s d (inr (inl k)) = (s, k, inl refl)
    reaches s d (inr (inr r)) = (r.1.0, r.1.1, inr r.1.2)

    same_by : (s z w x : ℕ) → h.home s ≡ h.home z → AtOrBelow h w s → AtOrBelow h x z → Orthogonal h w x → s ≡ z
    same_by s z w x e j k o =
        elim (chain_at h w s o.over j (inr dw)) [
          | inl f ↦ one_of_home h sound.rooted x s z (inr (subst (λ y. Below h x y) (sym f) dx)) k e
          | inr (inr d) ↦ one_of_home h sound.rooted x s z (inr (below_trans h x o.over s dx d)) k e
          | inr (inl d) ↦
              let r = below_lies h s o.over d in
              let f : r.0 ≡ o.left = one_under h sound.rooted w o.over r.0 o.left r.1 o.left_under (lies_down h w s r.0 j r.2) o.left_holds in
              let in_left : Lies h x o.left = subst (λ y. Lies h x y) f (lies_down h x z r.0 k (lies_same h s z r.0 e r.2)) in
              absurd (o.differ (one_under h sound.rooted x o.over o.left o.right o.left_under o.right_under in_left o.right_holds))
        ]
      where
        dw : Below h w o.over
        dw = lies_below h w o.over o.left o.left_under o.left_holds

        dx : Below h x o.over
        dx = lies_below h x o.over o.right o.right_under o.right_holds

    same_entered : (s z : ℕ) → h.home s ≡ h.home z → Reaches s → Reaches z → s ≡ z
    same_entered s z e r q =
        elim (cases_eq r.0 q.0) [
          | inl f ↦ one_of_home h sound.rooted r.0 s z r.2 (subst (λ y. AtOrBelow h y z) (sym f) q.2) e
          | inr ne ↦ same_by s z r.0 q.0 e r.2 q.2 (full.pairwise r.0 q.0 r.1 q.1 ne)
        ]

    pub one_entered : (a p : ℕ) → Under h a p → Enters h t p → OneEntered h t a
    one_entered a p u e =
        let b = between a p u e in
        let r = determined_in a p u b in
        let l = r.2 in
        let s = l.0 in
        let here : Enters h t s = enters_at a p r.0 s u b r.1 l.1 l.2 in
        let lower : (v : ℕ) → h.home v ≡ a → Below h v (h.target t) = λ v j. under_target a p v u b (v, j, inl refl) in
        (s, (l.1, here), λ v j k. same_entered v s (j ∙ sym l.1) (reaches v (lower v j) k) (reaches s (lower s l.1) here))

pub landing_law : LandingLaw
landing_law h t a p sound lt u e = one_entered h sound t (sound.joined t lt).full a p u e
