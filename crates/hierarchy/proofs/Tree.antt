-- The tree of a chart's states and automata, and that it keeps the laws of a tree. Assumes nothing.
use Rattle.std.proofs.Common.{◌≡◌, ℕ, zero, suc, ◌<◌, ◌≤◌, ◌⊎◌, ◌↔◌, Some, None, Option, sym, refl, ap, ◌∙◌, subst, inl, inr, arith}
use Rattle.std.proofs.lemmas.Bool.{cases_eq}
use Rattle.hierarchy.specs.Hierarchies.{Hierarchy, Under, Below, inside, deeper, AtOrBelow, Lies, Orthogonal}
use Rattle.hierarchy.specs.Laws.{TreeLaw}
use Rattle.hierarchy.specs.Rules.{Rooted}

-- either a proof or a refutation
abbrev pub Decided : Type 0 → Type 0
Decided A = A ⊎ (A → ⊥)

pub cases_option : {X : Type 0} (o : Option X) → (o ≡ None) ⊎ ((p : X) × (o ≡ Some p))
cases_option None = inl refl
cases_option (Some p) = inr (p, refl)

pub not_some : {X : Type 0} (o : Option X) (p : X) → o ≡ None → o ≡ Some p → ⊥
not_some o p h k = cc

-- the least number below n with P, or none
pub least : (P : ℕ → Type 0) → ((k : ℕ) → Decided (P k)) → (n : ℕ) → ((k : ℕ) × (k < n) × P k × ((j : ℕ) → j < k → P j → ⊥)) ⊎ ((k : ℕ) → k < n → P k → ⊥)
least P dec zero = inr (λ k h p. absurd (omega arith))
least P dec (suc n) =
    elim (least P dec n) [
      | inl r ↦ inl (r.0, omega (arith, r.1), r.2, r.3)
      | inr never ↦
          elim (dec n) [
            | inl p ↦ inl (n, omega arith, p, never)
            | inr not ↦ inr (λ k h p. elim (cases_eq k n) [ inl e ↦ not (subst P e p) | inr ne ↦ never k (omega arith) p ])
          ]
    ]

module _ (h : Hierarchy) where
  pub below_trans : (v w u : ℕ) → Below h v w → Below h w u → Below h v u
  below_trans v w u (inside j) k = deeper j k
  below_trans v w u (deeper j d) k = deeper j (below_trans _ _ _ d k)

  pub step_up : (v p u : ℕ) → Under h (h.home v) p → AtOrBelow h p u → Below h v u
  step_up v p u j (inl e) = inside (subst (λ z. Under h (h.home v) z) e j)
  step_up v p u j (inr d) = deeper j d

  pub below_parent : (v u p : ℕ) → Below h v u → Under h (h.home v) p → AtOrBelow h p u
  below_parent v u p (inside j) k = inl (cc)
  below_parent v u p (deeper {w = w} j d) k = let e : w ≡ p = cc in inr (subst (λ z. Below h z u) e d)

  pub at_below : (v w u : ℕ) → AtOrBelow h v w → Below h w u → Below h v u
  at_below v w u (inl e) k = subst (λ z. Below h z u) (sym e) k
  at_below v w u (inr d) k = below_trans v w u d k

  pub below_at : (v w u : ℕ) → Below h v w → AtOrBelow h w u → Below h v u
  below_at v w u d (inl e) = subst (λ z. Below h v z) e d
  below_at v w u d (inr k) = below_trans v w u d k

  pub at_at : (v w u : ℕ) → AtOrBelow h v w → AtOrBelow h w u → AtOrBelow h v u
  at_at v w u (inl e) k = subst (λ z. AtOrBelow h z u) (sym e) k
  at_at v w u (inr d) k = inr (below_at v w u d k)

  -- the states above w form a chain
  pub chain : (w p q : ℕ) → Below h w p → Below h w q → (p ≡ q) ⊎ (Below h p q ⊎ Below h q p)
  chain w p q (inside j) k = elim (below_parent w q p k j) [ inl e ↦ inl e | inr d ↦ inr (inl d) ]
  chain w p q (deeper {w = x} j d) k =
      elim (below_parent w q x k j) [ inl e ↦ inr (inr (subst (λ z. Below h z p) e d)) | inr m ↦ chain x p q d m ]

  pub chain_at : (w p q : ℕ) → AtOrBelow h w p → AtOrBelow h w q → (p ≡ q) ⊎ (Below h p q ⊎ Below h q p)
  chain_at w p q (inl e) (inl f) = inl (cc)
  chain_at w p q (inl e) (inr k) = inr (inl (subst (λ z. Below h z q) e k))
  chain_at w p q (inr d) (inl f) = inr (inr (subst (λ z. Below h z p) f d))
  chain_at w p q (inr d) (inr k) = chain w p q d k

  below_same : (v w u : ℕ) → h.home v ≡ h.home w → Below h v u → Below h w u
  below_same v w u e (inside j) = inside (subst (λ z. Under h z u) e j)
  below_same v w u e (deeper {w = x} j d) = deeper (subst (λ z. Under h z x) e j) d

  lies_same_at : (v w a s : ℕ) → h.home v ≡ h.home w → h.home s ≡ a → AtOrBelow h v s → Lies h w a
  lies_same_at v w a s e f (inl g) = (w, (sym e ∙ ap h.home g ∙ f), inl refl)
  lies_same_at v w a s e f (inr d) = (s, f, inr (below_same v w s e d))

  -- whether a state lies in or below an automaton is told by its own automaton
  pub lies_same : (v w a : ℕ) → h.home v ≡ h.home w → Lies h v a → Lies h w a
  lies_same v w a e l = lies_same_at v w a l.0 e l.1 l.2

  pub lies_own : (v : ℕ) → Lies h v (h.home v)
  lies_own v = (v, refl, inl refl)

  pub lies_down : (v w a : ℕ) → AtOrBelow h v w → Lies h w a → Lies h v a
  lies_down v w a d l = (l.0, l.1, at_at v w l.0 d l.2)

  pub below_lies : (v u : ℕ) → Below h v u → (a : ℕ) × Under h a u × Lies h v a
  below_lies v u (inside j) = (h.home v, j, lies_own v)
  below_lies v u (deeper {w = w} j d) =
      let r = below_lies w u d in (r.0, r.1, lies_down v w r.0 (inr (inside j)) r.2)

  pub lies_below : (v u a : ℕ) → Under h a u → Lies h v a → Below h v u
  lies_below v u a j l = at_below v l.0 u l.2 (inside (subst (λ z. Under h z u) (sym l.1) j))

  lies_cases_at : (v a s : ℕ) → h.home s ≡ a → AtOrBelow h v s → (h.home v ≡ a) ⊎ ((p : ℕ) × Under h (h.home v) p × Lies h p a)
  lies_cases_at v a s f (inl e) = inl (ap h.home e ∙ f)
  lies_cases_at v a s f (inr (inside j)) = inr (s, j, (s, f, inl refl))
  lies_cases_at v a s f (inr (deeper {w = w} j d)) = inr (w, j, (s, f, inr d))

  pub lies_cases : (v a : ℕ) → Lies h v a → (h.home v ≡ a) ⊎ ((p : ℕ) × Under h (h.home v) p × Lies h p a)
  lies_cases v a l = lies_cases_at v a l.0 l.1 l.2

  pub below_under : (v u : ℕ) → Below h v u ↔ ((b : ℕ) × Under h b u × Lies h v b)
  below_under v u = (below_lies v u, λ r. lies_below v u r.0 r.1 r.2)

  -- v lies in a itself, or in or below an automaton b under a state s of a
  pub lies_step : (v a : ℕ) → Lies h v a ↔ ((h.home v ≡ a) ⊎ ((b : ℕ) × (s : ℕ) × Under h b s × (h.home s ≡ a) × Lies h v b))
  lies_step v a = (
    (λ l. elim l.2 [ inl e ↦ inl (ap h.home e ∙ l.1) | inr d ↦ let r = below_lies v l.0 d in inr (r.0, l.0, r.1, l.1, r.2) ]),
    (λ c. elim c [ inl e ↦ (v, e, inl refl) | inr r ↦ (r.1, r.3, inr (lies_below v r.1 r.0 r.2 r.4)) ]),
  )

  pub orthogonal_symmetric : (v w : ℕ) → Orthogonal h v w → Orthogonal h w v
  orthogonal_symmetric v w o =
      record { over = o.over; left = o.right; right = o.left; differ = λ e. o.differ (sym e); left_under = o.right_under; right_under = o.left_under; left_holds = o.right_holds; right_holds = o.left_holds }

  -- another state in or below the left automaton
  pub orthogonal_at : (v x w : ℕ) (o : Orthogonal h v w) → Lies h x o.left → Orthogonal h x w
  orthogonal_at v x w o l =
      record { over = o.over; left = o.left; right = o.right; differ = o.differ; left_under = o.left_under; right_under = o.right_under; left_holds = l; right_holds = o.right_holds }

  pub orthogonal_home : (v x w : ℕ) → h.home v ≡ h.home x → Orthogonal h v w → Orthogonal h x w
  orthogonal_home v x w e o = orthogonal_at v x w o (lies_same v x o.left e o.left_holds)

  module _ (rooted : Rooted h) where
    pub under_lt : (a p : ℕ) → Under h a p → h.home p < a
    under_lt a p j = (rooted.under a p j).2

    pub below_home : (v u : ℕ) → Below h v u → h.home u < h.home v
    below_home v u (inside j) = under_lt _ _ j
    below_home v u (deeper {w = w} j d) = omega (arith, under_lt _ w j, below_home w u d)

    pub below_state : (v u : ℕ) → Below h v u → u < h.states
    below_state v u (inside j) = (rooted.under _ _ j).1
    below_state v u (deeper {w = w} j d) = below_state w u d

    pub at_home : (v u : ℕ) → AtOrBelow h v u → h.home u ≤ h.home v
    at_home v u (inl e) = omega (arith, ap h.home e)
    at_home v u (inr d) = omega (arith, below_home v u d)

    pub not_below_self : (v : ℕ) → Below h v v → ⊥
    not_below_self v d = omega (arith, below_home v v d)

    -- of the states at or above w one at most lies in a given automaton
    pub one_of_home : (w p q : ℕ) → AtOrBelow h w p → AtOrBelow h w q → h.home p ≡ h.home q → p ≡ q
    one_of_home w p q j k e =
        elim (chain_at w p q j k) [
          | inl same ↦ same
          | inr (inl d) ↦ absurd (omega (arith, below_home p q d))
          | inr (inr d) ↦ absurd (omega (arith, below_home q p d))
        ]

    not_over : (q s z : ℕ) → Under h (h.home s) q → Under h (h.home z) q → Below h s z → ⊥
    not_over q s z j k d = omega (arith, at_home q z (below_parent s z q d j), under_lt _ q k)

    -- a state lies in or below one at most of the automata under q
    pub one_under : (w q a b : ℕ) → Under h a q → Under h b q → Lies h w a → Lies h w b → a ≡ b
    one_under w q a b j k l m =
        let j' : Under h (h.home l.0) q = subst (λ z. Under h z q) (sym l.1) j in
        let k' : Under h (h.home m.0) q = subst (λ z. Under h z q) (sym m.1) k in
        elim (chain_at w l.0 m.0 l.2 m.2) [
          | inl same ↦ sym l.1 ∙ ap h.home same ∙ m.1
          | inr (inl d) ↦ absurd (not_over q l.0 m.0 j' k' d)
          | inr (inr d) ↦ absurd (not_over q m.0 l.0 k' j' d)
        ]

    -- each state that lies in an automaton of the chart lies in or below the top automaton
    lies_top_in : (n v : ℕ) → h.home v < n → h.home v < h.automata → Lies h v 0
    lies_top_in zero v j k = absurd (omega arith)
    lies_top_in (suc n) v j k =
        elim (cases_eq (h.home v) 0) [
          | inl e ↦ (v, e, inl refl)
          | inr ne ↦
              let r = rooted.inner (h.home v) (omega arith) k in
              let lt = under_lt (h.home v) r.0 r.1 in
              lies_down v r.0 0 (inr (inside r.1)) (lies_top_in n r.0 (omega arith) (omega arith))
        ]

    pub lies_top : (v : ℕ) → h.home v < h.automata → Lies h v 0
    lies_top v k = lies_top_in (suc (h.home v)) v (omega arith) k

    decide_below_in : (n v u : ℕ) → h.home v < n → Decided (Below h v u)
    decide_below_in zero v u j = absurd (omega arith)
    decide_below_in (suc n) v u j =
        elim (cases_option (h.parent (h.home v))) [
          | inl e ↦ inr (λ d. elim d [ inside k ↦ not_some _ _ e k | deeper k m ↦ not_some _ _ e k ])
          | inr r ↦
              elim (cases_eq r.0 u) [
                | inl e ↦ inl (step_up v r.0 u r.1 (inl e))
                | inr ne ↦
                    elim (decide_below_in n r.0 u (omega (arith, under_lt _ r.0 r.1))) [
                      | inl d ↦ inl (deeper r.1 d)
                      | inr not ↦ inr (λ d. elim (below_parent v u r.0 d r.1) [ inl e ↦ ne e | inr m ↦ not m ])
                    ]
              ]
        ]

    pub decide_below : (v u : ℕ) → Decided (Below h v u)
    decide_below v u = decide_below_in (suc (h.home v)) v u (omega arith)

    pub decide_at : (v u : ℕ) → Decided (AtOrBelow h v u)
    decide_at v u =
        elim (cases_eq v u) [
          | inl e ↦ inl (inl e)
          | inr ne ↦ elim (decide_below v u) [ inl d ↦ inl (inr d) | inr not ↦ inr (λ a. elim a [ inl e ↦ ne e | inr d ↦ not d ]) ]
        ]

    decide_lies_in : (n v a : ℕ) → h.home v < n → Decided (Lies h v a)
    decide_lies_in zero v a j = absurd (omega arith)
    decide_lies_in (suc n) v a j =
        elim (cases_eq (h.home v) a) [
          | inl e ↦ inl (v, e, inl refl)
          | inr ne ↦
              elim (cases_option (h.parent (h.home v))) [
                | inl e ↦ inr (λ l. elim (lies_cases v a l) [ inl f ↦ ne f | inr s ↦ not_some _ _ e s.1 ])
                | inr r ↦
                    elim (decide_lies_in n r.0 a (omega (arith, under_lt _ r.0 r.1))) [
                      | inl l ↦ inl (lies_down v r.0 a (inr (inside r.1)) l)
                      | inr not ↦ inr (λ l. elim (lies_cases v a l) [ inl f ↦ ne f | inr s ↦ let e : s.0 ≡ r.0 = cc in not (subst (λ z. Lies h z a) e s.2) ])
                    ]
              ]
        ]

    pub decide_lies : (v a : ℕ) → Decided (Lies h v a)
    decide_lies v a = decide_lies_in (suc (h.home v)) v a (omega arith)

    -- one step up from v: orthogonal to w already there, or w is below there by another automaton
    pub orthogonal_step : (v w : ℕ) → Orthogonal h v w ↔ ((p : ℕ) × Under h (h.home v) p × (Orthogonal h p w ⊎ (Below h w p × (Lies h w (h.home v) → ⊥))))
    orthogonal_step v w = (
      (λ o.
          elim (lies_cases v o.left o.left_holds) [
            | inl e ↦
                let u : Under h (h.home v) o.over = subst (λ z. Under h z o.over) (sym e) o.left_under in (
                  o.over,
                  u,
                  inr (
                    lies_below w o.over o.right o.right_under o.right_holds,
                    λ l. o.differ (sym e ∙ one_under w o.over (h.home v) o.right u o.right_under l o.right_holds),
                  ),
                )
            | inr r ↦ (r.0, r.1, inl (orthogonal_at v r.0 w o r.2))
          ]),
      (λ r.
          elim r.2 [
            | inl o ↦ orthogonal_at r.0 v w o (lies_down v r.0 o.left (inr (inside r.1)) o.left_holds)
            | inr x ↦
                let b = below_lies w r.0 x.0 in
                record { over = r.0; left = h.home v; right = b.0; differ = λ e. x.1 (subst (λ z. Lies h w z) (sym e) b.2); left_under = r.1; right_under = b.1; left_holds = lies_own v; right_holds = b.2 }
          ]),
    )

    -- of two orthogonal states the second is not at or above the first
    not_both : (v w : ℕ) → Orthogonal h v w → AtOrBelow h v w → ⊥
    not_both v w o d = o.differ (one_under v o.over o.left o.right o.left_under o.right_under o.left_holds (lies_down v w o.right d o.right_holds))

pub tree_law : TreeLaw
tree_law h rooted =
    record {
      irreflexive = not_below_self h rooted;
      transitive = below_trans h;
      chain = chain h;
      symmetric = orthogonal_symmetric h;
      different = λ v w o e. not_both h rooted v w o (inl e);
      apart = λ v w o d. not_both h rooted v w o (inr d);
    }
