-- The calculation finds no fault exactly where the hierarchy is sound, and otherwise the first broken rule. Assumes nothing.
use Rattle.std.proofs.Common.{◌≡◌, ℕ, zero, suc, ◌<◌, max, true, false, cond, not, ◌&&◌, ltb, ◌⊎◌, ◌↔◌, Some, None, Decides, refl, ap, ◌∙◌, subst, inl, inr, arith}
use Rattle.std.proofs.lemmas.Bool.{cases_eq, cases_Bool, both_ways}
use Rattle.std.proofs.lemmas.Bool.Decides.{Decides-eqb, Decides-ltb, Decides-and, Decides-not, Decides-like}
use Rattle.chart.specs.Kinds.{automaton_no}
use Rattle.hierarchy.specs.Checks.{any, every, over, below, orthogonal, basic, spread, placed, starts, joins, well_formed, end, missed, full, automaton_fault, transition_fault, automata_fault_lem, first_of, first_fault, CheckLaw}
use Rattle.hierarchy.specs.Faults.{transition_no}
use Rattle.hierarchy.specs.Hierarchies.{◌∈◌, these, Hierarchy, Basic, Below, Orthogonal, Proper}
use Rattle.hierarchy.specs.Rules.{Placed, Starts, Rooted, Joins, WellFormed, Full, Joined, Sound, RightAutomata, RightTransitions, FirstBroken, misplaced, stray, split, ill_formed, not_full}
use Rattle.hierarchy.specs.declared.fault.ChartFault.{ChartFault}
use Rattle.hierarchy.specs.declared.fault.ChartFault.TheVariants.{Misplaced, StrayInitial, SplitEnds, IllFormed, NotFull}
use Rattle.hierarchy.proofs.Firsts.{or_none, or_some, first_none, first_some, rule_none, rule_some, none_some}
use Rattle.hierarchy.proofs.Tells.{decides_self, decides_any, decides_over, decides_every, tells_below, below_is_state, tells_basic, tells_orthogonal, tells_spread}
use Rattle.hierarchy.proofs.Tree.{Decided, cases_option, not_some}

module _ (h : Hierarchy) where
  pub tells_placed : (a : ℕ) → Decides (placed h a) (Placed h a)
  tells_placed zero =
      Decides-like (placed h zero)
      (λ r. elim (cases_option (h.parent 0)) [ inl e ↦ inl (refl, r.0, e) | inr p ↦ absurd (r.1 (p.0, p.1, refl)) ])
      (λ s. elim s [ inl x ↦ (x.1, λ r. not_some (h.parent 0) r.0 x.2 r.1) | inr x ↦ absurd (omega (arith, x.0)) ])
      (Decides-and (ltb 0 h.automata) _ (Decides-ltb 0 h.automata)
      (Decides-not (over (h.parent 0) (λ p. true)) (decides_over (h.parent 0) (λ p. true) (λ p. true ≡ true) (λ p. decides_self true))))
  tells_placed (suc a) =
      Decides-like (placed h (suc a)) (λ r. inr (omega arith, r)) (λ s. elim s [ inl x ↦ absurd (omega (arith, x.0)) | inr x ↦ x.1 ])
      (decides_over (h.parent (suc a)) (λ p. ltb (h.home p) (suc a)) (λ p. h.home p < suc a) (λ p. Decides-ltb (h.home p) (suc a)))

  pub tells_starts : (a : ℕ) → Decides (starts h a) (Starts h a)
  tells_starts a = Decides-eqb (h.home (h.initial a)) a

  automaton_none : (a : ℕ) → (automaton_fault h a ≡ None) ↔ (Placed h a × Starts h a)
  automaton_none a =
      let outer = rule_none (placed h a) (cond (starts h a) None (Some (StrayInitial (automaton_no a)))) (Misplaced (automaton_no a)) (tells_placed a) in
      let inner = rule_none (starts h a) None (StrayInitial (automaton_no a)) (tells_starts a) in
      ((λ e. let r = outer.0 e in (r.0, (inner.0 r.1).0)), (λ r. outer.1 (r.0, inner.1 (r.1, refl))))

  abbrev AutomatonBroken : ℕ → ChartFault → Type 0
  AutomatonBroken a f = ((Placed h a → ⊥) × (Misplaced (automaton_no a) ≡ f)) ⊎ (Placed h a × ((Starts h a → ⊥) × (StrayInitial (automaton_no a) ≡ f)))

  automaton_some : (a : ℕ) (f : ChartFault) → (automaton_fault h a ≡ Some f) ↔ AutomatonBroken a f
  automaton_some a f =
      let outer = rule_some (placed h a) (cond (starts h a) None (Some (StrayInitial (automaton_no a)))) (Misplaced (automaton_no a)) f (tells_placed a) in
      let inner = rule_some (starts h a) None (StrayInitial (automaton_no a)) f (tells_starts a) in (
        (λ e. elim (outer.0 e) [ inl x ↦ inl x | inr x ↦ inr (x.0, elim (inner.0 x.1) [ inl y ↦ y | inr y ↦ none_some f y.1 ]) ]),
        (λ r. elim r [ inl x ↦ outer.1 (inl x) | inr x ↦ outer.1 (inr (x.0, inner.1 (inl x.1))) ]),
      )

  module _ (proper : Proper h) where
    pub tells_joins : (t : ℕ) → Decides (joins h t) (Joins h t)
    tells_joins t =
        Decides-like (joins h t)
        (λ r. let e = r.1 in record { source = proper.home (h.source t) r.0; target = proper.home (h.target t) (omega (arith, r.0)); automaton = r.0; one = e })
        (λ j. (j.automaton, j.one))
        (Decides-and (ltb (h.home (h.source t)) h.automata) _ (Decides-ltb _ h.automata) (Decides-eqb (h.home (h.source t)) (h.home (h.target t))))

    rooted_from : ((a : ℕ) → a < max 1 h.automata → Placed h a × Starts h a) → Rooted h
    rooted_from each =
        record {
          some_automaton = some;
          top = elim (each 0 (omega arith)).0 [ inl x ↦ x.2 | inr x ↦ absurd (omega (arith, x.0)) ];
          inner = λ a pos lt. elim (each a (omega arith)).0 [ inl x ↦ absurd (omega (arith, x.0)) | inr x ↦ (x.1.0, x.1.1) ];
          under = λ a p u.
              let lt = proper.parent a p u in
              let low : h.home p < a = elim (each a (omega arith)).0 [
                | inl x ↦ absurd (not_some (h.parent a) p x.2 u)
                | inr x ↦ let q = x.1.1 in let e : x.1.0 ≡ p = cc in subst (λ z. h.home z < a) e x.1.2
              ] in
              (lt, proper.home p (omega arith), low);
          initial = λ a lt. let e = (each a (omega arith)).1 in (proper.home (h.initial a) (omega arith), e);
        }
      where
        some : 0 < h.automata
        some = elim (each 0 (omega arith)).0 [ inl x ↦ x.1 | inr x ↦ absurd (omega (arith, x.0)) ]

    rooted_to : Rooted h → (a : ℕ) → a < max 1 h.automata → Placed h a × Starts h a
    rooted_to rooted a lt =
        let some = rooted.some_automaton in
        let low : a < h.automata = omega arith in (
          elim (cases_eq a 0) [
            | inl e ↦ inl (e, some, ap h.parent e ∙ rooted.top)
            | inr ne ↦ let r = rooted.inner a (omega arith) low in inr (omega arith, (r.0, r.1, (rooted.under a r.0 r.1).2))
          ],
          (rooted.initial a low).1,
        )

    pub automata_right : (automata_fault_lem h ≡ None) ↔ Rooted h
    automata_right =
        let all = first_none (max 1 h.automata) (automaton_fault h) in
        ((λ e. rooted_from (λ a lt. (automaton_none a).0 (all.0 e a lt))), (λ rooted. all.1 (λ a lt. (automaton_none a).1 (rooted_to rooted a lt))))

    module _ (rooted : Rooted h) where
      pub tells_well_formed : (t : ℕ) → Decides (well_formed h t) (WellFormed h t)
      tells_well_formed t =
          Decides-like (well_formed h t)
          (λ r. record { only = λ v k. (below_is_state h proper v (h.source t) (r.0 v k), r.0 v k); pairwise = r.1 })
          (λ f. ((λ v k. (f.only v k).1), f.pairwise))
          (Decides-and (every (λ v. below h v (h.source t)) (h.restriction t)) _
          (decides_every (λ v. below h v (h.source t)) (λ v. Below h v (h.source t)) (h.restriction t) (λ v. tells_below h rooted v (h.source t)))
          (tells_spread h proper rooted (h.restriction t)))

      abbrev End : ℕ → ℕ → Type 0
      End t v = Basic h v × Below h v (h.target t)

      pub tells_end : (t v : ℕ) → Decides (end h t v) (End t v)
      tells_end t v = Decides-and (basic h v) (below h v (h.target t)) (tells_basic h proper v) (tells_below h rooted v (h.target t))

      abbrev Missed : ℕ → ℕ → Type 0
      Missed t v = (End t v × (v ∈ these (h.determinator t) → ⊥)) × ((w : ℕ) → w ∈ these (h.determinator t) → Orthogonal h v w)

      tells_missed : (t v : ℕ) → Decides (missed h t v) (Missed t v)
      tells_missed t v =
          Decides-and (end h t v && not (these (h.determinator t) v)) _
          (Decides-and (end h t v) _ (tells_end t v) (Decides-not (these (h.determinator t) v) (decides_self (these (h.determinator t) v))))
          (decides_every (orthogonal h v) (λ w. Orthogonal h v w) (h.determinator t) (λ w. tells_orthogonal h proper rooted v w))

      pub tells_full : (t : ℕ) → Decides (full h t) (Full h t)
      tells_full t =
          Decides-like (full h t)
          (λ r. record {
            only = λ v k. let e = r.0 v k in (below_is_state h proper v (h.target t) e.1, e.0, e.1);
            pairwise = r.1.0;
            whole = λ v i b d off o. r.1.1 (v, i, (((b, d), both_ways (these (h.determinator t) v) off), o));
          })
          (λ f. (
            (λ v k. let e = f.only v k in (e.1, e.2)),
            (
              f.pairwise,
              λ r.
                  let m = r.2 in
                  let off : these (h.determinator t) r.0 ≡ false = elim (cases_Bool (these (h.determinator t) r.0)) [ inl on ↦ absurd (m.0.1 on) | inr off ↦ off ] in
                  f.whole r.0 r.1 m.0.0.0 m.0.0.1 off m.1,
            ),
          ))
          (Decides-and (every (end h t) (h.determinator t)) _ (decides_every (end h t) (End t) (h.determinator t) (tells_end t))
          (Decides-and (spread h (h.determinator t)) _ (tells_spread h proper rooted (h.determinator t))
          (Decides-not (any h.states (missed h t)) (decides_any h.states (missed h t) (Missed t) (tells_missed t)))))

      transition_none : (t : ℕ) → (transition_fault h t ≡ None) ↔ Joined h t
      transition_none t =
          let one = rule_none (joins h t) (cond (well_formed h t) (cond (full h t) None (Some (NotFull (transition_no t)))) (Some (IllFormed (transition_no t)))) (SplitEnds (transition_no t)) (tells_joins t) in
          let two = rule_none (well_formed h t) (cond (full h t) None (Some (NotFull (transition_no t)))) (IllFormed (transition_no t)) (tells_well_formed t) in
          let three = rule_none (full h t) None (NotFull (transition_no t)) (tells_full t) in (
            (λ e. let r = one.0 e in let s = two.0 r.1 in record { joins = r.0; formed = s.0; full = (three.0 s.1).0 }),
            (λ j. one.1 (j.joins, two.1 (j.formed, three.1 (j.full, refl)))),
          )

      abbrev TransitionBroken : ℕ → ChartFault → Type 0
      TransitionBroken t f =
          ((Joins h t → ⊥) × (SplitEnds (transition_no t) ≡ f))
          ⊎ (Joins h t × (((WellFormed h t → ⊥) × (IllFormed (transition_no t) ≡ f)) ⊎ (WellFormed h t × ((Full h t → ⊥) × (NotFull (transition_no t) ≡ f)))))

      transition_some : (t : ℕ) (f : ChartFault) → (transition_fault h t ≡ Some f) ↔ TransitionBroken t f
      transition_some t f =
          let one = rule_some (joins h t) (cond (well_formed h t) (cond (full h t) None (Some (NotFull (transition_no t)))) (Some (IllFormed (transition_no t)))) (SplitEnds (transition_no t)) f (tells_joins t) in
          let two = rule_some (well_formed h t) (cond (full h t) None (Some (NotFull (transition_no t)))) (IllFormed (transition_no t)) f (tells_well_formed t) in
          let three = rule_some (full h t) None (NotFull (transition_no t)) f (tells_full t) in (
            (λ e.
                elim (one.0 e) [
                  | inl x ↦ inl x
                  | inr x ↦ inr (x.0, elim (two.0 x.1) [ inl y ↦ inl y | inr y ↦ inr (y.0, elim (three.0 y.1) [ inl z ↦ z | inr z ↦ none_some f z.1 ]) ])
                ]),
            (λ r.
                elim r [
                  | inl x ↦ one.1 (inl x)
                  | inr x ↦ one.1 (inr (x.0, elim x.1 [ inl y ↦ two.1 (inl y) | inr y ↦ two.1 (inr (y.0, three.1 (inl y.1))) ]))
                ]),
          )

    pub sound_right : (first_fault h ≡ None) ↔ Sound h
    sound_right =
        let both = or_none (automata_fault_lem h) (first_of h.transitions (transition_fault h)) in
        let all = first_none h.transitions (transition_fault h) in (
          (λ e. let r = both.0 e in let rooted = automata_right.0 r.0 in record { rooted = rooted; joined = λ t lt. (transition_none rooted t).0 (all.0 r.1 t lt) }),
          (λ s. both.1 (automata_right.1 s.rooted, all.1 (λ t lt. (transition_none s.rooted t).1 (s.joined t lt)))),
        )

    pub decide_sound : Decided (Sound h)
    decide_sound =
        elim (cases_option (first_fault h)) [ inl e ↦ inl (sound_right.0 e) | inr r ↦ inr (λ s. not_some (first_fault h) r.0 (sound_right.1 s) r.1) ]

    -- ---- which fault

    automaton_first : (a : ℕ) (f : ChartFault) → a < max 1 h.automata → RightAutomata h a → AutomatonBroken a f → FirstBroken h f
    automaton_first a f lt right (inl x) = subst (FirstBroken h) x.1 (misplaced a right (elim (cases_eq a 0) [ inl e ↦ inl e | inr ne ↦ inr (omega arith) ]) x.0)
    automaton_first a f lt right (inr x) =
        let low : a < h.automata = elim x.0 [ inl y ↦ omega (arith, y.0, y.1) | inr y ↦ omega (arith, y.0) ] in
        subst (FirstBroken h) x.1.1 (stray a right x.0 low x.1.0)

    transition_first : (rooted : Rooted h) (t : ℕ) (f : ChartFault) → t < h.transitions → RightTransitions h t → TransitionBroken rooted t f → FirstBroken h f
    transition_first rooted t f lt right (inl x) = subst (FirstBroken h) x.1 (split t lt right x.0)
    transition_first rooted t f lt right (inr (j, inl y)) = subst (FirstBroken h) y.1 (ill_formed t lt right j y.0)
    transition_first rooted t f lt right (inr (j, inr y)) = subst (FirstBroken h) y.1.1 (not_full t lt right j y.0 y.1.0)

    broken_from : (f : ChartFault) → first_fault h ≡ Some f → FirstBroken h f
    broken_from f e =
        elim ((or_some (automata_fault_lem h) (first_of h.transitions (transition_fault h)) f).0 e) [
          | inl x ↦
              let r = (first_some (max 1 h.automata) (automaton_fault h) f).0 x in
              automaton_first r.0 f r.1.0 (λ b lt. (automaton_none b).0 (r.1.2 b lt)) ((automaton_some r.0 f).0 r.1.1)
          | inr x ↦
              let rooted = automata_right.0 x.0 in
              let r = (first_some h.transitions (transition_fault h) f).0 x.1 in
              transition_first rooted r.0 f r.1.0 (rooted, λ u lt. (transition_none rooted u).0 (r.1.2 u lt)) ((transition_some rooted r.0 f).0 r.1.1)
        ]

    at_automaton : (a : ℕ) (f : ChartFault) → a < max 1 h.automata → RightAutomata h a → AutomatonBroken a f → first_fault h ≡ Some f
    at_automaton a f lt right b =
        (or_some (automata_fault_lem h) (first_of h.transitions (transition_fault h)) f).1
        (inl ((first_some (max 1 h.automata) (automaton_fault h) f).1 (a, (lt, (automaton_some a f).1 b, λ k low. (automaton_none k).1 (right k low)))))

    at_transition : (t : ℕ) (f : ChartFault) → t < h.transitions → (right : RightTransitions h t) → TransitionBroken right.0 t f → first_fault h ≡ Some f
    at_transition t f lt right b =
        (or_some (automata_fault_lem h) (first_of h.transitions (transition_fault h)) f).1
        (inr (
          automata_right.1 right.0,
          (first_some h.transitions (transition_fault h) f).1
              (t, (lt, (transition_some right.0 t f).1 b, λ u low. (transition_none right.0 u).1 (right.1 u low))),
        ))

    broken_to : (f : ChartFault) → FirstBroken h f → first_fault h ≡ Some f
    broken_to _ (misplaced a right c n) = at_automaton a _ (elim c [ inl e ↦ omega arith | inr lt ↦ omega arith ]) right (inl (n, refl))
    broken_to _ (stray a right p lt n) = at_automaton a _ (omega arith) right (inr (p, (n, refl)))
    broken_to _ (split t lt right n) = at_transition t _ lt right (inl (n, refl))
    broken_to _ (ill_formed t lt right j n) = at_transition t _ lt right (inr (j, inl (n, refl)))
    broken_to _ (not_full t lt right j w n) = at_transition t _ lt right (inr (j, inr (w, (n, refl))))

pub check_law : CheckLaw
check_law h proper = record { sound = sound_right h proper; broken = λ f. (broken_from h proper f, broken_to h proper f) }
