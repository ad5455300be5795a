-- What the searches of the check tell: below, lies, orthogonal and basic. Assumes nothing.
use Rattle.std.proofs.Common.{◌≡◌, ℕ, zero, suc, ◌<◌, Bool, true, false, not, ◌&&◌, ◌||◌, eqb, ◌≢◌, ◌⊎◌, List, [], ◌∷◌, Some, None, Decides, Option, sym, refl, subst, inl, inr, arith}
use Rattle.std.proofs.lemmas.Bool.{cases_eq, cases_Bool, both_ways, eqb-true, eq-eqb, and_parts, and_from, or_cases, or_left, or_right}
use Rattle.std.proofs.lemmas.Bool.Decides.{Decides-eqb, Decides-and, Decides-or, Decides-not, Decides-like}
use Rattle.chart.specs.Ids.{StateId}
use Rattle.hierarchy.specs.Checks.{any, every, over, under, below_in, below, lies, orthogonal, basic, spread}
use Rattle.hierarchy.specs.Hierarchies.{Set, ◌∈◌, these, Hierarchy, Under, Basic, Below, inside, deeper, AtOrBelow, Lies, Orthogonal, Proper}
use Rattle.hierarchy.specs.Rules.{Rooted}
use Rattle.hierarchy.proofs.Tree.{Decided, not_some, under_lt}

-- ---- tests and statements

pub decides_self : (b : Bool) → Decides b (b ≡ true)
decides_self b = ((λ e. e), (λ e. e))

pub decided_by : {A : Type 0} (b : Bool) → Decides b A → Decided A
decided_by b d = elim (cases_Bool b) [ inl e ↦ inl (d.0 e) | inr e ↦ inr (λ x. both_ways b e (d.1 x)) ]

-- the second need tell something only where the first holds
pub decides_then : {A B : Type 0} (x y : Bool) → Decides x A → (A → Decides y B) → Decides (x && y) (A × B)
decides_then x y d k = (
  (λ e. let p = and_parts x y e in let a = d.0 p.0 in (a, (k a).0 p.1)),
  (λ q. and_from x y (d.1 q.0) ((k q.0).1 q.1)),
)

any_out : (n : ℕ) (f : Set) → any n f ≡ true → (k : ℕ) × (k < n) × (k ∈ f)
any_out zero f e = absurd (both_ways false refl e)
any_out (suc n) f e =
    elim (or_cases (any n f) (f n) e) [ inl x ↦ let r = any_out n f x in (r.0, omega (arith, r.1), r.2) | inr y ↦ (n, omega arith, y) ]

any_in : (n : ℕ) (f : Set) (k : ℕ) → k < n → k ∈ f → any n f ≡ true
any_in zero f k lt m = absurd (omega arith)
any_in (suc n) f k lt m =
    elim (cases_eq k n) [ inl e ↦ or_right (any n f) (f n) (subst (λ z. z ∈ f) e m) | inr ne ↦ or_left (any n f) (f n) (any_in n f k (omega arith) m) ]

pub decides_any : (n : ℕ) (f : Set) (P : ℕ → Type 0) → ((k : ℕ) → Decides (f k) (P k)) → Decides (any n f) ((k : ℕ) × (k < n) × P k)
decides_any n f P d = ((λ e. let r = any_out n f e in (r.0, r.1, (d r.0).0 r.2)), (λ r. any_in n f r.0 r.1 ((d r.0).1 r.2)))

-- where only numbers below n can be meant
pub decides_any_of : (n : ℕ) (f : Set) (P : ℕ → Type 0) → ((k : ℕ) → Decides (f k) (P k)) → ((k : ℕ) → P k → k < n) → Decides (any n f) ((k : ℕ) × P k)
decides_any_of n f P d small = Decides-like (any n f) (λ r. (r.0, r.2)) (λ r. (r.0, small r.0 r.1, r.1)) (decides_any n f P d)

pub decides_over : (o : Option ℕ) (f : Set) (P : ℕ → Type 0) → ((k : ℕ) → Decides (f k) (P k)) → Decides (over o f) ((k : ℕ) × (o ≡ Some k) × P k)
decides_over None f P d = ((λ e. absurd (both_ways false refl e)), (λ r. absurd (not_some None r.0 refl r.1)))
decides_over (Some n) f P d = ((λ e. (n, refl, (d n).0 e)), (λ r. let q = r.1 in let e : r.0 ≡ n = cc in (d n).1 (subst P e r.2)))

every_out : (f : Set) (vs : List StateId) → every f vs ≡ true → (v : ℕ) → v ∈ these vs → v ∈ f
every_out f [] e v m = absurd (both_ways false refl m)
every_out f (x ∷ xs) e v m =
    let p = and_parts (f x.0) (every f xs) e in
    elim (or_cases (eqb v x.0) (these xs v) m) [ inl q ↦ subst (λ z. z ∈ f) (sym (eqb-true v x.0 q)) p.0 | inr r ↦ every_out f xs p.1 v r ]

every_in : (f : Set) (vs : List StateId) → ((v : ℕ) → v ∈ these vs → v ∈ f) → every f vs ≡ true
every_in f [] each = refl
every_in f (x ∷ xs) each =
    and_from (f x.0) (every f xs) (each x.0 (or_left (eqb x.0 x.0) (these xs x.0) (eq-eqb x.0 x.0 refl)))
    (every_in f xs (λ v m. each v (or_right (eqb v x.0) (these xs v) m)))

pub decides_every : (f : Set) (P : ℕ → Type 0) (vs : List StateId) → ((v : ℕ) → Decides (f v) (P v)) → Decides (every f vs) ((v : ℕ) → v ∈ these vs → P v)
decides_every f P vs d = ((λ e v m. (d v).0 (every_out f vs e v m)), (λ each. every_in f vs (λ v m. (d v).1 (each v m))))

-- ---- the relations

module _ (h : Hierarchy) where
  pub tells_under : (p a : ℕ) → Decides (under h p a) (Under h a p)
  tells_under p a =
      let d = decides_over (h.parent a) (eqb p) (λ k. p ≡ k) (λ k. Decides-eqb p k) in
      ((λ e. let r = d.0 e in let f = r.1 in let g = r.2 in cc), (λ u. d.1 (p, u, refl)))

  module _ (rooted : Rooted h) where
    tells_below_in : (n v u : ℕ) → h.home v < n → Decides (below_in h n v u) (Below h v u)
    tells_below_in zero v u lt = absurd (omega arith)
    tells_below_in (suc n) v u lt =
        let climb : (w : ℕ) → Under h (h.home v) w → Decides (below_in h n w u) (Below h w u) =
        λ w k. tells_below_in n w u (omega (arith, under_lt h rooted (h.home v) w k)) in (
          (λ e. let r = out.0 e in elim r.2 [ inl f ↦ inside (subst (λ z. Under h (h.home v) z) f r.1) | inr d ↦ deeper r.1 ((climb r.0 r.1).0 d) ]),
          (λ d. elim d [ inside k ↦ out.1 (u, k, inl refl) | deeper {w = w} k m ↦ out.1 (w, k, inr ((climb w k).1 m)) ]),
        )
      where
        out : Decides (below_in h (suc n) v u) ((w : ℕ) × (h.parent (h.home v) ≡ Some w) × ((w ≡ u) ⊎ (below_in h n w u ≡ true)))
        out = decides_over (h.parent (h.home v)) (λ w. eqb w u || below_in h n w u) (λ w. (w ≡ u) ⊎ (below_in h n w u ≡ true)) (λ w. Decides-or (eqb w u) (below_in h n w u) (Decides-eqb w u) (decides_self (below_in h n w u)))

    pub tells_below : (v u : ℕ) → Decides (below h v u) (Below h v u)
    tells_below v u = tells_below_in (suc (h.home v)) v u (omega arith)

    pub tells_at : (v s : ℕ) → Decides (eqb v s || below h v s) (AtOrBelow h v s)
    tells_at v s = Decides-or (eqb v s) (below h v s) (Decides-eqb v s) (tells_below v s)

  module _ (proper : Proper h) where
    pub below_is_state : (v u : ℕ) → Below h v u → v < h.states
    below_is_state v u (inside k) = proper.home v (proper.parent (h.home v) u k)
    below_is_state v u (deeper {w = w} k d) = proper.home v (proper.parent (h.home v) w k)

    pub tells_basic : (v : ℕ) → Decides (basic h v) (Basic h v)
    tells_basic v =
        Decides-like (basic h v) (λ n a u. n (a, u)) (λ n r. n r.0 r.1)
        (Decides-not (any h.automata (under h v)) (decides_any_of h.automata (under h v) (λ a. Under h a v) (λ a. tells_under v a) (λ a u. proper.parent a v u)))

    module _ (rooted : Rooted h) where
      pub tells_lies : (v a : ℕ) → a < h.automata → Decides (lies h v a) (Lies h v a)
      tells_lies v a lt =
          Decides-like (lies h v a) (λ r. (r.0, r.1.0, r.1.1)) (λ l. (l.0, (l.1, l.2)))
          (decides_any_of h.states (λ s. eqb (h.home s) a && (eqb v s || below h v s)) (λ s. (h.home s ≡ a) × AtOrBelow h v s)
          (λ s. Decides-and (eqb (h.home s) a) _ (Decides-eqb (h.home s) a) (tells_at rooted v s))
          (λ s p. proper.home s (omega (arith, p.0))))

      tells_in : (v p a : ℕ) → Decides (under h p a && lies h v a) (Under h a p × Lies h v a)
      tells_in v p a = decides_then (under h p a) (lies h v a) (tells_under p a) (λ u. tells_lies v a (proper.parent a p u))

      abbrev Other : ℕ → ℕ → ℕ → ℕ → Type 0
      Other w p a b = (a ≡ b → ⊥) × (Under h b p × Lies h w b)

      tells_other : (w p a : ℕ) → Decides (any h.automata (λ b. not (eqb a b) && (under h p b && lies h w b))) ((b : ℕ) × Other w p a b)
      tells_other w p a =
          decides_any_of h.automata (λ b. not (eqb a b) && (under h p b && lies h w b)) (Other w p a)
          (λ b. Decides-and (not (eqb a b)) _ (Decides-not (eqb a b) (Decides-eqb a b)) (tells_in w p b))
          (λ b o. proper.parent b p o.1.0)

      pub tells_orthogonal : (v w : ℕ) → Decides (orthogonal h v w) (Orthogonal h v w)
      tells_orthogonal v w =
          Decides-like (orthogonal h v w)
          (λ r. let a = r.1 in let b = a.1.1 in
          record { over = r.0; left = a.0; right = b.0; differ = b.1.0; left_under = a.1.0.0; right_under = b.1.1.0; left_holds = a.1.0.1; right_holds = b.1.1.1 })
          (λ o. (o.over, (o.left, ((o.left_under, o.left_holds), (o.right, (o.differ, (o.right_under, o.right_holds)))))))
          (decides_any_of h.states (λ p. any h.automata (λ a. (under h p a && lies h v a) && any h.automata (λ b. not (eqb a b) && (under h p b && lies h w b))))
          (λ p. (a : ℕ) × ((Under h a p × Lies h v a) × ((b : ℕ) × Other w p a b)))
          (λ p. decides_any_of h.automata (λ a. (under h p a && lies h v a) && any h.automata (λ b. not (eqb a b) && (under h p b && lies h w b)))
          (λ a. (Under h a p × Lies h v a) × ((b : ℕ) × Other w p a b))
          (λ a. Decides-and (under h p a && lies h v a) _ (tells_in v p a) (tells_other w p a))
          (λ a q. proper.parent a p q.0.0))
          (λ p r. (rooted.under r.0 p r.1.0.0).1))

      pub tells_spread : (vs : List StateId) → Decides (spread h vs) ((v w : ℕ) → v ∈ these vs → w ∈ these vs → v ≢ w → Orthogonal h v w)
      tells_spread vs =
          Decides-like (spread h vs)
          (λ e v w k l ne. elim (e v k w l) [ inl same ↦ absurd (ne same) | inr o ↦ o ])
          (λ e v k w l. elim (cases_eq v w) [ inl same ↦ inl same | inr ne ↦ inr (e v w k l ne) ])
          (decides_every (λ v. every (λ w. eqb v w || orthogonal h v w) vs) (λ v. (w : ℕ) → w ∈ these vs → (v ≡ w) ⊎ Orthogonal h v w) vs
          (λ v. decides_every (λ w. eqb v w || orthogonal h v w) (λ w. (v ≡ w) ⊎ Orthogonal h v w) vs
          (λ w. Decides-or (eqb v w) (orthogonal h v w) (Decides-eqb v w) (tells_orthogonal v w))))
