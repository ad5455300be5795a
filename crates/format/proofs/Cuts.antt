-- Cutting bytes: what the code finds by index, and that the parts make the whole. Assumes nothing.
use Rattle.std.proofs.Common.{◌≡◌, ℕ, suc, ◌+◌, ◌-◌, ◌<◌, ◌≤◌, eqb, position, List, [], ◌∷◌, ◌++◌, length, take, drop, Some, None, Option, sym, refl, ap, ◌∙◌, ap₂, ⊎_elim, arith}
use Rattle.std.specs.List.{flat_map, position_from, AllByRecursion}
use Rattle.std.proofs.lemmas.Iterator.Adapters.{position_from-zero}
use Rattle.std.proofs.lemmas.List.{append-nil, length-append, take_rest}
use Rattle.std.proofs.lemmas.Bool.{cases_eq, eq-eqb, ne_eqb, eqb-true, cases_Bool}
use Rattle.format.specs.Bytes.{Free, cut_at, behind, after_key, pieces, onto, commas, elements_of}

-- ---- where the first such byte is

-- a text that stands at place i, and the byte at place k
here_from : (b i : ℕ) (t : List ℕ) (k : ℕ) → position_from (λ x. eqb x b) i t ≡ Some k → (i ≤ k) × (cut_at b t ≡ Some (take (k - i) t, drop (suc (k - i)) t))
here_from b i [] k h = absurd (let z : ◌≡◌ {A = ℕ} 0 1 = cc in omega arith)
here_from b i (x ∷ xs) k h =
    ⊎_elim
    (λ t. let g : Some i ≡ Some k = rw t at h in let q : i ≡ k = cc in let z : k - i ≡ 0 = omega arith in
    (omega arith, rw z (rw t)))
    (λ f. let g = here_from b (i + 1) xs k (rw f at h) in let low = g.0 in let z : k - i ≡ suc (k - (i + 1)) = omega arith in
    (omega arith, rw z (rw f (ap (behind x) g.1))))
    (cases_Bool (eqb x b))

pub cut_here : (b : ℕ) (t : List ℕ) (k : ℕ) → position (λ x. eqb x b) t ≡ Some k → cut_at b t ≡ Some (take k t, take (length t - (k + 1)) (drop (k + 1) t))
cut_here b t k h =
    let z : k - 0 ≡ k = omega arith in
    let n : suc k ≡ k + 1 = omega arith in
    rw (z, n) at (here_from b 0 t k (sym (position_from-zero (λ x. eqb x b) t) ∙ h)).1 ∙ ap (λ r. Some (take k t, r)) (sym (take_rest t (k + 1)))

none_from : (b i : ℕ) (t : List ℕ) → position_from (λ x. eqb x b) i t ≡ None → cut_at b t ≡ None
none_from b i [] h = refl
none_from b i (x ∷ xs) h =
    ⊎_elim
    (λ t. let g : Some i ≡ None = rw t at h in absurd (let z : ◌≡◌ {A = ℕ} 0 1 = cc in omega arith))
    (λ f. rw f (ap (behind x) (none_from b (i + 1) xs (rw f at h))))
    (cases_Bool (eqb x b))

pub cut_none : (b : ℕ) (t : List ℕ) → position (λ x. eqb x b) t ≡ None → cut_at b t ≡ None
cut_none b t h = none_from b 0 t (sym (position_from-zero (λ x. eqb x b) t) ∙ h)

-- ---- the parts make the whole, and the whole has these parts

behind_some : (x : ℕ) (o : Option (List ℕ × List ℕ)) (p : List ℕ × List ℕ) → behind x o ≡ Some p → (q : List ℕ × List ℕ) × (o ≡ Some q) × (p ≡ (x ∷ q.0, q.1))
behind_some x None p h = absurd (let z : ◌≡◌ {A = ℕ} 0 1 = cc in omega arith)
behind_some x (Some q) p h = (q, refl, cc)

pub cut_to : (b : ℕ) (t : List ℕ) (p : List ℕ × List ℕ) → cut_at b t ≡ Some p → t ≡ p.0 ++ (b ∷ p.1)
cut_to b [] p h = absurd (let z : ◌≡◌ {A = ℕ} 0 1 = cc in omega arith)
cut_to b (x ∷ xs) p h =
    ⊎_elim
    (λ e. let t = eq-eqb x b e in let g : Some ([], xs) ≡ Some p = rw t at h in let q : ([], xs) ≡ p = cc in ap₂ (λ y z. y ∷ z) e refl ∙ ap (λ (w : List ℕ × List ℕ). w.0 ++ (b ∷ w.1)) q)
    (λ ne. let f = ne_eqb x b ne in let g = behind_some x (cut_at b xs) p (rw f at h) in
    ap (λ z. x ∷ z) (cut_to b xs g.0 g.1) ∙ ap (λ (w : List ℕ × List ℕ). w.0 ++ (b ∷ w.1)) (sym g.2))
    (cases_eq x b)

pub cut_from : (b : ℕ) (p r : List ℕ) → Free b p → cut_at b (p ++ (b ∷ r)) ≡ Some (p, r)
cut_from b [] r h = let t = eq-eqb b b refl in rw t
cut_from b (x ∷ p) r h = let f = ne_eqb x b h.0 in rw f (ap (behind x) (cut_from b p r h.1))

pub cut_less : (b : ℕ) (t : List ℕ) (p r : List ℕ) → cut_at b t ≡ Some (p, r) → length r < length t
cut_less b t p r h = let e = simp length-append at (ap length (cut_to b t (p, r) h)) in omega arith

-- ---- the key

pub after_from : (key v : List ℕ) → after_key key (key ++ v) ≡ Some v
after_from [] v = refl
after_from (k ∷ ks) v = let t = eq-eqb k k refl in rw t (after_from ks v)

pub after_to : (key s v : List ℕ) → after_key key s ≡ Some v → s ≡ key ++ v
after_to [] s v h = cc
after_to (k ∷ ks) [] v h = absurd (let z : ◌≡◌ {A = ℕ} 0 1 = cc in omega arith)
after_to (k ∷ ks) (x ∷ xs) v h =
    ⊎_elim
    (λ e. let t = eq-eqb k x e in ap₂ (λ y z. y ∷ z) (sym e) (after_to ks xs v (rw t at h)))
    (λ ne. let f = ne_eqb k x ne in let g : None ≡ Some v = rw f at h in absurd (let z : ◌≡◌ {A = ℕ} 0 1 = cc in omega arith))
    (cases_eq k x)

pub after_none : (key s : List ℕ) → ((v : List ℕ) → s ≡ key ++ v → ⊥) → after_key key s ≡ None
after_none [] s h = absurd (h s refl)
after_none (k ∷ ks) [] h = refl
after_none (k ∷ ks) (x ∷ xs) h =
    ⊎_elim
    (λ e. let t = eq-eqb k x e in rw t (after_none ks xs (λ v g. h v (ap₂ (λ y z. y ∷ z) (sym e) g))))
    (λ ne. let f = ne_eqb k x ne in rw f)
    (cases_eq k x)

-- ---- the pieces

pub pieces_cut : (v p r : List ℕ) → cut_at 44 v ≡ Some (p, r) → pieces v ≡ p ∷ pieces r
pieces_cut [] p r h = absurd (let z : ◌≡◌ {A = ℕ} 0 1 = cc in omega arith)
pieces_cut (x ∷ xs) p r h =
    ⊎_elim
    (λ e. let t = eq-eqb x 44 e in let g : Some ([], xs) ≡ Some (p, r) = rw t at h in let q : ([], xs) ≡ (p, r) = cc in
    rw t (ap (λ (w : List ℕ × List ℕ). w.0 ∷ pieces w.1) q))
    (λ ne. let f = ne_eqb x 44 ne in let g = behind_some x (cut_at 44 xs) (p, r) (rw f at h) in
    rw f (ap (onto x) (pieces_cut xs g.0.0 g.0.1 g.1) ∙ ap (λ (w : List ℕ × List ℕ). w.0 ∷ pieces w.1) (sym g.2)))
    (cases_eq x 44)

behind_none : (x : ℕ) (o : Option (List ℕ × List ℕ)) → behind x o ≡ None → o ≡ None
behind_none x None h = refl
behind_none x (Some q) h = absurd (let z : ◌≡◌ {A = ℕ} 0 1 = cc in omega arith)

pub pieces_last : (v : List ℕ) → cut_at 44 v ≡ None → pieces v ≡ v ∷ []
pieces_last [] h = refl
pieces_last (x ∷ xs) h =
    ⊎_elim
    (λ e. let t = eq-eqb x 44 e in let g : Some ([], xs) ≡ None = rw t at h in absurd (let z : ◌≡◌ {A = ℕ} 0 1 = cc in omega arith))
    (λ ne. let f = ne_eqb x 44 ne in rw f (ap (onto x) (pieces_last xs (behind_none x (cut_at 44 xs) (rw f at h)))))
    (cases_eq x 44)

commas_onto : (x : ℕ) (ps : List (List ℕ)) → commas (onto x ps) ≡ x ∷ commas ps
commas_onto x [] = refl
commas_onto x (p ∷ ps) = refl

pieces_some : (v : List ℕ) → (p : List ℕ) × (ps : List (List ℕ)) × (pieces v ≡ p ∷ ps)
pieces_some [] = ([], [], refl)
pieces_some (x ∷ xs) =
    let g = pieces_some xs in
    ⊎_elim
    (λ t. ([], pieces xs, rw t refl))
    (λ f. (x ∷ g.0, g.1, rw f (ap (onto x) g.2)))
    (cases_Bool (eqb x 44))

pub commas_pieces : (v : List ℕ) → commas (pieces v) ≡ v
commas_pieces [] = refl
commas_pieces (x ∷ xs) =
    ⊎_elim
    (λ t. let g = pieces_some xs in
    rw t (ap (λ ps. flat_map (λ q. 44 ∷ q) ps) g.2 ∙ ap (λ z. 44 ∷ z) (ap commas (sym g.2) ∙ commas_pieces xs) ∙ ap (λ y. y ∷ xs) (sym (eqb-true x 44 t))))
    (λ f. rw f (commas_onto x (pieces xs) ∙ ap (λ z. x ∷ z) (commas_pieces xs)))
    (cases_Bool (eqb x 44))

pub free_none : (b : ℕ) (p : List ℕ) → Free b p → cut_at b p ≡ None
free_none b [] h = refl
free_none b (x ∷ p) h = let f = ne_eqb x b h.0 in rw f (ap (behind x) (free_none b p h.1))

pub pieces_commas : (p : List ℕ) (ps : List (List ℕ)) → Free 44 p → AllByRecursion (Free 44) ps → pieces (commas (p ∷ ps)) ≡ p ∷ ps
pieces_commas p [] h k = ap pieces (append-nil p) ∙ pieces_last p (free_none 44 p h)
pieces_commas p (q ∷ qs) h k = pieces_cut (p ++ (44 ∷ commas (q ∷ qs))) p (commas (q ∷ qs)) (cut_from 44 p (commas (q ∷ qs)) h) ∙ ap (λ z. p ∷ z) (pieces_commas q qs k.0 k.1)

pub elements_some : (v : List ℕ) → 0 < length v → elements_of v ≡ pieces v
elements_some [] h = absurd (omega arith)
elements_some (x ∷ xs) h = refl
