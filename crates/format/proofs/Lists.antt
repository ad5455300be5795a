-- The loop over the pieces of a list value. Assumes nothing.
use Rattle.std.proofs.Common.{◌≡◌, ℕ, ◌+◌, ◌≤◌, Bool, true, false, cond, not, ltb, leb, position, List, [], ◌∷◌, ◌++◌, map, length, Some, None, Ok, Err, Option, Result, sym, refl, ap, ◌∙◌, subst, ap₂, ⊎_elim, arith}
use Rattle.std.specs.List.{position_from}
use Rattle.std.proofs.lemmas.Iterator.Adapters.{position_from-zero}
use Rattle.std.proofs.lemmas.List.{append_assoc, length_push}
use Rattle.std.proofs.lemmas.Bool.{cases_Bool, leb-false, lt-ltb, ltb-true}
use Rattle.fixed.specs.Items.{last_of}
use Rattle.fixed.proofs.Lasts.{last_push}
use Rattle.format.specs.Bytes.{cut_at, pieces}
use Rattle.format.specs.Elements.{and_then, Kind, follows, placed, formed_one, put_first, grown, formed, first_outside, Ascends}
use Rattle.format.specs.declared.fault.ElementFault.{ElementFault}
use Rattle.format.specs.declared.fault.ElementFault.TheVariants.{Form}
use Rattle.format.proofs.Cuts.{pieces_cut, pieces_last}

-- ---- results

pub never : {A E : Type 0} {C : Type 0} (e : E) (a : A) → ◌≡◌ {A = Result A E} (Err e) (Ok a) → C
never e a h = absurd (let z : ◌≡◌ {A = ℕ} 0 1 = cc in omega arith)

pub same_ok : {A E : Type 0} (a b : A) → ◌≡◌ {A = Result A E} (Ok a) (Ok b) → a ≡ b
same_ok a b h = cc

pub then_ok : {A B E : Type 0} (r : Result A E) (f : A → Result B E) (b : B) → and_then r f ≡ Ok b → (a : A) × (r ≡ Ok a) × (f a ≡ Ok b)
then_ok (Ok a) f b h = (a, refl, h)
then_ok (Err e) f b h = never e b h

pub if_ok : {A E : Type 0} (t : Bool) (x : Result A E) (e : E) (a : A) → cond t x (Err e) ≡ Ok a → (t ≡ true) × (x ≡ Ok a)
if_ok true x e a h = (refl, h)
if_ok false x e a h = never e a h

-- what is read goes behind acc
abbrev pub behind_read : {E F : Type 0} → List E → Result (List E) F → Result (List E) F
behind_read acc r = and_then r (λ es. Ok (acc ++ es))

put_behind : {E F : Type 0} (acc : List E) (e : E) (r : Result (List E) F) → behind_read acc (put_first e r) ≡ behind_read (acc ++ (e ∷ [])) r
put_behind acc e (Ok es) = ap (λ xs. Ok xs) (sym (append_assoc acc (e ∷ []) es))
put_behind acc e (Err f) = refl

module _ {E : Type 0} (k : Kind E) (most : ℕ) where
  -- where there is room and the shape is right, the place decides: t
  pub formed_at : (i : ℕ) (before : Option E) (p : List ℕ) (e : E) (t : Bool) → leb most i ≡ false → k.shape p ≡ Some e → t ≡ follows k before e
      → formed_one k most i before p ≡ cond t (Ok e) (Err (Form i))
  formed_at i before p e t full shape place =
      let room = lt-ltb i most (leb-false most i full) in
      rw room (ap (placed k i before) shape ∙ ap (λ b. cond b (Ok e) (Err (Form i))) (sym place))

  grown_ok : (acc more : List E) (p : List ℕ) → grown k most acc p ≡ Ok more → (e : E) × (formed_one k most (length acc) (last_of acc) p ≡ Ok e) × (more ≡ acc ++ (e ∷ []))
  grown_ok acc more p h =
      let g = then_ok (formed_one k most (length acc) (last_of acc) p) (λ e. Ok (acc ++ (e ∷ []))) more h in (g.0, g.1, sym (same_ok _ _ g.2))

  -- one piece more is an element
  pub formed_more : (acc more : List E) (rest front r : List ℕ) → cut_at 44 rest ≡ Some (front, r) → grown k most acc front ≡ Ok more
      → behind_read more (formed k most (length more) (last_of more) (pieces r)) ≡ behind_read acc (formed k most (length acc) (last_of acc) (pieces rest))
  formed_more acc more rest front r c h =
      let g = grown_ok acc more front h in
      let e = g.0 in
      let n : length more ≡ length acc + 1 = ap length g.2 ∙ length_push acc e in
      let l : last_of more ≡ Some e = ap last_of g.2 ∙ last_push acc e in
      ap₂ (λ xs r. behind_read xs r) g.2 (ap₂ (λ i o. formed k most i o (pieces r)) n l)
      ∙ sym (put_behind acc e (formed k most (length acc + 1) (Some e) (pieces r)))
      ∙ ap (λ x. behind_read acc (and_then x (λ e. put_first e (formed k most (length acc + 1) (Some e) (pieces r))))) (sym g.1)
      ∙ ap (λ ps. behind_read acc (formed k most (length acc) (last_of acc) ps)) (sym (pieces_cut rest front r c))

  grown_err : (acc : List E) (p : List ℕ) (f : ElementFault) (ps : List (List ℕ)) → grown k most acc p ≡ Err f → behind_read acc (formed k most (length acc) (last_of acc) (p ∷ ps)) ≡ Err f
  grown_err acc p f ps h = fault_stays (formed_one k most (length acc) (last_of acc) p) (λ e. put_first e (formed k most (length acc + 1) (Some e) ps)) f h
    where
      fault_stays : (x : Result E ElementFault) (g : E → Result (List E) ElementFault) (f : ElementFault) → and_then x (λ e. Ok (acc ++ (e ∷ []))) ≡ Err f → behind_read acc (and_then x g) ≡ Err f
      fault_stays (Ok e) g f h = absurd (let z : ◌≡◌ {A = ℕ} 0 1 = cc in omega arith)
      fault_stays (Err d) g f h = cc

  -- one piece more is none
  pub formed_stop : (acc : List E) (rest front r : List ℕ) (f : ElementFault) → cut_at 44 rest ≡ Some (front, r) → grown k most acc front ≡ Err f
      → behind_read acc (formed k most (length acc) (last_of acc) (pieces rest)) ≡ Err f
  formed_stop acc rest front r f c h =
      ap (λ ps. behind_read acc (formed k most (length acc) (last_of acc) ps)) (pieces_cut rest front r c) ∙ grown_err acc front f (pieces r) h

  -- the last piece
  pub formed_last : (acc : List E) (rest : List ℕ) → cut_at 44 rest ≡ None
      → behind_read acc (formed k most (length acc) (last_of acc) (pieces rest)) ≡ grown k most acc rest
  formed_last acc rest c =
      ap (λ ps. behind_read acc (formed k most (length acc) (last_of acc) ps)) (pieces_last rest c) ∙ alone (formed_one k most (length acc) (last_of acc) rest)
    where
      alone : (x : Result E ElementFault) → behind_read acc (and_then x (λ e. put_first e (Ok []))) ≡ and_then x (λ e. Ok (acc ++ (e ∷ [])))
      alone (Ok e) = refl
      alone (Err d) = refl

  pub formed_first : (ps : List (List ℕ)) → behind_read [] (formed k most 0 None ps) ≡ formed k most 0 None ps
  formed_first ps = same (formed k most 0 None ps)
    where
      same : (x : Result (List E) ElementFault) → behind_read [] x ≡ x
      same (Ok es) = refl
      same (Err d) = refl

-- ---- the first element outside its limits, by its place

outside_from : {E : Type 0} (inside : E → Bool) (i : ℕ) (xs : List E) → first_outside inside i xs ≡ position_from (λ e. not (inside e)) i xs
outside_from inside i [] = refl
outside_from inside i (x ∷ xs) =
    ⊎_elim (λ t. rw t (outside_from inside (i + 1) xs)) (λ f. rw f refl) (cases_Bool (inside x))

pub outside_is : {E : Type 0} (inside : E → Bool) (xs : List E) → first_outside inside 0 xs ≡ position (λ e. not (inside e)) xs
outside_is inside xs = outside_from inside 0 xs ∙ sym (position_from-zero (λ e. not (inside e)) xs)

-- ---- what was formed is of its shape, in order, and not too many

put_ok : {E F : Type 0} (e : E) (r : Result (List E) F) (xs : List E) → put_first e r ≡ Ok xs → (es : List E) × (r ≡ Ok es) × (e ∷ es ≡ xs)
put_ok e (Ok es) xs h = (es, refl, same_ok (e ∷ es) xs h)
put_ok e (Err f) xs h = never f xs h

module _ {E : Type 0} (k : Kind E) (most : ℕ) where
  placed_ok : (i : ℕ) (before : Option E) (o : Option E) (e : E) → placed k i before o ≡ Ok e → (o ≡ Some e) × (follows k before e ≡ true)
  placed_ok i before None e h = never (Form i) e h
  placed_ok i before (Some d) e h =
      let g = if_ok (follows k before d) (Ok d) (Form i) e h in
      let q = same_ok d e g.1 in (ap (λ x. Some x) q, sym (ap (follows k before) q) ∙ g.0)

  pub formed_ok : (i : ℕ) (before : Option E) (ps : List (List ℕ)) (xs : List E) → formed k most i before ps ≡ Ok xs
      → (map k.shape ps ≡ map (λ e. Some e) xs) × (i ≤ most → i + length xs ≤ most) × Ascends k before xs
  formed_ok i before [] xs h =
      let e = same_ok [] xs h in
      subst (λ ys. ([] ≡ map (λ e. Some e) ys) × (i ≤ most → i + length ys ≤ most) × Ascends k before ys) e (refl, λ l. omega arith, tt)
  formed_ok i before (p ∷ ps) xs h =
      let g = then_ok (formed_one k most i before p) (λ e. put_first e (formed k most (i + 1) (Some e) ps)) xs h in
      let e = g.0 in
      let a = if_ok (ltb i most) (placed k i before (k.shape p)) (Form i) e g.1 in
      let b = placed_ok i before (k.shape p) e a.1 in
      let c = put_ok e (formed k most (i + 1) (Some e) ps) xs g.2 in
      let d = formed_ok (i + 1) (Some e) ps c.0 c.1 in
      let room = ltb-true i most a.0 in
      subst (λ ys. (map k.shape (p ∷ ps) ≡ map (λ e. Some e) ys) × (i ≤ most → i + length ys ≤ most) × Ascends k before ys) c.2
      (ap₂ (λ y ys. y ∷ ys) b.0 d.0, λ l. omega (arith, d.1 (omega arith)), (b.1, d.2))
