-- The readers' faults are just what is wrong, by the rules. Assumes nothing.
use Rattle.std.proofs.Common.{◌≡◌, ℕ, suc, ◌+◌, ◌<◌, ◌≤◌, Bool, true, false, ltb, leb, ◌⊎◌, List, [], ◌∷◌, ◌++◌, map, length, Some, None, Ok, Err, Option, Result, sym, refl, ap, ◌∙◌, subst, ap₂, inl, inr, ⊎_elim, arith}
use Rattle.std.specs.List.{AllByRecursion}
use Rattle.std.specs.Option.{option_map}
use Rattle.std.proofs.lemmas.List.{length_push, append_assoc, map_push}
use Rattle.std.proofs.lemmas.Bool.{cases_Bool, cases_eq, cases_lt, eq-eqb, ne_eqb, le-leb, lt-leb, leb-true, leb-false, lt-ltb, le-ltb}
use Rattle.fixed.specs.Items.{last_of}
use Rattle.fixed.proofs.Lasts.{last_push}
use Rattle.format.specs.Bytes.{Free, behind, cut_at, after_key, elements_of}
use Rattle.format.specs.Elements.{and_then, Kind, limited, single_of, follows, placed, formed_one, put_first, formed, first_outside, unless_outside, list_of, Ascends}
use Rattle.format.specs.Readers.{keyed, measured, line_at}
use Rattle.format.specs.Wrongs.{SingleWrong, shapeless, outside, Formed, Misplaced, too_many, misshapen, unordered, ListWrong, form, range, LineWrong, unended, overlong, wrong_key, element}
use Rattle.format.specs.declared.fault.ElementFault.{ElementFault}
use Rattle.format.specs.declared.fault.ElementFault.TheVariants.{Form, Range}
use Rattle.format.specs.declared.fault.LineFault.{LineFault}
use Rattle.format.specs.declared.fault.LineFault.TheVariants.{Unended, Overlong, WrongKey, Element}
use Rattle.format.proofs.Cuts.{cut_to, cut_from, free_none, after_to, after_from, after_none}
use Rattle.format.proofs.Lists.{formed_ok}

-- the fault of an answer, where it has one
abbrev pub fault_of : {A E : Type 0} → Result A E → Option E
fault_of (Ok a) = None
fault_of (Err e) = Some e

none_some : {A C : Type 0} (a : A) → ◌≡◌ {A = Option A} None (Some a) → C
none_some a h = absurd (let z : ◌≡◌ {A = ℕ} 0 1 = cc in omega arith)

same_some : {A : Type 0} (a b : A) → ◌≡◌ {A = Option A} (Some a) (Some b) → a ≡ b
same_some a b h = cc

-- ---- one element

module _ {E : Type 0} (k : Kind E) (limit : ℕ) (v : List ℕ) where
  single_cases : (o : Option E) → k.shape v ≡ o → (f : ElementFault) → fault_of (limited k limit o) ≡ Some f → SingleWrong k limit v f
  single_cases None s f h = subst (SingleWrong k limit v) (same_some (Form 0) f h) (shapeless s)
  single_cases (Some e) s f h =
      ⊎_elim
      (λ t. none_some f (rw t at h))
      (λ x. subst (SingleWrong k limit v) (same_some (Range 0) f (rw x at h)) (outside e s x))
      (cases_Bool (k.inside limit e))

  pub single_to : (f : ElementFault) → fault_of (single_of k limit v) ≡ Some f → SingleWrong k limit v f
  single_to f h = single_cases (k.shape v) refl f h

  pub single_from : (f : ElementFault) → SingleWrong k limit v f → fault_of (single_of k limit v) ≡ Some f
  single_from (Form i) (shapeless s) = ap (λ o. fault_of (limited k limit o)) s
  single_from (Range i) (outside e s x) = ap (λ o. fault_of (limited k limit o)) s ∙ (rw x)

-- ---- the form of a list

shapes_append : {E : Type 0} (k : Kind E) (ps : List (List ℕ)) (es : List E) (p : List ℕ) (e : E) → map k.shape ps ≡ map (λ e. Some e) es → k.shape p ≡ Some e
    → map k.shape (ps ++ (p ∷ [])) ≡ map (λ e. Some e) (es ++ (e ∷ []))
shapes_append k ps es p e h s = map_push k.shape ps p ∙ ap₂ (λ xs x. xs ++ (x ∷ [])) h s ∙ sym (map_push (λ e. Some e) es e)

-- the last of a list, or what came before it
abbrev last_or : {E : Type 0} → Option E → List E → Option E
last_or o [] = o
last_or o (e ∷ es) = last_or (Some e) es

last_or_of : {E : Type 0} (x : E) (es : List E) → last_or (Some x) es ≡ last_of (x ∷ es)
last_or_of x [] = refl
last_or_of x (y ∷ es) = last_or_of y es

last_or_none : {E : Type 0} (es : List E) → last_or None es ≡ last_of es
last_or_none [] = refl
last_or_none (x ∷ es) = last_or_of x es

ascends_push : {E : Type 0} (k : Kind E) (o : Option E) (es : List E) (e : E) → Ascends k o es → follows k (last_or o es) e ≡ true → Ascends k o (es ++ (e ∷ []))
ascends_push k o [] e a f = (f, tt)
ascends_push k o (x ∷ es) e a f = (a.0, ascends_push k (Some x) es e a.1 f)

module _ {E : Type 0} (k : Kind E) (most : ℕ) where
  formed_push : (ps : List (List ℕ)) (es : List E) (p : List ℕ) (e : E) → Formed k most ps es → length es < most → k.shape p ≡ Some e → follows k (last_of es) e ≡ true
      → Formed k most (ps ++ (p ∷ [])) (es ++ (e ∷ []))
  formed_push ps es p e h room s f = record {
    few = omega (arith, length_push es e);
    shapes = shapes_append k ps es p e h.shapes s;
    order = ascends_push k None es e h.order (ap (λ o. follows k o e) (last_or_none es) ∙ f);
  }

  -- one piece more: an element, or not
  pub record Taken (es : List E) (p : List ℕ) (e : E) : Type 0 where
    pub one : formed_one k most (length es) (last_of es) p ≡ Ok e
    pub room : length es < most
    pub shape : k.shape p ≡ Some e
    pub place : follows k (last_of es) e ≡ true

  pub record Left (es : List E) (p : List ℕ) : Type 0 where
    pub one : formed_one k most (length es) (last_of es) p ≡ Err (Form (length es))
    pub why : Misplaced k most es p

  shape_cases : (es : List E) (p : List ℕ) → length es < most → (o : Option E) → k.shape p ≡ o → ((e : E) × Taken es p e) ⊎ Left es p
  shape_cases es p room None s =
      let t = lt-ltb (length es) most room in inr (record { one = rw t (ap (placed k (length es) (last_of es)) s); why = misshapen s })
  shape_cases es p room (Some e) s =
      let t = lt-ltb (length es) most room in
      ⊎_elim
      (λ f. inl (e, record { one = rw t (ap (placed k (length es) (last_of es)) s ∙ (rw f)); room = room; shape = s; place = f }))
      (λ f. inr (record { one = rw t (ap (placed k (length es) (last_of es)) s ∙ (rw f)); why = unordered e s f }))
      (cases_Bool (follows k (last_of es) e))

  one_cases : (es : List E) (p : List ℕ) → ((e : E) × Taken es p e) ⊎ Left es p
  one_cases es p =
      ⊎_elim
      (λ room. shape_cases es p room (k.shape p) refl)
      (λ full. let t = le-ltb (length es) most full in inr (record { one = rw t; why = too_many full }))
      (cases_lt (length es) most)

  put_fault : (e : E) (r : Result (List E) ElementFault) → fault_of (put_first e r) ≡ fault_of r
  put_fault e (Ok es) = refl
  put_fault e (Err f) = refl

  pub record FirstLeft (ps : List (List ℕ)) (f : ElementFault) : Type 0 where
    pub done : List (List ℕ)
    pub piece : List ℕ
    pub rest : List (List ℕ)
    pub es : List E
    pub split : ps ≡ done ++ (piece ∷ rest)
    pub right : Formed k most done es
    pub wrong : Misplaced k most es piece
    pub is : Form (length es) ≡ f

  form_to : (done : List (List ℕ)) (es : List E) (ps : List (List ℕ)) (f : ElementFault) → Formed k most done es
      → fault_of (formed k most (length es) (last_of es) ps) ≡ Some f → FirstLeft (done ++ ps) f
  form_to done es [] f h x = none_some f x
  form_to done es (p ∷ ps) f h x =
      ⊎_elim
      (λ t. let e = t.0 in
      let q = ap (λ r. fault_of (and_then r (λ e. put_first e (formed k most (length es + 1) (Some e) ps)))) t.1.one ∙ put_fault e (formed k most (length es + 1) (Some e) ps) in
      let n = length_push es e in let l = last_push es e in
      let again = form_to (done ++ (p ∷ [])) (es ++ (e ∷ [])) ps f (formed_push done es p e h t.1.room t.1.shape t.1.place)
      (ap₂ (λ i o. fault_of (formed k most i o ps)) n l ∙ sym q ∙ x) in
      subst (λ qs. FirstLeft qs f) (append_assoc done (p ∷ []) ps) again)
      (λ w. let q = ap (λ r. fault_of (and_then r (λ e. put_first e (formed k most (length es + 1) (Some e) ps)))) w.one in
      record { done = done; piece = p; rest = ps; es = es; split = refl; right = h; wrong = w.why; is = same_some _ _ (sym q ∙ x) })
      (one_cases es p)

  form_run : (i : ℕ) (o : Option E) (done : List (List ℕ)) (es : List E) → map k.shape done ≡ map (λ e. Some e) es → i + length es ≤ most → Ascends k o es
      → (rest : List (List ℕ)) → fault_of (formed k most i o (done ++ rest)) ≡ fault_of (formed k most (i + length es) (last_or o es) rest)
  form_run i o [] [] s l a rest = let z : i + 0 ≡ i = omega arith in ap (λ j. fault_of (formed k most j o rest)) (sym z)
  form_run i o [] (e ∷ es) s l a rest = absurd (let z : ◌≡◌ {A = ℕ} 0 1 = cc in omega arith)
  form_run i o (p ∷ done) [] s l a rest = absurd (let z : ◌≡◌ {A = ℕ} 0 1 = cc in omega arith)
  form_run i o (p ∷ done) (e ∷ es) s l a rest =
      let x : k.shape p ≡ Some e = cc in
      let y : map k.shape done ≡ map (λ e. Some e) es = cc in
      let t = lt-ltb i most (omega arith) in
      let f = a.0 in
      let one : formed_one k most i o p ≡ Ok e = rw t (ap (placed k i o) x ∙ (rw f)) in
      let z : i + 1 + length es ≡ i + suc (length es) = omega arith in
      ap (λ r. fault_of (and_then r (λ e. put_first e (formed k most (i + 1) (Some e) (done ++ rest))))) one
      ∙ put_fault e (formed k most (i + 1) (Some e) (done ++ rest))
      ∙ form_run (i + 1) (Some e) done es y (omega arith) a.1 rest
      ∙ ap (λ j. fault_of (formed k most j (last_or (Some e) es) rest)) z

  left_fault : (es : List E) (p : List ℕ) → Misplaced k most es p → formed_one k most (length es) (last_of es) p ≡ Err (Form (length es))
  left_fault es p (too_many full) = let t = le-ltb (length es) most full in rw t
  left_fault es p (misshapen s) = room_or_not (cases_Bool (ltb (length es) most))
    where
      room_or_not : (ltb (length es) most ≡ true) ⊎ (ltb (length es) most ≡ false) → formed_one k most (length es) (last_of es) p ≡ Err (Form (length es))
      room_or_not (inl t) = rw t (ap (placed k (length es) (last_of es)) s)
      room_or_not (inr t) = rw t
  left_fault es p (unordered e s f) = room_or_not (cases_Bool (ltb (length es) most))
    where
      room_or_not : (ltb (length es) most ≡ true) ⊎ (ltb (length es) most ≡ false) → formed_one k most (length es) (last_of es) p ≡ Err (Form (length es))
      room_or_not (inl t) = rw t (ap (placed k (length es) (last_of es)) s ∙ (rw f))
      room_or_not (inr t) = rw t

  form_from : (ps : List (List ℕ)) (done : List (List ℕ)) (p : List ℕ) (rest : List (List ℕ)) (es : List E) → ps ≡ done ++ (p ∷ rest) → Formed k most done es → Misplaced k most es p
      → fault_of (formed k most 0 None ps) ≡ Some (Form (length es))
  form_from ps done p rest es split h w =
      let n : 0 + length es ≡ length es = omega arith in
      ap (λ qs. fault_of (formed k most 0 None qs)) split
      ∙ form_run 0 None done es h.shapes (omega (arith, h.few)) h.order (p ∷ rest)
      ∙ ap₂ (λ i o. fault_of (formed k most i o (p ∷ rest))) n (last_or_none es)
      ∙ ap (λ r. fault_of (and_then r (λ e. put_first e (formed k most (length es + 1) (Some e) rest)))) (left_fault es p w)

-- ---- the range of a list

pub record FirstOutside {E : Type 0} (inside : E → Bool) (es : List E) : Type 0 where
  pub before : List E
  pub item : E
  pub after : List E
  pub split : es ≡ before ++ (item ∷ after)
  pub right : AllByRecursion (λ e. inside e ≡ true) before
  pub wrong : inside item ≡ false

range_to : {E : Type 0} (inside : E → Bool) (i : ℕ) (es : List E) (j : ℕ) → first_outside inside i es ≡ Some j → (o : FirstOutside inside es) × (i + length o.before ≡ j)
range_to inside i [] j h = none_some j h
range_to inside i (e ∷ es) j h =
    ⊎_elim
    (λ t. let g = range_to inside (i + 1) es j (rw t at h) in let o = g.0 in
    (record { before = e ∷ o.before; item = o.item; after = o.after; split = ap (λ xs. e ∷ xs) o.split; right = (t, o.right); wrong = o.wrong }, omega (arith, g.1)))
    (λ f. let q = same_some i j (rw f at h) in (record { before = []; item = e; after = es; split = refl; right = tt; wrong = f }, omega arith))
    (cases_Bool (inside e))

range_from : {E : Type 0} (inside : E → Bool) (i : ℕ) (before : List E) (e : E) (after : List E) → AllByRecursion (λ x. inside x ≡ true) before → inside e ≡ false
    → first_outside inside i (before ++ (e ∷ after)) ≡ Some (i + length before)
range_from inside i [] e after h f = let z : i + 0 ≡ i = omega arith in rw f (ap (λ j. Some j) (sym z))
range_from inside i (x ∷ xs) e after h f =
    let t = h.0 in let z : i + 1 + length xs ≡ i + suc (length xs) = omega arith in rw t (range_from inside (i + 1) xs e after h.1 f ∙ ap (λ j. Some j) z)

module _ {E : Type 0} (k : Kind E) (most limit : ℕ) (v : List ℕ) where
  range_cases : (es : List E) → formed k most 0 None (elements_of v) ≡ Ok es → (o : Option ℕ) → first_outside (k.inside limit) 0 es ≡ o → (f : ElementFault)
      → fault_of (unless_outside es o) ≡ Some f → ListWrong k most limit v f
  range_cases es done None x f h = none_some f h
  range_cases es done (Some j) x f h =
      let g = range_to (k.inside limit) 0 es j x in
      let o = g.0 in
      let a = formed_ok k most 0 None (elements_of v) es done in
      let whole : Formed k most (elements_of v) es = record { few = omega (arith, a.1 (omega arith)); shapes = a.0; order = a.2 } in
      let n : length o.before ≡ j = omega (arith, g.1) in
      subst (ListWrong k most limit v) (ap (λ i. Range i) n ∙ same_some (Range j) f h)
      (range o.before o.item o.after (subst (Formed k most (elements_of v)) o.split whole) o.right o.wrong)

  form_cases : (r : Result (List E) ElementFault) → formed k most 0 None (elements_of v) ≡ r → (f : ElementFault)
      → fault_of (and_then r (λ es. unless_outside es (first_outside (k.inside limit) 0 es))) ≡ Some f → ListWrong k most limit v f
  form_cases (Ok es) done f h = range_cases es done (first_outside (k.inside limit) 0 es) refl f h
  form_cases (Err g) done f h =
      let w = form_to k most [] [] (elements_of v) g (record { few = omega arith; shapes = refl; order = tt }) (ap fault_of done) in
      subst (ListWrong k most limit v) (w.is ∙ same_some g f h) (form w.done w.piece w.rest w.es w.split w.right w.wrong)

  pub list_to : (f : ElementFault) → fault_of (list_of k most limit v) ≡ Some f → ListWrong k most limit v f
  list_to f h = form_cases (formed k most 0 None (elements_of v)) refl f h

  err_of : {A X : Type 0} (r : Result A X) (x : X) → fault_of r ≡ Some x → r ≡ Err x
  err_of (Ok a) x h = none_some x h
  err_of (Err y) x h = ap (λ z. Err z) (same_some y x h)

  pub list_from : (f : ElementFault) → ListWrong k most limit v f → fault_of (list_of k most limit v) ≡ Some f
  list_from (Form i) (form ps p qs es split h w) =
      ap (λ r. fault_of (and_then r (λ es. unless_outside es (first_outside (k.inside limit) 0 es)))) (err_of _ _ (form_from k most (elements_of v) ps p qs es split h w))
  list_from (Range i) (range es e fs h a w) =
      let all = es ++ (e ∷ fs) in
      let done = formed_all (elements_of v) all h in
      let n : 0 + length es ≡ length es = omega arith in
      ap (λ r. fault_of (and_then r (λ es. unless_outside es (first_outside (k.inside limit) 0 es)))) done
      ∙ ap (λ o. fault_of (unless_outside all o)) (range_from (k.inside limit) 0 es e fs a w ∙ ap (λ j. Some j) n)
    where
      formed_all : (ps : List (List ℕ)) (xs : List E) → Formed k most ps xs → formed k most 0 None ps ≡ Ok xs
      formed_all ps xs h = run 0 None ps xs h.shapes (omega (arith, h.few)) h.order
        where
          run : (i : ℕ) (o : Option E) (ps : List (List ℕ)) (xs : List E) → map k.shape ps ≡ map (λ e. Some e) xs → i + length xs ≤ most → Ascends k o xs → formed k most i o ps ≡ Ok xs
          run i o [] [] s l a = refl
          run i o [] (x ∷ xs) s l a = absurd (let z : ◌≡◌ {A = ℕ} 0 1 = cc in omega arith)
          run i o (p ∷ ps) [] s l a = absurd (let z : ◌≡◌ {A = ℕ} 0 1 = cc in omega arith)
          run i o (p ∷ ps) (x ∷ xs) s l a =
              let y : k.shape p ≡ Some x = cc in
              let z : map k.shape ps ≡ map (λ e. Some e) xs = cc in
              let t = lt-ltb i most (omega arith) in
              let f = a.0 in
              let one : formed_one k most i o p ≡ Ok x = rw t (ap (placed k i o) y ∙ (rw f)) in
              ap (λ r. and_then r (λ e. put_first e (formed k most (i + 1) (Some e) ps))) one ∙ ap (put_first x) (run (i + 1) (Some x) ps xs z (omega arith) a.1)

-- ---- a line

-- the fault of a line, where g gives the fault of its value
abbrev pub faulty : ℕ → Result (List ℕ × List ℕ) LineFault → (List ℕ → Option ElementFault) → Option LineFault
faulty n (Ok p) g = option_map (λ f. Element n f) (g p.0)
faulty n (Err f) g = Some f

behind_parts : (x : ℕ) (o : Option (List ℕ × List ℕ)) (p : List ℕ × List ℕ) → behind x o ≡ Some p → (q : List ℕ × List ℕ) × (o ≡ Some q) × (p ≡ (x ∷ q.0, q.1))
behind_parts x None p h = none_some p h
behind_parts x (Some q) p h = (q, refl, cc)

-- what is cut off holds no such byte, and where nothing is cut off there is none
pub cut_free : (b : ℕ) (t : List ℕ) (p : List ℕ × List ℕ) → cut_at b t ≡ Some p → Free b p.0
cut_free b [] p h = none_some p h
cut_free b (x ∷ xs) p h =
    ⊎_elim
    (λ e. let t = eq-eqb x b e in let q = same_some ([], xs) p (rw t at h) in subst (λ (w : List ℕ × List ℕ). Free b w.0) q tt)
    (λ ne. let f = ne_eqb x b ne in let g = behind_parts x (cut_at b xs) p (rw f at h) in
    subst (λ (w : List ℕ × List ℕ). Free b w.0) (sym g.2) (ne, cut_free b xs g.0 g.1))
    (cases_eq x b)

pub none_free : (b : ℕ) (t : List ℕ) → cut_at b t ≡ None → Free b t
none_free b [] h = tt
none_free b (x ∷ xs) h =
    ⊎_elim
    (λ e. let t = eq-eqb x b e in let z : Some ([], xs) ≡ None = rw t at h in absurd (let y : ◌≡◌ {A = ℕ} 0 1 = cc in omega arith))
    (λ ne. let f = ne_eqb x b ne in (ne, none_free b xs (rest (cut_at b xs) (rw f at h))))
    (cases_eq x b)
  where
    rest : (o : Option (List ℕ × List ℕ)) → behind x o ≡ None → o ≡ None
    rest None h = refl
    rest (Some q) h = absurd (let z : ◌≡◌ {A = ℕ} 0 1 = cc in omega arith)

module _ (key : List ℕ) (bad : List ℕ → ElementFault → Type 0) (g : List ℕ → Option ElementFault) (n : ℕ) (s : List ℕ)
    (to : (v : List ℕ) (e : ElementFault) → g v ≡ Some e → bad v e) (from : (v : List ℕ) (e : ElementFault) → bad v e → g v ≡ Some e) where
  value_cases : (v rest : List ℕ) → s ≡ (key ++ v) ++ (10 ∷ rest) → Free 10 (key ++ v) → length (key ++ v) ≤ 96 → (o : Option ElementFault) → g v ≡ o → (f : LineFault)
      → option_map (λ e. Element n e) o ≡ Some f → LineWrong key bad n s f
  value_cases v rest e free l None x f h = none_some f h
  value_cases v rest e free l (Some d) x f h = subst (LineWrong key bad n s) (same_some (Element n d) f h) (element v rest d e free l (to v d x))

  key_cases : (line rest : List ℕ) → s ≡ line ++ (10 ∷ rest) → Free 10 line → length line ≤ 96 → (o : Option (List ℕ)) → after_key key line ≡ o → (f : LineFault)
      → faulty n (keyed n rest o) g ≡ Some f → LineWrong key bad n s f
  key_cases line rest e free l None x f h =
      subst (LineWrong key bad n s) (same_some (WrongKey n) f h)
      (wrong_key line rest e free l (λ v q. let z : ◌≡◌ {A = Option (List ℕ)} None (Some v) = sym x ∙ ap (after_key key) q ∙ after_from key v in none_some v z))
  key_cases line rest e free l (Some v) x f h =
      let q = after_to key line v x in
      value_cases v rest (e ∙ ap (λ w. w ++ (10 ∷ rest)) q) (subst (Free 10) q free) (omega (arith, ap length q)) (g v) refl f h

  cut_cases : (o : Option (List ℕ × List ℕ)) → cut_at 10 s ≡ o → (f : LineFault) → faulty n (measured key n o) g ≡ Some f → LineWrong key bad n s f
  cut_cases None x f h = subst (LineWrong key bad n s) (same_some (Unended n) f h) (unended (none_free 10 s x))
  cut_cases (Some p) x f h =
      ⊎_elim
      (λ t. key_cases p.0 p.1 (cut_to 10 s p x) (cut_free 10 s p x) (leb-true (length p.0) 96 t) (after_key key p.0) refl f (rw t at h))
      (λ t. subst (LineWrong key bad n s) (same_some (Overlong n) f (rw t at h)) (overlong p.0 p.1 (cut_to 10 s p x) (cut_free 10 s p x) (leb-false (length p.0) 96 t)))
      (cases_Bool (leb (length p.0) 96))

  pub line_to : (f : LineFault) → faulty n (line_at key n s) g ≡ Some f → LineWrong key bad n s f
  line_to f h = cut_cases (cut_at 10 s) refl f h

  pub line_from : (f : LineFault) → LineWrong key bad n s f → faulty n (line_at key n s) g ≡ Some f
  line_from (Unended m) (unended free) = ap (λ o. faulty n (measured key n o) g) (free_none 10 s free)
  line_from (Overlong m) (overlong line rest e free l) =
      let t = lt-leb (length line) 96 l in
      ap (λ w. faulty n (line_at key n w) g) e ∙ ap (λ o. faulty n (measured key n o) g) (cut_from 10 line rest free) ∙ (rw t)
  line_from (WrongKey m) (wrong_key line rest e free l no_key) =
      let t = le-leb (length line) 96 l in
      ap (λ w. faulty n (line_at key n w) g) e ∙ ap (λ o. faulty n (measured key n o) g) (cut_from 10 line rest free)
      ∙ (rw t (ap (λ o. faulty n (keyed n rest o) g) (after_none key line no_key)))
  line_from (Element m d) (element v rest f e free l w) =
      let t = le-leb (length (key ++ v)) 96 l in
      ap (λ w. faulty n (line_at key n w) g) e ∙ ap (λ o. faulty n (measured key n o) g) (cut_from 10 (key ++ v) rest free)
      ∙ (rw t (ap (λ o. faulty n (keyed n rest o) g) (after_from key v) ∙ ap (option_map (λ e. Element n e)) (from v f w)))
