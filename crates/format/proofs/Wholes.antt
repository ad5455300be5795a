-- A whole value reads back from its spelling, and from nothing else: one element, and a list of elements. Assumes nothing.
use Rattle.std.proofs.Common.{◌≡◌, ℕ, ◌+◌, ◌*◌, ◌<◌, ◌≤◌, Bool, true, List, [], ◌∷◌, map, length, Some, None, Ok, Option, sym, refl, ap, ◌∙◌, subst, ap₂, ⊎_elim, mul-le-mul_right, arith}
use Rattle.std.specs.List.{flat_map, AllByRecursion}
use Rattle.std.proofs.ByRecursion.{All-append}
use Rattle.std.proofs.lemmas.List.{length-append}
use Rattle.std.proofs.lemmas.Bool.{cases_Bool, lt-ltb}
use Rattle.std.specs.Option.{option_map}
use Rattle.format.specs.Bytes.{Free, commas, elements_of, number_of}
use Rattle.format.specs.Elements.{and_then, Kind, Spells, limited, single_of, placed, formed_one, put_first, formed, first_outside, unless_outside, list_of, Ascends, GoodList, list_text}
use Rattle.format.specs.Readers.{Whole}
use Rattle.format.specs.declared.fault.ElementFault.TheVariants.{Form, Range}
use Rattle.format.proofs.Cuts.{pieces_commas, commas_pieces, elements_some}
use Rattle.format.specs.Numbers.{mapped_ok}
use Rattle.format.proofs.Lists.{never, same_ok, then_ok, if_ok, formed_ok}

-- ---- one element

pub limited_ok : {E : Type 0} (k : Kind E) (limit : ℕ) (o : Option E) (e : E) → limited k limit o ≡ Ok e → (o ≡ Some e) × (k.inside limit e ≡ true)
limited_ok k limit None e h = never (Form 0) e h
limited_ok k limit (Some d) e h =
    let g = if_ok (k.inside limit d) (Ok d) (Range 0) e h in
    let q = same_ok d e g.1 in (ap (λ x. Some x) q, sym (ap (k.inside limit) q) ∙ g.0)

pub single_whole : {E : Type 0} (k : Kind E) (wide limit : ℕ) → Spells k wide → wide ≤ 80 → limit ≤ 100 → Whole (single_of k limit) (λ e. k.inside limit e ≡ true) k.spell
single_whole k wide limit law narrow small = record {
  to = λ v e h. let g = limited_ok k limit (k.shape v) e h in (g.1, law.to v e g.0);
  from = λ e h. ap (limited k limit) (law.from limit small e h) ∙ (rw h);
  free = λ e h. law.free 10 (omega arith) e;
  short = λ e h. omega (arith, law.short e);
}

-- a number that was read is what the digits say
pub single_number : {E : Type 0} (k : Kind E) (make : ℕ → E) (num : E → ℕ) → ((n : ℕ) → num (make n) ≡ n) → ((v : List ℕ) → k.shape v ≡ option_map make (number_of v))
    → (limit : ℕ) (v : List ℕ) (e : E) → single_of k limit v ≡ Ok e → number_of v ≡ Some (num e)
single_number k make num back shaped limit v e h = mapped_ok make num back (number_of v) e (sym (shaped v) ∙ (limited_ok k limit (k.shape v) e h).0)

-- ---- the elements of a list

elements_to : (v : List ℕ) → v ≡ commas (elements_of v)
elements_to [] = refl
elements_to (x ∷ xs) = sym (commas_pieces (x ∷ xs))

joined_free : (ps : List (List ℕ)) → AllByRecursion (Free 10) ps → Free 10 (flat_map (λ q. 44 ∷ q) ps)
joined_free [] h = tt
joined_free (p ∷ ps) h = (λ e. omega arith, All-append (λ x. x ≡ 10 → ⊥) p (flat_map (λ q. 44 ∷ q) ps) h.0 (joined_free ps h.1))

commas_free : (ps : List (List ℕ)) → AllByRecursion (Free 10) ps → Free 10 (commas ps)
commas_free [] h = tt
commas_free (p ∷ ps) h = All-append (λ x. x ≡ 10 → ⊥) p (flat_map (λ q. 44 ∷ q) ps) h.0 (joined_free ps h.1)

-- ---- their limits

pub outside_none : {E : Type 0} (inside : E → Bool) (i : ℕ) (es : List E) → first_outside inside i es ≡ None → AllByRecursion (λ e. inside e ≡ true) es
outside_none inside i [] h = tt
outside_none inside i (e ∷ es) h =
    ⊎_elim
    (λ t. (t, outside_none inside (i + 1) es (rw t at h)))
    (λ f. let g : Some i ≡ None = rw f at h in absurd (let z : ◌≡◌ {A = ℕ} 0 1 = cc in omega arith))
    (cases_Bool (inside e))

pub none_outside : {E : Type 0} (inside : E → Bool) (i : ℕ) (es : List E) → AllByRecursion (λ e. inside e ≡ true) es → first_outside inside i es ≡ None
none_outside inside i [] h = refl
none_outside inside i (e ∷ es) h = let t = h.0 in rw t (none_outside inside (i + 1) es h.1)

unless_ok : {E : Type 0} (es xs : List E) (o : Option ℕ) → unless_outside es o ≡ Ok xs → (o ≡ None) × (es ≡ xs)
unless_ok es xs None h = (refl, same_ok es xs h)
unless_ok es xs (Some i) h = never (Range i) xs h

-- ---- their form

module _ {E : Type 0} (k : Kind E) (most wide : ℕ) (law : Spells k wide) where
  -- what has its shape is spelled so
  shapes_spelled : (ps : List (List ℕ)) (es : List E) → map k.shape ps ≡ map (λ e. Some e) es → ps ≡ map k.spell es
  shapes_spelled [] [] h = refl
  shapes_spelled [] (e ∷ es) h = absurd (let z : ◌≡◌ {A = ℕ} 0 1 = cc in omega arith)
  shapes_spelled (p ∷ ps) [] h = absurd (let z : ◌≡◌ {A = ℕ} 0 1 = cc in omega arith)
  shapes_spelled (p ∷ ps) (e ∷ es) h =
      let x : k.shape p ≡ Some e = cc in let y : map k.shape ps ≡ map (λ e. Some e) es = cc in
      ap₂ (λ q qs. q ∷ qs) (law.to p e x) (shapes_spelled ps es y)

  formed_from : (limit : ℕ) → limit ≤ 100 → (i : ℕ) (before : Option E) (es : List E) → i + length es ≤ most → AllByRecursion (λ e. k.inside limit e ≡ true) es → Ascends k before es
      → formed k most i before (map k.spell es) ≡ Ok es
  formed_from limit small i before [] l h a = refl
  formed_from limit small i before (e ∷ es) l h a =
      let t = lt-ltb i most (omega arith) in
      let f = a.0 in
      let one : formed_one k most i before (k.spell e) ≡ Ok e = rw t (ap (placed k i before) (law.from limit small e h.0) ∙ (rw f)) in
      ap (λ r. and_then r (λ e. put_first e (formed k most (i + 1) (Some e) (map k.spell es)))) one
      ∙ ap (put_first e) (formed_from limit small (i + 1) (Some e) es (omega arith) h.1 a.1)

  each_free : (b : ℕ) → b < 48 → (es : List E) → AllByRecursion (Free b) (map k.spell es)
  each_free b h [] = tt
  each_free b h (e ∷ es) = (law.free b h e, each_free b h es)

  elements_from : (es : List E) → elements_of (list_text k es) ≡ map k.spell es
  elements_from [] = refl
  elements_from (e ∷ es) =
      let some = law.some e in
      elements_some (commas (map k.spell (e ∷ es))) (simp length-append (omega arith))
      ∙ pieces_commas (k.spell e) (map k.spell es) (law.free 44 (omega arith) e) (each_free 44 (omega arith) es)

  joined_short : (es : List E) → length (flat_map (λ q. 44 ∷ q) (map k.spell es)) ≤ length es * (wide + 1)
  joined_short [] = omega arith
  joined_short (e ∷ es) =
      let h = joined_short es in let n = law.short e in let a = length-append (k.spell e) (flat_map (λ q. 44 ∷ q) (map k.spell es)) in omega arith

  commas_short : (es : List E) → length (list_text k es) ≤ length es * (wide + 1)
  commas_short [] = omega arith
  commas_short (e ∷ es) =
      let h = joined_short es in let n = law.short e in let a = length-append (k.spell e) (flat_map (λ q. 44 ∷ q) (map k.spell es)) in omega arith

  pub list_whole : most * (wide + 1) ≤ 80 → (limit : ℕ) → limit ≤ 100 → Whole (list_of k most limit) (GoodList k most limit) (list_text k)
  list_whole fits limit small = record {
    to = λ v xs h.
        let g = then_ok (formed k most 0 None (elements_of v)) (λ es. unless_outside es (first_outside (k.inside limit) 0 es)) xs h in
        let u = unless_ok g.0 xs (first_outside (k.inside limit) 0 g.0) g.2 in
        let f = formed_ok k most 0 None (elements_of v) g.0 g.1 in
        let e = u.1 in (
          record {
            few = subst (λ ys. length ys ≤ most) e (omega (arith, f.1 (omega arith)));
            order = subst (Ascends k None) e f.2;
            range = subst (AllByRecursion (λ e. k.inside limit e ≡ true)) e (outside_none (k.inside limit) 0 g.0 u.0);
          },
          elements_to v ∙ ap commas (shapes_spelled (elements_of v) g.0 f.0 ∙ ap (λ ys. map k.spell ys) e),
        );
    from = λ es h.
        ap (λ ps. and_then (formed k most 0 None ps) (λ es. unless_outside es (first_outside (k.inside limit) 0 es))) (elements_from es)
        ∙ ap (λ r. and_then r (λ es. unless_outside es (first_outside (k.inside limit) 0 es))) (formed_from limit small 0 None es (omega (arith, h.few)) h.range h.order)
        ∙ ap (unless_outside es) (none_outside (k.inside limit) 0 es h.range);
    free = λ es h. commas_free (map k.spell es) (each_free 10 (omega arith) es);
    short = λ es h. omega (arith, fits, commas_short es, mul-le-mul_right (wide + 1) h.few);
  }
