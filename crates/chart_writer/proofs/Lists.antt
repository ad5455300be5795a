-- Lists and rows written one by one: one more, all of them, and that a part of them is no longer than all. Assumes nothing.
use Rattle.std.proofs.Common.{◌≡◌, ℕ, zero, suc, ◌+◌, ◌<◌, ◌≤◌, List, [], ◌∷◌, ◌++◌, map, length, get_or, take, sym, refl, ap, ◌∙◌, arith}
use Rattle.std.specs.List.{flat_map}
use Rattle.std.proofs.lemmas.List.{append-nil, length-append, length-take-le, take_more, take-map, map_push, flat_map_more}
use Rattle.format.specs.Elements.{Kind, list_text}
use Rattle.chart_writer.specs.Writes.{comma_at}

joined_front : {X : Type 0} (f : X → List ℕ) (xs : List X) (i : ℕ) → length (flat_map f (take i xs)) ≤ length (flat_map f xs)
joined_front f xs zero = omega arith
joined_front f [] (suc i) = omega arith
joined_front f (x ∷ xs) (suc i) =
    let h = joined_front f xs i in let a = length-append (f x) (flat_map f (take i xs)) in let b = length-append (f x) (flat_map f xs) in omega arith

-- the rows so far and one more are no longer than all
pub rows_fit : {X : Type 0} (f : X → List ℕ) (xs : List X) (i : ℕ) (x : X) → i < length xs → x ≡ get_or xs i x
    → length (flat_map f (take i xs)) + length (f x) ≤ length (flat_map f xs)
rows_fit f [] i x h e = omega arith
rows_fit f (y ∷ ys) zero x h e = omega (arith, length-append (f y) (flat_map f ys), ap (λ z. length (f z)) e)
rows_fit f (y ∷ ys) (suc i) x h e =
    omega (arith, rows_fit f ys i x (omega arith) e, length-append (f y) (flat_map f (take i ys)), length-append (f y) (flat_map f ys))

-- bytes spelled one by one
pub bytes_alone : (bytes : List ℕ) → flat_map (λ byte. byte ∷ []) bytes ≡ bytes
bytes_alone [] = refl
bytes_alone (byte ∷ bytes) = ap (λ rest. byte ∷ rest) (bytes_alone bytes)

module _ {E : Type 0} (k : Kind E) where
  list_push : (es : List E) (x : E) → list_text k es ++ (comma_at (length es) ++ k.spell x) ≡ list_text k (es ++ (x ∷ []))
  list_push [] x = sym (append-nil (k.spell x))
  list_push (e ∷ es) x =
      flat_map_more (λ q. 44 ∷ q) (k.spell e) (map k.spell es) (k.spell x) ∙ ap (λ ps. k.spell e ++ flat_map (λ q. 44 ∷ q) ps) (sym (map_push k.spell es x))

  list_front : (xs : List E) (i : ℕ) → length (list_text k (take i xs)) ≤ length (list_text k xs)
  list_front xs zero = omega arith
  list_front [] (suc i) = omega arith
  list_front (x ∷ xs) (suc i) =
      let h = joined_front (λ q. 44 ∷ q) (map k.spell xs) i in
      let t = ap (λ ps. length (flat_map (λ q. 44 ∷ q) ps)) (take-map k.spell i xs) in
      let a = length-append (k.spell x) (flat_map (λ q. 44 ∷ q) (map k.spell (take i xs))) in
      let b = length-append (k.spell x) (flat_map (λ q. 44 ∷ q) (map k.spell xs)) in omega arith

  -- one element more
  pub list_more : (xs : List E) (i : ℕ) (x : E) (comma : List ℕ) → i < length xs → x ≡ get_or xs i x → comma ≡ comma_at i
      → list_text k (take i xs) ++ (comma ++ k.spell x) ≡ list_text k (take (i + 1) xs)
  list_more xs i x comma h e q =
      let l = length-take-le i xs (omega arith) in
      ap (λ v. list_text k (take i xs) ++ (v ++ k.spell x)) (q ∙ ap comma_at (sym l)) ∙ list_push (take i xs) x
      ∙ ap (λ y. list_text k (take i xs ++ (y ∷ []))) e ∙ sym (ap (list_text k) (take_more xs i x h))

  -- the elements so far and one more are no longer than all
  pub list_fits : (xs all : List E) (i : ℕ) (x : E) (comma : List ℕ) → xs ≡ all → i < length xs → x ≡ get_or xs i x → comma ≡ comma_at i
      → length (list_text k (take i xs)) + (length comma + length (k.spell x)) ≤ length (list_text k all)
  list_fits xs all i x comma s h e q =
      let m = ap length (list_more xs i x comma h e q) in let a = length-append (list_text k (take i xs)) (comma ++ k.spell x) in
      let b = length-append comma (k.spell x) in let p = list_front xs (i + 1) in let t = ap (λ ys. length (list_text k ys)) s in omega arith
