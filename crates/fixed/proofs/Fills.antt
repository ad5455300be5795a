-- Cutting a list, and filling places. Assumes nothing.
use Rattle.std.proofs.Common.{◌≡◌, ℕ, ◌-◌, ◌≤◌, min, List, ◌++◌, length, take, drop, sym, ap, ◌∙◌, ⊎_elim, arith}
use Rattle.std.proofs.lemmas.List.{append_assoc, length-append, length-take-le, take_all, take-append-drop, take_at}
use Rattle.std.proofs.lemmas.Bool.{cases_lt}

-- to cut at n, or at the end where that comes first, is the same
pub cut_within : {X : Type 0} (xs : List X) (fitting n : ℕ) → fitting ≡ min (length xs) n → take fitting xs ≡ take n xs
cut_within xs fitting n e =
    ⊎_elim
    (λ l. let same : fitting ≡ n = omega arith in ap (λ k. take k xs) same)
    (λ l. take_all fitting xs (omega arith) ∙ sym (take_all n xs l))
    (cases_lt n (length xs))

-- what fits of more, behind front, is what fits of both
pub fill_all : {X : Type 0} (m : ℕ) (front more : List X) (k : ℕ) → length front ≤ m → k ≡ min (length more) (m - length front)
    → front ++ take k more ≡ take m (front ++ more)
fill_all m front more k l e =
    ⊎_elim
    (λ fits. ap (λ ys. front ++ ys) (take_all k more (omega arith)) ∙ sym (take_all m (front ++ more) (omega (arith, length-append front more))))
    (λ full.
    let cut : front ++ more ≡ (front ++ take k more) ++ drop k more = ap (λ ys. front ++ ys) (sym (take-append-drop k more)) ∙ sym (append_assoc front (take k more) (drop k more)) in
    let n = length-take-le k more (omega arith) in
    sym (ap (take m) cut ∙ take_at (front ++ take k more) (drop k more) m (omega (arith, length-append front (take k more)))))
    (cases_lt (length more) (m - length front))
