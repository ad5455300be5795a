-- Bytes of a text: where they are cut, and how a number is written. Assumes nothing.
--     cut_at b t         what stands before the first b in t and what stands after it; none where there is no b
--     after_key k s      what follows k, where s begins with k
--     pieces v           the pieces of v between its commas, one more than there are commas
--     commas ps          the pieces ps with a comma between each two
--     elements_of v      the elements of a list value: none where it is empty, else its pieces
--     number_of v        the number that v is: one or two decimal digits, no leading zero
--     spelled n          the digits of a number below 100
--     Free b xs          no byte of xs is b
use Rattle.std.specs.Prelude.{ℕ, ◌+◌, ◌-◌, ◌*◌, ◌/◌, ◌%◌, Bool, cond, ◌&&◌, List, [], ◌∷◌, ◌++◌, Some, None, Option, ◌==◌, ◌≢◌, nat_le, nat_lt}
use Rattle.std.specs.List.{flat_map, AllByRecursion}

abbrev pub Free : ℕ → List ℕ → Type 0
Free b xs = AllByRecursion (λ x. x ≢ b) xs

abbrev pub behind : ℕ → Option (List ℕ × List ℕ) → Option (List ℕ × List ℕ)
behind x None = None
behind x (Some p) = Some (x ∷ p.0, p.1)

abbrev pub cut_at : ℕ → List ℕ → Option (List ℕ × List ℕ)
cut_at b [] = None
cut_at b (x ∷ xs) = cond (x == b) (Some ([], xs)) (behind x (cut_at b xs))

abbrev pub after_key : List ℕ → List ℕ → Option (List ℕ)
after_key [] s = Some s
after_key (k ∷ ks) [] = None
after_key (k ∷ ks) (x ∷ xs) = cond (k == x) (after_key ks xs) None

abbrev pub onto : ℕ → List (List ℕ) → List (List ℕ)
onto x [] = (x ∷ []) ∷ []
onto x (p ∷ ps) = (x ∷ p) ∷ ps

abbrev pub pieces : List ℕ → List (List ℕ)
pieces [] = [] ∷ []
pieces (x ∷ xs) = cond (x == 44) ([] ∷ pieces xs) (onto x (pieces xs))

abbrev pub commas : List (List ℕ) → List ℕ
commas [] = []
commas (p ∷ ps) = p ++ flat_map (λ q. 44 ∷ q) ps

abbrev pub elements_of : List ℕ → List (List ℕ)
elements_of [] = []
elements_of (x ∷ xs) = pieces (x ∷ xs)

abbrev pub is_digit : ℕ → Bool
is_digit b = nat_le 48 b && nat_le b 57

abbrev pub number_of : List ℕ → Option ℕ
number_of [] = None
number_of (a ∷ []) = cond (is_digit a) (Some (a - 48)) None
number_of (a ∷ (b ∷ [])) = cond (is_digit a && (nat_lt 48 a && is_digit b)) (Some ((a - 48) * 10 + (b - 48))) None
number_of (a ∷ (b ∷ (c ∷ r))) = None

abbrev pub spelled : ℕ → List ℕ
spelled n = cond (nat_lt n 10) ((48 + n) ∷ []) ((48 + n / 10) ∷ ((48 + n % 10) ∷ []))
