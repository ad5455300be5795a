-- The rules by calculation, and what that means: the first fault of a hierarchy, in the order of the rules. Assumes nothing.
--     any n f               some number below n is in the set f
--     every f vs            every state of the list vs is in the set f
--     over o f              there is a number in o, and it is in the set f
--     below h v u, ..       what the relations of these names say, by search
--     first_of n f          the first of f 0, f 1, .. that is some fault
--     first_fault h         the first rule that is broken
--     unless_broken a o     the value a, where there is no fault; else the fault
--     CheckLaw              no fault is found exactly where the hierarchy is sound, and a fault exactly where it is the first broken rule
use Rattle.std.specs.Prelude.{◌≡◌, ℕ, zero, suc, max, Bool, true, false, cond, not, ◌&&◌, ◌||◌, ◌↔◌, List, [], ◌∷◌, Some, None, Ok, Err, Option, Result, ◌==◌, nat_eq, nat_lt}
use Rattle.chart.specs.Kinds.{automaton_no}
use Rattle.chart.specs.Ids.{StateId}
use Rattle.hierarchy.specs.Hierarchies.{Set, these, Hierarchy, Proper}
use Rattle.hierarchy.specs.Rules.{Sound, FirstBroken}
use Rattle.hierarchy.specs.Faults.{transition_no}
use Rattle.hierarchy.specs.declared.fault.ChartFault.{ChartFault}
use Rattle.hierarchy.specs.declared.fault.ChartFault.TheVariants.{Misplaced, StrayInitial, SplitEnds, IllFormed, NotFull}

abbrev pub any : ℕ → Set → Bool
any zero f = false
any (suc n) f = any n f || f n

-- every state of the list is in the set
abbrev pub every : Set → List StateId → Bool
every f [] = true
every f (x ∷ xs) = f x.0 && every f xs

abbrev pub over : Option ℕ → Set → Bool
over None f = false
over (Some n) f = f n

abbrev pub under : Hierarchy → ℕ → Set
under h p a = over (h.parent a) (nat_eq p)

-- the states that v is below, with n automata left to climb
abbrev pub below_in : Hierarchy → ℕ → ℕ → Set
below_in h zero v u = false
below_in h (suc n) v u = over (h.parent (h.home v)) (λ w. (w == u) || below_in h n w u)

abbrev pub below : Hierarchy → ℕ → Set
below h v = below_in h (suc (h.home v)) v

abbrev pub lies : Hierarchy → ℕ → Set
lies h v a = any h.states (λ s. (h.home s == a) && (v == s || below h v s))

abbrev pub orthogonal : Hierarchy → ℕ → Set
orthogonal h v w =
    any h.states (λ p. any h.automata (λ a. (under h p a && lies h v a) && any h.automata (λ b. not (a == b) && (under h p b && lies h w b))))

abbrev pub basic : Hierarchy → Set
basic h v = not (any h.automata (under h v))

-- each two different states of the list are orthogonal
abbrev pub spread : Hierarchy → List StateId → Bool
spread h vs = every (λ v. every (λ w. (v == w) || orthogonal h v w) vs) vs

-- the top automaton under nothing, another under a state of a lower-numbered one
abbrev pub placed : Hierarchy → ℕ → Bool
placed h zero = nat_lt 0 h.automata && not (over (h.parent 0) (λ p. true))
placed h (suc a) = over (h.parent (suc a)) (λ p. nat_lt (h.home p) (suc a))

abbrev pub starts : Hierarchy → ℕ → Bool
starts h a = h.home (h.initial a) == a

abbrev pub joins : Hierarchy → ℕ → Bool
joins h t = nat_lt (h.home (h.source t)) h.automata && h.home (h.source t) == h.home (h.target t)

abbrev pub well_formed : Hierarchy → ℕ → Bool
well_formed h t = every (λ v. below h v (h.source t)) (h.restriction t) && spread h (h.restriction t)

-- a basic state below the target
abbrev pub end : Hierarchy → ℕ → Set
end h t v = basic h v && below h v (h.target t)

-- another one, orthogonal to all of the determinator
abbrev pub missed : Hierarchy → ℕ → Set
missed h t v = (end h t v && not (these (h.determinator t) v)) && every (orthogonal h v) (h.determinator t)

abbrev pub full : Hierarchy → ℕ → Bool
full h t = every (end h t) (h.determinator t) && (spread h (h.determinator t) && not (any h.states (missed h t)))

abbrev pub automaton_fault : Hierarchy → ℕ → Option ChartFault
automaton_fault h a = cond (placed h a) (cond (starts h a) None (Some (StrayInitial (automaton_no a)))) (Some (Misplaced (automaton_no a)))

abbrev pub transition_fault : Hierarchy → ℕ → Option ChartFault
transition_fault h t =
    cond (joins h t) (cond (well_formed h t) (cond (full h t) None (Some (NotFull (transition_no t)))) (Some (IllFormed (transition_no t)))) (Some (SplitEnds (transition_no t)))

abbrev pub or_else : {F : Type 0} → Option F → Option F → Option F
or_else None o = o
or_else (Some f) o = Some f

abbrev pub first_of : {F : Type 0} → ℕ → (ℕ → Option F) → Option F
first_of zero f = None
first_of (suc n) f = or_else (first_of n f) (f n)

-- automaton 0 has to be there, so it is looked at even where there is none
abbrev pub automata_fault_lem : Hierarchy → Option ChartFault
automata_fault_lem h = first_of (max 1 h.automata) (automaton_fault h)

abbrev pub first_fault : Hierarchy → Option ChartFault
first_fault h = or_else (automata_fault_lem h) (first_of h.transitions (transition_fault h))

abbrev pub unless_broken : {A F : Type 0} → A → Option F → Result A F
unless_broken a None = Ok a
unless_broken a (Some f) = Err f

pub record Checked (h : Hierarchy) : Type 0 where
  pub sound : (first_fault h ≡ None) ↔ Sound h
  pub broken : (f : ChartFault) → (first_fault h ≡ Some f) ↔ FirstBroken h f

abbrev pub CheckLaw : Type 0
CheckLaw = (h : Hierarchy) → Proper h → Checked h
