-- A text is accepted just if it is the spelling of a plan within the limits. Assumes nothing.
use Rattle.std.proofs.Common.{◌≡◌, ℕ, ◌+◌, ◌*◌, ◌<◌, ◌≤◌, Bool, true, false, ◌&&◌, leb, List, [], ◌∷◌, ◌++◌, length, Ok, sym, refl, ap, ◌∙◌, subst, ap₂, arith}
use Rattle.std.specs.List.{flat_map, list_all, AllByRecursion}
use Rattle.std.proofs.lemmas.Bool.{and_parts, and_from, leb-true, le-leb}
use Rattle.format.specs.Bytes.{Free}
use Rattle.format.specs.Elements.{and_then, Kind, Spells, GoodList, list_text}
use Rattle.format.specs.Readers.{ended, Exact, Whole}
use Rattle.format.specs.declared.fault.ElementFault.TheVariants.{Form}
use Rattle.format.specs.declared.fault.TextFault.TheVariants.{Oversize}
use Rattle.format.proofs.Laws.{field_exact, both_exact, named_exact, times_exact, whole_text}
use Rattle.format.proofs.Lists.{if_ok, same_ok}
use Rattle.format.proofs.Wholes.{single_whole, list_whole}
use Rattle.chart.specs.Kinds.{state_kind, automaton_kind, event_kind, term_kind, parent_kind, is_name_byte, Named, name_of}
use Rattle.chart.specs.Plans.{Plan, TransitionPlan}
use Rattle.chart.specs.declared.drawing.Automaton.{Automaton}
use Rattle.chart.specs.declared.drawing.State.{State}
use Rattle.format.specs.Numbers.{bounds_to, bounds_from}
use Rattle.chart.specs.Spellings.{state_exact, automaton_exact, event_exact, term_exact, parent_exact}
use Rattle.chart_text.proofs.Counts.{positive_exact, natural_exact}
use Rattle.chart_text.specs.Counts.{positive_no, natural_no, positive_kind, natural_kind}
use Rattle.chart_text.specs.Keys.{key_text}
use Rattle.chart_text.specs.Texts.{counts_of, line_text, automaton_text, state_text, transition_text, text_of, GoodAutomaton, GoodTransition, Within}
use Rattle.chart_text.specs.declared.count.Counts.{Counts}
use Rattle.chart_text.specs.declared.line.Key.{Key}
use Rattle.chart_text.specs.declared.line.Key.TheVariants.{Chart, Events, Automata, States, Transitions, Under, First, In, From, With, On, If, Do, To, Into}
use Rattle.chart_reader.specs.Verdicts.{one, some, automaton, automaton_lines, state, state_lines, TransitionParts, transition, transition_lines, rows, PlanParts, plan, counted, drawn, due_end, Exactly, GivesBack, OneText}

-- ---- the keys

key_free : (k : Key) → Free 10 (key_text k)
key_free Chart = omega arith
key_free Events = omega arith
key_free Automata = omega arith
key_free States = omega arith
key_free Transitions = omega arith
key_free Under = omega arith
key_free First = omega arith
key_free In = omega arith
key_free From = omega arith
key_free With = omega arith
key_free On = omega arith
key_free If = omega arith
key_free Do = omega arith
key_free To = omega arith
key_free Into = omega arith

key_short : (k : Key) → length (key_text k) ≤ 16
key_short Chart = omega arith
key_short Events = omega arith
key_short Automata = omega arith
key_short States = omega arith
key_short Transitions = omega arith
key_short Under = omega arith
key_short First = omega arith
key_short In = omega arith
key_short From = omega arith
key_short With = omega arith
key_short On = omega arith
key_short If = omega arith
key_short Do = omega arith
key_short To = omega arith
key_short Into = omega arith

-- ---- the lines

pub one_exact : {E : Type 0} (k : Kind E) (wide limit : ℕ) (name : Key) → Spells k wide → wide ≤ 80 → limit ≤ 100
    → Exact (one k limit name) (λ e. k.inside limit e ≡ true) (λ e. line_text name (k.spell e))
one_exact k wide limit name law narrow small =
    field_exact _ (λ e. k.inside limit e ≡ true) k.spell (key_text name) (single_whole k wide limit law narrow small) (key_free name) (key_short name)

some_exact : {E : Type 0} (k : Kind E) (wide most limit : ℕ) (name : Key) → Spells k wide → most * (wide + 1) ≤ 80 → limit ≤ 100
    → Exact (some k most limit name) (GoodList k most limit) (λ es. line_text name (list_text k es))
some_exact k wide most limit name law fits small =
    field_exact _ (GoodList k most limit) (list_text k) (key_text name) (list_whole k most wide law fits limit small) (key_free name) (key_short name)

-- ---- the name

every_all : (f : ℕ → Bool) (v : List ℕ) → list_all f v ≡ true → AllByRecursion (λ b. f b ≡ true) v
every_all f [] h = tt
every_all f (x ∷ xs) h = let g = and_parts (f x) (list_all f xs) h in (g.0, every_all f xs g.1)

all_every : (f : ℕ → Bool) (v : List ℕ) → AllByRecursion (λ b. f b ≡ true) v → list_all f v ≡ true
all_every f [] h = refl
all_every f (x ∷ xs) h = and_from (f x) (list_all f xs) h.0 (all_every f xs h.1)

name_byte : (b : ℕ) → is_name_byte b ≡ true → b ≡ 10 → ⊥
name_byte b h e = let z : ◌≡◌ {A = Bool} false true = sym (ap is_name_byte e) ∙ h in let y : ◌≡◌ {A = ℕ} 0 1 = cc in omega arith

name_free : (v : List ℕ) → AllByRecursion (λ b. is_name_byte b ≡ true) v → Free 10 v
name_free [] h = tt
name_free (x ∷ xs) h = (name_byte x h.0, name_free xs h.1)

pub name_whole : Whole name_of Named (λ v. v)
name_whole = record {
  to = λ v a h.
      let g = if_ok (leb 1 (length v) && (leb (length v) 16 && list_all is_name_byte v)) (Ok v) (Form 0) a h in
      let p = and_parts (leb 1 (length v)) (leb (length v) 16 && list_all is_name_byte v) g.0 in
      let q = and_parts (leb (length v) 16) (list_all is_name_byte v) p.1 in
      let e = same_ok v a g.1 in
      (subst Named e (record { some = leb-true 1 (length v) p.0; short = leb-true (length v) 16 q.0; plain = every_all is_name_byte v q.1 }), e);
  from = λ v h.
      let t = and_from (leb 1 (length v)) (leb (length v) 16 && list_all is_name_byte v) (le-leb 1 (length v) h.some)
      (and_from (leb (length v) 16) (list_all is_name_byte v) (le-leb (length v) 16 h.short) (all_every is_name_byte v h.plain)) in
      rw t;
  free = λ v h. name_free v h.plain;
  short = λ v h. omega (arith, h.short);
}

-- ---- the rows

automaton_lines_exact : (c : Counts) → c.states ≤ 100 → Exact (automaton_lines c) (GoodAutomaton c) automaton_text
automaton_lines_exact c s =
    named_exact automaton (λ (a : Automaton). (a.parent, a.initial)) _ _ _ (GoodAutomaton c)
    (both_exact 1 _ _ _ _ _ _ (one_exact parent_kind 3 c.states Under parent_exact (omega arith) s) (λ _ _.
    one_exact state_kind 2 c.states First state_exact (omega arith) s))
    (λ x h. refl) (λ a. refl)
    (λ x h. record { parent = h.0; initial = (bounds_to 0 c.states x.1.0 h.1).1 })
    (λ a h. (h.parent, bounds_from 0 c.states a.initial.0 (omega arith) h.initial))

state_lines_exact : (c : Counts) → c.automata ≤ 100 → Exact (state_lines c) (λ s. s.automaton.0 < c.automata) state_text
state_lines_exact c a =
    named_exact state (λ (s : State). s.automaton) _ _ _ (λ s. s.automaton.0 < c.automata)
    (one_exact automaton_kind 2 c.automata In automaton_exact (omega arith) a)
    (λ x h. refl) (λ s. refl) (λ x h. (bounds_to 0 c.automata x.0 h).1) (λ s h. bounds_from 0 c.automata s.automaton.0 (omega arith) h)

abbrev transition_parts : TransitionPlan → TransitionParts
transition_parts t = (t.source, (t.restriction, (t.trigger, (t.guard, (t.actions, (t.target, t.determinator))))))

transition_lines_exact : (c : Counts) → c.events ≤ 100 → c.states ≤ 100 → Exact (transition_lines c) (GoodTransition c) transition_text
transition_lines_exact c e s =
    named_exact transition transition_parts _ _ _ (GoodTransition c)
    (both_exact 1 _ _ _ _ _ _ (one_exact state_kind 2 c.states From state_exact (omega arith) s) (λ _ _.
    both_exact 1 _ _ _ _ _ _ (some_exact state_kind 2 8 c.states With state_exact (omega arith) s) (λ _ _.
    both_exact 1 _ _ _ _ _ _ (one_exact event_kind 2 c.events On event_exact (omega arith) e) (λ _ _.
    both_exact 1 _ _ _ _ _ _ (some_exact term_kind 3 8 c.states If term_exact (omega arith) s) (λ _ _.
    both_exact 1 _ _ _ _ _ _ (some_exact event_kind 2 8 c.events Do event_exact (omega arith) e) (λ _ _.
    both_exact 1 _ _ _ _ _ _ (one_exact state_kind 2 c.states To state_exact (omega arith) s) (λ _ _.
    some_exact state_kind 2 24 c.states Into state_exact (omega arith) s)))))))
    (λ x h. refl) (λ t. refl)
    (λ x h. record {
      source = (bounds_to 0 c.states x.0.0 h.0).1;
      restriction = h.1.0;
      trigger = (bounds_to 0 c.events x.1.1.0.0 h.1.1.0).1;
      guard = h.1.1.1.0;
      actions = h.1.1.1.1.0;
      target = (bounds_to 0 c.states x.1.1.1.1.1.0.0 h.1.1.1.1.1.0).1;
      determinator = h.1.1.1.1.1.1;
    })
    (λ t h. (
      bounds_from 0 c.states t.source.0 (omega arith) h.source,
      (
        h.restriction,
        (
          bounds_from 0 c.events t.trigger.0 (omega arith) h.trigger,
          (h.guard, (h.actions, (bounds_from 0 c.states t.target.0 (omega arith) h.target, h.determinator))),
        ),
      ),
    ))

-- ---- the whole

rows_exact : (c : Counts) (count : ℕ) → c.events ≤ 100 → c.automata ≤ 100 → c.states ≤ 100
    → Exact (rows c count) (λ x. ((length x.0 ≡ c.automata) × AllByRecursion (GoodAutomaton c) x.0)
    × (((length x.1.0 ≡ c.states) × AllByRecursion (λ s. s.automaton.0 < c.automata) x.1.0) × ((length x.1.1 ≡ count) × AllByRecursion (GoodTransition c) x.1.1)))
    (λ x. flat_map automaton_text x.0 ++ (flat_map state_text x.1.0 ++ flat_map transition_text x.1.1))
rows_exact c count e a s =
    both_exact (2 * c.automata) _ _ _ _ _ _ (times_exact 2 (automaton_lines c) (GoodAutomaton c) automaton_text (automaton_lines_exact c s) c.automata) (λ _ _.
    both_exact c.states _ _ _ _ _ _ (times_exact 1 (state_lines c) (λ s. s.automaton.0 < c.automata) state_text (state_lines_exact c a) c.states) (λ _ _.
    times_exact 7 (transition_lines c) (GoodTransition c) transition_text (transition_lines_exact c e s) count))

abbrev plan_parts : Plan → PlanParts
plan_parts p = (
  p.name,
  (
    positive_no p.events,
    (
      positive_no (length p.automata),
      (
        positive_no (length p.states),
        (
          natural_no (length p.transitions),
          (p.automata, (p.states, p.transitions)),
        ),
      ),
    ),
  ),
)

drawn_exact : Exact drawn Within text_of
drawn_exact =
    named_exact plan plan_parts _ _ _ Within
    (both_exact 1 _ _ _ _ _ _ (field_exact name_of Named (λ v. v) (key_text Chart) name_whole (key_free Chart) (key_short Chart)) (λ _ _.
    both_exact 1 _ _ _ _ _ _ (one_exact positive_kind 2 65 Events positive_exact (omega arith) (omega arith)) (λ e he.
    both_exact 1 _ _ _ _ _ _ (one_exact positive_kind 2 25 Automata positive_exact (omega arith) (omega arith)) (λ a ha.
    both_exact 1 _ _ _ _ _ _ (one_exact positive_kind 2 65 States positive_exact (omega arith) (omega arith)) (λ s hs.
    both_exact 1 _ _ _ _ _ _ (one_exact natural_kind 2 97 Transitions natural_exact (omega arith) (omega arith)) (λ t _.
    rows_exact (counted e a s) t.0 (omega (arith, (bounds_to 1 65 e.0 he).1)) (omega (arith, (bounds_to 1 25 a.0 ha).1)) (omega (arith, (bounds_to 1 65 s.0 hs).1))))))))
    (λ x h.
    let r = h.1.1.1.1.1 in
    let F : ℕ → ℕ → ℕ → PlanParts = λ a s t. (x.0, (x.1.0, (positive_no a, (positive_no s, (natural_no t, x.1.1.1.1.1))))) in
    ap (λ a. F a (length x.1.1.1.1.1.1.0) (length x.1.1.1.1.1.1.1)) r.0.0
    ∙ ap (λ s. F x.1.1.0.0 s (length x.1.1.1.1.1.1.1)) r.1.0.0
    ∙ ap (F x.1.1.0.0 x.1.1.1.0.0) r.1.1.0)
    (λ p. refl)
    (λ x h.
    let r = h.1.1.1.1.1 in
    let c : counted x.1.0 x.1.1.0 x.1.1.1.0 ≡ counts_of (plan x) =
    ap₂ (λ a s. record { events = x.1.0.0; automata = a; states = s }) (sym r.0.0) (sym r.1.0.0) in
    let e = bounds_to 1 65 x.1.0.0 h.1.0 in
    let a = bounds_to 1 25 x.1.1.0.0 h.1.1.0 in
    let s = bounds_to 1 65 x.1.1.1.0.0 h.1.1.1.0 in
    let t = bounds_to 0 97 x.1.1.1.1.0.0 h.1.1.1.1.0 in
    let la = r.0.0 in let ls = r.1.0.0 in let lt = r.1.1.0 in
    record {
      name = h.0;
      events = record { least = e.0; greatest = omega (arith, e.1) };
      automata = record { least = omega (arith, a.0); greatest = omega (arith, a.1) };
      states = record { least = omega (arith, s.0); greatest = omega (arith, s.1) };
      transitions = record { least = omega arith; greatest = omega (arith, t.1) };
      each_automaton = subst (λ w. AllByRecursion (GoodAutomaton w) x.1.1.1.1.1.0) c r.0.1;
      each_state = subst (λ w. AllByRecursion (λ s. s.automaton.0 < w) x.1.1.1.1.1.1.0) (sym la) r.1.0.1;
      each_transition = subst (λ w. AllByRecursion (GoodTransition w) x.1.1.1.1.1.1.1) c r.1.1.1;
    })
    (λ p h. (
      h.name,
      (
        bounds_from 1 65 p.events h.events.least (omega (arith, h.events.greatest)),
        (
          bounds_from 1 25 (length p.automata) h.automata.least (omega (arith, h.automata.greatest)),
          (
            bounds_from 1 65 (length p.states) h.states.least (omega (arith, h.states.greatest)),
            (
              bounds_from 0 97 (length p.transitions) (omega arith) (omega (arith, h.transitions.greatest)),
              ((refl, h.each_automaton), ((refl, h.each_state), (refl, h.each_transition))),
            ),
          ),
        ),
      ),
    ))

pub exactly : Exactly
exactly t p =
    let w = whole_text drawn Within text_of due_end drawn_exact t p in (
      λ h. let g = if_ok (leb (length t) 16384) (and_then (drawn 1 t) (λ x. ended (due_end x.0) x)) Oversize p h in
          let k = w.0 g.1 in record { limits = k.0; bytes = k.1; size = leb-true (length t) 16384 g.0 },
      λ h. let b = le-leb (length t) 16384 h.size in rw b (w.1 (h.limits, h.bytes)),
    )

pub gives_back : GivesBack
gives_back t p h = sym ((exactly t p).0 h).bytes

pub one_text : OneText
one_text t u p h k = ((exactly t p).0 h).bytes ∙ gives_back u p k
