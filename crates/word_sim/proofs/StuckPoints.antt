-- Where a stuck line shows: at the points that its changes reach, or at the one point that reads it.
use Rattle.std.proofs.Common.{◌≡◌, ℕ, ◌<◌, ◌≤◌, ◌≢◌, ◌⊎◌, Bool, true, false, cond, ltb, List, [], ◌∷◌, length, get_or, Option, refl, sym, ◌∙◌, ap, subst, inl, inr, arith, bit_xor}
use Rattle.std.specs.List.{Contains, list_any}
use Rattle.std.proofs.lemmas.Bool.{cases_eq, cases_lt, both_ways, and_parts, and_from, lt-ltb, ltb-true, false_from_ne_true, or_left, or_right, or_cases}
use Rattle.statement.specs.declared.lines.Fault.{Fault}
use Rattle.netlist.specs.Conditions.{IsSound}
use Rattle.statement.specs.Netlists.{Netlist, signals}
use Rattle.netlist.specs.Settled.{at}
use Rattle.statement.specs.Values.{is_line}
use Rattle.netlist.proofs.Lists.{contains_cases, contains_head, contains_nil, contains_tail}
use Rattle.events.specs.declared.trails.Change.{Change}
use Rattle.events.specs.Stuck.{IsObservedOnly}
use Rattle.events.specs.Trails.{AreChanges}
use Rattle.word_sim.specs.inner.Groups.{HoldChanges}
use Rattle.events.specs.Words.{bit_of, ones}
use Rattle.events.proofs.WordBits.{bit_of_xor}
use Rattle.word_sim.specs.inner.Differences.{shows, AreDifferences, AreShown, IsSole}
use Rattle.observed_points.specs.Points.{points, watched, AreFirst, IsReadAt}
use Rattle.observed_points.proofs.ObservedPoints.{line_in, signal_in, watched_count, watched_in}
use Rattle.observed_points.proofs.LineReads.{same_line, line_same, points_once, unread}
use Rattle.word_sim.proofs.WordDetection.{differ, differs}

pub differ_same : (b : Bool) → differ b b ≡ false
differ_same true = refl
differ_same false = refl

-- a list has a change of the signal, or none
change_of : (changes : List (Change ℕ)) (x : ℕ) → ((d : Change ℕ) × Contains changes d × (d.signal ≡ x)) ⊎ ((d : Change ℕ) → Contains changes d → d.signal ≢ x)
change_of [] x = inr (λ d m e. contains_nil d m)
change_of (c ∷ cs) x = elim (cases_eq c.signal x) [
  | inl e ↦ inl (c, contains_head c cs, e)
  | inr ne ↦ elim (change_of cs x) [
    | inl w ↦ inl (w.0, contains_tail c w.0 cs w.1, w.2)
    | inr none ↦ inr (λ d m e. elim (contains_cases c d cs m) [
      | inl is ↦ ne (ap (λ (b : Change ℕ). b.signal) is ∙ e)
      | inr later ↦ none d later e
    ])
  ]
]

any_of : {X : Type 0} (p : X → Bool) (xs : List X) (x : X) → Contains xs x → p x ≡ true → list_any p xs ≡ true
any_of p [] x m h = absurd (contains_nil x m)
any_of p (y ∷ ys) x m h = elim (contains_cases y x ys m) [
  | inl is ↦ or_left (p y) (list_any p ys) (ap p is ∙ h)
  | inr later ↦ or_right (p y) (list_any p ys) (any_of p ys x later h)
]

any_from : {X : Type 0} (p : X → Bool) (xs : List X) → list_any p xs ≡ true → (x : X) × Contains xs x × (p x ≡ true)
any_from p [] h = absurd (both_ways false refl h)
any_from p (y ∷ ys) h = elim (or_cases (p y) (list_any p ys) h) [
  | inl here ↦ (y, contains_head y ys, here)
  | inr later ↦ let w = any_from p ys later in (w.0, contains_tail y w.0 ys w.1, w.2)
]

-- what a trail lists
pub held : (old new : List ℕ) (changes : List (Change ℕ)) → AreChanges old new changes → HoldChanges old new changes
held old new changes h = record { before = h.before; others = h.others }

module _ (n : Netlist) (sound : IsSound n) where
  module _ (f : Fault) (good faulty : List ℕ) where
    -- at a point whose line isn't stuck
    plain : (c j : ℕ) → is_line f.line (line_in n sound c) ≡ false
        → differs n sound f (at good 0) (at faulty 0) c j ≡ bit_of j (bit_xor (at good 0 (signal_in n sound c)) (at faulty 0 (signal_in n sound c)))
    plain c j e =
        ap (λ b. differ (bit_of j (at good 0 (signal_in n sound c))) (bit_of j (cond b (cond f.value ones 0) (at faulty 0 (signal_in n sound c))))) e
        ∙ sym (bit_of_xor (at good 0 (signal_in n sound c)) (at faulty 0 (signal_in n sound c)) j)

    module _ (changes : List (Change ℕ)) (are : HoldChanges good faulty changes) (size : length good ≡ length (signals n)) (seen first : List ℕ) (seen_is : seen ≡ watched n)
        (first_is : AreFirst seen (length (signals n)) 0 first) (enters : ¬ IsObservedOnly n f.line) where
      count : length seen ≡ length (points n)
      count = ap length seen_is ∙ watched_count n sound

      seen_in : (c : ℕ) → c < length (points n) → get_or seen c 0 ≡ signal_in n sound c
      seen_in c l = ap (λ (xs : List ℕ). get_or xs c 0) seen_is ∙ watched_in n sound c l

      -- a change that shows is a difference at a point
      shown_differs : (d : Change ℕ) (j : ℕ) → Contains changes d → shows first (length seen) faulty j d ≡ true
          → (get_or first d.signal 0 < length (points n)) × (differs n sound f (at good 0) (at faulty 0) (get_or first d.signal 0) j ≡ true)
      shown_differs d j m s =
          let parts = and_parts (ltb (get_or first d.signal 0) (length seen)) (bit_of j (bit_xor d.before (get_or faulty d.signal 0))) s in
          let l = ltb-true (get_or first d.signal 0) (length seen) parts.0 in
          let k = count in
          let low : get_or first d.signal 0 < length (points n) = omega arith in
          let b = are.before d 0 m in
          let in' : d.signal < length (signals n) = subst (λ y. d.signal < y) size b.0 in
          let x : signal_in n sound (get_or first d.signal 0) ≡ d.signal = sym (seen_in (get_or first d.signal 0) low) ∙ (first_is.each d.signal in').here l in (
            low,
            plain (get_or first d.signal 0) j (unread n sound f.line enters (get_or first d.signal 0) low)
                ∙ (ap (λ y. bit_of j (bit_xor (at good 0 y) (at faulty 0 y))) x ∙ (ap (λ v. bit_of j (bit_xor v (at faulty 0 d.signal))) (sym b.1) ∙ parts.1)),
          )

      -- a difference at a point is a change that shows there or before
      differs_shown : (c j : ℕ) → c < length (points n) → differs n sound f (at good 0) (at faulty 0) c j ≡ true
          → (d : Change ℕ) × Contains changes d × (shows first (length seen) faulty j d ≡ true) × (get_or first d.signal 0 ≤ c)
      differs_shown c j l h =
          let x = signal_in n sound c in
          let bit : bit_of j (bit_xor (at good 0 (signal_in n sound c)) (at faulty 0 (signal_in n sound c))) ≡ true = sym (plain c j (unread n sound f.line enters c l)) ∙ h in
          elim (change_of changes (signal_in n sound c)) [
            | inr none ↦
                let same : at faulty 0 (signal_in n sound c) ≡ at good 0 (signal_in n sound c) = are.others (signal_in n sound c) 0 none in
                absurd (both_ways (differ (bit_of j (at good 0 (signal_in n sound c))) (bit_of j (at good 0 (signal_in n sound c)))) (differ_same (bit_of j (at good 0 (signal_in n sound c))))
                (sym (bit_of_xor (at good 0 (signal_in n sound c)) (at good 0 (signal_in n sound c)) j) ∙ (ap (λ v. bit_of j (bit_xor (at good 0 (signal_in n sound c)) v)) (sym same) ∙ bit)))
            | inl w ↦
                let d = w.0 in
                let b = are.before w.0 0 w.1 in
                let in' : w.0.signal < length (signals n) = subst (λ y. w.0.signal < y) size b.0 in
                let o = first_is.each w.0.signal in' in
                let k = count in
                let most = o.bounded in
                let at_c : get_or seen c 0 ≡ w.0.signal = seen_in c l ∙ sym w.2 in
                let low : get_or first w.0.signal 0 ≤ c = elim (cases_lt c (get_or first w.0.signal 0)) [
                  | inl below ↦ absurd (o.before c (omega arith) below at_c)
                  | inr high ↦ high
                ] in (
                  w.0,
                  w.1,
                  and_from (ltb (get_or first w.0.signal 0) (length seen)) (bit_of j (bit_xor w.0.before (get_or faulty w.0.signal 0))) (lt-ltb (get_or first w.0.signal 0) (length seen) (omega arith))
                      (ap (λ v. bit_of j (bit_xor v (at faulty 0 w.0.signal))) b.1 ∙ (ap (λ y. bit_of j (bit_xor (at good 0 y) (at faulty 0 y))) w.2 ∙ bit)),
                  low,
                )
          ]

      not_shown : (j c : ℕ) → list_any (shows first (length seen) faulty j) changes ≡ false → c < length (points n) → differs n sound f (at good 0) (at faulty 0) c j ≡ false
      not_shown j c none l = false_from_ne_true (differs n sound f (at good 0) (at faulty 0) c j) (λ h.
          let w = differs_shown c j l h in
          both_ways (list_any (shows first (length seen) faulty j) changes) none (any_of (shows first (length seen) faulty j) changes w.0 w.1 w.2))

      pub stuck_differences : (used : ℕ) (found : Option (ℕ × ℕ)) → AreShown first (length seen) faulty used changes found
          → AreDifferences (length (points n)) (differs n sound f (at good 0) (at faulty 0)) used found
      stuck_differences used found h = record {
        none = λ e j c l u k. not_shown j c (h.none e j l u) k;
        some = λ j c e.
            let s = h.some j c e in
            let any = any_from (shows first (length seen) faulty j) changes s.2 in
            let least = s.3.lower any.0 any.1 any.2 in
            let low = (shown_differs any.0 j any.1 any.2).0 in
            let k = count in
            elim s.3.some [
              | inl none ↦ absurd (omega arith)
              | inr w ↦
                  let d = shown_differs w.0 j w.1 w.2 in (
                    s.0,
                    s.1,
                    subst (λ i. i < length (points n)) w.3 d.0,
                    subst (λ i. differs n sound f (at good 0) (at faulty 0) i j ≡ true) w.3 d.1,
                    λ i below. false_from_ne_true (differs n sound f (at good 0) (at faulty 0) i j) (λ t.
                        let i< : i < length (points n) = (let dl : get_or first w.0.signal 0 < length (points n) = d.0 in let we : get_or first w.0.signal 0 ≡ c = w.3 in omega arith) in
                        let v = differs_shown i j i< t in
                        let lo = s.3.lower v.0 v.1 v.2 in
                        let hi = v.3 in
                        omega arith),
                    λ i e' later low' u k'. not_shown i e' (s.4 i later low' u) k',
                  )
            ];
      }

  -- a line that one point alone reads
  pub sole_differences : (f : Fault) (good : List ℕ) (number used : ℕ) (found : Option (ℕ × ℕ)) → IsReadAt n f.line number → IsSole (bit_xor (at good 0 (signal_in n sound number)) (cond f.value ones 0)) used number found
      → AreDifferences (length (points n)) (differs n sound f (at good 0) (at good 0)) used found
  sole_differences f good number used found r h =
      let here : (j : ℕ) → differs n sound f (at good 0) (at good 0) number j ≡ bit_of j (bit_xor (at good 0 (signal_in n sound number)) (cond f.value ones 0)) =
      λ j. ap (λ b. differ (bit_of j (at good 0 (signal_in n sound number))) (bit_of j (cond b (cond f.value ones 0) (at good 0 (signal_in n sound number)))))
      (ap (is_line f.line) r.here ∙ line_same f.line)
      ∙ sym (bit_of_xor (at good 0 (signal_in n sound number)) (cond f.value ones 0) j) in
      let other : (c j : ℕ) → c < length (points n) → c ≢ number → differs n sound f (at good 0) (at good 0) c j ≡ false =
      λ c j l ne. ap (λ b. differ (bit_of j (at good 0 (signal_in n sound c))) (bit_of j (cond b (cond f.value ones 0) (at good 0 (signal_in n sound c)))))
      (false_from_ne_true (is_line f.line (line_in n sound c)) (λ t. ne (points_once n sound c number l r.within (sym (same_line f.line (line_in n sound c) t) ∙ sym r.here))))
      ∙ differ_same (bit_of j (at good 0 (signal_in n sound c))) in
      let at_all : (c j : ℕ) → c < length (points n) → bit_of j (bit_xor (at good 0 (signal_in n sound number)) (cond f.value ones 0)) ≡ false → differs n sound f (at good 0) (at good 0) c j ≡ false =
      λ c j l none. elim (cases_eq c number) [
        | inl e ↦ ap (λ i. differs n sound f (at good 0) (at good 0) i j) e ∙ (here j ∙ none)
        | inr ne ↦ other c j l ne
      ] in
      record {
        none = λ e j c l u k. at_all c j k (h.none e j l u);
        some = λ j c e.
            let s = h.some j c e in
            let same : c ≡ number = s.2 in (
              s.0,
              s.1,
              subst (λ i. i < length (points n)) (sym s.2) r.within,
              ap (λ i. differs n sound f (at good 0) (at good 0) i j) s.2 ∙ (here j ∙ s.3),
              λ i below. let w = r.within in other i j (omega arith) (λ e'. omega arith),
              λ i e' later low u k. at_all e' i k (s.4 i later low u),
            );
      }
