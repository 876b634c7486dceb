-- The key of the strobe at which a pattern first shows a fault, by what the stuck line changes, or by the one point that reads it.
use Rattle.std.proofs.Common.{◌≡◌, ◌≢◌, ℕ, ◌<◌, ◌≤◌, ◌⊎◌, true, false, cond, ltb, List, [], ◌∷◌, length, get_or, Some, None, slice_get, bit_xor, sym, ◌∙◌, ap, subst, inl, inr, arith}
use Rattle.std.specs.List.{Contains}
use Rattle.std.proofs.lemmas.Bool.{and_from, and_parts, both_ways, cases_eq, false_from_ne_true, lt-ltb, ltb-true}
use Rattle.statement.specs.declared.lines.Fault.{Fault}
use Rattle.statement.specs.declared.lines.Point.{Point}
use Rattle.statement.specs.Netlists.{Netlist, signals}
use Rattle.statement.specs.Patterns.{Detects, Pattern}
use Rattle.statement.specs.Values.{Settles, is_line}
use Rattle.netlist.specs.Conditions.{IsSound}
use Rattle.netlist.specs.Settled.{at}
use Rattle.netlist.proofs.Lists.{contains_cases, contains_head, contains_nil, contains_tail}
use Rattle.events.specs.declared.trails.Change.{Change}
use Rattle.events.specs.Standing.{SettlesOver}
use Rattle.events.specs.Stuck.{IsObservedOnly}
use Rattle.events.specs.Trails.{AreChanges}
use Rattle.events.specs.Words.{bit_of, ones, words, word_table}
use Rattle.events.proofs.Standing.{observed_settles}
use Rattle.events.proofs.WordBits.{bit_of_xor}
use Rattle.observed_points.specs.Points.{IsReadAt, point_of, points}
use Rattle.observed_points.proofs.LineReads.{points_once, same_line, unread}
use Rattle.observed_points.proofs.ObservedPoints.{line_in, signal_in}
use Rattle.word_sim.specs.inner.Differences.{IsFirstShown, shows}
use Rattle.word_sim.specs.inner.Packed.{AreGoodFor}
use Rattle.word_sim.proofs.StuckPoints.{differ_same}
use Rattle.word_sim.proofs.WordDetection.{detects_differs, differ, differs, differs_detects}
use Rattle.grade.specs.inner.Keys.{AreLeastKeys, IsFirstKey, IsKeyOf, most_key, signal_at}
use Rattle.grade.specs.inner.Spotting.{IsSpotted}

-- a list has a change of the signal, or none
change_of : (changes : List (Change ℕ)) (x : ℕ) → ((d : Change ℕ) × Contains changes d × (d.signal ≡ x)) ⊎ ((d : Change ℕ) → Contains changes d → d.signal ≢ x)
change_of [] x = inr (λ d m e. contains_nil d m)
change_of (c ∷ cs) x = elim (cases_eq c.signal x) [
  | inl e ↦ inl (c, contains_head c cs, e)
  | inr ne ↦ elim (change_of cs x) [
    | inl w ↦ inl (w.0, contains_tail c w.0 cs w.1, w.2)
    | inr none ↦ inr (λ d m e. elim (contains_cases c d cs m) [
      | inl is ↦ ne (ap (λ (b : Change ℕ). b.signal) is ∙ e)
      | inr later ↦ none d later e
    ])
  ]
]

module _ (n : Netlist) (sound : IsSound n) (chains : List (List ℕ)) (f : Fault) (values : List ℕ) (j : ℕ) (low : j < 64) where
  -- ---- by what changes

  -- where the words with the fault differ at points as these others do, of which it is known what changed
  module _ (keys : List ℕ) (are : AreLeastKeys n chains (length (points n)) keys) (new : List ℕ) (changes : List (Change ℕ)) (size : length values ≡ length (signals n))
      (changed : AreChanges values new changes) (key : ℕ) (first : IsFirstShown keys most_key new j changes key) (faulty : ℕ → ℕ)
      (plain : (c : ℕ) → c < length (points n) → differs n sound f (at values 0) faulty c j ≡ bit_of j (bit_xor (at values 0 (signal_in n sound c)) (at new 0 (signal_in n sound c)))) where
    -- a point that differs has no lesser key
    differs_key : (c : ℕ) → c < length (points n) → differs n sound f (at values 0) faulty c j ≡ true → (k : ℕ) × IsKeyOf n chains (point_of n c) k × (key ≤ k)
    differs_key c l h =
        let x = signal_in n sound c in
        let bit : bit_of j (bit_xor (at values 0 (signal_in n sound c)) (at new 0 (signal_in n sound c))) ≡ true = sym (plain c l) ∙ h in
        let w = are.lower c l in
        let small = w.1.small in
        let most = w.2 in
        elim (change_of changes (signal_in n sound c)) [
          | inr none ↦
              let same : at new 0 (signal_in n sound c) ≡ at values 0 (signal_in n sound c) = changed.others (signal_in n sound c) 0 none in
              absurd (both_ways (differ (bit_of j (at values 0 (signal_in n sound c))) (bit_of j (at values 0 (signal_in n sound c)))) (differ_same (bit_of j (at values 0 (signal_in n sound c))))
              (sym (bit_of_xor (at values 0 (signal_in n sound c)) (at values 0 (signal_in n sound c)) j) ∙ (ap (λ v. bit_of j (bit_xor (at values 0 (signal_in n sound c)) v)) (sym same) ∙ bit)))
          | inl d ↦
              let b = changed.before d.0 0 d.1 in
              let here : get_or keys d.0.signal 0 ≡ get_or keys (signal_at n c) 0 = ap (λ y. get_or keys y 0) d.2 in
              let below : get_or keys d.0.signal 0 < most_key = omega (arith, here, small, most) in
              let shown : shows keys most_key new j d.0 ≡ true =
              and_from (ltb (get_or keys d.0.signal 0) most_key) (bit_of j (bit_xor d.0.before (get_or new d.0.signal 0))) (lt-ltb (get_or keys d.0.signal 0) most_key below)
              (ap (λ v. bit_of j (bit_xor v (at new 0 d.0.signal))) b.1 ∙ (ap (λ y. bit_of j (bit_xor (at values 0 y) (at new 0 y))) d.2 ∙ bit)) in
              let lo = first.lower d.0 d.1 shown in
              (w.0, w.1, omega (arith, lo, here, most))
        ]

    -- the key is that of a point that differs, or the greatest number
    key_differs : (key ≡ most_key) ⊎ ((c : ℕ) × (c < length (points n)) × (differs n sound f (at values 0) faulty c j ≡ true) × IsKeyOf n chains (point_of n c) key)
    key_differs = elim first.some [
      | inl e ↦ inl e
      | inr w ↦
          let d = w.0 in
          let parts = and_parts (ltb (get_or keys w.0.signal 0) most_key) (bit_of j (bit_xor w.0.before (get_or new w.0.signal 0))) w.2 in
          let below = ltb-true (get_or keys w.0.signal 0) most_key parts.0 in
          let b = changed.before w.0 0 w.1 in
          let inside : w.0.signal < length keys = (let s = are.size in let l = b.0 in omega (arith, s, l, size)) in
          elim (are.some w.0.signal inside) [
            | inl e ↦ absurd (omega (arith, e, below))
            | inr p ↦ inr (
              p.0,
              p.1,
              plain p.0 p.1
                  ∙ (ap (λ y. bit_of j (bit_xor (at values 0 y) (at new 0 y))) p.2 ∙ (ap (λ v. bit_of j (bit_xor v (at new 0 w.0.signal))) (sym b.1) ∙ parts.1)),
              subst (IsKeyOf n chains (point_of n p.0)) w.3 p.3,
            )
          ]
    ]

    pub first_key : (patterns : List Pattern) (p : Pattern) (good : AreGoodFor n patterns values) → slice_get patterns j ≡ Some p
        → Settles (words (Some f)) n good.inputs good.state faulty → IsFirstKey n chains f p key
    first_key patterns p good here faulty_settles =
        let ins = good.inputs_are j p here in
        let cells = good.state_are j p here in
        let lower : (point : Point) → Detects n f p.inputs p.cells point → (k : ℕ) × IsKeyOf n chains point k × (key ≤ k) =
        λ point t.
        let w = detects_differs n sound f (at values 0) faulty good.inputs good.state (good.settles 0) faulty_settles j low p ins cells point t in
        let k = differs_key w.0 w.1 w.3 in
        (k.0, subst (λ q. IsKeyOf n chains q k.0) (sym w.2) k.1, k.2) in
        record {
          lower = lower;
          some = λ point t. elim key_differs [
            | inl e ↦ let k = lower point t in absurd (let s = k.1.small in let l = k.2 in omega (arith, e, s, l))
            | inr w ↦ (
              point_of n w.0,
              differs_detects n sound f (at values 0) faulty good.inputs good.state (good.settles 0) faulty_settles j low p ins cells w.0 w.1 w.2,
              w.3,
            )
          ];
        }

  -- by the stuck line, put onto the words: at no point is the line read alone
  module _ (keys : List ℕ) (are : AreLeastKeys n chains (length (points n)) keys) (faulty : List ℕ) (changes : List (Change ℕ)) (size : length values ≡ length (signals n))
      (enters : ¬ IsObservedOnly n f.line) (changed : AreChanges values faulty changes) (over : SettlesOver (words None) (words (Some f)) n values faulty) (key : ℕ)
      (first : IsFirstShown keys most_key faulty j changes key) where
    unstuck : (c : ℕ) → c < length (points n) → differs n sound f (at values 0) (at faulty 0) c j ≡ bit_of j (bit_xor (at values 0 (signal_in n sound c)) (at faulty 0 (signal_in n sound c)))
    unstuck c l =
        ap (λ b. differ (bit_of j (at values 0 (signal_in n sound c))) (bit_of j (cond b (cond f.value ones 0) (at faulty 0 (signal_in n sound c))))) (unread n sound f.line enters c l)
        ∙ sym (bit_of_xor (at values 0 (signal_in n sound c)) (at faulty 0 (signal_in n sound c)) j)

    pub stuck_spotted : IsSpotted n chains values f j key
    stuck_spotted patterns p good here =
        first_key keys are faulty changes size changed key first (at faulty 0) unstuck patterns p good here (over.each good.inputs good.state 0 (good.settles 0))

  -- ---- by the one point that reads the line

  pub sole_spotted : (number key : ℕ) → IsReadAt n f.line number → IsKeyOf n chains (point_of n number) key → IsSpotted n chains values f j key
  sole_spotted number key r is patterns p good here =
      let ins = good.inputs_are j p here in
      let cells = good.state_are j p here in
      let faulty_settles = (observed_settles word_table f n values r.only).each good.inputs good.state 0 (good.settles 0) in
      let there : (point : Point) → Detects n f p.inputs p.cells point → point ≡ point_of n number =
      λ point t.
      let w = detects_differs n sound f (at values 0) (at values 0) good.inputs good.state (good.settles 0) faulty_settles j low p ins cells point t in
      w.2 ∙ ap (point_of n) (elim (cases_eq w.0 number) [
        | inl e ↦ e
        | inr ne ↦
            let apart : is_line f.line (line_in n sound w.0) ≡ false =
            false_from_ne_true (is_line f.line (line_in n sound w.0)) (λ e. ne (points_once n sound w.0 number w.1 r.within (sym (same_line f.line (line_in n sound w.0) e) ∙ sym r.here))) in
            absurd (both_ways (differ (bit_of j (at values 0 (signal_in n sound w.0))) (bit_of j (at values 0 (signal_in n sound w.0)))) (differ_same (bit_of j (at values 0 (signal_in n sound w.0))))
            (sym (ap (λ b. differ (bit_of j (at values 0 (signal_in n sound w.0))) (bit_of j (cond b (cond f.value ones 0) (at values 0 (signal_in n sound w.0))))) apart) ∙ w.3))
      ]) in
      record {
        lower = λ point t. (key, subst (λ q. IsKeyOf n chains q key) (sym (there point t)) is, omega arith);
        some = λ point t. (point, t, subst (λ q. IsKeyOf n chains q key) (sym (there point t)) is);
      }
