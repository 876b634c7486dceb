-- The words of two frames say which patterns detect a transition fault.
use Rattle.std.proofs.Common.{◌≡◌, ℕ, zero, suc, ◌+◌, ◌-◌, ◌<◌, Bool, true, false, not, cond, ◌&&◌, List, [], ◌∷◌, ◌++◌, map, length, get_or, take, drop, length-drop, Option, Some, None, refl, sym, ◌∙◌, ap, subst, arith, bit_and, bit_xor}
use Rattle.std.specs.Bool.{beq}
use Rattle.std.specs.List.{All, AllZip, Contains, flat_map, slice_get}
use Rattle.std.proofs.lemmas.Bool.{and_parts, and_from, lt-ltb, ltb-true}
use Rattle.std.proofs.lemmas.List.{drop_at, take_all}
use Rattle.std.proofs.lemmas.List.Elements.{All-contains, Contains-get_or}
use Rattle.statement.specs.declared.lines.Fault.{Fault}
use Rattle.statement.specs.declared.lines.Line.TheVariants.{Stem}
use Rattle.statement.specs.declared.lines.Point.{Point}
use Rattle.netlist.specs.Conditions.{IsSound}
use Rattle.statement.specs.Patterns.{Detects, Pattern, IsDetectedAt}
use Rattle.netlist.specs.Lines.{IsLineOf}
use Rattle.statement.specs.Netlists.{Definition, Netlist, is_cell, cells, signals}
use Rattle.statement.specs.Values.{Settles, bits, on_pins, pins_of, next}
use Rattle.netlist.specs.Settled.{at}
use Rattle.netlist.proofs.Alike.{settles_once}
use Rattle.netlist.proofs.Lists.{All-from_contains, contains_filter, contains_map, contains_head, contains_tail, decides_beq, map_map}
use Rattle.netlist.proofs.Placed.{signal_below}
use Rattle.netlist.proofs.WellFormed.{one_pin}
use Rattle.events.specs.Words.{bit_of, ones}
use Rattle.events.proofs.WordBits.{bit_of_and, bit_of_xor, bit_line, words_as_bits}
use Rattle.word_sim.specs.Hits.{LastDetected, LastMarked}
use Rattle.word_sim.specs.inner.Packed.{AreGoodFor, IsMarked, IsUsed}
use Rattle.observed_points.specs.Points.{watched}
use Rattle.word_sim.proofs.WordDetection.{some_below}
use Rattle.transition_frames.specs.Frames.{source_of, frames_of, frame_fault}
use Rattle.transition_frames.specs.Transition.{DetectsTransition}
use Rattle.transition_frames.proofs.Detecting.{frames_detect, next_agree}
use Rattle.transition_frames.proofs.Sources.{source_is_signal}
use Rattle.transition_sim.specs.inner.Launches.{inputs_again, taken, state_after, AreSecond, IsLaunched}

-- ---- the word of a launch

bit_known : (j : ℕ) → j < 64 → (v : Bool) → bit_of j (cond v ones 0) ≡ v
bit_known j l v = bit_line j l (Some (record { line = Stem 0; value = v })) (Stem 0) 0

chosen : (w v : Bool) → cond (cond w (not v) v) (not true) true ≡ beq w v
chosen true true = refl
chosen true false = refl
chosen false true = refl
chosen false false = refl

pub launch_bit : (j : ℕ) → j < 64 → (used word : ℕ) (v : Bool) → bit_of j (bit_and used (bit_xor (bit_xor word (cond v ones 0)) ones)) ≡ (bit_of j used && beq (bit_of j word) v)
launch_bit j l used word v =
    bit_of_and used (bit_xor (bit_xor word (cond v ones 0)) ones) j
    ∙ ap (λ b. bit_of j used && b)
    (bit_of_xor (bit_xor word (cond v ones 0)) ones j
    ∙ (ap (λ b. cond (bit_of j (bit_xor word (cond v ones 0))) (not b) b) (bit_known j l true)
    ∙ (ap (λ b. cond b (not true) true) (bit_of_xor word (cond v ones 0) j ∙ ap (λ b. cond (bit_of j word) (not b) b) (bit_known j l v))
    ∙ chosen (bit_of j word) v)))

pub is_launched : (n : Netlist) (f : Fault) (first : List ℕ) (used word result : ℕ) → word ≡ at first 0 (source_of n f.line)
    → result ≡ bit_and used (bit_xor (bit_xor word (cond f.value ones 0)) ones) → IsLaunched n f first used result
is_launched n f first used word result here is =
    let bit : (j : ℕ) → j < 64 → bit_of j result ≡ (bit_of j used && beq (bit_of j (at first 0 (source_of n f.line))) f.value) =
    λ j l. ap (bit_of j) is ∙ (launch_bit j l used word f.value ∙ ap (λ w. bit_of j used && beq (bit_of j w) f.value) here) in
    record {
      uses = λ j l e. (and_parts (bit_of j used) (beq (bit_of j (at first 0 (source_of n f.line))) f.value) (sym (bit j l) ∙ e)).0;
      has = λ j l e. (decides_beq (bit_of j (at first 0 (source_of n f.line))) f.value).0
          (and_parts (bit_of j used) (beq (bit_of j (at first 0 (source_of n f.line))) f.value) (sym (bit j l) ∙ e)).1;
      all = λ j l u h. bit j l ∙ and_from (bit_of j used) (beq (bit_of j (at first 0 (source_of n f.line))) f.value) u ((decides_beq (bit_of j (at first 0 (source_of n f.line))) f.value).1 h);
    }

-- ---- what the cells take, by their pins

only_pin : (pins : List ℕ) → length pins ≡ 1 → (p : ℕ) × (pins ≡ p ∷ [])
only_pin [] e = absurd (omega (arith, e))
only_pin (p ∷ []) e = (p, refl)
only_pin (p ∷ q ∷ ps) e = absurd (omega (arith, e))

pins_taken : (a : ℕ → Bool) (ds : List Definition) → ((d : Definition) → Contains ds d → length d.pins ≡ 1)
    → flat_map (pins_of (bits None) a) ds ≡ map (λ (d : Definition). a (get_or d.pins 0 0)) ds
pins_taken a [] h = refl
pins_taken a (d ∷ ds) h =
    let w = only_pin d.pins (h d (contains_head d ds)) in
    let here : pins_of (bits None) a d ≡ a (get_or d.pins 0 0) ∷ [] =
    ap (λ (ps : List ℕ). on_pins (bits None) d.id 0 (map a ps)) w.1 ∙ ap (λ (ps : List ℕ). a (get_or ps 0 0) ∷ []) (sym w.1) in
    ap (λ r. r ++ flat_map (pins_of (bits None) a) ds) here
    ∙ ap (λ r. a (get_or d.pins 0 0) ∷ r) (pins_taken a ds (λ e c. h e (contains_tail d e ds c)))

pub next_by_pins : (n : Netlist) → IsSound n → (a : ℕ → Bool) → next (bits None) n a ≡ map (λ (d : Definition). a (get_or d.pins 0 0)) (cells n)
next_by_pins n sound a = pins_taken a (cells n) (λ d c. All-contains (λ (r : Definition). length r.pins ≡ 1) (cells n) d (one_pin n sound.closed) c)

driven : (a : ℕ → Bool) (xs : List ℕ) (vs : List Bool) → AllZip (λ x v. a x ≡ v) xs vs → map a xs ≡ vs
driven a [] [] h = refl
driven a [] (v ∷ vs) h = absurd h
driven a (x ∷ xs) [] h = absurd h
driven a (x ∷ xs) (v ∷ vs) h = ap (λ w. w ∷ map a xs) h.0 ∙ ap (λ ws. v ∷ ws) (driven a xs vs h.1)

-- ---- the second patterns

-- bit j of the words
abbrev pub bits_at : List ℕ → ℕ → ℕ → Bool
bits_at first j x = bit_of j (at first 0 x)

-- what a pattern is in the second frame
abbrev pub again : Netlist → List ℕ → ℕ → Pattern → Pattern
again n first j p = record { inputs = p.inputs; cells = map (λ (d : Definition). bit_of j (at first 0 (get_or d.pins 0 0))) (cells n) }

abbrev pub all_again : Netlist → List ℕ → ℕ → List Pattern → List Pattern
all_again n first j [] = []
all_again n first j (p ∷ ps) = again n first j p ∷ all_again n first (j + 1) ps

again_at : (n : Netlist) (first : List ℕ) (i j : ℕ) (ps : List Pattern) (q : Pattern) → slice_get (all_again n first i ps) j ≡ Some q
    → (p : Pattern) × (slice_get ps j ≡ Some p) × (q ≡ again n first (i + j) p)
again_at n first i j [] q e = cc
again_at n first i zero (p ∷ ps) q e = (p, refl, some_same q (again n first i p) (sym e) ∙ ap (λ k. again n first k p) (let s : i ≡ i + 0 = omega arith in s))
  where
    some_same : (x y : Pattern) → Some x ≡ Some y → x ≡ y
    some_same x y e = cc
again_at n first i (suc j) (p ∷ ps) q e =
    let w = again_at n first (i + 1) j ps q e in
    (w.0, w.1, w.2 ∙ ap (λ k. again n first k w.0) (let s : i + 1 + j ≡ i + suc j = omega arith in s))

again_there : (n : Netlist) (first : List ℕ) (i j : ℕ) (ps : List Pattern) (p : Pattern) → slice_get ps j ≡ Some p → slice_get (all_again n first i ps) j ≡ Some (again n first (i + j) p)
again_there n first i j [] p e = cc
again_there n first i zero (x ∷ ps) p e =
    ap (λ (y : Pattern). Some (again n first i y)) (some_same x p e) ∙ ap (λ k. Some (again n first k p)) (let s : i ≡ i + 0 = omega arith in s)
  where
    some_same : (x y : Pattern) → Some x ≡ Some y → x ≡ y
    some_same x y e = cc
again_there n first i (suc j) (x ∷ ps) p e = again_there n first (i + 1) j ps p e ∙ ap (λ k. Some (again n first k p)) (let s : i + 1 + j ≡ i + suc j = omega arith in s)

again_count : (n : Netlist) (first : List ℕ) (i : ℕ) (ps : List Pattern) → length (all_again n first i ps) ≡ length ps
again_count n first i [] = refl
again_count n first i (p ∷ ps) = ap suc (again_count n first (i + 1) ps)

-- ---- what is marked in the second frame

module _ (n : Netlist) (sound : IsSound n) (patterns : List Pattern) (first second : List ℕ) (good : AreGoodFor n patterns first) (behind : AreSecond n first second) where
  -- the first frame settles
  first_settles : (j : ℕ) (p : Pattern) → slice_get patterns j ≡ Some p → Settles (bits None) n p.inputs p.cells (bits_at first j)
  first_settles j p e =
      let l = some_below patterns j p e in
      let few = good.few in
      subst (λ (s : List Bool). Settles (bits None) n p.inputs s (bits_at first j)) (good.state_are j p e)
      (subst (λ (i : List Bool). Settles (bits None) n i (map (bit_of j) good.state) (bits_at first j)) (good.inputs_are j p e)
      (words_as_bits j (omega arith) None n good.inputs good.state (at first 0) (good.settles 0)))

  pub second_good : AreGoodFor n (all_again n first 0 patterns) second
  second_good = record {
    few = omega (arith, again_count n first 0 patterns, good.few);
    inputs = inputs_again n first;
    state = state_after n first;
    inputs_are = λ j q e.
        let w = again_at n first 0 j patterns q e in
        map_map (at first 0) (bit_of j) n.inputs
        ∙ (driven (bits_at first j) n.inputs w.0.inputs (first_settles j w.0 w.1).0 ∙ sym (ap (λ (p : Pattern). p.inputs) w.2));
    state_are = λ j q e.
        let w = again_at n first 0 j patterns q e in
        let same : 0 + j ≡ j = omega arith in
        map_map (at first 0) (bit_of j) (taken n)
        ∙ (map_map (λ (d : Definition). get_or d.pins 0 0) (bits_at first j) (cells n)
        ∙ sym (ap (λ (p : Pattern). p.cells) (w.2 ∙ ap (λ k. again n first k w.0) same)));
    settles = behind.settles;
  }

  module _ (f : Fault) (valid : IsLineOf n f.line) (used marks : ℕ) (is_used : IsUsed (length patterns) used) (launched : IsLaunched n f first used marks) where
    pub marks_marked : IsMarked (length (all_again n first 0 patterns)) marks
    marks_marked j l e =
        let u = launched.uses j l e in
        let b : j < length patterns = ltb-true j (length patterns) (sym (is_used j l) ∙ u) in
        omega (arith, again_count n first 0 patterns)

    -- a pattern that is marked and whose second frame detects the stuck line detects the transition fault
    to_frames : (j : ℕ) (q : Point) → bit_of j marks ≡ true → IsDetectedAt n (all_again n first 0 patterns) f j q → IsDetectedAt (frames_of n f) patterns (frame_fault n f) j q
    to_frames j q marked h =
        let w = again_at n first 0 j patterns h.pattern h.at in
        let same : 0 + j ≡ j = omega arith in
        let l = some_below patterns j w.0 w.1 in
        let few = good.few in
        let state : h.pattern.cells ≡ next (bits None) n (bits_at first j) =
        ap (λ (p : Pattern). p.cells) (w.2 ∙ ap (λ k. again n first k w.0) same) ∙ sym (next_by_pins n sound (bits_at first j)) in
        let inputs : h.pattern.inputs ≡ w.0.inputs = ap (λ (p : Pattern). p.inputs) w.2 in
        let t : DetectsTransition n f w.0.inputs w.0.cells q = record {
          first = bits_at first j;
          settles = first_settles j w.0 w.1;
          launches = launched.has j (omega arith) marked;
          detects = subst (λ (i : List Bool). Detects n f i (next (bits None) n (bits_at first j)) q) inputs
              (subst (λ (s : List Bool). Detects n f h.pattern.inputs s q) state h.detects);
        } in
        record { pattern = w.0; at = w.1; detects = (frames_detect n f w.0.inputs w.0.cells q sound valid).1 t }

    from_frames : (j : ℕ) (q : Point) → IsDetectedAt (frames_of n f) patterns (frame_fault n f) j q → (bit_of j marks ≡ true) × IsDetectedAt n (all_again n first 0 patterns) f j q
    from_frames j q h =
        let p = h.pattern in
        let l = some_below patterns j h.pattern h.at in
        let few = good.few in
        let t = (frames_detect n f h.pattern.inputs h.pattern.cells q sound valid).0 h.detects in
        let agree : (x : ℕ) → Contains (signals n) x → t.first x ≡ bits_at first j x =
        settles_once beq decides_beq (bits None) n h.pattern.inputs h.pattern.cells t.first (bits_at first j) sound.closed sound.acyclic t.settles (first_settles j h.pattern h.at) in
        let launch : bits_at first j (source_of n f.line) ≡ f.value = sym (agree (source_of n f.line) (source_is_signal n sound.formed.numbered sound.closed f.line valid)) ∙ t.launches in
        let state : next (bits None) n t.first ≡ map (λ (d : Definition). bit_of j (at first 0 (get_or d.pins 0 0))) (cells n) =
        next_agree n sound None t.first (bits_at first j) agree ∙ next_by_pins n sound (bits_at first j) in
        let same : 0 + j ≡ j = omega arith in (
          launched.all j (omega arith) (is_used j (omega arith) ∙ lt-ltb j (length patterns) l) launch,
          record {
            pattern = again n first j h.pattern;
            at = again_there n first 0 j patterns h.pattern h.at ∙ ap (λ k. Some (again n first k h.pattern)) same;
            detects = subst (λ (s : List Bool). Detects n f h.pattern.inputs s q) state t.detects;
          },
        )

    pub last_on_frames : (found : Option (ℕ × Point)) → LastMarked n (all_again n first 0 patterns) marks f found → LastDetected (frames_of n f) patterns (frame_fault n f) found
    last_on_frames None h = λ j q t. let d = from_frames j q t in h j q d.0 d.1
    last_on_frames (Some w) h = record {
      here = to_frames w.0 w.1 h.marked h.here;
      last = λ i q later t. let d = from_frames i q t in h.last i q later d.0 d.1;
      first = λ q before t. h.first q before (from_frames w.0 q t).1;
    }

-- ---- the signals that are read for the second frame

pub taken_read : (n : Netlist) → IsSound n → (ids : List ℕ) (first : List ℕ) → ids ≡ taken n → length first ≡ length (signals n) → All (λ x. x < length first) ids
taken_read n sound ids first e size = subst (λ m. All (λ x. x < m) ids) (sym size)
    (subst (λ (xs : List ℕ). All (λ x. x < length (signals n)) xs) (sym e)
    (All-from_contains (λ x. x < length (signals n)) (taken n)
    (λ x c.
    let m = contains_map (λ (d : Definition). get_or d.pins 0 0) (cells n) x c in
    let d = contains_filter is_cell n.definitions m.0 m.1 in
    let one : length m.0.pins ≡ 1 = All-contains (λ (r : Definition). length r.pins ≡ 1) (cells n) m.0 (one_pin n sound.closed) m.1 in
    let read : Contains (signals n) (get_or m.0.pins 0 0) = All-contains (Contains (signals n)) m.0.pins (get_or m.0.pins 0 0)
    (All-contains (λ (r : Definition). All (Contains (signals n)) r.pins) n.definitions m.0 sound.closed.pins d.0)
    (Contains-get_or m.0.pins 0 0 (omega arith)) in
    subst (λ y. y < length (signals n)) m.2 (signal_below n sound.formed.numbered (get_or m.0.pins 0 0) read))))

pub taken_behind : (n : Netlist) (seen : List ℕ) (k : ℕ) → seen ≡ watched n → k ≡ length n.outputs → drop k seen ≡ taken n
taken_behind n seen k e l = ap (drop k) e ∙ drop_at n.outputs (taken n) k (sym l)

pub taken_slice : (n : Netlist) (seen : List ℕ) (k : ℕ) → seen ≡ watched n → k ≡ length n.outputs → take (length seen - k) (drop k seen) ≡ taken n
taken_slice n seen k e l = take_all (length seen - k) (drop k seen) (omega (arith, length-drop k seen)) ∙ taken_behind n seen k e l

pub source_low : (n : Netlist) → IsSound n → (f : Fault) → IsLineOf n f.line → (x m : ℕ) → x ≡ source_of n f.line → m ≡ length (signals n) → x < m
source_low n sound f valid x m e s =
    let l = signal_below n sound.formed.numbered (source_of n f.line) (source_is_signal n sound.formed.numbered sound.closed f.line valid) in
    omega arith
