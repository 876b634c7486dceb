-- What the head of a region turned over shows at points is what each fault of the region shows there, where it reaches the head.
use Rattle.std.proofs.Common.{◌≡◌, ℕ, ◌<◌, Bool, true, false, ◌&&◌, cond, arith, List, map, length, Option, Some, None, sym, ◌∙◌, ap, subst, inl, inr, bit_and, bit_xor, not}
use Rattle.std.specs.Option.{option_map}
use Rattle.std.proofs.lemmas.Bool.{cases_Bool, and_parts, both_ways}
use Rattle.statement.specs.declared.lines.Fault.{Fault}
use Rattle.statement.specs.declared.lines.Line.TheVariants.{Stem}
use Rattle.netlist.specs.Conditions.{IsSound}
use Rattle.netlist.specs.Lines.{IsLineOf}
use Rattle.statement.specs.Netlists.{Definition, Netlist, cells, signals}
use Rattle.statement.specs.Values.{Settles, bits}
use Rattle.netlist.specs.Settled.{at}
use Rattle.netlist.proofs.SomeSettled.{some_settled}
use Rattle.statement.specs.Patterns.{Pattern}
use Rattle.events.specs.declared.trails.Change.{Change}
use Rattle.events.specs.Standing.{SettlesOver}
use Rattle.regions.specs.Turned.{turned_bits, turned_words}
use Rattle.events.specs.Words.{bit_of, ones, words}
use Rattle.regions.proofs.TurnedBits.{turned_as_bits}
use Rattle.events.proofs.WordBits.{bit_line, bit_none, bit_not_word, bit_of_and, words_as_bits}
use Rattle.regions.specs.Paths.{bits_at, IsReach}
use Rattle.regions.specs.Sensitized.{reaches}
use Rattle.regions.proofs.Changing.{zip_length}
use Rattle.regions.proofs.Faults.{observed_by_head, left_alone}
use Rattle.word_sim.specs.inner.Differences.{AreDifferences, AreShown}
use Rattle.word_sim.specs.inner.Groups.{IsFound, HoldChanges}
use Rattle.word_sim.specs.inner.Packed.{AreGoodFor, IsUsed}
use Rattle.observed_points.specs.Points.{points, point_of, ArePoints}
use Rattle.word_sim.proofs.FaultFound.{small_found}
use Rattle.observed_points.proofs.ObservedPoints.{line_in, signal_in, observed_in}
use Rattle.observed_points.proofs.LineReads.{unread}
use Rattle.word_sim.proofs.StuckPoints.{differ_same, stuck_differences}
use Rattle.word_sim.proofs.WordDetection.{differ, differs, last_marked, marked_all, used_marked}

same_some : (a b : Bool) → Some a ≡ Some b → a ≡ b
same_some a b e = cc

and_none : (x y : Bool) → x ≡ false → (x && y) ≡ false
and_none x y e = ap (λ b. b && y) e

-- a stuck stem, which no point reads
abbrev stem : ℕ → Fault
stem h = record { line = Stem h; value = false }

-- differences that show under some of the patterns alone
fewer : (count used word : ℕ) (all some : ℕ → ℕ → Bool) (found : Option (ℕ × ℕ))
    → ((c j : ℕ) → j < 64 → bit_of j used ≡ true → c < count → all c j ≡ (bit_of j word && some c j))
    → AreDifferences count some (bit_and used word) found → AreDifferences count all used found
fewer count used word all some found is h = record {
  none = λ e j c low u l. is c j low u l ∙ elim (cases_Bool (bit_of j word)) [
    | inl w ↦ ap (λ b. b && some c j) w ∙ h.none e j c low (both j u w) l
    | inr w ↦ and_none (bit_of j word) (some c j) w
  ];
  some = λ j c e.
      let s = h.some j c e in
      let parts = and_parts (bit_of j used) (bit_of j word) (sym (bit_of_and used word j) ∙ s.1) in (
        s.0,
        parts.0,
        s.2,
        is c j s.0 parts.0 s.2 ∙ (ap (λ b. b && some c j) parts.1 ∙ s.3),
        (λ d below. let l : c < count = s.2 in is d j s.0 parts.0 (omega (arith, below, l)) ∙ (ap (λ b. b && some d j) parts.1 ∙ s.4 d below)),
        (λ i d later low u l. is d i low u l ∙ elim (cases_Bool (bit_of i word)) [
          | inl w ↦ ap (λ b. b && some d i) w ∙ s.5 i d later low (both i u w) l
          | inr w ↦ and_none (bit_of i word) (some d i) w
        ]),
      );
} where
  both : (j : ℕ) → bit_of j used ≡ true → bit_of j word ≡ true → bit_of j (bit_and used word) ≡ true
  both j u w = bit_of_and used word j ∙ (ap (λ b. b && bit_of j word) u ∙ w)

module _ (n : Netlist) (sound : IsSound n) (f : Fault) (line : IsLineOf n f.line) (patterns : List Pattern) (values : List ℕ) (good : AreGoodFor n patterns values)
    (used : ℕ) (is_used : IsUsed (length patterns) used) (h mask word : ℕ) (reach : IsReach n values f h word)
    (within : (j : ℕ) → j < 64 → bit_of j used ≡ true → bit_of j word ≡ true → bit_of j mask ≡ true)
    (seen first numbers : List ℕ) (are : ArePoints n seen first numbers) (size : length values ≡ length (signals n)) (new : List ℕ) (changes : List (Change ℕ))
    (held : HoldChanges values new changes) (over : SettlesOver (words None) (turned_words h mask) n values new) where
  settled : Settles (words None) n good.inputs good.state (at values 0)
  settled = good.settles 0

  -- words with the fault
  faulty : (b : ℕ → ℕ) × Settles (words (Some f)) n good.inputs good.state b
  faulty = some_settled 0 (words (Some f)) n good.inputs good.state sound.formed.numbered sound.closed sound.acyclic
      (zip_length (λ x v. at values 0 x ≡ (words None).line (Stem x) v) n.inputs good.inputs settled.0)
      (zip_length (λ (d : Definition) v. at values 0 d.id ≡ (words None).line (Stem d.id) v) (cells n) good.state settled.1)

  module _ (j : ℕ) (low : j < 64) where
    good_bits : Settles (bits None) n (map (bit_of j) good.inputs) (map (bit_of j) good.state) (bits_at values j)
    good_bits = words_as_bits j low None n good.inputs good.state (at values 0) settled

    faulty_bits : Settles (bits (Some f)) n (map (bit_of j) good.inputs) (map (bit_of j) good.state) (λ x. bit_of j (faulty.0 x))
    faulty_bits = words_as_bits j low (Some f) n good.inputs good.state faulty.0 faulty.1

    -- what a point sees with the fault
    faulty_sees : (c : ℕ → Bool) → Settles (turned_bits h (reaches (bits_at values j) f reach.path)) n (map (bit_of j) good.inputs) (map (bit_of j) good.state) c
        → (k : ℕ) → k < length (points n) → bit_of j ((words (Some f)).line (line_in n sound k) (faulty.0 (signal_in n sound k))) ≡ c (signal_in n sound k)
    faulty_sees c s k l =
        let x = signal_in n sound k in
        bit_line j low (Some f) (line_in n sound k) (faulty.0 x)
        ∙ same_some ((bits (Some f)).line (line_in n sound k) (bit_of j (faulty.0 x))) (c x)
        (sym (observed_in n sound (bits (Some f)) (λ y. bit_of j (faulty.0 y)) k l)
        ∙ (observed_by_head n f reach.path h (map (bit_of j) good.inputs) (map (bit_of j) good.state) (bits_at values j) sound line reach.leads good_bits (λ y. bit_of j (faulty.0 y)) c faulty_bits s (point_of n k)
        ∙ observed_in n sound (bits None) c k l))

    -- under a pattern with which the fault reaches the head, turned over there too
    reached : bit_of j used ≡ true → bit_of j word ≡ true → (k : ℕ) → k < length (points n)
        → differs n sound f (at values 0) faulty.0 k j ≡ differs n sound (stem h) (at values 0) (at new 0) k j
    reached u w k l =
        let x = signal_in n sound k in
        let r : reaches (bits_at values j) f reach.path ≡ true = sym (reach.word_is j low) ∙ w in
        let turned_bits_settle : Settles (turned_bits h (bit_of j mask)) n (map (bit_of j) good.inputs) (map (bit_of j) good.state) (bits_at new j) =
        turned_as_bits j h mask low n good.inputs good.state (at new 0) (over.each good.inputs good.state 0 settled) in
        let s : Settles (turned_bits h (reaches (bits_at values j) f reach.path)) n (map (bit_of j) good.inputs) (map (bit_of j) good.state) (bits_at new j) =
        subst (λ t. Settles (turned_bits h t) n (map (bit_of j) good.inputs) (map (bit_of j) good.state) (bits_at new j)) (within j low u w ∙ sym r) turned_bits_settle in
        ap (differ (bit_of j (at values 0 x))) (faulty_sees (bits_at new j) s k l ∙ sym (as_plain x)) where
          as_plain : (x : ℕ) → bit_of j ((words (Some (stem h))).line (line_in n sound k) (at new 0 x)) ≡ bit_of j (at new 0 x)
          as_plain x = ap (λ b. bit_of j (cond b 0 (at new 0 x))) (unread n sound (Stem h) (λ o. o) k l)

    -- under any other pattern nothing shows
    unreached : bit_of j word ≡ false → (k : ℕ) → k < length (points n) → differs n sound f (at values 0) faulty.0 k j ≡ false
    unreached w k l =
        let x = signal_in n sound k in
        let r : reaches (bits_at values j) f reach.path ≡ false = sym (reach.word_is j low) ∙ w in
        let s = left_alone n f reach.path h (map (bit_of j) good.inputs) (map (bit_of j) good.state) (bits_at values j) sound line reach.leads good_bits in
        ap (differ (bit_of j (at values 0 x)))
        (faulty_sees (bits_at values j) (subst (λ t. Settles (turned_bits h t) n (map (bit_of j) good.inputs) (map (bit_of j) good.state) (bits_at values j)) (sym r) s) k l)
        ∙ differ_same (bit_of j (at values 0 x))

  differences : (found : Option (ℕ × ℕ)) → AreShown first (length seen) new (bit_and used word) changes found → AreDifferences (length (points n)) (differs n sound f (at values 0) faulty.0) used found
  differences found shown = fewer (length (points n)) used word (differs n sound f (at values 0) faulty.0) (differs n sound (stem h) (at values 0) (at new 0)) found
      (λ c j low u l. elim (cases_Bool (bit_of j word)) [
        | inl w ↦ reached j low u w c l ∙ ap (λ b. b && differs n sound (stem h) (at values 0) (at new 0) c j) (sym w)
        | inr w ↦ unreached j low w c l ∙ sym (and_none (bit_of j word) (differs n sound (stem h) (at values 0) (at new 0) c j) w)
      ])
      (stuck_differences n sound (stem h) values new changes held size seen first are.seen_is are.first_is (λ o. o) (bit_and used word) found shown)

  -- what the changes of the head show under the patterns with which the fault reaches it, is where the fault is last detected
  pub shown_found : (found : Option (ℕ × ℕ)) → AreShown first (length seen) new (bit_and used word) changes found → IsFound n patterns f found
  shown_found found shown = record {
    detected = marked_all n patterns f used good.few is_used (option_map (λ (w : ℕ × ℕ). (w.0, point_of n w.1)) found)
        (last_marked n sound f (at values 0) faulty.0 good.inputs good.state settled faulty.1 patterns good.few good.inputs_are good.state_are used (used_marked (length patterns) used is_used) found
        (differences found shown));
    small = small_found n sound (differs n sound f (at values 0) faulty.0) used found (differences found shown);
  }

-- the patterns that are used and reached lie in the mask
pub mask_within : (used word mask : ℕ) → bit_and (bit_and used word) (bit_xor mask ones) ≡ 0 → (j : ℕ) → j < 64 → bit_of j used ≡ true → bit_of j word ≡ true → bit_of j mask ≡ true
mask_within used word mask e j low u w = elim (cases_Bool (bit_of j mask)) [
  | inl so ↦ so
  | inr fails ↦
      let none : bit_of j (bit_and (bit_and used word) (bit_xor mask ones)) ≡ false = ap (bit_of j) e ∙ bit_none j low in
      let both : bit_of j (bit_and used word) ≡ true = bit_of_and used word j ∙ (ap (λ b. b && bit_of j word) u ∙ w) in
      absurd (both_ways (bit_of j (bit_and (bit_and used word) (bit_xor mask ones))) none
      (bit_of_and (bit_and used word) (bit_xor mask ones) j ∙ (ap (λ b. b && bit_of j (bit_xor mask ones)) both ∙ (bit_not_word j low mask ∙ ap not fails))))
]
