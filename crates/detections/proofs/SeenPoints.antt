-- What a signal turned over changes at points is what the points see.
use Rattle.std.proofs.Common.{◌≡◌, ◌≢◌, ℕ, ◌<◌, inl, inr, Bool, true, false, eqb, ltb, List, length, get_or, Some, None, refl, sym, ◌∙◌, ap, subst, arith, bit_xor}
use Rattle.std.specs.List.{list_any}
use Rattle.std.proofs.lemmas.Bool.{both_ways, cases_Bool, cases_lt, and_from, and_parts, eqb-true, eq-eqb, lt-ltb, ltb-true}
use Rattle.statement.specs.Netlists.{Netlist, signals}
use Rattle.statement.specs.Patterns.{observed}
use Rattle.statement.specs.Values.{bits}
use Rattle.netlist.specs.Conditions.{IsSound}
use Rattle.netlist.specs.Settled.{at}
use Rattle.netlist.proofs.Lists.{any_from, any_true}
use Rattle.events.specs.declared.trails.Change.{Change}
use Rattle.events.specs.Standing.{SettlesOver}
use Rattle.events.specs.Trails.{AreChanges}
use Rattle.events.specs.Words.{bit_of, ones, words}
use Rattle.events.proofs.WordBits.{bit_of_xor}
use Rattle.observed_points.specs.Points.{points, point_of, ArePoints}
use Rattle.observed_points.proofs.ObservedPoints.{observed_in, point_in, signal_in, watched_count, watched_in}
use Rattle.regions.specs.Paths.{bits_at}
use Rattle.regions.specs.Turned.{turned_words}
use Rattle.word_sim.specs.inner.Differences.{shows}
use Rattle.word_sim.proofs.StuckPoints.{differ_same}
use Rattle.word_sim.proofs.WordDetection.{differ}
use Rattle.detections.specs.inner.Telling.{IsSeen, IsSeenUnder}

same_some : (a b : Bool) → Some a ≡ Some b → a ≡ b
same_some a b e = cc

differ_from : (a b : Bool) → a ≢ b → differ a b ≡ true
differ_from true true ne = absurd (ne refl)
differ_from true false ne = refl
differ_from false true ne = refl
differ_from false false ne = absurd (ne refl)

module _ (n : Netlist) (sound : IsSound n) (values new : List ℕ) (changes : List (Change ℕ)) (are : AreChanges values new changes) (size : length values ≡ length (signals n))
    (seen first numbers : List ℕ) (points_are : ArePoints n seen first numbers) (j : ℕ) where
  count : length seen ≡ length (points n)
  count = ap (λ (xs : List ℕ). length xs) points_are.seen_is ∙ watched_count n sound

  seen_in : (c : ℕ) → c < length (points n) → get_or seen c 0 ≡ signal_in n sound c
  seen_in c l = ap (λ (xs : List ℕ). get_or xs c 0) points_are.seen_is ∙ watched_in n sound c l

  -- what a point sees of values
  sees : (vs : List ℕ) (c : ℕ) → c < length (points n) → observed (bits None) n (bits_at vs j) (point_of n c) ≡ Some (bit_of j (at vs 0 (signal_in n sound c)))
  sees vs c l = observed_in n sound (bits None) (bits_at vs j) c l

  pub shows_seen : list_any (shows first (length seen) new j) changes ≡ true → IsSeen n values new j
  shows_seen any =
      let w = any_true (shows first (length seen) new j) changes any in
      let d = w.0 in
      let parts = and_parts (ltb (get_or first w.0.signal 0) (length seen)) (bit_of j (bit_xor w.0.before (get_or new w.0.signal 0))) w.2 in
      let l = ltb-true (get_or first w.0.signal 0) (length seen) parts.0 in
      let k = count in
      let c = get_or first w.0.signal 0 in
      let low : get_or first w.0.signal 0 < length (points n) = omega arith in
      let b = are.before w.0 0 w.1 in
      let inside : w.0.signal < length (signals n) = subst (λ y. w.0.signal < y) size b.0 in
      let x : signal_in n sound (get_or first w.0.signal 0) ≡ w.0.signal = sym (seen_in (get_or first w.0.signal 0) low) ∙ (points_are.first_is.each w.0.signal inside).here l in (
        point_of n (get_or first w.0.signal 0),
        λ e.
            let bit : bit_of j (at values 0 (signal_in n sound (get_or first w.0.signal 0))) ≡ bit_of j (at new 0 (signal_in n sound (get_or first w.0.signal 0))) =
            same_some (bit_of j (at values 0 (signal_in n sound (get_or first w.0.signal 0)))) (bit_of j (at new 0 (signal_in n sound (get_or first w.0.signal 0))))
            (sym (sees values (get_or first w.0.signal 0) low) ∙ (e ∙ sees new (get_or first w.0.signal 0) low)) in
            let bit' : bit_of j (at values 0 w.0.signal) ≡ bit_of j (at new 0 w.0.signal) = subst (λ y. bit_of j (at values 0 y) ≡ bit_of j (at new 0 y)) x bit in
            both_ways (bit_of j (bit_xor w.0.before (get_or new w.0.signal 0)))
            (ap (λ v. bit_of j (bit_xor v (get_or new w.0.signal 0))) b.1
            ∙ (bit_of_xor (at values 0 w.0.signal) (at new 0 w.0.signal) j ∙ (ap (λ u. differ u (bit_of j (at new 0 w.0.signal))) bit' ∙ differ_same (bit_of j (at new 0 w.0.signal)))))
            parts.1,
      )

  -- a point that reads a signal whose bit differs
  change_shows : (c : ℕ) → c < length (points n) → bit_of j (at values 0 (signal_in n sound c)) ≢ bit_of j (at new 0 (signal_in n sound c)) → list_any (shows first (length seen) new j) changes ≡ true
  change_shows c l ne = elim (cases_Bool (list_any (λ (d : Change ℕ). eqb d.signal (signal_in n sound c)) changes)) [
    | inl some ↦
        let w = any_true (λ (d : Change ℕ). eqb d.signal (signal_in n sound c)) changes some in
        let e : w.0.signal ≡ signal_in n sound c = eqb-true w.0.signal (signal_in n sound c) w.2 in
        let b = are.before w.0 0 w.1 in
        let inside : w.0.signal < length (signals n) = subst (λ y. w.0.signal < y) size b.0 in
        let o = points_are.first_is.each w.0.signal inside in
        let k = count in
        let low : get_or first w.0.signal 0 < length seen = elim (cases_lt (get_or first w.0.signal 0) (length seen)) [
          | inl below ↦ below
          | inr high ↦ absurd (o.before c (omega arith) (omega arith) (seen_in c l ∙ sym e))
        ] in
        any_from (shows first (length seen) new j) changes w.0 w.1
        (and_from (ltb (get_or first w.0.signal 0) (length seen)) (bit_of j (bit_xor w.0.before (get_or new w.0.signal 0))) (lt-ltb (get_or first w.0.signal 0) (length seen) low)
        (ap (λ v. bit_of j (bit_xor v (get_or new w.0.signal 0))) b.1
        ∙ (ap (λ y. bit_of j (bit_xor (at values 0 y) (at new 0 y))) e
        ∙ (bit_of_xor (at values 0 (signal_in n sound c)) (at new 0 (signal_in n sound c)) j
        ∙ differ_from (bit_of j (at values 0 (signal_in n sound c))) (bit_of j (at new 0 (signal_in n sound c))) ne))))
    | inr none ↦ absurd (ne (ap (bit_of j) (sym (are.others (signal_in n sound c) 0 (λ d m e.
        both_ways (list_any (λ (g : Change ℕ). eqb g.signal (signal_in n sound c)) changes) none
        (any_from (λ (g : Change ℕ). eqb g.signal (signal_in n sound c)) changes d m (eq-eqb d.signal (signal_in n sound c) e)))))))
  ]

  pub seen_shows : IsSeen n values new j → list_any (shows first (length seen) new j) changes ≡ true
  seen_shows s = elim (point_in n sound s.0) [
    | inr none ↦ absurd (s.1 (none (bits None) (bits_at values j) ∙ sym (none (bits None) (bits_at new j))))
    | inl w ↦ change_shows w.0 w.1 (λ e.
        s.1 (ap (observed (bits None) n (bits_at values j)) w.2
        ∙ (sees values w.0 w.1 ∙ (ap Some e ∙ sym (ap (observed (bits None) n (bits_at new j)) w.2 ∙ sees new w.0 w.1)))))
  ]

-- the word of a signal that is turned over
pub seen_under : (n : Netlist) → IsSound n → (values new : List ℕ) (changes : List (Change ℕ)) → AreChanges values new changes → length values ≡ length (signals n)
    → (seen first numbers : List ℕ) → ArePoints n seen first numbers → (x word : ℕ) → SettlesOver (words None) (turned_words x ones) n values new
    → (new' first' : List ℕ) (count' : ℕ) (changes' : List (Change ℕ)) → new' ≡ new → changes' ≡ changes → first' ≡ first → count' ≡ length seen
    → ((j : ℕ) → j < 64 → bit_of j word ≡ list_any (shows first' count' new' j) changes') → IsSeenUnder n values x word
seen_under n sound values new changes are size seen first numbers points_are x word over new' first' count' changes' en ec ef ek word_is = record {
  new = new;
  over = over;
  seen = λ j low.
      let is : bit_of j word ≡ list_any (shows first (length seen) new j) changes = word_is j low
      ∙ (ap (λ fs. list_any (shows fs count' new' j) changes') ef
      ∙ (ap (λ k. list_any (shows first k new' j) changes') ek
      ∙ (ap (λ vs. list_any (shows first (length seen) vs j) changes') en ∙ ap (list_any (shows first (length seen) new j)) ec))) in (
        λ b. shows_seen n sound values new changes are size seen first numbers points_are j (sym is ∙ b),
        λ s. is ∙ seen_shows n sound values new changes are size seen first numbers points_are j s,
      );
}
