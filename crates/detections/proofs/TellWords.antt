-- The patterns under which a fault reaches the head of its region, and a point sees the head turned over, are those that detect it.
use Rattle.std.proofs.Common.{◌≡◌, ℕ, ◌<◌, Bool, true, false, List, map, length, get_or, Some, None, sym, ◌∙◌, subst, arith, bit_and}
use Rattle.std.specs.List.{slice_get}
use Rattle.std.proofs.lemmas.Bool.{both_ways, and_from, and_parts}
use Rattle.std.proofs.lemmas.Option.{slice_get-get_or}
use Rattle.statement.specs.declared.lines.Fault.{Fault}
use Rattle.statement.specs.declared.lines.Line.TheVariants.{Stem}
use Rattle.statement.specs.Netlists.{Definition, Netlist, cells}
use Rattle.statement.specs.Patterns.{Detects, Pattern}
use Rattle.statement.specs.Values.{Settles, bits}
use Rattle.netlist.specs.Conditions.{IsSound}
use Rattle.netlist.specs.Lines.{IsLineOf}
use Rattle.netlist.specs.Settled.{at}
use Rattle.netlist.proofs.SomeSettled.{some_settled}
use Rattle.events.specs.Words.{bit_of, ones}
use Rattle.events.proofs.WordBits.{bit_none, bit_of_and, bit_ones, words_as_bits}
use Rattle.regions.specs.Paths.{bits_at, IsReach}
use Rattle.regions.specs.Turned.{turned_bits}
use Rattle.regions.proofs.Changing.{zip_length}
use Rattle.regions.proofs.Faults.{detected, detects}
use Rattle.regions.proofs.TurnedBits.{turned_as_bits}
use Rattle.word_sim.specs.inner.Packed.{AreGoodFor}
use Rattle.detections.specs.Times.{IsDetectedBy}
use Rattle.detections.specs.inner.Telling.{IsSeenUnder, TellsPatterns}
use Rattle.detections.proofs.Parts.{no_pattern}

some_same : (a b : Pattern) → Some a ≡ Some b → a ≡ b
some_same a b e = cc

module _ (n : Netlist) (sound : IsSound n) (f : Fault) (line : IsLineOf n f.line) (patterns : List Pattern) (values : List ℕ) (good : AreGoodFor n patterns values)
    (h under : ℕ) (reach : IsReach n values f h under) where
  low_in : (j : ℕ) → j < length patterns → j < 64
  low_in j l = let few = good.few in omega arith

  module _ (j : ℕ) (low : j < 64) (p : Pattern) (at_p : slice_get patterns j ≡ Some p) where
    -- the words' bits are those of the pattern
    of_pattern : (P : List Bool → List Bool → Type 0) → P (map (bit_of j) good.inputs) (map (bit_of j) good.state) → P p.inputs p.cells
    of_pattern P s = subst (λ (t : List Bool). P p.inputs t) (good.state_are j p at_p) (subst (λ (i : List Bool). P i (map (bit_of j) good.state)) (good.inputs_are j p at_p) s)

    good_bits : Settles (bits None) n p.inputs p.cells (bits_at values j)
    good_bits = of_pattern (λ i t. Settles (bits None) n i t (bits_at values j)) (words_as_bits j low None n good.inputs good.state (at values 0) (good.settles 0))

    turned_over : (c : ℕ → Bool) × Settles (turned_bits h true) n p.inputs p.cells c
    turned_over = some_settled false (turned_bits h true) n p.inputs p.cells sound.formed.numbered sound.closed sound.acyclic
        (zip_length (λ x v. bits_at values j x ≡ (bits None).line (Stem x) v) n.inputs p.inputs good_bits.0)
        (zip_length (λ (d : Definition) v. bits_at values j d.id ≡ (bits None).line (Stem d.id) v) (cells n) p.cells good_bits.1)

    -- what is detected reaches the head
    reached : IsDetectedBy n patterns f j → bit_of j under ≡ true
    reached d = reach.word_is j low ∙ (detected n f reach.path h p.inputs p.cells (bits_at values j) sound line reach.leads good_bits turned_over.0 turned_over.1 d.0 (of_p d)).0 where
      of_p : (d : IsDetectedBy n patterns f j) → Detects n f p.inputs p.cells d.0
      of_p d = subst (λ (q : Pattern). Detects n f q.inputs q.cells d.0) (some_same d.1.pattern p (sym d.1.at ∙ at_p)) d.1.detects

    module _ (word : ℕ) (seen : IsSeenUnder n values h word) where
      turned_bits_settle : Settles (turned_bits h true) n p.inputs p.cells (bits_at seen.new j)
      turned_bits_settle = of_pattern (λ i t. Settles (turned_bits h true) n i t (bits_at seen.new j))
          (subst (λ b. Settles (turned_bits h b) n (map (bit_of j) good.inputs) (map (bit_of j) good.state) (bits_at seen.new j)) (bit_ones j low)
          (turned_as_bits j h ones low n good.inputs good.state (at seen.new 0) (seen.over.each good.inputs good.state 0 (good.settles 0))))

      bit_detects : bit_of j (bit_and under word) ≡ true → IsDetectedBy n patterns f j
      bit_detects b =
          let parts = and_parts (bit_of j under) (bit_of j word) (sym (bit_of_and under word j) ∙ b) in
          let s = (seen.seen j low).0 parts.1 in (
            s.0,
            record {
              pattern = p;
              at = at_p;
              detects = detects n f reach.path h p.inputs p.cells (bits_at values j) sound line reach.leads good_bits (bits_at seen.new j) turned_bits_settle s.0
                  (sym (reach.word_is j low) ∙ parts.0) s.1;
            },
          )

      detects_bit : (d : IsDetectedBy n patterns f j) → Detects n f p.inputs p.cells d.0 → bit_of j (bit_and under word) ≡ true
      detects_bit d at_point =
          let both = detected n f reach.path h p.inputs p.cells (bits_at values j) sound line reach.leads good_bits (bits_at seen.new j) turned_bits_settle d.0 at_point in
          bit_of_and under word j ∙ and_from (bit_of j under) (bit_of j word) (reach.word_is j low ∙ both.0) ((seen.seen j low).1 (d.0, both.1))

  at_place : (j : ℕ) → j < length patterns → slice_get patterns j ≡ Some (get_or patterns j no_pattern)
  at_place j l = slice_get-get_or patterns j no_pattern l

  -- it reaches the head under no pattern
  pub tells_none : under ≡ 0 → TellsPatterns n patterns f 0
  tells_none e j l =
      let low = low_in j l in (
        λ b. absurd (both_ways (bit_of j 0) (bit_none j low) b),
        λ d. subst (λ w. bit_of j w ≡ true) e (reached j low (get_or patterns j no_pattern) (at_place j l) d),
      )

  pub tells_word : (word : ℕ) → IsSeenUnder n values h word → TellsPatterns n patterns f (bit_and under word)
  tells_word word seen j l =
      let low = low_in j l in (
        λ b. bit_detects j low (get_or patterns j no_pattern) (at_place j l) word seen b,
        λ d. detects_bit j low d.1.pattern d.1.at word seen d d.1.detects,
      )

-- the same of a netlist and values that are equal to these
pub told_none : (n m : Netlist) → IsSound n → (f : Fault) → IsLineOf n f.line → (patterns : List Pattern) (values vs : List ℕ) → AreGoodFor n patterns values → m ≡ n → vs ≡ values
    → (h under : ℕ) → IsReach m vs f h under → under ≡ 0 → TellsPatterns n patterns f 0
told_none n m sound f line patterns values vs good em ev h under reach e =
    tells_none n sound f line patterns values good h under
    (subst (λ (k : Netlist). IsReach k values f h under) em (subst (λ (ws : List ℕ). IsReach m ws f h under) ev reach)) e

pub told_word : (n m m' : Netlist) → IsSound n → (f : Fault) → IsLineOf n f.line → (patterns : List Pattern) (values vs : List ℕ) → AreGoodFor n patterns values → m ≡ n → vs ≡ values → m' ≡ n
    → (h under word : ℕ) → IsReach m vs f h under → IsSeenUnder m' values h word → TellsPatterns n patterns f (bit_and under word)
told_word n m m' sound f line patterns values vs good em ev em' h under word reach seen =
    tells_word n sound f line patterns values good h under
    (subst (λ (k : Netlist). IsReach k values f h under) em (subst (λ (ws : List ℕ). IsReach m ws f h under) ev reach)) word
    (subst (λ (k : Netlist). IsSeenUnder k values h word) em' seen)
