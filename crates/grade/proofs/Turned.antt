-- The key of the strobe at which a pattern first shows a fault, by what the head of its region changes, turned over under that pattern.
use Rattle.std.proofs.Common.{◌≡◌, ℕ, ◌<◌, Bool, true, List, map, length, Some, None, bit_xor, sym, ◌∙◌, ap, subst}
use Rattle.statement.specs.declared.lines.Fault.{Fault}
use Rattle.statement.specs.declared.lines.Line.TheVariants.{Stem}
use Rattle.statement.specs.Netlists.{Definition, Netlist, cells, signals}
use Rattle.statement.specs.Patterns.{Pattern}
use Rattle.statement.specs.Values.{Settles, bits}
use Rattle.netlist.specs.Conditions.{IsSound}
use Rattle.netlist.specs.Lines.{IsLineOf}
use Rattle.netlist.specs.Settled.{at}
use Rattle.netlist.proofs.SomeSettled.{some_settled}
use Rattle.events.specs.declared.trails.Change.{Change}
use Rattle.events.specs.Standing.{SettlesOver}
use Rattle.events.specs.Trails.{AreChanges}
use Rattle.events.specs.Words.{bit_of, words}
use Rattle.events.proofs.WordBits.{bit_line, bit_of_xor, words_as_bits}
use Rattle.observed_points.specs.Points.{point_of, points}
use Rattle.observed_points.proofs.ObservedPoints.{line_in, observed_in, signal_in}
use Rattle.regions.specs.Paths.{IsReach, bits_at}
use Rattle.regions.specs.Sensitized.{reaches}
use Rattle.regions.specs.Turned.{turned_bits, turned_words}
use Rattle.regions.proofs.Changing.{zip_length}
use Rattle.regions.proofs.Faults.{observed_by_head}
use Rattle.regions.proofs.TurnedBits.{turned_as_bits}
use Rattle.word_sim.specs.inner.Differences.{IsFirstShown}
use Rattle.word_sim.specs.inner.Packed.{AreGoodFor}
use Rattle.word_sim.proofs.WordDetection.{differ, differs}
use Rattle.grade.specs.inner.Keys.{AreLeastKeys, most_key}
use Rattle.grade.specs.inner.Spotting.{IsSpotted, IsSpottedFrom}
use Rattle.grade.proofs.Spotted.{first_key}

same_bit : (a b : Bool) → Some a ≡ Some b → a ≡ b
same_bit a b e = cc

module _ (n : Netlist) (sound : IsSound n) (values : List ℕ) (j : ℕ) (low : j < 64) (h mask : ℕ) (marked : bit_of j mask ≡ true) (new : List ℕ)
    (over : SettlesOver (words None) (turned_words h mask) n values new) where
  -- ---- what points see under the pattern

  module _ (f : Fault) (word : ℕ) (line : IsLineOf n f.line) (reach : IsReach n values f h word) (reached : bit_of j word ≡ true) (patterns : List Pattern) (good : AreGoodFor n patterns values) where
    settled : Settles (words None) n good.inputs good.state (at values 0)
    settled = good.settles 0

    -- words with the fault
    faulty : (b : ℕ → ℕ) × Settles (words (Some f)) n good.inputs good.state b
    faulty = some_settled 0 (words (Some f)) n good.inputs good.state sound.formed.numbered sound.closed sound.acyclic
        (zip_length (λ x v. at values 0 x ≡ (words None).line (Stem x) v) n.inputs good.inputs settled.0)
        (zip_length (λ (d : Definition) v. at values 0 d.id ≡ (words None).line (Stem d.id) v) (cells n) good.state settled.1)

    turned_over : Settles (turned_bits h (reaches (bits_at values j) f reach.path)) n (map (bit_of j) good.inputs) (map (bit_of j) good.state) (bits_at new j)
    turned_over =
        subst (λ t. Settles (turned_bits h t) n (map (bit_of j) good.inputs) (map (bit_of j) good.state) (bits_at new j)) (marked ∙ (sym reached ∙ reach.word_is j low))
        (turned_as_bits j h mask low n good.inputs good.state (at new 0) (over.each good.inputs good.state 0 settled))

    -- a point sees with the fault what it sees with the head turned over
    sees : (k : ℕ) → k < length (points n) → bit_of j ((words (Some f)).line (line_in n sound k) (faulty.0 (signal_in n sound k))) ≡ bit_of j (at new 0 (signal_in n sound k))
    sees k l =
        let x = signal_in n sound k in
        bit_line j low (Some f) (line_in n sound k) (faulty.0 x)
        ∙ same_bit ((bits (Some f)).line (line_in n sound k) (bit_of j (faulty.0 x))) (bits_at new j x)
        (sym (observed_in n sound (bits (Some f)) (λ y. bit_of j (faulty.0 y)) k l)
        ∙ (observed_by_head n f reach.path h (map (bit_of j) good.inputs) (map (bit_of j) good.state) (bits_at values j) sound line reach.leads
        (words_as_bits j low None n good.inputs good.state (at values 0) settled) (λ y. bit_of j (faulty.0 y)) (bits_at new j)
        (words_as_bits j low (Some f) n good.inputs good.state faulty.0 faulty.1) turned_over (point_of n k)
        ∙ observed_in n sound (bits None) (bits_at new j) k l))

    differs_there : (k : ℕ) → k < length (points n) → differs n sound f (at values 0) faulty.0 k j ≡ bit_of j (bit_xor (at values 0 (signal_in n sound k)) (at new 0 (signal_in n sound k)))
    differs_there k l =
        let x = signal_in n sound k in
        ap (differ (bit_of j (at values 0 x))) (sees k l) ∙ sym (bit_of_xor (at values 0 x) (at new 0 x) j)

  -- ---- the key

  pub turned_spotted : (chains : List (List ℕ)) (keys : List ℕ) → AreLeastKeys n chains (length (points n)) keys → (changes : List (Change ℕ)) → length values ≡ length (signals n)
      → AreChanges values new changes → (key : ℕ) → IsFirstShown keys most_key new j changes key → IsSpottedFrom n chains values h j key
  turned_spotted chains keys are changes size changed key first f word line reach reached patterns p good here =
      first_key n sound chains f values j low keys are new changes size changed key first (faulty f word line reach reached patterns good).0
      (differs_there f word line reach reached patterns good) patterns p good here (faulty f word line reach reached patterns good).1

-- ---- a fault that reaches the head

pub spotted_from : (n m : Netlist) (chains : List (List ℕ)) (values words : List ℕ) (f : Fault) (h word j key : ℕ) → m ≡ n → words ≡ values → IsLineOf n f.line → IsReach m words f h word
    → bit_of j word ≡ true → IsSpottedFrom n chains values h j key → IsSpotted n chains values f j key
spotted_from n m chains values words f h word j key same are line reach reached from =
    from f word line (subst (λ (k : Netlist). IsReach k values f h word) same (subst (λ (vs : List ℕ). IsReach m vs f h word) are reach)) reached
