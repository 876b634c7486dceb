-- In the flush nothing is asked of the functional outputs, and each chain without a stuck line shows what it is asked for.
use Rattle.std.proofs.Common.{◌≡◌, ℕ, suc, ◌+◌, ◌-◌, ◌*◌, ◌<◌, ◌≤◌, ◌⊎◌, Bool, true, false, not, List, [], ◌∷◌, ◌++◌, map, length, get_or, replicate, reverse, Some, slice_get, refl, sym, ◌∙◌, ap, subst, inl, inr, arith, length-append, map-id}
use Rattle.std.proofs.Math.ListN.{get_or-eq_default}
use Rattle.std.proofs.lemmas.Bool.{cases_lt}
use Rattle.std.proofs.lemmas.List.{length-map, length-replicate, length-reverse, map-append, get_or_append_left, get_or-append_right, get_or-reverse, get_or-map}
use Rattle.statement.specs.declared.kinds.Tri.{Tri}
use Rattle.statement.specs.declared.kinds.Tri.TheVariants.{X}
use Rattle.statement.specs.declared.lines.Fault.{Fault}
use Rattle.statement.specs.Netlists.{Netlist}
use Rattle.statement.specs.Patterns.{Holds, Pattern}
use Rattle.netlist.specs.Holds.{AreHoldsOf}
use Rattle.netlist.specs.Conditions.{IsSound}
use Rattle.statement.specs.Values.{bit_table, known}
use Rattle.netlist.proofs.Lists.{map_map}
use Rattle.statement.specs.Tests.{longest_of, by_chain, column, held_or_zero, word_in, word_out, Response, flush}
use Rattle.statement.specs.Runs.{numbers_from, Cycle, Runs, strobe_at, shown_at}
use Rattle.scan_insert.specs.Scanned.{AreChainsOf, first_scan_out, naming_of, scanned_of}
use Rattle.scan_insert.proofs.Concrete.{bits_multiplex}
use Rattle.scan_insert.proofs.Numbers.{length-numbers_from, get_or-numbers_from}
use Rattle.scan_play.specs.Shifts.{idle_inputs, shift, load}
use Rattle.scan_play.specs.Vectors.{flush_bits, vectors}
use Rattle.scan_play.proofs.Loads.{length-by_chain, length-column}
use Rattle.scan_play.proofs.Places.{below_of, load_row, longest_above}
use Rattle.scan_play.proofs.Widths.{cells_count, scanned_cells_count}
use Rattle.chain_test.proofs.ApartChains.{IsClear}
use Rattle.chain_test.proofs.Filling.{piece}
use Rattle.chain_test.proofs.Flushing.{flushing, flushing_first, flushing_shifts, length-flushing, length-load, with_size}
use Rattle.chain_test.proofs.FlushStrobes.{behind, first, first_row, first_strobe, flush_piece, length-flush_bits, nothing, nothing_asked, second, second_row, strobed, third, third_row}
use Rattle.chain_test.proofs.Followed.{driven, hands_on}
use Rattle.chain_test.proofs.StuckPath.{IsOffOthers}

-- ---- where there is no scan output

-- an output that is no chain's
abbrev pub IsNoChain : Netlist → List (List ℕ) → ℕ → Type 0
IsNoChain n chains o = (o < length n.outputs) ⊎ (length n.outputs + length chains ≤ o)

row_asks_nothing : (n : Netlist) (chains : List (List ℕ)) (held : List Tri) (t o : ℕ) → IsNoChain n chains o → get_or (load_row n chains held t) o X ≡ X
row_asks_nothing n chains held t o (inl l) =
    get_or_append_left (replicate (length n.outputs) X) (column X (map (word_out (longest_of chains)) (by_chain chains held)) t) X o (omega (arith, length-replicate (length n.outputs) X))
    ∙ nothing_asked (length n.outputs) o
row_asks_nothing n chains held t o (inr l) =
    let words = map (word_out (longest_of chains)) (by_chain chains held) in
    let size : length (load_row n chains held t) ≡ length n.outputs + length chains =
    omega (
      arith,
      length-append (replicate (length n.outputs) X) (column X words t),
      length-replicate (length n.outputs) X,
      length-column X words t,
      length-map (by_chain chains held) (word_out (longest_of chains)),
      length-by_chain chains held,
    ) in
    get_or-eq_default (load_row n chains held t) X (omega arith)

-- where in the flush a cycle is
pub data InFlush (m t : ℕ) : Type 0 where
  in_first : t < m → InFlush m t
  in_second : (j : ℕ) → j < m → t ≡ m + j → InFlush m t
  in_third : (j : ℕ) → j < m → t ≡ 2 * m + j → InFlush m t

pub in_flush : (m t : ℕ) → t < 3 * m → InFlush m t
in_flush m t l = elim (cases_lt t m) [
  | inl a ↦ in_first a
  | inr a ↦ elim (cases_lt t (2 * m)) [
    | inl b ↦ in_second (t - m) (omega arith) (omega arith)
    | inr b ↦ in_third (t - 2 * m) (omega arith) (omega arith)
  ]
]

pub asks_nothing : (n : Netlist) (holds : Holds) (chains : List (List ℕ)) (tests : List (Pattern × Response)) (t o : ℕ) → InFlush (longest_of chains) t → IsNoChain n chains o
    → strobe_at (vectors n holds chains tests) t o ≡ X
asks_nothing n holds chains tests t o (in_first l) none =
    ap (λ r. get_or r o X) (first_row n holds chains tests t l) ∙ row_asks_nothing n chains (nothing n holds chains tests) t o none
asks_nothing n holds chains tests t o (in_second j l e) none =
    ap (λ r. get_or r o X) (second_row n holds chains tests t j l e) ∙ row_asks_nothing n chains (map known (flush chains)) j o none
asks_nothing n holds chains tests t o (in_third j l e) none =
    ap (λ r. get_or r o X) (third_row n holds chains tests t j l e) ∙ row_asks_nothing n chains (map known (map not (flush chains))) j o none

-- ---- words

pub known_same : (a b : Bool) → known a ≡ known b → a ≡ b
known_same true true e = refl
known_same false false e = refl
known_same true false e = cc
known_same false true e = cc

pub not_x : (b : Bool) → X ≡ known b → ⊥
not_x true e = cc
not_x false e = cc

in_word : (m : ℕ) (bits : List Bool) (j k : ℕ) → j < length bits → length bits ≤ m → k ≡ m - length bits + j → get_or (word_in m bits) k false ≡ get_or (reverse bits) j false
in_word m bits j k l few e =
    let pad = length-replicate (m - length bits) false in
    get_or-append_right (replicate (m - length bits) false) (reverse bits) (m - length bits) k false pad (omega (arith, e))
    ∙ ap (λ i. get_or (reverse bits) i false) (omega (arith, e))

out_word : (m : ℕ) (bits : List Bool) (j : ℕ) → j < length bits → get_or (word_out m (map known bits)) j X ≡ known (get_or (reverse bits) j false)
out_word m bits j l =
    let size = length-map bits known in
    let turned = length-reverse (map known bits) in
    get_or_append_left (reverse (map known bits)) (replicate (m - length (map known bits)) X) X j (omega arith)
    ∙ (get_or-reverse (map known bits) j X (omega arith)
    ∙ (ap (λ i. get_or (map known bits) i X) (omega (arith, size))
    ∙ (get_or-map known bits (length bits - 1 - j) false X (omega arith)
    ∙ ap known (sym (get_or-reverse bits j false l)))))

out_past : (m : ℕ) (held : List Tri) (j : ℕ) → length held ≤ j → get_or (word_out m held) j X ≡ X
out_past m held j l =
    get_or-append_right (reverse held) (replicate (m - length held) X) (length held) j X (length-reverse held) l ∙ nothing_asked (m - length held) (j - length held)

-- what is asked of a chain is what was brought to it
brought : (m : ℕ) (bits : List Bool) (j : ℕ) (b : Bool) → length bits ≤ m → get_or (word_out m (map known bits)) j X ≡ known b
    → (j < length bits) × (get_or (word_in m bits) (m - length bits + j) false ≡ b)
brought m bits j b few e = elim (cases_lt j (length bits)) [
  | inl l ↦ (l, in_word m bits j (m - length bits + j) l few refl ∙ known_same (get_or (reverse bits) j false) b (sym (out_word m bits j l) ∙ e))
  | inr l ↦ absurd (not_x b (sym (out_past m (map known bits) j (omega (arith, length-map bits known))) ∙ e))
]

-- ---- what is fed to a chain

module _ (n : Netlist) (holds : Holds) (fit : AreHoldsOf n holds) (chains : List (List ℕ)) (tests : List (Pattern × Response)) (c : ℕ) (own : List ℕ) (e : slice_get chains c ≡ Some own) where
  load_feeds : (bits : List Bool) (held : List Tri) (i : ℕ) → i < longest_of chains
      → get_or (map (driven (λ b. b) (length n.inputs + 1 + c)) (load n holds chains bits held)) i false ≡ get_or (word_in (longest_of chains) (piece chains c bits)) i false
  load_feeds bits held i l =
      let m = longest_of chains in
      let words = map (word_in m) (by_chain chains bits) in
      let f = shift n holds words (map (word_out m) (by_chain chains held)) in
      let d : Cycle → Bool = driven (λ b. b) (length n.inputs + 1 + c) in
      let idle = idle_inputs holds in
      let wide : length idle ≡ length n.inputs = length-map holds held_or_zero ∙ fit in
      let numbers = length-numbers_from 0 m in
      let size = length-load n holds chains bits held in
      let below = below_of chains c own e in
      let many = length-by_chain chains bits in
      let all = length-map (by_chain chains bits) (word_in m) in
      let here : length n.inputs + 1 + c - length n.inputs ≡ suc c = omega arith in
      get_or-map d (load n holds chains bits held) i (f 0) false (omega arith)
      ∙ (ap d (get_or-map f (numbers_from 0 m) i 0 (f 0) (omega arith) ∙ ap f (get_or-numbers_from 0 m i 0 l ∙ omega arith))
      ∙ (get_or-append_right idle (true ∷ column false words i) (length n.inputs) (length n.inputs + 1 + c) false wide (omega arith)
      ∙ (ap (λ k. get_or (true ∷ column false words i) k false) here
      ∙ (get_or-map (λ (word : List Bool). get_or word i false) words c [] false (omega arith)
      ∙ ap (λ (word : List Bool). get_or word i false) (get_or-map (word_in m) (by_chain chains bits) c [] [] (omega arith))))))

  first_feeds : (i : ℕ) → i < longest_of chains
      → get_or (map (driven (λ b. b) (length n.inputs + 1 + c)) (flushing n holds chains tests)) i false ≡ get_or (word_in (longest_of chains) (flush_bits (length own))) i false
  first_feeds i l =
      let d : Cycle → Bool = driven (λ b. b) (length n.inputs + 1 + c) in
      let l1 = first n holds chains tests in
      let rest = second n holds chains tests ++ third n holds chains tests in
      let size = length-load n holds chains (flush chains) (nothing n holds chains tests) in
      let mapped = length-map l1 d in
      let own_bits : piece chains c (flush chains) ≡ flush_bits (length own) =
      ap (piece chains c) (sym (map-id (flush chains))) ∙ (flush_piece (λ (b : Bool). b) chains c own e ∙ map-id (flush_bits (length own))) in
      ap (λ r. get_or r i false) (map-append d l1 rest)
      ∙ (get_or_append_left (map d l1) (map d rest) false i (omega arith)
      ∙ (load_feeds (flush chains) (nothing n holds chains tests) i l ∙ ap (λ (w : List Bool). get_or (word_in (longest_of chains) w) i false) own_bits))

  second_feeds : (k i : ℕ) → k < longest_of chains → i ≡ longest_of chains + k
      → get_or (map (driven (λ b. b) (length n.inputs + 1 + c)) (flushing n holds chains tests)) i false ≡ get_or (word_in (longest_of chains) (map not (flush_bits (length own)))) k false
  second_feeds k i l is =
      let d : Cycle → Bool = driven (λ b. b) (length n.inputs + 1 + c) in
      let l1 = first n holds chains tests in
      let l2 = second n holds chains tests in
      let l3 = third n holds chains tests in
      let size = length-load n holds chains (flush chains) (nothing n holds chains tests) in
      let also = length-load n holds chains (map not (flush chains)) (map known (flush chains)) in
      let mapped : length (map d l1) ≡ longest_of chains = length-map l1 d ∙ size in
      let more = length-map l2 d in
      ap (λ r. get_or r i false) (map-append d l1 (l2 ++ l3))
      ∙ (get_or-append_right (map d l1) (map d (l2 ++ l3)) (longest_of chains) i false mapped (omega (arith, is))
      ∙ (ap (λ j. get_or (map d (l2 ++ l3)) j false) (omega (arith, is))
      ∙ (ap (λ r. get_or r k false) (map-append d l2 l3)
      ∙ (get_or_append_left (map d l2) (map d l3) false k (omega arith)
      ∙ (load_feeds (map not (flush chains)) (map known (flush chains)) k l
      ∙ ap (λ (w : List Bool). get_or (word_in (longest_of chains) w) k false) (flush_piece not chains c own e))))))

-- ---- a chain without a stuck line

module _ (n : Netlist) (holds : Holds) (fit : AreHoldsOf n holds) (sound : IsSound n) (chain : List ℕ) (rest : List (List ℕ)) (are : AreChainsOf n (chain ∷ rest))
    (tests : List (Pattern × Response)) (g : Fault) (off : IsOffOthers (naming_of n (chain ∷ rest)) n g.line) (c : ℕ) (own : List ℕ) (e : slice_get (chain ∷ rest) c ≡ Some own)
    (some : 0 < length own) (clear : IsClear (λ (b : Bool). b) g (naming_of n (chain ∷ rest)) (length n.inputs + 1 + c) (first_scan_out n (length (chain ∷ rest)) + c) own) where
  shows_fed : (state : List Bool) (shown : List (List Bool)) → Runs bit_table (Some g) (scanned_of n (chain ∷ rest)) state (vectors n holds (chain ∷ rest) tests) shown
      → (t i : ℕ) → t < 3 * longest_of (chain ∷ rest) → length own ≤ t → i ≡ t - length own
      → shown_at shown t (length n.outputs + c) ≡ Some (get_or (map (driven (λ b. b) (length n.inputs + 1 + c)) (flushing n holds (chain ∷ rest) tests)) i false)
  shows_fed state shown run t i l long is =
      let chains : List (List ℕ) = chain ∷ rest in
      let front = flushing n holds chains tests in
      let end = behind n holds chains tests in
      let size = length-flushing n holds chains tests in
      let r : Runs bit_table (Some g) (scanned_of n chains) state (front ++ end) shown =
      subst (λ (x : List Cycle). Runs bit_table (Some g) (scanned_of n chains) state x shown) (flushing_first n holds chains tests) run in
      with_size bit_table (Some g) (scanned_of n chains) state (front ++ end) shown (omega (arith, length-append front end)) r
      (λ count. hands_on bit_table bits_multiplex false n sound chain rest are holds fit g off c own e some clear front end (flushing_shifts n holds chains tests) state
      (count ∙ (scanned_cells_count n chain rest ∙ cells_count n chains are)) shown r t (omega arith) long
      ∙ ap (λ k. Some (get_or (map (driven (λ b. b) (length n.inputs + 1 + c)) front) k false)) (sym is))

  long : length own ≤ longest_of (chain ∷ rest)
  long = longest_above (chain ∷ rest) c own e

  pub meets : (state : List Bool) (shown : List (List Bool)) → Runs bit_table (Some g) (scanned_of n (chain ∷ rest)) state (vectors n holds (chain ∷ rest) tests) shown
      → (t : ℕ) (b : Bool) → t < 3 * longest_of (chain ∷ rest) → InFlush (longest_of (chain ∷ rest)) t
      → strobe_at (vectors n holds (chain ∷ rest) tests) t (length n.outputs + c) ≡ known b → shown_at shown t (length n.outputs + c) ≡ Some b
  meets state shown run t b l (in_first early) is = absurd (not_x b (sym (first_strobe n holds (chain ∷ rest) tests c own e t early) ∙ is))
  meets state shown run t b l (in_second j below at) is =
      let chains : List (List ℕ) = chain ∷ rest in
      let m = longest_of (chain ∷ rest) in
      let bits = flush_bits (length own) in
      let size = length-flush_bits (length own) in
      let few = long in
      let asked : get_or (word_out m (map known bits)) j X ≡ known b =
      sym (ap (λ r. get_or r (length n.outputs + c) X) (second_row n holds chains tests t j below at)
      ∙ (strobed n chains (map known (flush chains)) j c (below_of chains c own e) ∙ ap (λ (w : List Tri). get_or (word_out m w) j X) (flush_piece known chains c own e))) ∙ is in
      let w = brought m bits j b (omega arith) asked in
      let i : ℕ = m - length bits + j in
      let before = w.0 in
      shows_fed state shown run t i l (omega (arith, at)) (omega (arith, at))
      ∙ ap (λ v. Some v) (first_feeds n holds fit chains tests c own e i (omega arith) ∙ w.1)
  meets state shown run t b l (in_third j below at) is =
      let chains : List (List ℕ) = chain ∷ rest in
      let m = longest_of (chain ∷ rest) in
      let bits = map not (flush_bits (length own)) in
      let size : length bits ≡ length own = length-map (flush_bits (length own)) not ∙ length-flush_bits (length own) in
      let few = long in
      let asked : get_or (word_out m (map known bits)) j X ≡ known b =
      sym (ap (λ r. get_or r (length n.outputs + c) X) (third_row n holds chains tests t j below at)
      ∙ (strobed n chains (map known (map not (flush chains))) j c (below_of chains c own e)
      ∙ (ap (λ (w : List Tri). get_or (word_out m (piece chains c w)) j X) (map_map not known (flush chains))
      ∙ (ap (λ (w : List Tri). get_or (word_out m w) j X) (flush_piece (λ (b : Bool). known (not b)) chains c own e)
      ∙ ap (λ (w : List Tri). get_or (word_out m w) j X) (sym (map_map not known (flush_bits (length own)))))))) ∙ is in
      let w = brought m bits j b (omega arith) asked in
      let k : ℕ = m - length bits + j in
      let before = w.0 in
      shows_fed state shown run t (m + k) l (omega (arith, at)) (omega (arith, at))
      ∙ ap (λ v. Some v) (second_feeds n holds fit chains tests c own e k (m + k) (omega arith) refl ∙ w.1)
