-- A load and what follows it, for any table of values.
use Rattle.std.proofs.Common.{◌≡◌, ℕ, suc, zero, ◌+◌, ◌-◌, ◌<◌, Bool, true, false, List, [], ◌∷◌, ◌++◌, map, length, get_or, take, drop, replicate, reverse, Option, refl, sym, ◌∙◌, ap, subst, arith}
use Rattle.std.specs.List.{All, AllZip}
use Rattle.std.proofs.lemmas.List.{length-map, map-append, reverse-append, take-map, drop-map}
use Rattle.statement.specs.declared.kinds.Tri.{Tri}
use Rattle.statement.specs.declared.kinds.Tri.TheVariants.{X}
use Rattle.statement.specs.declared.lines.Fault.{Fault}
use Rattle.statement.specs.Netlists.{Netlist}
use Rattle.statement.specs.Patterns.{Holds}
use Rattle.statement.specs.Values.{Table, Settles, with_fault, outs, next}
use Rattle.netlist.proofs.Alike.{zip_append}
use Rattle.statement.specs.Tests.{cells_of, longest_of, by_chain, column, word_in, word_out}
use Rattle.statement.specs.Runs.{numbers_from, Cycle, Runs}
use Rattle.scan_insert.specs.Laws.{shifted, last_values}
use Rattle.scan_play.specs.Shifts.{idle_inputs, shift, load}
use Rattle.scan_play.proofs.Shifting.{held_at, held_at_start, held_at_more, held_at_end, word_before, words_are, strobes_meet}

-- With scan on a pulse shifts, and the scan outputs show the last cells.
abbrev pub ShiftLaw : {V : Type 0} → Table V → V → Option Fault → Netlist → Netlist → Holds → List (List ℕ) → Type 0
ShiftLaw {V} table d g s n holds chains =
    (ins : List Bool) (state : List V) (b : ℕ → V) → length ins ≡ length chains
    → Settles (with_fault table g) s (map table.known (idle_inputs holds ++ true ∷ ins)) state b
    → (front : List V) × (length front ≡ length n.outputs) × (outs (with_fault table g) s b ≡ front ++ last_values d chains state)
    × (next (with_fault table g) s b ≡ shifted chains (map table.known ins) state)

pub length-column : {V : Type 0} (z : V) (words : List (List V)) (t : ℕ) → length (column z words t) ≡ length words
length-column z words t = length-map words (λ word. get_or word t z)

pub length-by_chain : {V : Type 0} (chains : List (List ℕ)) (values : List V) → length (by_chain chains values) ≡ length chains
length-by_chain [] values = refl
length-by_chain (chain ∷ chains) values = ap suc (length-by_chain chains (drop (length chain) values))

map-reverse : {X Y : Type 0} (f : X → Y) (xs : List X) → map f (reverse xs) ≡ reverse (map f xs)
map-reverse f [] = refl
map-reverse f (x ∷ xs) =
    ap (map f) (reverse-append (x ∷ []) xs)
    ∙ (map-append f (reverse xs) (x ∷ [])
    ∙ (ap (λ r. r ++ f x ∷ []) (map-reverse f xs)
    ∙ sym (reverse-append (f x ∷ []) (map f xs))))

map-replicate : {X Y : Type 0} (f : X → Y) (n : ℕ) (x : X) → map f (replicate n x) ≡ replicate n (f x)
map-replicate f zero x = refl
map-replicate f (suc n) x = ap (λ r. f x ∷ r) (map-replicate f n x)

get_or-map_default : {X Y : Type 0} (f : X → Y) (xs : List X) (k : ℕ) (d : X) → get_or (map f xs) k (f d) ≡ f (get_or xs k d)
get_or-map_default f [] k d = refl
get_or-map_default f (x ∷ xs) zero d = refl
get_or-map_default f (x ∷ xs) (suc k) d = get_or-map_default f xs k d

-- what the scan inputs are driven with, as values
pub driven_column : {V : Type 0} (known : Bool → V) (m t : ℕ) (chains : List (List ℕ)) (bits : List Bool)
    → map known (column false (map (word_in m) (by_chain chains bits)) t) ≡ column (known false) (map (word_before (known false) m) (by_chain chains (map known bits))) t
driven_column known m t [] bits = refl
driven_column known m t (chain ∷ chains) bits =
    let n = length chain in
    let own = take n bits in
    let word : map known (word_in m own) ≡ word_before (known false) m (take n (map known bits)) =
    map-append known (replicate (m - length own) false) (reverse own)
    ∙ (ap (λ r. r ++ map known (reverse own)) (map-replicate known (m - length own) false)
    ∙ (ap (λ k. replicate (m - k) (known false) ++ map known (reverse own)) (sym (length-map own known))
    ∙ (ap (λ r. replicate (m - length (map known own)) (known false) ++ r) (map-reverse known own)
    ∙ ap (word_before (known false) m) (sym (take-map known n bits))))) in
    let first : known (get_or (word_in m own) t false) ≡ get_or (word_before (known false) m (take n (map known bits))) t (known false) =
    sym (get_or-map_default known (word_in m own) t false) ∙ ap (λ w. get_or w t (known false)) word in
    let rest = driven_column known m t chains (drop n bits) in
    let same : column (known false) (map (word_before (known false) m) (by_chain chains (map known (drop n bits)))) t
    ≡ column (known false) (map (word_before (known false) m) (by_chain chains (drop n (map known bits)))) t =
    ap (λ vs. column (known false) (map (word_before (known false) m) (by_chain chains vs)) t) (sym (drop-map known n bits)) in
    ap (λ r. r ∷ map known (column false (map (word_in m) (by_chain chains (drop n bits))) t)) first
    ∙ ap (λ r. get_or (word_before (known false) m (take n (map known bits))) t (known false) ∷ r) (rest ∙ same)

module _ {V : Type 0} (table : Table V) (d : V) (g : Option Fault) (s n : Netlist) (holds : Holds) (chains : List (List ℕ)) (law : ShiftLaw table d g s n holds chains)
    (filled : All (λ (chain : List ℕ). 0 < length chain) chains) (R : Tri → V → Type 0) (open_place : (v : V) → R X v) where
  pub open_front : (front : List V) (k : ℕ) → length front ≡ k → AllZip R (replicate k X) front
  open_front [] zero e = tt
  open_front [] (suc k) e = absurd (omega (arith, e))
  open_front (v ∷ vs) zero e = absurd (omega (arith, e))
  open_front (v ∷ vs) (suc k) e = (open_place v, open_front vs k (omega (arith, e)))

  -- the shifts that are left, and what follows
  shifts_met : (bits : List Bool) (held : List Tri) (start : List V) → length bits ≡ length (cells_of chains) → length start ≡ length (cells_of chains) → AllZip R held start
      → (rest : List Cycle)
      → ((later : List (List V)) → Runs table g s (map table.known bits) rest later → AllZip (λ (c : Cycle) vs. AllZip R c.strobe vs) rest later)
      → (k t : ℕ) → t + k ≡ longest_of chains → (state : List V)
      → state ≡ held_at chains (map (word_before (table.known false) (longest_of chains)) (by_chain chains (map table.known bits))) t start
      → (shown : List (List V))
      → Runs table g s state (map (shift n holds (map (word_in (longest_of chains)) (by_chain chains bits)) (map (word_out (longest_of chains)) (by_chain chains held))) (numbers_from t k) ++ rest) shown
      → AllZip (λ (c : Cycle) vs. AllZip R c.strobe vs)
      (map (shift n holds (map (word_in (longest_of chains)) (by_chain chains bits)) (map (word_out (longest_of chains)) (by_chain chains held))) (numbers_from t k) ++ rest) shown
  shifts_met bits held start size count h rest next_met zero t e state is shown run =
      let m = longest_of chains in
      let words = map (word_before (table.known false) m) (by_chain chains (map table.known bits)) in
      let same : t ≡ m = omega (arith, e) in
      let loaded : state ≡ map table.known bits =
      is ∙ (ap (λ k. held_at chains words k start) same
      ∙ held_at_end (table.known false) m chains (map table.known bits) start (omega arith) (length-map bits table.known ∙ size) count) in
      next_met shown (subst (λ (x : List V). Runs table g s x rest shown) loaded run)
  shifts_met bits held start size count h rest next_met (suc k) t e state is [] run = absurd run
  shifts_met bits held start size count h rest next_met (suc k) t e state is (row ∷ rows) run =
      let m = longest_of chains in
      let values = map table.known bits in
      let words = map (word_before (table.known false) m) (by_chain chains values) in
      let ins = column false (map (word_in m) (by_chain chains bits)) t in
      let many : length ins ≡ length chains =
      length-column false (map (word_in m) (by_chain chains bits)) t ∙ (length-map (by_chain chains bits) (word_in m) ∙ length-by_chain chains bits) in
      let of = words_are (table.known false) m chains values (omega arith) (length-map bits table.known ∙ size) in
      let tick = run.1 in
      let moved = law ins state tick.values many tick.settles in
      let below : t < m = omega (arith, e) in
      let after : run.0 ≡ held_at chains words (suc t) start =
      tick.keeps ∙ (moved.3
      ∙ (ap (λ c. shifted chains c state) (driven_column table.known m t chains bits)
      ∙ (ap (shifted chains (column (table.known false) words t)) is
      ∙ held_at_more m (table.known false) chains words t start of below count))) in
      let scan : AllZip R (column X (map (word_out m) (by_chain chains held)) t) (last_values d chains state) =
      subst (λ (x : List V). AllZip R (column X (map (word_out m) (by_chain chains held)) t) (last_values d chains x)) (sym is)
      (strobes_meet R X open_place m t chains words held start d of below filled count h) in
      let all : AllZip R (replicate (length n.outputs) X ++ column X (map (word_out m) (by_chain chains held)) t) (moved.0 ++ last_values d chains state) =
      zip_append R (replicate (length n.outputs) X) (column X (map (word_out m) (by_chain chains held)) t) moved.0 (last_values d chains state)
      (open_front moved.0 (length n.outputs) moved.1) scan in
      let here : AllZip R (replicate (length n.outputs) X ++ column X (map (word_out m) (by_chain chains held)) t) row =
      subst (λ (x : List V). AllZip R (replicate (length n.outputs) X ++ column X (map (word_out m) (by_chain chains held)) t) x) (sym (tick.shows ∙ moved.2)) all in
      let on : held_at chains words (suc t) start ≡ held_at chains words (t + 1) start = ap (λ j. held_at chains words j start) (omega arith) in
      (here, shifts_met bits held start size count h rest next_met k (t + 1) (omega (arith, e)) run.0 (after ∙ on) rows run.2)

  -- A load brings the bits to the cells, and meets its strobes where these say what the cells held.
  pub load_met : (bits : List Bool) (held : List Tri) (start : List V) → length bits ≡ length (cells_of chains) → length start ≡ length (cells_of chains) → AllZip R held start
      → (rest : List Cycle)
      → ((later : List (List V)) → Runs table g s (map table.known bits) rest later → AllZip (λ (c : Cycle) vs. AllZip R c.strobe vs) rest later)
      → (shown : List (List V)) → Runs table g s start (load n holds chains bits held ++ rest) shown
      → AllZip (λ (c : Cycle) vs. AllZip R c.strobe vs) (load n holds chains bits held ++ rest) shown
  load_met bits held start size count h rest next_met shown run =
      let m = longest_of chains in
      let values = map table.known bits in
      let words = map (word_before (table.known false) m) (by_chain chains values) in
      let of = words_are (table.known false) m chains values (omega arith) (length-map bits table.known ∙ size) in
      shifts_met bits held start size count h rest next_met m 0 (omega arith) start (sym (held_at_start m chains words start of count)) shown run
