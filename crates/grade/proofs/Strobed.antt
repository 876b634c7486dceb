-- Each strobe of a test's vectors is one of the flush, which is the same whatever is tested, or that of an observed point under a pattern.
use Rattle.std.proofs.Common.{◌≡◌, ◌≢◌, ℕ, suc, zero, ◌+◌, ◌-◌, ◌*◌, ◌<◌, ◌≤◌, ◌⊎◌, Bool, true, false, not, List, [], ◌∷◌, ◌++◌, map, length, get_or, take, drop, replicate, reverse, Some, slice_get, refl, sym, ◌∙◌, ap, subst, inl, inr, arith, length-append, length-take, length-drop}
use Rattle.std.specs.List.{AllPairs}
use Rattle.std.proofs.lemmas.Bool.{cases_lt}
use Rattle.std.proofs.lemmas.List.{append_assoc, append-nil, get_or_append_left, get_or-append_right, get_or_past, length-map, length-replicate, length-reverse}
use Rattle.std.proofs.lemmas.Option.{slice_get-get_or}
use Rattle.std.proofs.Math.Nat.{suc-mul}
use Rattle.statement.specs.declared.kinds.Tri.{Tri}
use Rattle.statement.specs.declared.kinds.Tri.TheVariants.{X}
use Rattle.statement.specs.declared.lines.Point.{Point}
use Rattle.statement.specs.declared.lines.Point.TheVariants.{Output, Cell}
use Rattle.statement.specs.Netlists.{Netlist}
use Rattle.statement.specs.Patterns.{Holds, Pattern}
use Rattle.netlist.specs.Conditions.{IsSound}
use Rattle.netlist.proofs.Settling.{cells_distinct}
use Rattle.statement.specs.Values.{known}
use Rattle.statement.specs.Tests.{IsUnloadedAt, cells_of, longest_of, by_chain, column, word_out, Response, flush, IsStrobedAt}
use Rattle.statement.specs.Runs.{Cycle, strobe_at}
use Rattle.scan_insert.specs.Scanned.{AreChainsOf, cell_ids}
use Rattle.scan_insert.proofs.Concrete.{are_dealt}
use Rattle.scan_play.specs.Shifts.{load}
use Rattle.scan_play.specs.Vectors.{capture, applied, vectors}
use Rattle.scan_play.proofs.BitLaws.{known_not_x}
use Rattle.scan_play.proofs.Places.{get_of, below_of, rows, length-load, load_row, row_of_load, past_load, in_load, response_at}

-- ---- what is known of lists of values

pub same_known : (b c : Bool) → known b ≡ known c → b ≡ c
same_known true true e = refl
same_known true false e = cc
same_known false true e = cc
same_known false false e = refl

-- nothing is strobed where there are only Xs
no_x : {P : Type 0} (count k : ℕ) (b : Bool) → get_or (replicate count X) k X ≡ known b → P
no_x zero k b e = known_not_x b e
no_x (suc count) zero b e = known_not_x b e
no_x (suc count) (suc k) b e = no_x count k b e

-- a bit and Xs behind it
known_in : (bs : List Bool) (count k : ℕ) (b : Bool) → get_or (map known bs ++ replicate count X) k X ≡ known b → slice_get bs k ≡ Some b
known_in [] count k b e = no_x count k b e
known_in (c ∷ cs) count zero b e = ap Some (same_known c b e)
known_in (c ∷ cs) count (suc k) b e = known_in cs count k b e

word_known : (values : List Tri) (count t : ℕ) (b : Bool) → get_or (reverse values ++ replicate count X) t X ≡ known b → t < length values
word_known values count t b e = elim (cases_lt t (length values)) [
  | inl l ↦ l
  | inr high ↦ no_x count (t - length values) b (sym (get_or-append_right (reverse values) (replicate count X) (length values) t X (length-reverse values) high) ∙ e)
]

-- what a shift strobes is a cell of a chain
column_known : (m t : ℕ) (chains : List (List ℕ)) (held : List Tri) (c : ℕ) (b : Bool) → length held ≡ length (cells_of chains)
    → get_or (column X (map (word_out m) (by_chain chains held)) t) c X ≡ known b → (chain : List ℕ) × (slice_get chains c ≡ Some chain) × (t < length chain)
column_known m t [] held c b size e = known_not_x b e
column_known m t (own ∷ chains) held zero b size e =
    let l = word_known (take (length own) held) (m - length (take (length own) held)) t b e in
    (own, refl, omega (arith, l, length-take (length own) held, length-append own (cells_of chains), size))
column_known m t (own ∷ chains) held (suc c) b size e =
    column_known m t chains (drop (length own) held) c b (omega (arith, length-drop (length own) held, length-append own (cells_of chains), size)) e

row_known : (n : Netlist) (chains : List (List ℕ)) (held : List Tri) (t o : ℕ) (b : Bool) → length held ≡ length (cells_of chains) → get_or (load_row n chains held t) o X ≡ known b
    → (length n.outputs ≤ o) × ((chain : List ℕ) × (slice_get chains (o - length n.outputs) ≡ Some chain) × (t < length chain))
row_known n chains held t o b size e = elim (cases_lt o (length n.outputs)) [
  | inl low ↦
      let front = replicate (length n.outputs) X in
      let wide = length-replicate (length n.outputs) X in
      no_x (length n.outputs) o b (sym (get_or_append_left front (column X (map (word_out (longest_of chains)) (by_chain chains held)) t) X o (omega arith)) ∙ e)
  | inr high ↦ (
    high,
    column_known (longest_of chains) t chains held (o - length n.outputs) b size
        (sym (get_or-append_right (replicate (length n.outputs) X) (column X (map (word_out (longest_of chains)) (by_chain chains held)) t) (length n.outputs) o X
        (length-replicate (length n.outputs) X) high) ∙ e),
  )
]

capture_known : (chains : List (List ℕ)) (p : Pattern) (r : Response) (k : ℕ) (b : Bool) → get_or (capture chains p r).strobe k X ≡ known b → slice_get r.outputs k ≡ Some b
capture_known [] p r k b e = known_in r.outputs 0 k b (ap (λ (x : List Tri). get_or x k X) (append-nil (map known r.outputs)) ∙ e)
capture_known (chain ∷ chains) p r k b e = known_in r.outputs (length (chain ∷ chains)) k b e

-- ---- the rows of the vectors

module _ (n : Netlist) (holds : Holds) (chains : List (List ℕ)) where
  first_of_applied : (held : List Tri) (tests : List (Pattern × Response)) (t : ℕ) → t < longest_of chains
      → get_or (rows (applied n holds chains held tests)) t [] ≡ load_row n chains held t
  first_of_applied held [] t l = row_of_load n holds chains (replicate (length (cells_of chains)) false) held t l
  first_of_applied held (test ∷ tests) t l = in_load n holds chains test.0.cells held (capture chains test.0 test.1 ∷ applied n holds chains (map known test.1.cells) tests) t l

  parts : (tests : List (Pattern × Response)) → vectors n holds chains tests
      ≡ load n holds chains (flush chains) (replicate (length (cells_of chains)) X)
      ++ (load n holds chains (map not (flush chains)) (map known (flush chains))
      ++ (load n holds chains (replicate (length (cells_of chains)) false) (map known (map not (flush chains))) ++ applied n holds chains (replicate (length (cells_of chains)) X) tests))
  parts tests =
      let l1 = load n holds chains (flush chains) (replicate (length (cells_of chains)) X) in
      let l2 = load n holds chains (map not (flush chains)) (map known (flush chains)) in
      let l3 = load n holds chains (replicate (length (cells_of chains)) false) (map known (map not (flush chains))) in
      let end = applied n holds chains (replicate (length (cells_of chains)) X) tests in
      append_assoc (l1 ++ l2) l3 end ∙ append_assoc l1 l2 (l3 ++ end)

  -- what is applied behind it
  behind_flush : (tests : List (Pattern × Response)) (c k : ℕ) → c ≡ 3 * longest_of chains + k
      → get_or (rows (vectors n holds chains tests)) c [] ≡ get_or (rows (applied n holds chains (replicate (length (cells_of chains)) X) tests)) k []
  behind_flush tests c k e =
      let m = longest_of chains in
      let nothing : List Tri = replicate (length (cells_of chains)) X in
      let l2 = load n holds chains (map not (flush chains)) (map known (flush chains)) in
      let l3 = load n holds chains (replicate (length (cells_of chains)) false) (map known (map not (flush chains))) in
      let end = applied n holds chains nothing tests in
      ap (λ r. get_or (rows r) c []) (parts tests)
      ∙ (past_load n holds chains (flush chains) nothing (l2 ++ (l3 ++ end)) c (m + (m + k)) (omega arith)
      ∙ (past_load n holds chains (map not (flush chains)) (map known (flush chains)) (l3 ++ end) (m + (m + k)) (m + k) refl
      ∙ past_load n holds chains (replicate (length (cells_of chains)) false) (map known (map not (flush chains))) end (m + k) k refl))

  -- the flush
  flush_row : (c : ℕ) → c < 4 * longest_of chains → (row : List Tri) × ((tests : List (Pattern × Response)) → get_or (rows (vectors n holds chains tests)) c [] ≡ row)
  flush_row c l =
      let m = longest_of chains in
      let nothing : List Tri = replicate (length (cells_of chains)) X in
      let l2 = load n holds chains (map not (flush chains)) (map known (flush chains)) in
      let l3 = load n holds chains (replicate (length (cells_of chains)) false) (map known (map not (flush chains))) in
      let end : List (Pattern × Response) → List Cycle = λ tests. applied n holds chains nothing tests in
      elim (cases_lt c m) [
        | inl a ↦ (load_row n chains nothing c, λ tests. ap (λ r. get_or (rows r) c []) (parts tests) ∙ in_load n holds chains (flush chains) nothing (l2 ++ (l3 ++ end tests)) c a)
        | inr a ↦ elim (cases_lt (c - m) m) [
          | inl b ↦ (
            load_row n chains (map known (flush chains)) (c - m),
            λ tests. ap (λ r. get_or (rows r) c []) (parts tests)
                ∙ (past_load n holds chains (flush chains) nothing (l2 ++ (l3 ++ end tests)) c (c - m) (omega (arith, a))
                ∙ in_load n holds chains (map not (flush chains)) (map known (flush chains)) (l3 ++ end tests) (c - m) b),
          )
          | inr b ↦ elim (cases_lt (c - m - m) m) [
            | inl d ↦ (
              load_row n chains (map known (map not (flush chains))) (c - m - m),
              λ tests. ap (λ r. get_or (rows r) c []) (parts tests)
                  ∙ (past_load n holds chains (flush chains) nothing (l2 ++ (l3 ++ end tests)) c (c - m) (omega (arith, a))
                  ∙ (past_load n holds chains (map not (flush chains)) (map known (flush chains)) (l3 ++ end tests) (c - m) (c - m - m) (omega (arith, b))
                  ∙ in_load n holds chains (replicate (length (cells_of chains)) false) (map known (map not (flush chains))) (end tests) (c - m - m) d)),
            )
            | inr d ↦ (
              load_row n chains nothing (c - m - m - m),
              λ tests. behind_flush tests c (c - m - m - m) (omega (arith, a, b, d)) ∙ first_of_applied nothing tests (c - m - m - m) (omega (arith, l, a, b, d)),
            )
          ]
        ]
      ]

-- In row k of what is applied, from the first capture on: the capture of a test, or a shift behind it.
record IsRow (n : Netlist) (chains : List (List ℕ)) (tests : List (Pattern × Response)) (k o : ℕ) (b : Bool) : Type 0 where
  p : ℕ
  test : Pattern × Response
  has : slice_get tests p ≡ Some test
  there : ((k ≡ p * (longest_of chains + 1) + longest_of chains) × (get_or (capture chains test.0 test.1).strobe o X ≡ known b))
      ⊎ ((t : ℕ) × (t < longest_of chains) × (k ≡ (p + 1) * (longest_of chains + 1) + t) × (get_or (load_row n chains (map known test.1.cells) t) o X ≡ known b))

module _ (n : Netlist) (holds : Holds) (chains : List (List ℕ)) where
  one_later : (first : Pattern × Response) (tests : List (Pattern × Response)) (j k o : ℕ) (b : Bool) → k ≡ suc (longest_of chains + j) → IsRow n chains tests j o b → IsRow n chains (first ∷ tests) k o b
  one_later first tests j k o b e r = record {
    p = suc r.p;
    test = r.test;
    has = r.has;
    there = elim r.there [
      | inl w ↦ inl (omega (arith, e, w.0, suc-mul r.p (longest_of chains + 1)), w.1)
      | inr w ↦ inr (w.0, w.1, omega (arith, e, w.2, suc-mul (r.p + 1) (longest_of chains + 1)), w.3)
    ];
  }

  row_of : (held : List Tri) (tests : List (Pattern × Response)) (k o : ℕ) (b : Bool) → longest_of chains ≤ k
      → get_or (get_or (rows (applied n holds chains held tests)) k []) o X ≡ known b → IsRow n chains tests k o b
  row_of held [] k o b high e =
      let cs = load n holds chains (replicate (length (cells_of chains)) false) held in
      known_not_x b (sym (ap (λ (r : List Tri). get_or r o X) (get_or_past (rows cs) k [] (let s = length-load n holds chains (replicate (length (cells_of chains)) false) held in omega (arith, s, high)))) ∙ e)
  row_of held (first ∷ tests) k o b high e =
      let m = longest_of chains in
      let rest = capture chains first.0 first.1 ∷ applied n holds chains (map known first.1.cells) tests in
      let past : get_or (rows (load n holds chains first.0.cells held ++ rest)) k [] ≡ get_or (rows rest) (k - m) [] =
      past_load n holds chains first.0.cells held rest k (k - m) (omega (arith, high)) in
      let there : get_or (get_or (rows rest) (k - m) []) o X ≡ known b = sym (ap (λ (r : List Tri). get_or r o X) past) ∙ e in
      elim (cases_lt 0 (k - m)) [
        | inr none ↦
            let same : k - m ≡ 0 = omega (arith, none) in
            record {
              p = 0;
              test = first;
              has = refl;
              there = inl (omega (arith, none, high), subst (λ i. get_or (get_or (rows rest) i []) o X ≡ known b) same there);
            }
        | inl some ↦
            let j = k - m - 1 in
            let next : k - m ≡ suc j = omega (arith, some) in
            let on : get_or (get_or (rows (applied n holds chains (map known first.1.cells) tests)) j []) o X ≡ known b =
            subst (λ i. get_or (get_or (rows rest) i []) o X ≡ known b) next there in
            elim (cases_lt j m) [
              | inl l ↦ record {
                p = 0;
                test = first;
                has = refl;
                there = inr (j, l, omega (arith, high, some), sym (ap (λ (r : List Tri). get_or r o X) (first_of_applied n holds chains (map known first.1.cells) tests j l)) ∙ on);
              }
              | inr above ↦ one_later first tests j k o b (omega (arith, high, some)) (row_of (map known first.1.cells) tests j o b above on)
            ]
      ]

-- ---- cells by place

abbrev place_in : List (List ℕ) → ℕ → ℕ → ℕ
place_in [] c k = k
place_in (own ∷ chains) zero k = k
place_in (own ∷ chains) (suc c) k = length own + place_in chains c k

get_left : (xs ys : List ℕ) (j x : ℕ) → slice_get xs j ≡ Some x → slice_get (xs ++ ys) j ≡ Some x
get_left [] ys j x e = cc
get_left (z ∷ zs) ys zero x e = e
get_left (z ∷ zs) ys (suc j) x e = get_left zs ys j x e

get_right : (xs ys : List ℕ) (j x : ℕ) → slice_get ys j ≡ Some x → slice_get (xs ++ ys) (length xs + j) ≡ Some x
get_right [] ys j x e = let i : 0 + j ≡ j = omega arith in ap (λ i. slice_get ys i) i ∙ e
get_right (z ∷ zs) ys j x e =
    let i : suc (length zs) + j ≡ suc (length zs + j) = omega arith in
    ap (λ i. slice_get (z ∷ zs ++ ys) i) i ∙ get_right zs ys j x e

in_all : (chains : List (List ℕ)) (c k cell : ℕ) (chain : List ℕ) → slice_get chains c ≡ Some chain → slice_get chain k ≡ Some cell → slice_get (cells_of chains) (place_in chains c k) ≡ Some cell
in_all [] c k cell chain e h = cc
in_all (own ∷ chains) zero k cell chain e h = get_left own (cells_of chains) k cell (ap (λ (x : List ℕ). slice_get x k) (get_of (own ∷ chains) zero chain chain e) ∙ h)
in_all (own ∷ chains) (suc c) k cell chain e h = get_right own (cells_of chains) (place_in chains c k) cell (in_all chains c k cell chain e h)

one_chain : (chains : List (List ℕ)) (c k d l : ℕ) (x y : List ℕ) → slice_get chains c ≡ Some x → k < length x → slice_get chains d ≡ Some y → l < length y
    → place_in chains c k ≡ place_in chains d l → (c ≡ d) × (k ≡ l)
one_chain [] c k d l x y e a f b h = cc
one_chain (own ∷ chains) zero k zero l x y e a f b h = (refl, h)
one_chain (own ∷ chains) zero k (suc d) l x y e a f b h =
    let same = ap length (get_of (own ∷ chains) zero x x e) in
    absurd (omega (arith, same, a, h))
one_chain (own ∷ chains) (suc c) k zero l x y e a f b h =
    let same = ap length (get_of (own ∷ chains) zero y y f) in
    absurd (omega (arith, same, b, h))
one_chain (own ∷ chains) (suc c) k (suc d) l x y e a f b h =
    let rest = one_chain chains c k d l x y e a f b (omega (arith, h)) in
    (ap suc rest.0, rest.1)

same_place : (ids : List ℕ) (i j x : ℕ) → AllPairs (λ x y. x ≢ y) ids → slice_get ids i ≡ Some x → slice_get ids j ≡ Some x → i ≡ j
same_place ids i j x apart a b =
    let equal = get_of ids i x 0 a ∙ sym (get_of ids j x 0 b) in
    elim (cases_lt i j) [
      | inl l ↦ absurd (apart i j 0 l (below_of ids j x b) equal)
      | inr l ↦ elim (cases_lt j i) [
        | inl k ↦ absurd (apart j i 0 k (below_of ids i x a) (sym equal))
        | inr k ↦ omega (arith, l, k)
      ]
    ]

-- ---- points

-- what is strobed there: a point under a pattern
pub record IsPlaced (n : Netlist) (chains : List (List ℕ)) (tests : List (Pattern × Response)) (c o : ℕ) : Type 0 where
  pub p : ℕ
  pub test : Pattern × Response
  pub point : Point
  pub has : slice_get tests p ≡ Some test
  pub bit : Bool
  pub has_bit : response_at test.1 point ≡ Some bit
  pub strobed : IsStrobedAt n chains p point c o

module _ (n : Netlist) (holds : Holds) (chains : List (List ℕ)) (are : AreChainsOf n chains) where
  unloaded : (p t c o : ℕ) (chain : List ℕ) → length n.outputs ≤ o → slice_get chains (o - length n.outputs) ≡ Some chain → t < length chain
      → c ≡ 3 * longest_of chains + ((p + 1) * (longest_of chains + 1) + t) → (q : ℕ) × (q < length (cells_of chains)) × IsUnloadedAt n chains p q c o
  unloaded p t c o chain high has l at =
      let place = length chain - 1 - t in
      let cell = get_or chain place 0 in
      let has_cell : slice_get chain place ≡ Some cell = slice_get-get_or chain place 0 (omega (arith, l)) in
      let here = in_all chains (o - length n.outputs) place cell chain has has_cell in (
        place_in chains (o - length n.outputs) place,
        below_of (cells_of chains) (place_in chains (o - length n.outputs) place) cell here,
        record {
          cell = cell;
          is_cell = ap (λ (xs : List ℕ). slice_get xs (place_in chains (o - length n.outputs) place)) (sym (are_dealt n chains are).all) ∙ here;
          chain = o - length n.outputs;
          place = place;
          is_at = record { chain_cells = chain; has_chain = has; has_cell = has_cell };
          cycle_is = omega (arith, at, l);
          output_is = omega (arith, high);
        },
      )

  -- a strobe of a bit, from the first capture on, is that of a point
  pub strobe_placed : (tests : List (Pattern × Response)) → ((p : ℕ) (test : Pattern × Response) → slice_get tests p ≡ Some test → length test.1.cells ≡ length (cells_of chains))
      → (c o : ℕ) (b : Bool) → 4 * longest_of chains ≤ c → strobe_at (vectors n holds chains tests) c o ≡ known b → IsPlaced n chains tests c o
  strobe_placed tests sizes c o b high e =
      let m = longest_of chains in
      let k = c - 3 * m in
      let there : get_or (get_or (rows (applied n holds chains (replicate (length (cells_of chains)) X) tests)) k []) o X ≡ known b =
      sym (ap (λ (r : List Tri). get_or r o X) (behind_flush n holds chains tests c k (omega (arith, high)))) ∙ e in
      let r = row_of n holds chains (replicate (length (cells_of chains)) X) tests k o b (omega (arith, high)) there in
      elim r.there [
        | inl w ↦ record {
          p = r.p;
          test = r.test;
          point = Output o;
          has = r.has;
          bit = b;
          has_bit = capture_known chains r.test.0 r.test.1 o b w.1;
          strobed = (omega (arith, high, w.0), refl);
        }
        | inr w ↦
            let held = map known r.test.1.cells in
            let row = row_known n chains held w.0 o b (length-map r.test.1.cells known ∙ sizes r.p r.test r.has) w.3 in
            let u = unloaded r.p w.0 c o row.1.0 row.0 row.1.1 row.1.2 (omega (arith, high, w.2)) in
            record {
              p = r.p;
              test = r.test;
              point = Cell u.0;
              has = r.has;
              bit = get_or r.test.1.cells u.0 false;
              has_bit = slice_get-get_or r.test.1.cells u.0 false (let l = u.1 in let size = sizes r.p r.test r.has in omega (arith, l, size));
              strobed = u.2;
            }
      ]

-- before the first capture the strobes are the same whatever is tested
pub flush_strobe : (n : Netlist) (holds : Holds) (chains : List (List ℕ)) (tests others : List (Pattern × Response)) (c o : ℕ) → c < 4 * longest_of chains
    → strobe_at (vectors n holds chains tests) c o ≡ strobe_at (vectors n holds chains others) c o
flush_strobe n holds chains tests others c o l =
    let r = flush_row n holds chains c l in
    ap (λ (x : List Tri). get_or x o X) (r.1 tests ∙ sym (r.1 others))

-- a point is strobed once under a pattern
pub strobed_once : (n : Netlist) (chains : List (List ℕ)) (p : ℕ) (point : Point) (c o d q : ℕ) → IsSound n → AreChainsOf n chains → IsStrobedAt n chains p point c o → IsStrobedAt n chains p point d q
    → (c ≡ d) × (o ≡ q)
strobed_once n chains p (Output k) c o d q sound are a b = (a.0 ∙ sym b.0, a.1 ∙ sym b.1)
strobed_once n chains p (Cell i) c o d q sound are a b =
    let all = (are_dealt n chains are).all in
    let apart : AllPairs (λ x y. x ≢ y) (cells_of chains) = cells_distinct n sound.formed.numbered (cells_of chains) all in
    let cell : a.cell ≡ b.cell = sym (get_of (cell_ids n) i a.cell 0 a.is_cell) ∙ get_of (cell_ids n) i b.cell 0 b.is_cell in
    let here = in_all chains a.chain a.place a.cell a.is_at.chain_cells a.is_at.has_chain a.is_at.has_cell in
    let there = in_all chains b.chain b.place b.cell b.is_at.chain_cells b.is_at.has_chain b.is_at.has_cell in
    let same = one_chain chains a.chain a.place b.chain b.place a.is_at.chain_cells b.is_at.chain_cells a.is_at.has_chain (below_of a.is_at.chain_cells a.place a.cell a.is_at.has_cell)
    b.is_at.has_chain (below_of b.is_at.chain_cells b.place b.cell b.is_at.has_cell)
    (same_place (cells_of chains) (place_in chains a.chain a.place) (place_in chains b.chain b.place) b.cell apart
    (subst (λ x. slice_get (cells_of chains) (place_in chains a.chain a.place) ≡ Some x) cell here) there) in
    let chain : a.is_at.chain_cells ≡ b.is_at.chain_cells =
    sym (get_of chains a.chain a.is_at.chain_cells [] a.is_at.has_chain) ∙ (ap (λ c. get_or chains c []) same.0 ∙ get_of chains b.chain b.is_at.chain_cells [] b.is_at.has_chain) in
    (omega (arith, a.cycle_is, b.cycle_is, same.1, ap length chain), omega (arith, a.output_is, b.output_is, same.0))
