-- Where the vectors of a test strobe what: the cycle and the output of each observed point.
use Rattle.std.proofs.Common.{◌≡◌, ◌≢◌, ℕ, suc, zero, ◌+◌, ◌-◌, ◌*◌, ◌<◌, ◌≤◌, Bool, false, not, List, [], ◌∷◌, ◌++◌, map, length, get_or, drop, replicate, reverse, Option, Some, slice_get, refl, sym, ◌∙◌, ap, subst, inl, inr, arith, length-append, length-take, length-drop}
use Rattle.std.specs.List.{AllPairs}
use Rattle.std.proofs.lemmas.Bool.{cases_lt}
use Rattle.std.proofs.lemmas.List.{append_assoc, append-nil, length-map, length-replicate, length-reverse, map-append, get_or_append_left, get_or-append_right, get_or-reverse, get_or-map, get_or-take, get_or-drop}
use Rattle.std.proofs.Math.Nat.{suc-mul}
use Rattle.statement.specs.declared.kinds.Tri.{Tri}
use Rattle.statement.specs.declared.kinds.Tri.TheVariants.{X}
use Rattle.statement.specs.declared.lines.Point.{Point}
use Rattle.statement.specs.declared.lines.Point.TheVariants.{Output, Cell}
use Rattle.statement.specs.Netlists.{Netlist}
use Rattle.statement.specs.Patterns.{Holds, Pattern}
use Rattle.netlist.specs.Conditions.{IsSound}
use Rattle.netlist.proofs.Settling.{cells_distinct}
use Rattle.statement.specs.Values.{known}
use Rattle.statement.specs.Tests.{IsAt, cells_of, longest_of, by_chain, column, word_in, word_out, Response, flush, IsStrobedAt}
use Rattle.statement.specs.Runs.{numbers_from, Cycle, strobe_at}
use Rattle.scan_insert.specs.Scanned.{AreChainsOf, cell_ids}
use Rattle.scan_insert.proofs.Numbers.{length-numbers_from}
use Rattle.scan_insert.proofs.Concrete.{are_dealt}
use Rattle.scan_play.specs.Shifts.{shift, load}
use Rattle.scan_play.specs.Vectors.{capture, applied, vectors}

-- ---- elements by place

pub get_of : {X : Type 0} (xs : List X) (k : ℕ) (x d : X) → slice_get xs k ≡ Some x → get_or xs k d ≡ x
get_of [] k x d e = cc
get_of (y ∷ ys) zero x d e = some_same y x e
  where
    some_same : {X : Type 0} (x y : X) → Some x ≡ Some y → x ≡ y
    some_same x y e = cc
get_of (y ∷ ys) (suc k) x d e = get_of ys k x d e

pub below_of : {X : Type 0} (xs : List X) (k : ℕ) (x : X) → slice_get xs k ≡ Some x → k < length xs
below_of [] k x e = cc
below_of (y ∷ ys) zero x e = omega arith
below_of (y ∷ ys) (suc k) x e = omega (arith, below_of ys k x e)

get_or-numbers : (first count k d : ℕ) → k < count → get_or (numbers_from first count) k d ≡ first + k
get_or-numbers first zero k d l = absurd (omega (arith, l))
get_or-numbers first (suc count) zero d l = omega arith
get_or-numbers first (suc count) (suc k) d l = omega (arith, get_or-numbers (first + 1) count k d (omega (arith, l)))

-- the strobes of each cycle
abbrev pub rows : List Cycle → List (List Tri)
rows cycles = map (λ (x : Cycle). x.strobe) cycles

pub length-load : (n : Netlist) (holds : Holds) (chains : List (List ℕ)) (bits : List Bool) (held : List Tri) → length (rows (load n holds chains bits held)) ≡ longest_of chains
length-load n holds chains bits held =
    let m = longest_of chains in
    let f = shift n holds (map (word_in m) (by_chain chains bits)) (map (word_out m) (by_chain chains held)) in
    length-map (map f (numbers_from 0 m)) (λ (x : Cycle). x.strobe) ∙ (length-map (numbers_from 0 m) f ∙ length-numbers_from 0 m)

abbrev pub load_row : Netlist → List (List ℕ) → List Tri → ℕ → List Tri
load_row n chains held t = replicate (length n.outputs) X ++ column X (map (word_out (longest_of chains)) (by_chain chains held)) t

pub row_of_load : (n : Netlist) (holds : Holds) (chains : List (List ℕ)) (bits : List Bool) (held : List Tri) (t : ℕ) → t < longest_of chains
    → get_or (rows (load n holds chains bits held)) t [] ≡ load_row n chains held t
row_of_load n holds chains bits held t l =
    let m = longest_of chains in
    let f = shift n holds (map (word_in m) (by_chain chains bits)) (map (word_out m) (by_chain chains held)) in
    let size : length (map f (numbers_from 0 m)) ≡ m = length-map (numbers_from 0 m) f ∙ length-numbers_from 0 m in
    let count = length-numbers_from 0 m in
    get_or-map (λ (x : Cycle). x.strobe) (map f (numbers_from 0 m)) t (f 0) [] (omega arith)
    ∙ (ap (λ (x : Cycle). x.strobe) (get_or-map f (numbers_from 0 m) t 0 (f 0) (omega arith))
    ∙ ap (λ k. (f k).strobe) (get_or-numbers 0 m t 0 l ∙ omega arith))

-- past a load
pub past_load : (n : Netlist) (holds : Holds) (chains : List (List ℕ)) (bits : List Bool) (held : List Tri) (rest : List Cycle) (c k : ℕ) → c ≡ longest_of chains + k
    → get_or (rows (load n holds chains bits held ++ rest)) c [] ≡ get_or (rows rest) k []
past_load n holds chains bits held rest c k e =
    let first = load n holds chains bits held in
    let size = length-load n holds chains bits held in
    ap (λ r. get_or r c []) (map-append (λ (x : Cycle). x.strobe) first rest)
    ∙ (get_or-append_right (rows first) (rows rest) (longest_of chains) c [] size (omega arith)
    ∙ ap (λ j. get_or (rows rest) j []) (omega arith))

-- within a load
pub in_load : (n : Netlist) (holds : Holds) (chains : List (List ℕ)) (bits : List Bool) (held : List Tri) (rest : List Cycle) (t : ℕ) → t < longest_of chains
    → get_or (rows (load n holds chains bits held ++ rest)) t [] ≡ load_row n chains held t
in_load n holds chains bits held rest t l =
    let first = load n holds chains bits held in
    let size = length-load n holds chains bits held in
    ap (λ r. get_or r t []) (map-append (λ (x : Cycle). x.strobe) first rest)
    ∙ (get_or_append_left (rows first) (rows rest) [] t (omega arith) ∙ row_of_load n holds chains bits held t l)

module _ (n : Netlist) (holds : Holds) (chains : List (List ℕ)) where
  first_of_applied : (held : List Tri) (tests : List (Pattern × Response)) (t : ℕ) → t < longest_of chains
      → get_or (rows (applied n holds chains held tests)) t [] ≡ load_row n chains held t
  first_of_applied held [] t l = row_of_load n holds chains (replicate (length (cells_of chains)) false) held t l
  first_of_applied held (test ∷ tests) t l = in_load n holds chains test.0.cells held (capture chains test.0 test.1 ∷ applied n holds chains (map known test.1.cells) tests) t l

  -- one test later
  next_test : (held : List Tri) (test : Pattern × Response) (tests : List (Pattern × Response)) (c k : ℕ) → c ≡ longest_of chains + suc k
      → get_or (rows (applied n holds chains held (test ∷ tests))) c [] ≡ get_or (rows (applied n holds chains (map known test.1.cells) tests)) k []
  next_test held test tests c k e = past_load n holds chains test.0.cells held (capture chains test.0 test.1 ∷ applied n holds chains (map known test.1.cells) tests) c (suc k) e

  capture_row : (held : List Tri) (tests : List (Pattern × Response)) (p : ℕ) (test : Pattern × Response) → slice_get tests p ≡ Some test
      → (c : ℕ) → c ≡ p * (longest_of chains + 1) + longest_of chains → get_or (rows (applied n holds chains held tests)) c [] ≡ (capture chains test.0 test.1).strobe
  capture_row held [] p test e c is = cc
  capture_row held (first ∷ tests) zero test e c is =
      let same : first ≡ test = get_of (first ∷ tests) zero test test e in
      past_load n holds chains first.0.cells held (capture chains first.0 first.1 ∷ applied n holds chains (map known first.1.cells) tests) c 0 (omega (arith, is))
      ∙ ap (λ (x : Pattern × Response). (capture chains x.0 x.1).strobe) same
  capture_row held (first ∷ tests) (suc p) test e c is =
      let m = longest_of chains in
      next_test held first tests c (p * (m + 1) + m) (omega (arith, is, suc-mul p (m + 1)))
      ∙ capture_row (map known first.1.cells) tests p test e (p * (m + 1) + m) refl

  unload_row : (held : List Tri) (tests : List (Pattern × Response)) (p : ℕ) (test : Pattern × Response) → slice_get tests p ≡ Some test
      → (t c : ℕ) → t < longest_of chains → c ≡ (p + 1) * (longest_of chains + 1) + t → get_or (rows (applied n holds chains held tests)) c [] ≡ load_row n chains (map known test.1.cells) t
  unload_row held [] p test e t c l is = cc
  unload_row held (first ∷ tests) zero test e t c l is =
      let same : first ≡ test = get_of (first ∷ tests) zero test test e in
      next_test held first tests c t (omega (arith, is))
      ∙ (first_of_applied (map known first.1.cells) tests t l ∙ ap (λ (x : Pattern × Response). load_row n chains (map known x.1.cells) t) same)
  unload_row held (first ∷ tests) (suc p) test e t c l is =
      let m = longest_of chains in
      next_test held first tests c ((p + 1) * (m + 1) + t) (omega (arith, is, suc-mul (p + 1) (m + 1)))
      ∙ unload_row (map known first.1.cells) tests p test e t ((p + 1) * (m + 1) + t) l refl

  -- behind the flush
  behind_flush : (tests : List (Pattern × Response)) (c k : ℕ) → c ≡ 3 * longest_of chains + k
      → get_or (rows (vectors n holds chains tests)) c [] ≡ get_or (rows (applied n holds chains (replicate (length (cells_of chains)) X) tests)) k []
  behind_flush tests c k e =
      let m = longest_of chains in
      let nothing : List Tri = replicate (length (cells_of chains)) X in
      let l1 = load n holds chains (flush chains) nothing in
      let l2 = load n holds chains (map not (flush chains)) (map known (flush chains)) in
      let l3 = load n holds chains (replicate (length (cells_of chains)) false) (map known (map not (flush chains))) in
      let end = applied n holds chains nothing tests in
      let assoc : vectors n holds chains tests ≡ l1 ++ (l2 ++ (l3 ++ end)) = append_assoc (l1 ++ l2) l3 end ∙ append_assoc l1 l2 (l3 ++ end) in
      ap (λ r. get_or (rows r) c []) assoc
      ∙ (past_load n holds chains (flush chains) nothing (l2 ++ (l3 ++ end)) c (m + (m + k)) (omega arith)
      ∙ (past_load n holds chains (map not (flush chains)) (map known (flush chains)) (l3 ++ end) (m + (m + k)) (m + k) refl
      ∙ past_load n holds chains (replicate (length (cells_of chains)) false) (map known (map not (flush chains))) end (m + k) k refl))

-- ---- cells by chain

-- a cell of a chain, at its place among all cells
cell_by_chain : (chains : List (List ℕ)) (c k cell : ℕ) (chain : List ℕ) → slice_get chains c ≡ Some chain → slice_get chain k ≡ Some cell
    → (q : ℕ) × (slice_get (cells_of chains) q ≡ Some cell) × ((held : List Tri) → length held ≡ length (cells_of chains)
    → (get_or (get_or (by_chain chains held) c []) k X ≡ get_or held q X) × (length (get_or (by_chain chains held) c []) ≡ length chain))
cell_by_chain [] c k cell chain e h = cc
cell_by_chain (own ∷ chains) zero k cell chain e h =
    let same : own ≡ chain = get_of (own ∷ chains) zero chain chain e in
    let l : k < length chain = below_of chain k cell h in
    let l' : k < length own = subst (λ (x : List ℕ). k < length x) (sym same) l in (
      k,
      get_left own (cells_of chains) k cell (ap (λ (x : List ℕ). slice_get x k) same ∙ h),
      λ held size. (
        get_or-take (length own) held k X l',
        omega (arith, length-take (length own) held, length-append own (cells_of chains), ap length same),
      ),
    )
  where
    get_left : (xs ys : List ℕ) (j x : ℕ) → slice_get xs j ≡ Some x → slice_get (xs ++ ys) j ≡ Some x
    get_left [] ys j x e = cc
    get_left (z ∷ zs) ys zero x e = e
    get_left (z ∷ zs) ys (suc j) x e = get_left zs ys j x e
cell_by_chain (own ∷ chains) (suc c) k cell chain e h =
    let r = cell_by_chain chains c k cell chain e h in (
      length own + r.0,
      get_right own (cells_of chains) r.0 cell r.1,
      λ held size.
          let w = r.2 (drop (length own) held) (omega (arith, length-drop (length own) held, length-append own (cells_of chains))) in
          (w.0 ∙ get_or-drop (length own) held r.0 X, w.1),
    )
  where
    get_right : (xs ys : List ℕ) (j x : ℕ) → slice_get ys j ≡ Some x → slice_get (xs ++ ys) (length xs + j) ≡ Some x
    get_right [] ys j x e = let i : 0 + j ≡ j = omega arith in ap (λ i. slice_get ys i) i ∙ e
    get_right (z ∷ zs) ys j x e =
        let i : suc (length zs) + j ≡ suc (length zs + j) = omega arith in
        ap (λ i. slice_get (z ∷ zs ++ ys) i) i ∙ get_right zs ys j x e

same_place : (ids : List ℕ) (i j x : ℕ) → AllPairs (λ x y. x ≢ y) ids → slice_get ids i ≡ Some x → slice_get ids j ≡ Some x → i ≡ j
same_place ids i j x apart a b =
    let equal = get_of ids i x 0 a ∙ sym (get_of ids j x 0 b) in
    elim (cases_lt i j) [
      | inl l ↦ absurd (apart i j 0 l (below_of ids j x b) equal)
      | inr l ↦ elim (cases_lt j i) [
        | inl k ↦ absurd (apart j i 0 k (below_of ids i x a) (sym equal))
        | inr k ↦ omega arith
      ]
    ]

pub longest_above : (chains : List (List ℕ)) (c : ℕ) (chain : List ℕ) → slice_get chains c ≡ Some chain → length chain ≤ longest_of chains
longest_above [] c chain e = cc
longest_above (own ∷ chains) zero chain e = let same = ap length (get_of (own ∷ chains) zero chain chain e) in omega arith
longest_above (own ∷ chains) (suc c) chain e = let l = longest_above chains c chain e in omega arith

-- what the shift of a load strobes at a scan output
pub scan_strobe : (n : Netlist) (chains : List (List ℕ)) (held : List Tri) (c k cell q : ℕ) (chain : List ℕ) → AllPairs (λ x y. x ≢ y) (cells_of chains)
    → length held ≡ length (cells_of chains) → slice_get chains c ≡ Some chain → slice_get chain k ≡ Some cell → slice_get (cells_of chains) q ≡ Some cell
    → get_or (load_row n chains held (length chain - 1 - k)) (length n.outputs + c) X ≡ get_or held q X
scan_strobe n chains held c k cell q chain apart size e h is =
    let m = longest_of chains in
    let t = length chain - 1 - k in
    let r = cell_by_chain chains c k cell chain e h in
    let same : r.0 ≡ q = same_place (cells_of chains) r.0 q cell apart r.1 is in
    let w = r.2 held size in
    let own = get_or (by_chain chains held) c [] in
    let l : k < length chain = below_of chain k cell h in
    let words = map (word_out m) (by_chain chains held) in
    let below : c < length (by_chain chains held) = omega (arith, below_of chains c chain e, length-by_chain chains held) in
    let below' : c < length words = omega (arith, length-map (by_chain chains held) (word_out m)) in
    let wide = length-replicate (length n.outputs) X in
    let own_size : length own ≡ length chain = w.1 in
    get_or-append_right (replicate (length n.outputs) X) (column X words t) (length n.outputs) (length n.outputs + c) X wide (omega arith)
    ∙ (ap (λ j. get_or (column X words t) j X) (omega arith)
    ∙ (get_or-map (λ (word : List Tri). get_or word t X) words c [] X below'
    ∙ (ap (λ (word : List Tri). get_or word t X) (get_or-map (word_out m) (by_chain chains held) c [] [] below)
    ∙ (get_or_append_left (reverse own) (replicate (m - length own) X) X t (omega (arith, length-reverse own))
    ∙ (get_or-reverse own t X (omega arith)
    ∙ (ap (λ j. get_or own j X) (omega arith) ∙ (w.0 ∙ ap (λ j. get_or held j X) same)))))))
  where
    length-by_chain : (chains : List (List ℕ)) (values : List Tri) → length (by_chain chains values) ≡ length chains
    length-by_chain [] values = refl
    length-by_chain (own ∷ chains) values = ap suc (length-by_chain chains (drop (length own) values))

-- ---- points

-- the bit of a response at a point
abbrev pub response_at : Response → Point → Option Bool
response_at r (Output k) = slice_get r.outputs k
response_at r (Cell q) = slice_get r.cells q

known_at : (bs : List Bool) (xs : List Tri) (k : ℕ) (b : Bool) → slice_get bs k ≡ Some b → get_or (map known bs ++ xs) k X ≡ known b
known_at [] xs k b e = cc
known_at (c ∷ cs) xs zero b e = ap known (get_of (c ∷ cs) zero b b e)
known_at (c ∷ cs) xs (suc k) b e = known_at cs xs k b e

pub capture_strobe : (chains : List (List ℕ)) (p : Pattern) (r : Response) (k : ℕ) (b : Bool) → slice_get r.outputs k ≡ Some b → get_or (capture chains p r).strobe k X ≡ known b
capture_strobe [] p r k b e = ap (λ (x : List Tri). get_or x k X) (sym (append-nil (map known r.outputs))) ∙ known_at r.outputs [] k b e
capture_strobe (chain ∷ chains) p r k b e = known_at r.outputs (replicate (length (chain ∷ chains)) X) k b e

-- A cell's bit comes to the scan output within the load, where it is strobed.
module _ (n : Netlist) (chains : List (List ℕ)) (q cell chain place : ℕ) (sound : IsSound n) (are : AreChainsOf n chains) (is_cell : slice_get (cell_ids n) q ≡ Some cell) (is_at : IsAt chains cell chain place) where
  pub unloaded_early : length is_at.chain_cells - 1 - place < longest_of chains
  unloaded_early =
      let l : place < length is_at.chain_cells = below_of is_at.chain_cells place cell is_at.has_cell in
      let long : length is_at.chain_cells ≤ longest_of chains = longest_above chains chain is_at.chain_cells is_at.has_chain in
      omega arith

  pub unloaded_bit : (bits : List Bool) (o : ℕ) (b : Bool) → length bits ≡ length (cells_of chains) → o ≡ length n.outputs + chain → slice_get bits q ≡ Some b
      → get_or (load_row n chains (map known bits) (length is_at.chain_cells - 1 - place)) o X ≡ known b
  unloaded_bit bits o b size at is =
      let all = (are_dealt n chains are).all in
      let held = map known bits in
      let apart : AllPairs (λ x y. x ≢ y) (cells_of chains) = cells_distinct n sound.formed.numbered (cells_of chains) all in
      let here : slice_get (cells_of chains) q ≡ Some cell = ap (λ (xs : List ℕ). slice_get xs q) all ∙ is_cell in
      ap (λ j. get_or (load_row n chains held (length is_at.chain_cells - 1 - place)) j X) at
      ∙ (scan_strobe n chains held chain place cell q is_at.chain_cells apart (length-map bits known ∙ size) is_at.has_chain is_at.has_cell here
      ∙ (ap (λ (x : List Tri). get_or x q X) (sym (append-nil held)) ∙ known_at bits [] q b is))

-- The vectors strobe the response's bit where the point is strobed.
pub strobe_of_point : (n : Netlist) (holds : Holds) (chains : List (List ℕ)) (tests : List (Pattern × Response)) (p : ℕ) (test : Pattern × Response) (point : Point) (c o : ℕ) (b : Bool)
    → IsSound n → AreChainsOf n chains → slice_get tests p ≡ Some test → length test.1.cells ≡ length (cells_of chains) → IsStrobedAt n chains p point c o
    → response_at test.1 point ≡ Some b → strobe_at (vectors n holds chains tests) c o ≡ known b
strobe_of_point n holds chains tests p test (Output k) c o b sound are e size at is =
    let m = longest_of chains in
    ap (λ r. get_or r o X) (behind_flush n holds chains tests c (p * (m + 1) + m) (omega (arith, at.0))
    ∙ capture_row n holds chains (replicate (length (cells_of chains)) X) tests p test e (p * (m + 1) + m) refl)
    ∙ (ap (λ j. get_or (capture chains test.0 test.1).strobe j X) at.1 ∙ capture_strobe chains test.0 test.1 k b is)
strobe_of_point n holds chains tests p test (Cell q) c o b sound are e size at is =
    let m = longest_of chains in
    let t = length at.is_at.chain_cells - 1 - at.place in
    let early = unloaded_early n chains q at.cell at.chain at.place sound are at.is_cell at.is_at in
    ap (λ r. get_or r o X) (behind_flush n holds chains tests c ((p + 1) * (m + 1) + t) (omega (arith, at.cycle_is))
    ∙ unload_row n holds chains (replicate (length (cells_of chains)) X) tests p test e t ((p + 1) * (m + 1) + t) early refl)
    ∙ unloaded_bit n chains q at.cell at.chain at.place sound are at.is_cell at.is_at test.1.cells o b size at.output_is is
