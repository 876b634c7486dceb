-- The chains' lengths and where they begin.
use Rattle.std.proofs.Common.{◌≡◌, ℕ, suc, zero, ◌+◌, ◌-◌, ◌*◌, ◌/◌, ◌%◌, ◌<◌, ◌≤◌, ◌++◌, inl, inr, min, cond, ltb, List, length, take, drop, replicate, get_or, slice_get, Some, add-one, sym, ◌∙◌, ap, subst, arith, length-append, length-drop, length-take}
use Rattle.std.specs.List.{All, Contains}
use Rattle.std.proofs.Math.Nat.{suc-mul, mul-suc, add-mul, zero-mul, zero-mod, div-add-mod', mul_comm}
use Rattle.std.proofs.lemmas.Nat.{mul-le, div_below, mod_below, le-div}
use Rattle.std.proofs.lemmas.Bool.{cases_lt, lt-ltb, le-ltb}
use Rattle.std.proofs.lemmas.List.{length-replicate, get_or-replicate, take-replicate, get_or_append_left, get_or-append_right, get_or-take, get_or-drop, take_all, get_or_default}
use Rattle.std.proofs.lemmas.Option.{slice_get-get_or, get_or_from_slice_get}
use Rattle.scan_insert.specs.Chains.{pieces, lengths_of, chains_of}
use Rattle.statement.specs.Tests.{cells_of, longest_of, IsAt}
use Rattle.scan_insert.specs.inner.Places.{start_of, length_of, IsPlaced, AreDealt}
use Rattle.scan_insert.proofs.Pieces.{total, greatest, length-pieces, get-pieces, cells_of-pieces, longest_of-pieces}

-- so many of one length more, and then so many of the length
abbrev lengths : ℕ → ℕ → ℕ → List ℕ
lengths more others short = replicate more (short + 1) ++ replicate others short

length-lengths : (b m q : ℕ) → length (lengths b m q) ≡ b + m
length-lengths b m q =
    omega (arith, length-append (replicate b (q + 1)) (replicate m q), length-replicate b (q + 1), length-replicate m q)

total-replicate : (n q : ℕ) → total (replicate n q) ≡ n * q
total-replicate zero q = sym (zero-mul q)
total-replicate (suc n) q = omega (arith, total-replicate n q, suc-mul n q)

total-take-lengths : (b m q c : ℕ) → c ≤ b + m → total (take c (lengths b m q)) ≡ c * q + min b c
total-take-lengths zero m q c l =
    ap total (take-replicate c m q (omega arith)) ∙ (total-replicate c q ∙ omega arith)
total-take-lengths (suc b) m q zero l = omega (arith, zero-mul q)
total-take-lengths (suc b) m q (suc c) l = omega (arith, total-take-lengths b m q c (omega arith), suc-mul c q)

get-lengths : (b m q c : ℕ) → c < b + m → get_or (lengths b m q) c 0 ≡ cond (ltb c b) (q + 1) q
get-lengths b m q c l = elim (cases_lt c b) [
  | inl h ↦
      get_or_append_left (replicate b (q + 1)) (replicate m q) 0 c (omega (arith, length-replicate b (q + 1)))
      ∙ (get_or-replicate b c (q + 1) 0 h ∙ sym (ap (λ t. cond t (q + 1) q) (lt-ltb c b h)))
  | inr h ↦
      get_or-append_right (replicate b (q + 1)) (replicate m q) b c 0 (length-replicate b (q + 1)) h
      ∙ (get_or-replicate m (c - b) q 0 (omega arith) ∙ sym (ap (λ t. cond t (q + 1) q) (le-ltb c b h)))
]

greatest-replicate : (m q : ℕ) → 0 < m → greatest (replicate m q) ≡ q
greatest-replicate zero q h = absurd (omega arith)
greatest-replicate (suc zero) q h = omega arith
greatest-replicate (suc (suc m)) q h = omega (arith, greatest-replicate (suc m) q (omega arith))

greatest-replicate-le : (m q : ℕ) → greatest (replicate m q) ≤ q
greatest-replicate-le zero q = omega arith
greatest-replicate-le (suc m) q = omega (arith, greatest-replicate-le m q)

greatest_longer : (b m q : ℕ) → greatest (lengths (suc b) m q) ≡ q + 1
greatest_longer zero m q = omega (arith, greatest-replicate-le m q)
greatest_longer (suc b) m q = omega (arith, greatest_longer b m q)

greatest-lengths : (b m q : ℕ) → 0 < b + m → greatest (lengths b m q) ≡ q + min 1 b
greatest-lengths zero m q h = omega (arith, greatest-replicate m q (omega arith))
greatest-lengths (suc b) m q h = omega (arith, greatest_longer b m q)

mul-one-more : (a b : ℕ) → a * (b + 1) ≡ a * b + a
mul-one-more a b = rw add-one (mul-suc a b)

one-more-mul : (a b : ℕ) → (a + 1) * b ≡ a * b + b
one-more-mul a b = rw add-one (suc-mul a b)

-- so many cells in so many chains: the cells that are left over are fewer than the chains
left_over_below : (f c : ℕ) → c ≤ f → (0 < f → 0 < c) → f % c + (c - f % c) ≡ c
left_over_below f zero l h =
    let none : f ≡ 0 = elim (cases_lt 0 f) [
      | inl y ↦ let never : 0 < 0 = h y in omega arith
      | inr n ↦ omega arith
    ] in
    let e : f % 0 ≡ 0 = ap (λ n. n % 0) none ∙ zero-mod 0 in
    omega arith
left_over_below f (suc c) l h = omega (arith, mod_below f (suc c) (omega arith))

pub length-chains : (cells : List ℕ) (count : ℕ) → count ≤ length cells → (0 < length cells → 0 < count) → length (chains_of cells count) ≡ count
length-chains cells count l h =
    let f = length cells in
    let same : min count f ≡ count = omega arith in
    ap (λ c. length (pieces (lengths_of f c) cells)) same
    ∙ (length-pieces (lengths_of f count) cells
    ∙ (length-lengths (f % count) (count - f % count) (f / count) ∙ left_over_below f count l h))

total_lengths : (f count : ℕ) → count ≤ f → (0 < f → 0 < count) → total (lengths_of f count) ≡ f
total_lengths f count l h =
    let parts = left_over_below f count l h in
    let all = length-lengths (f % count) (count - f % count) (f / count) in
    let e = total-take-lengths (f % count) (count - f % count) (f / count) count (omega arith) in
    let whole : take count (lengths_of f count) ≡ lengths_of f count = take_all count (lengths_of f count) (omega arith) in
    ap total (sym whole) ∙ (e ∙ omega (arith, div-add-mod' f count, mul_comm count (f / count)))

pub cells_of-chains : (cells : List ℕ) (count : ℕ) → count ≤ length cells → (0 < length cells → 0 < count) → cells_of (chains_of cells count) ≡ cells
cells_of-chains cells count l h =
    let f = length cells in
    let same : min count f ≡ count = omega arith in
    ap (λ c. cells_of (pieces (lengths_of f c) cells)) same
    ∙ cells_of-pieces (lengths_of f count) cells (total_lengths f count l h)

pub longest_of-chains : (cells : List ℕ) (count : ℕ) → count ≤ length cells → 0 < count → longest_of (chains_of cells count) ≡ length cells / count + min 1 (length cells % count)
longest_of-chains cells count l h =
    let f = length cells in
    let same : min count f ≡ count = omega arith in
    ap (λ c. longest_of (pieces (lengths_of f c) cells)) same
    ∙ (longest_of-pieces (lengths_of f count) cells (total_lengths f count l (λ _. h))
    ∙ greatest-lengths (f % count) (count - f % count) (f / count) (omega (arith, left_over_below f count l (λ _. h))))

pub get-chains : (cells : List ℕ) (count c : ℕ) → count ≤ length cells → c < count
    → slice_get (chains_of cells count) c ≡ Some (take (length_of (length cells) count c) (drop (start_of (length cells) count c) cells))
get-chains cells count c l h =
    let f = length cells in
    let same : min count f ≡ count = omega arith in
    let parts = left_over_below f count l (λ _. omega arith) in
    let all = length-lengths (f % count) (count - f % count) (f / count) in
    let at = get-lengths (f % count) (count - f % count) (f / count) c (omega arith) in
    let from = total-take-lengths (f % count) (count - f % count) (f / count) c (omega arith) in
    ap (λ k. slice_get (pieces (lengths_of f k) cells) c) same
    ∙ (get-pieces (lengths_of f count) cells c (omega arith)
    ∙ (ap (λ k. Some (take k (drop (total (take c (lengths_of f count))) cells))) at
    ∙ ap (λ k. Some (take (length_of f count c) (drop k cells))) from))

-- a chain ends where the next one begins, or with the last cell
pub chain_within : (f count c : ℕ) → c < count → count ≤ f → start_of f count c + length_of f count c ≤ f
chain_within f count c h l =
    let q = f / count in
    let b = f % count in
    let below : b < count = mod_below f count (omega arith) in
    let whole : q * count + b ≡ f = div-add-mod' f count in
    let fits : (c + 1) * q ≤ count * q = mul-le (c + 1) q count q (omega arith) (omega arith) in
    let one : (c + 1) * q ≡ c * q + q = one-more-mul c q in
    let turned = mul_comm count q in
    elim (cases_lt c b) [
      | inl y ↦ let e : cond (ltb c b) (q + 1) q ≡ q + 1 = ap (λ t. cond t (q + 1) q) (lt-ltb c b y) in omega arith
      | inr n ↦ let e : cond (ltb c b) (q + 1) q ≡ q = ap (λ t. cond t (q + 1) q) (le-ltb c b n) in omega arith
    ]

pub placed_short : (f count at : ℕ) → 0 < count → count ≤ f → at < f → (f % count) * (f / count + 1) ≤ at
    → IsPlaced f count at (f % count + (at - (f % count) * (f / count + 1)) / (f / count)) ((at - (f % count) * (f / count + 1)) % (f / count))
placed_short f count at h l w out =
    let q = f / count in
    let b = f % count in
    let below : b < count = mod_below f count h in
    let some : 1 ≤ q = le-div 1 f count h (omega arith) in
    let whole : q * count + b ≡ f = div-add-mod' f count in
    let long : b * (q + 1) ≡ b * q + b = mul-one-more b q in
    let behind = at - b * (q + 1) in
    let rest : (count - b) * q + b * q ≡ count * q = sym (add-mul (count - b) b q) ∙ ap (λ n. n * q) (omega arith) in
    let turned = mul_comm count q in
    let c = behind / q in
    let j = behind % q in
    let in_short : c < count - b = div_below behind q (count - b) (omega arith) (omega arith) in
    let in_row : j < q = mod_below behind q (omega arith) in
    let e : cond (ltb (b + c) b) (q + 1) q ≡ q = ap (λ t. cond t (q + 1) q) (le-ltb (b + c) b (omega arith)) in
    let parts : c * q + j ≡ behind = div-add-mod' behind q in
    let split : (b + c) * q ≡ b * q + c * q = add-mul b c q in
    record { in_chains = omega arith; in_chain = omega arith; is_at = omega arith }

-- what stands at a place of the cells stands in its chain
pub is_at : (cells : List ℕ) (count at c j cell : ℕ) → count ≤ length cells → at < length cells → get_or cells at 0 ≡ cell → IsPlaced (length cells) count at c j
    → IsAt (chains_of cells count) cell c j
is_at cells count at c j cell l w same p =
    let f = length cells in
    let start = start_of f count c in
    let len = length_of f count c in
    let within = chain_within f count c p.in_chains l in
    let chain = take len (drop start cells) in
    let size : length chain ≡ len = omega (arith, length-take len (drop start cells), length-drop start cells) in
    let here : get_or chain j 0 ≡ cell =
    get_or-take len (drop start cells) j 0 p.in_chain
    ∙ (get_or-drop start cells j 0 ∙ (ap (λ k. get_or cells k 0) p.is_at ∙ same)) in
    record {
      chain_cells = chain;
      has_chain = get-chains cells count c l p.in_chains;
      has_cell = slice_get-get_or chain j 0 (omega (arith, p.in_chain)) ∙ ap Some here;
    }

-- a cell of the chains, found by its place in the table
pub record IsFound (cells places : List ℕ) (least cell : ℕ) : Type 0 where
  pub at : ℕ
  pub within : at < length cells
  pub is_cell : get_or cells at 0 ≡ cell
  pub above : least ≤ cell
  pub in_table : cell - least < length places
  pub told : get_or places (cell - least) 0 ≡ at

pub found : (cells places : List ℕ) (count least cell : ℕ) → AreDealt cells count least places → Contains (cells_of (chains_of cells count)) cell
    → IsFound cells places least cell
found cells places count least cell dealt c =
    let m : Contains cells cell = subst (λ (xs : List ℕ). Contains xs cell) (cells_of-chains cells count dealt.enough dealt.some) c in
    let e : get_or cells m.0 0 ≡ cell = get_or_default cells m.0 0 cell m.1 ∙ m.2 in
    record {
      at = m.0;
      within = m.1;
      is_cell = e;
      above = subst (λ x. least ≤ x) e (dealt.table.above m.0 m.1);
      in_table = subst (λ x. x - least < length places) e (dealt.table.within m.0 m.1);
      told = subst (λ x. get_or places (x - least) 0 ≡ m.0) e (dealt.table.has_place m.0 m.1);
    }

-- whatever number is asked for
same_chains : (cells : List ℕ) (asked : ℕ) → chains_of cells asked ≡ chains_of cells (min asked (length cells))
same_chains cells asked =
    let f = length cells in
    let same : min (min asked f) f ≡ min asked f = omega arith in
    ap (λ k. pieces (lengths_of f k) cells) (sym same)

pub stitched_cells : (cells : List ℕ) (asked : ℕ) → 0 < asked → cells_of (chains_of cells asked) ≡ cells
stitched_cells cells asked h =
    ap cells_of (same_chains cells asked) ∙ cells_of-chains cells (min asked (length cells)) (omega arith) (λ some. omega arith)

pub stitched_count : (cells : List ℕ) (asked : ℕ) → 0 < asked → length (chains_of cells asked) ≡ min asked (length cells)
stitched_count cells asked h =
    ap length (same_chains cells asked) ∙ length-chains cells (min asked (length cells)) (omega arith) (λ some. omega arith)

filled : (cells : List ℕ) (count : ℕ) → count ≤ length cells → 0 < count → (c : ℕ) (d : List ℕ) → c < count → 0 < length (get_or (chains_of cells count) c d)
filled cells count l h c d w =
    let f = length cells in
    let start = start_of f count c in
    let len = length_of f count c in
    let within : start + len ≤ f = chain_within f count c w l in
    let is : get_or (chains_of cells count) c d ≡ take len (drop start cells) =
    get_or_from_slice_get (chains_of cells count) c (take len (drop start cells)) d (get-chains cells count c l w) in
    let some : 1 ≤ f / count = le-div 1 f count h (omega arith) in
    let long : 1 ≤ len = elim (cases_lt c (f % count)) [
      | inl y ↦ let e : len ≡ f / count + 1 = ap (λ t. cond t (f / count + 1) (f / count)) (lt-ltb c (f % count) y) in omega arith
      | inr n ↦ let e : len ≡ f / count = ap (λ t. cond t (f / count + 1) (f / count)) (le-ltb c (f % count) n) in omega arith
    ] in
    let size : length (take len (drop start cells)) ≡ len = omega (arith, length-take len (drop start cells), length-drop start cells) in
    rw is (omega arith)

-- no chain is without cells
pub stitched_filled : (cells : List ℕ) (asked : ℕ) → 0 < asked → All (λ (chain : List ℕ). 0 < length chain) (chains_of cells asked)
stitched_filled cells asked h c d w =
    let count = min asked (length cells) in
    let size = stitched_count cells asked h in
    let l : c < count = omega (arith, size, w) in
    rw (same_chains cells asked) (filled cells count (omega arith) (omega arith) c d l)
