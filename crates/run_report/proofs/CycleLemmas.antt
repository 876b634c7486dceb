-- Cycles and shares are few enough for a number of 64 bits.
use Rattle.std.proofs.Common.{zero, suc, ◌≡◌, ℕ, ◌+◌, ◌*◌, ◌/◌, ◌<◌, ◌≤◌, ◌^◌, List, [], ◌∷◌, length, get_or, Some, refl, sym, ◌∙◌, ap, subst, arith, div-le_self, length-append}
use Rattle.std.specs.List.{Contains, slice_get}
use Rattle.std.proofs.lemmas.List.{length-map}
use Rattle.std.proofs.lemmas.Option.{slice_get_read}
use Rattle.statement.specs.Netlists.{Definition, Netlist, cells}
use Rattle.netlist.specs.Conditions.{IsSound}
use Rattle.statement.specs.Tests.{cells_of, longest_of, IsAt, IsUnloadedAt}
use Rattle.scan_insert.specs.Scanned.{AreChainsOf, cell_ids}
use Rattle.scan_insert.proofs.Concrete.{are_dealt}
use Rattle.scan_play.specs.Vectors.{unload_cycle}
use Rattle.scan_play.proofs.ApplyLemmas.{few_cells}
use Rattle.scan_play.proofs.Widths.{cells_count}
use Rattle.run_report.specs.Heads.{share_of}
use Rattle.std.proofs.Math.Nat.{mul-le-mul_left, mul-le-mul_right}

pub small_product : (p m : ℕ) → p ≤ 2 ^ 32 → m ≤ 8000001 → p * m ≤ 2 ^ 32 * 8000001
small_product p m a b = omega (arith, mul-le-mul_left p b, mul-le-mul_right 8000001 a)

pub share_small : (faults count : ℕ) → count ≤ 9000000000 → share_of faults count / 100 < 18446744073709551616
share_small faults count few =
    let whole = div-le_self (10000 * count) faults in
    let part = div-le_self (share_of faults count) 100 in
    omega (arith, whole, part, few)

-- ---- chains of a netlist

longest_within : (chains : List (List ℕ)) → longest_of chains ≤ length (cells_of chains)
longest_within [] = omega arith
longest_within (chain ∷ chains) =
    let rest = longest_within chains in
    let size = length-append chain (cells_of chains) in
    omega (arith, rest, size)

chain_within : (chains : List (List ℕ)) (c : ℕ) (chain : List ℕ) → slice_get chains c ≡ Some chain → length chain ≤ length (cells_of chains)
chain_within [] c chain e = cc
chain_within (x ∷ chains) zero chain e =
    let same : x ≡ chain = cc in
    let size = length-append x (cells_of chains) in
    let long : length x ≡ length chain = ap length same in
    omega (arith, size, long)
chain_within (x ∷ chains) (suc c) chain e =
    let rest = chain_within chains c chain e in
    let size = length-append x (cells_of chains) in
    omega (arith, rest, size)

pub longest_small : (n : Netlist) (chains : List (List ℕ)) → IsSound n → AreChainsOf n chains → longest_of chains ≤ 8000000
longest_small n chains sound are = omega (arith, longest_within chains, cells_count n chains are, few_cells n sound)

pub chain_small : (n : Netlist) (chains : List (List ℕ)) (c : ℕ) (chain : List ℕ) → IsSound n → AreChainsOf n chains → slice_get chains c ≡ Some chain → length chain ≤ 8000000
chain_small n chains c chain sound are e = omega (arith, chain_within chains c chain e, cells_count n chains are, few_cells n sound)

pub chains_small : (n : Netlist) (chains : List (List ℕ)) → IsSound n → AreChainsOf n chains → length chains ≤ 8000000
chains_small n chains sound are = omega (arith, (are_dealt n chains are).few, few_cells n sound)

pub has_cell : (n : Netlist) (chains : List (List ℕ)) (q cell : ℕ) (names : List ℕ) → AreChainsOf n chains → names ≡ cell_ids n → q < length names → cell ≡ get_or names q cell → Contains (cells_of chains) cell
has_cell n chains q cell names are e lt is =
    let P : List ℕ → Type 0 = λ cs. Contains cs cell in
    subst P (sym (are_dealt n chains are).all) (subst P e (q, lt, sym is))

pub cell_at : (n : Netlist) (names : List ℕ) (q : ℕ) → names ≡ cell_ids n → q < length (cells n) → q < length names
cell_at n names q e lt =
    let size : length (cell_ids n) ≡ length (cells n) = length-map (cells n) (λ (d : Definition). d.id) in
    omega (arith, ap length e, size, lt)

pub same_chain : (chains : List (List ℕ)) (c : ℕ) (a b : List ℕ) → slice_get chains c ≡ Some a → slice_get chains c ≡ Some b → a ≡ b
same_chain chains c a b p q = let both : Some a ≡ Some b = sym p ∙ q in cc

pub at_unload : (n : Netlist) (chains : List (List ℕ)) (p q cell : ℕ) (names : List ℕ) (chain place : ℕ) (chain_cells : List ℕ) (longest c o : ℕ)
    → names ≡ cell_ids n → q < length names → cell ≡ get_or names q cell → IsAt chains cell chain place → slice_get chains chain ≡ Some chain_cells
    → longest ≡ longest_of chains → c ≡ unload_cycle longest p (length chain_cells) place → o ≡ length n.outputs + chain
    → IsUnloadedAt n chains p q c o
at_unload n chains p q cell names chain place chain_cells longest c o e lt is at has long cycle output = record {
  cell = cell;
  is_cell = ap (λ xs. slice_get xs q) (sym e) ∙ slice_get_read names (length names) q cell refl lt is;
  chain = chain;
  place = place;
  is_at = at;
  cycle_is = cycle ∙ (ap (λ m. unload_cycle m p (length chain_cells) place) long
      ∙ ap (λ (xs : List ℕ). unload_cycle (longest_of chains) p (length xs) place) (same_chain chains chain chain_cells at.chain_cells has at.has_chain));
  output_is = output;
}
