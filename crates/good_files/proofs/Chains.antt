-- The chains of a design, by the number that a report says, and what the law of insertion says with scan off.
use Rattle.std.proofs.Common.{◌≡◌, ℕ, zero, suc, ◌<◌, ◌≤◌, false, List, [], ◌∷◌, length, take, min, None, refl, sym, ◌∙◌, ap, subst, arith, inl, inr}
use Rattle.std.proofs.lemmas.Bool.{cases_lt}
use Rattle.std.proofs.lemmas.Option.{none-some}
use Rattle.std.proofs.lemmas.List.{take_at, length-map}
use Rattle.statement.specs.Netlists.{Definition, Netlist, cells, is_cell}
use Rattle.netlist.specs.Conditions.{IsSound}
use Rattle.netlist.proofs.Placed.{signals_length}
use Rattle.statement.specs.Values.{bits, outs}
use Rattle.scan_insert.specs.Chains.{chains_of, pieces, lengths_of}
use Rattle.scan_insert.specs.Laws.{ScanBehaves, last_bits}
use Rattle.scan_insert.specs.Scanned.{AreChainsOf, cell_ids, scanned_of}
use Rattle.scan_insert.proofs.Dealing.{stitched_count}
use Rattle.scan_insert.proofs.Soundness.{filter_le}
use Rattle.good_files.specs.GoodFiles.{IsChainCount}
use Rattle.statement.specs.Statement.{BehavesWithScanOff}
use Rattle.good_files.specs.ScanOff.{design_chains}

-- ---- so many chains

-- without cells there is no chain, however many are asked for
same_none : (ids : List ℕ) → length ids ≡ 0 → chains_of ids 0 ≡ chains_of ids 1
same_none [] e = refl
same_none (x ∷ ids) e = absurd (omega arith)

pub ids_size : (n : Netlist) → length (cell_ids n) ≡ length (cells n)
ids_size n = length-map (cells n) (λ (d : Definition). d.id)

pub dealt : (n : Netlist) (count : ℕ) → IsChainCount n count → AreChainsOf n (design_chains n count)
dealt n zero is = record {
  asked = 1;
  some = omega arith;
  are =
      let size = ids_size n in
      elim (cases_lt 0 (length (cells n))) [
        | inl cell ↦ let some = is.some cell in absurd (omega arith)
        | inr never ↦ same_none (cell_ids n) (omega arith)
      ];
}
dealt n (suc count) is = record { asked = suc count; some = omega arith; are = refl }

-- A report says as many chains as were made: by that number they are made again.

again : (ids : List ℕ) (asked : ℕ) → 0 < asked → chains_of ids (length (chains_of ids asked)) ≡ chains_of ids asked
again ids asked some =
    let count = stitched_count ids asked some in
    let same : min (length (chains_of ids asked)) (length ids) ≡ min asked (length ids) = omega arith in
    ap (λ c. pieces (lengths_of (length ids) c) ids) same

pub made_again : (n : Netlist) (chains : List (List ℕ)) → AreChainsOf n chains → design_chains n (length chains) ≡ chains
made_again n chains are =
    ap (λ (cs : List (List ℕ)). chains_of (cell_ids n) (length cs)) are.are ∙ (again (cell_ids n) are.asked are.some ∙ sym are.are)

few_cells : (n : Netlist) → IsSound n → length (cells n) ≤ 8000000
few_cells n sound =
    let size = signals_length n in
    let part = filter_le is_cell n.definitions in
    omega (arith, sound.sized.small)

-- and they are so many as a report may say
pub counted : (n : Netlist) → IsSound n → (chains : List (List ℕ)) → AreChainsOf n chains → IsChainCount n (length chains)
counted n sound chains are =
    let few = few_cells n sound in
    let size = ids_size n in
    let count : length chains ≡ min are.asked (length (cell_ids n)) = ap length are.are ∙ stitched_count (cell_ids n) are.asked are.some in
    let some = are.some in
    record { few = omega arith; some = λ cell. omega arith }

-- ---- with scan off

none : (count : ℕ) → count ≡ 0 → pieces (lengths_of 0 count) [] ≡ []
none count e = ap (λ c. pieces (lengths_of 0 c) []) e

nil-cons : {x : List ℕ} {xs : List (List ℕ)} → [] ≡ x ∷ xs → ⊥
nil-cons e = let l = ap length e in omega arith

-- a netlist with a chain has a cell
chained : (ids : List ℕ) (asked : ℕ) (chain : List ℕ) (chains : List (List ℕ)) → chains_of ids asked ≡ chain ∷ chains → 0 < length ids
chained [] asked chain chains e = absurd (nil-cons (sym (none (min asked 0) (omega arith)) ∙ e))
chained (x ∷ ids) asked chain chains e = omega arith

pub behaves : ScanBehaves → (n : Netlist) (asked : ℕ) → IsSound n → AreChainsOf n (design_chains n asked) → (chains : List (List ℕ)) → design_chains n asked ≡ chains → BehavesWithScanOff n (scanned_of n chains) chains
behaves law n asked sound are [] e = refl
behaves law n asked sound are (chain ∷ chains) e = λ inputs state scan_inputs a b p q.
    let many : length (cell_ids n) ≡ length (cells n) = ids_size n in
    let cell : 0 < length (cells n) = (let c = chained (cell_ids n) asked chain chains e in omega arith) in
    let w = law n (chain ∷ chains) None inputs state scan_inputs false a b sound (subst (AreChainsOf n) e are) cell (λ g none. absurd (none-some g none)) p q in
    (ap (take (length n.outputs)) (w.0) ∙ take_at (outs (bits None) n a) (last_bits (chain ∷ chains) state) (length n.outputs) (length-map n.outputs _), w.1)
