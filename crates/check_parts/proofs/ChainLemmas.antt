-- Chains of so many as a report says, and the text of the netlist scanned with them.
use Rattle.std.proofs.Common.{◌≡◌, ℕ, zero, suc, max, List, [], ◌∷◌, length, refl, ◌∙◌, ap, arith, inl, inr}
use Rattle.std.proofs.lemmas.Bool.{cases_lt}
use Rattle.std.proofs.lemmas.List.{length-map}
use Rattle.statement.specs.Netlists.{Definition, Netlist, cells}
use Rattle.statement.specs.Benches.{canonical}
use Rattle.scan_insert.specs.Chains.{chains_of}
use Rattle.scan_insert.specs.Scanned.{Insertion, cell_ids, insertion_of, scanned_of}
use Rattle.good_files.specs.ScanOff.{design_chains}
use Rattle.good_files.specs.GoodFiles.{IsChainCount}
use Rattle.good_files.proofs.Chains.{dealt}
use Rattle.check_parts.specs.declared.scanning.Stitched.{Stitched}
use Rattle.check_parts.specs.Scanning.{IsStitched}

-- without cells there is no chain, however many are asked for
one_for_none : (ids : List ℕ) → length ids ≡ 0 → chains_of ids 1 ≡ chains_of ids 0
one_for_none [] e = refl
one_for_none (x ∷ ids) e = absurd (omega arith)

-- where one is asked for in place of none, the chains are the same
made_as : (n : Netlist) (count : ℕ) → IsChainCount n count → chains_of (cell_ids n) (max count 1) ≡ design_chains n count
made_as n zero is =
    let size = length-map (cells n) (λ (d : Definition). d.id) in
    let one : max zero 1 ≡ 1 = omega arith in
    elim (cases_lt 0 (length (cells n))) [
      | inl cell ↦ let some = is.some cell in absurd (omega arith)
      | inr never ↦ ap (chains_of (cell_ids n)) one ∙ one_for_none (cell_ids n) (omega arith)
    ]
made_as n (suc count) is = let same : max (suc count) 1 ≡ suc count = omega arith in ap (chains_of (cell_ids n)) same

pub stitched_as : (n : Netlist) (count asked : ℕ) (ids : List ℕ) (chains : List (List ℕ)) (scanned : Insertion) → IsChainCount n count → asked ≡ max count 1 → ids ≡ cell_ids n
    → chains ≡ chains_of ids asked → scanned ≡ insertion_of n chains → IsStitched n (design_chains n count) (record { chains = chains; scanned = scanned })
stitched_as n count asked ids chains scanned is one own made insertion =
    let same : chains ≡ design_chains n count = made ∙ ((λ i. chains_of (own i) (one i)) ∙ made_as n count is) in
    record { chains_are = same; dealt = dealt n count is; scanned_is = insertion ∙ ap (insertion_of n) same }

-- the text that is written of it
pub text_as : (n : Netlist) (count : ℕ) (s : Stitched) (m : Netlist) (text : List ℕ) → IsStitched n (design_chains n count) s → m ≡ s.scanned.netlist → text ≡ canonical m
    → text ≡ canonical (scanned_of n (design_chains n count))
text_as n count s m text is own written = written ∙ (ap canonical own ∙ ap (λ (made : Insertion). canonical made.netlist) is.scanned_is)
