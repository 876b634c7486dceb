-- How wide the scanned netlist is, and its inputs in their parts.
use Rattle.std.proofs.Common.{◌≡◌, ℕ, suc, List, [], ◌∷◌, ◌++◌, length, Some, None, refl, sym, ◌∙◌, ap, subst}
use Rattle.std.specs.List.{AllZip}
use Rattle.std.proofs.lemmas.List.{length-map}
use Rattle.statement.specs.declared.lines.Fault.{Fault}
use Rattle.statement.specs.Netlists.{Definition, Netlist, cells}
use Rattle.netlist.specs.Lines.{IsLineOf, IsFaultOf}
use Rattle.statement.specs.Tests.{cells_of}
use Rattle.scan_insert.specs.Scanned.{AreChainsOf, scanned_of, naming_of}
use Rattle.scan_insert.proofs.Concrete.{are_dealt}
use Rattle.scan_insert.proofs.Equations.{held_cell, cells_scanned}
use Rattle.scan_play.proofs.Shifting.{zip_length}

-- what goes onto the functional inputs, onto one more and onto the others
pub split_inputs : {X V : Type 0} (R : X → V → Type 0) (xs : List X) (y : X) (zs : List X) (vs : List V) → AllZip R (xs ++ y ∷ zs) vs
    → (us : List V) × (e : V) × (ws : List V) × (vs ≡ us ++ e ∷ ws) × (length us ≡ length xs) × (length ws ≡ length zs)
split_inputs R [] y zs [] h = absurd h
split_inputs R [] y zs (v ∷ vs) h = ([], v, vs, refl, refl, sym (zip_length R zs vs h.1))
split_inputs R (x ∷ xs) y zs [] h = absurd h
split_inputs R (x ∷ xs) y zs (v ∷ vs) h = let r = split_inputs R xs y zs vs h.1 in (v ∷ r.0, r.1, r.2, ap (λ us. v ∷ us) r.3, ap suc r.4, r.5)

-- the netlist has a cell for each cell of its chains
pub cells_count : (n : Netlist) (chains : List (List ℕ)) → AreChainsOf n chains → length (cells n) ≡ length (cells_of chains)
cells_count n chains are = sym (ap length (are_dealt n chains are).all ∙ length-map (cells n) (λ (d : Definition). d.id))

pub scanned_cells_count : (n : Netlist) (chain : List ℕ) (rest : List (List ℕ)) → length (cells (scanned_of n (chain ∷ rest))) ≡ length (cells n)
scanned_cells_count n chain rest = ap length (cells_scanned (naming_of n (chain ∷ rest)) n) ∙ length-map (cells n) (held_cell (naming_of n (chain ∷ rest)))

-- ---- faults

pub valid_fault : (n : Netlist) (f : Fault) → IsLineOf n f.line → IsFaultOf n (Some f)
valid_fault n f h g e = subst (λ (x : Fault). IsLineOf n x.line) (some_same f g e) h
  where
    some_same : (x y : Fault) → Some x ≡ Some y → x ≡ y
    some_same x y e = cc

pub no_fault : (n : Netlist) → IsFaultOf n None
no_fault n g e = absurd (none_some g e)
  where
    none_some : (y : Fault) → None ≡ Some y → ⊥
    none_some y e = cc
