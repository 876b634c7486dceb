-- The cells of a netlist, by their signals.
use Rattle.std.proofs.Common.{◌≡◌, ℕ, ◌≤◌, Bool, true, false, cond, List, [], ◌∷◌, map, length, ap, ◌∙◌, arith}
use Rattle.std.specs.List.{filter}
use Rattle.std.proofs.lemmas.List.{length-map}
use Rattle.statement.specs.Netlists.{Definition, Netlist, is_cell, cells, signals}
use Rattle.netlist.proofs.Placed.{signals_length}

pub length-filter : {X : Type 0} (t : X → Bool) (xs : List X) → length (filter t xs) ≤ length xs
length-filter t [] = omega arith
length-filter {X} t (x ∷ xs) =
    let rest = length-filter t xs in
    let step : (b : Bool) → length (cond b (x ∷ filter t xs) (filter t xs)) ≤ length (x ∷ xs) = elim [ true ↦ omega arith | false ↦ omega arith ] in
    step (t x)

pub few_cells : (n : Netlist) (ids : List ℕ) → ids ≡ map (λ (d : Definition). d.id) (cells n) → length ids ≤ length (signals n)
few_cells n ids e =
    let many : length ids ≡ length (cells n) = ap length e ∙ length-map (cells n) (λ (d : Definition). d.id) in
    let few = length-filter is_cell n.definitions in
    let all = signals_length n in
    omega arith
