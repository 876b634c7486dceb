-- Points are strobed at outputs of the scanned netlist.
use Rattle.std.proofs.Common.{◌≡◌, ℕ, ◌+◌, ◌<◌, List, [], ◌∷◌, length, map, get_or, option_map, Some, sym, ◌∙◌, ap, arith, length-append}
use Rattle.std.specs.List.{slice_get}
use Rattle.std.proofs.lemmas.List.{length-map}
use Rattle.std.proofs.lemmas.Option.{slice_get-map, slice_get_within, slice_get-get_or}
use Rattle.statement.specs.declared.lines.Point.{Point}
use Rattle.statement.specs.declared.lines.Point.TheVariants.{Output, Cell}
use Rattle.statement.specs.Netlists.{Netlist}
use Rattle.netlist.specs.Conditions.{IsSound}
use Rattle.statement.specs.Runs.{output_name}
use Rattle.scan_insert.specs.Names.{pin_name_of}
use Rattle.scan_insert.specs.Scanned.{AreChainsOf, naming_of, scanned_of}
use Rattle.scan_insert.proofs.Concrete.{are_dealt, outs_length}
use Rattle.statement.specs.Tests.{IsStrobedAt}
use Rattle.run_report.specs.Strobes.{IsPointOf}

-- the scanned netlist has an output more for each chain
outputs_count : (n : Netlist) → IsSound n → (chains : List (List ℕ)) → AreChainsOf n chains → length (scanned_of n chains).outputs ≡ length n.outputs + length chains
outputs_count n sound [] are = omega arith
outputs_count n sound (chain ∷ rest) are =
    let s = naming_of n (chain ∷ rest) in
    length-append (map s.stem n.outputs) (map (λ (p : ℕ × ℕ). p.0) s.scan_out)
    ∙ omega (arith, length-map n.outputs s.stem, length-map s.scan_out (λ (p : ℕ × ℕ). p.0), outs_length n sound chain rest (are_dealt n (chain ∷ rest) are))

strobed_within : (n : Netlist) (chains : List (List ℕ)) (place : ℕ) (point : Point) (cycle output : ℕ) → IsPointOf n point → IsStrobedAt n chains place point cycle output
    → output < length n.outputs + length chains
strobed_within n chains place (Output k) cycle output within strobed = omega (arith, within, strobed.1)
strobed_within n chains place (Cell q) cycle output within strobed =
    let chain = slice_get_within chains strobed.chain strobed.is_at.chain_cells strobed.is_at.has_chain in
    omega (arith, chain, strobed.output_is)

-- a strobed output is one of the scanned netlist
pub is_output : (n : Netlist) → IsSound n → (chains : List (List ℕ)) → AreChainsOf n chains → (place : ℕ) (point : Point) (cycle output : ℕ) → IsPointOf n point
    → IsStrobedAt n chains place point cycle output → output < length (scanned_of n chains).outputs
is_output n sound chains are place point cycle output within strobed =
    omega (arith, outputs_count n sound chains are, strobed_within n chains place point cycle output within strobed)

-- the name of the pin at an output, from the names of all pins
pub pin_at : (n : Netlist) (pins : List (List ℕ)) (output : ℕ) (pin : List ℕ) → pins ≡ map (output_name n) n.outputs → output < length n.outputs
    → slice_get pins output ≡ Some pin → pin ≡ pin_name_of n output
pin_at n pins output pin are lt at =
    let here : slice_get n.outputs output ≡ Some (get_or n.outputs output 0) = slice_get-get_or n.outputs output 0 lt in
    let named : slice_get pins output ≡ Some (output_name n (get_or n.outputs output 0)) =
    ap (λ (ps : List (List ℕ)). slice_get ps output) are ∙ (slice_get-map (output_name n) n.outputs output ∙ ap (option_map (output_name n)) here) in
    let both : Some pin ≡ Some (output_name n (get_or n.outputs output 0)) = sym at ∙ named in
    cc
