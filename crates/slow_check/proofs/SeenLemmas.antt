-- A pattern and a point are seen in one cycle at one pin, by launch on capture.
use Rattle.std.proofs.Common.{◌≡◌, ℕ, ◌∙◌, List, length, Some, sym, ap, arith}
use Rattle.std.specs.List.{slice_get}
use Rattle.statement.specs.declared.lines.Point.{Point}
use Rattle.statement.specs.declared.lines.Point.TheVariants.{Output, Cell}
use Rattle.statement.specs.Netlists.{Netlist}
use Rattle.statement.specs.Tests.{longest_of}
use Rattle.netlist.specs.Conditions.{IsSound}
use Rattle.scan_insert.specs.Names.{pin_name_of}
use Rattle.scan_insert.specs.Scanned.{AreChainsOf, scanned_of}
use Rattle.transition_play.specs.LaunchVectors.{IsLaunchStrobedAt, second_unload}
use Rattle.transition_report.specs.Strobes.{IsLaunchSeenAt}
use Rattle.check_parts.proofs.CellPlaces.{cells_once, place_once}
use Rattle.check_parts.proofs.Lists.{same_some}

module _ (n : Netlist) (sound : IsSound n) (chains : List (List ℕ)) (are : AreChainsOf n chains) where
  strobed_once : (place : ℕ) (point : Point) (c o d u : ℕ) → IsLaunchStrobedAt n chains place point c o → IsLaunchStrobedAt n chains place point d u → (c ≡ d) × (o ≡ u)
  strobed_once place (Output k) c o d u p q = (p.0 ∙ sym q.0, p.1 ∙ sym q.1)
  strobed_once place (Cell k) c o d u p q =
      let cell : p.cell ≡ q.cell = same_some p.cell q.cell (sym p.is_cell ∙ q.is_cell) in
      let at : slice_get q.is_at.chain_cells q.place ≡ Some p.cell = q.is_at.has_cell ∙ ap (λ (x : ℕ). Some x) (sym cell) in
      let w = place_once chains (cells_once n sound chains are) p.chain p.place q.chain q.place p.cell p.is_at.chain_cells q.is_at.chain_cells p.is_at.has_chain p.is_at.has_cell q.is_at.has_chain at in
      let same : p.is_at.chain_cells ≡ q.is_at.chain_cells =
      same_some p.is_at.chain_cells q.is_at.chain_cells (sym p.is_at.has_chain ∙ (ap (λ (i : ℕ). slice_get chains i) w.0 ∙ q.is_at.has_chain)) in
      (p.cycle_is ∙ ((λ i. second_unload (longest_of chains) place (length (same i)) (w.1 i)) ∙ sym q.cycle_is), (let a = p.output_is in let b = q.output_is in let e = w.0 in omega arith))

  pub seen_once : (place : ℕ) (point : Point) (c d : ℕ) (pin other : List ℕ) → IsLaunchSeenAt n chains place point c pin → IsLaunchSeenAt n chains place point d other → (c ≡ d) × (pin ≡ other)
  seen_once place point c d pin other p q =
      let w = strobed_once place point c p.0 d q.0 p.1 q.1 in
      (w.0, p.2 ∙ (ap (pin_name_of (scanned_of n chains)) w.1 ∙ sym q.2))
