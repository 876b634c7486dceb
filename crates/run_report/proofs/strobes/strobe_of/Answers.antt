use Rattle.std.proofs.Common.{◌+◌, ◌<◌, ℕ, List, length, sym, ap, subst, arith}
use Rattle.std.proofs.lemmas.Option.{slice_get_within}
use Rattle.statement.specs.declared.lines.Point.{Point}
use Rattle.statement.specs.Tests.{IsStrobedAt}
use Rattle.scan_play.proofs.PlaySteps.{few_outputs}
use Rattle.run_report.specs.Strobes.{IsPointOf}
use Rattle.run_report.proofs.CycleLemmas.{longest_small, chain_small, chains_small, has_cell, same_chain, cell_at, at_unload}
use Rattle.run_report.proofs.strobes.strobe_of.Goals as goal

pub captured_in-requires-clause-longest : goal.captured_in-requires-clause-longest
captured_in-requires-clause-longest c =
    omega (arith, c.longest-longest.ensures, longest_small c.args.netlist.now c.args.chains.now c.sound.ensures c.requires.chains)

pub place-chain-requires : goal.place-chain-requires
place-chain-requires c =
    let inside = subst (IsPointOf c.args.netlist.now) c.in-Cell.is c.requires.point in
    has_cell c.args.netlist.now c.args.chains.now c.in-Cell.cell c.index-cells-cell.result c.cells.result.now c.requires.chains c.cells.ensures
    (cell_at c.args.netlist.now c.cells.result.now c.in-Cell.cell c.cells.ensures inside) c.index-cells-cell.is

pub chain-requires : goal.chain-requires
chain-requires c = slice_get_within c.args.chains.now c.place-chain.result.0 c.place-chain.ensures.chain_cells c.place-chain.ensures.has_chain

pub unloaded_in-requires-clause-longest : goal.unloaded_in-requires-clause-longest
unloaded_in-requires-clause-longest c =
    omega (arith, c.longest-longest.ensures, longest_small c.args.netlist.now c.args.chains.now c.sound.ensures c.requires.chains)

pub unloaded_in-requires-clause-count : goal.unloaded_in-requires-clause-count
unloaded_in-requires-clause-count c =
    chain_small c.args.netlist.now c.args.chains.now c.place-chain.result.0 c.chain.result.now c.sound.ensures c.requires.chains c.chain.ensures

pub unloaded_in-requires-clause-cell : goal.unloaded_in-requires-clause-cell
unloaded_in-requires-clause-cell c =
    let p = c.place-chain.ensures in
    let same = same_chain c.args.chains.now c.place-chain.result.0 p.chain_cells c.chain.result.now p.has_chain c.chain.ensures in
    let P : List ℕ → Type 0 = λ cells. c.place-chain.result.1 < length cells in
    subst P same (slice_get_within p.chain_cells c.place-chain.result.1 c.index-cells-cell.result p.has_cell)

pub overflow_cast-result : goal.overflow_cast-result
overflow_cast-result c = omega (arith, few_outputs c.args.netlist.now c.sound.ensures, ap length c.outputs.ensures)

pub overflow_add-result : goal.overflow_add-result
overflow_add-result c =
    let p = c.place-chain.ensures in
    omega (
      arith,
      few_outputs c.args.netlist.now c.sound.ensures,
      ap length c.outputs.ensures,
      slice_get_within c.args.chains.now c.place-chain.result.0 p.chain_cells p.has_chain,
      chains_small c.args.netlist.now c.args.chains.now c.sound.ensures c.requires.chains,
    )

pub returns-in-Cell : goal.returns-in-Cell
returns-in-Cell c =
    let n = c.args.netlist.now in
    let P : Point → Type 0 = λ o. IsStrobedAt n c.args.chains.now c.args.place o c.unloaded_in.result (length c.outputs.result.now + c.place-chain.result.0) in
    let inside = subst (IsPointOf n) c.in-Cell.is c.requires.point in
    subst P (sym c.in-Cell.is)
    (at_unload n c.args.chains.now c.args.place c.in-Cell.cell c.index-cells-cell.result c.cells.result.now c.place-chain.result.0 c.place-chain.result.1 c.chain.result.now
    c.longest-longest.result c.unloaded_in.result (length c.outputs.result.now + c.place-chain.result.0)
    c.cells.ensures (cell_at n c.cells.result.now c.in-Cell.cell c.cells.ensures inside) c.index-cells-cell.is c.place-chain.ensures c.chain.ensures
    c.longest-longest.ensures c.unloaded_in.ensures (ap (λ (xs : List ℕ). length xs + c.place-chain.result.0) c.outputs.ensures))
