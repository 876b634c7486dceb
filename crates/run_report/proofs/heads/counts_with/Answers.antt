use Rattle.std.proofs.Common.{◌≡◌, ◌+◌, ◌-◌, length, ◌∙◌, ap, arith}
use Rattle.std.proofs.lemmas.List.{length-map}
use Rattle.statement.specs.Netlists.{Definition, cells, gates}
use Rattle.run_report.proofs.ListLemmas.{gates_and_cells}
use Rattle.run_report.proofs.heads.counts_with.Goals as goal

pub overflow_sub-result : goal.overflow_sub-result
overflow_sub-result c =
    let n = c.args.netlist.now in
    omega (arith, gates_and_cells n, ap length c.cells-cells.ensures, length-map (cells n) (λ (d : Definition). d.id), ap length c.definitions.ensures)

pub returns : goal.returns
returns c =
    let n = c.args.netlist.now in
    let inputs = ap length c.inputs.ensures in
    let outputs = ap length c.outputs.ensures in
    let held : length c.cells-cells.result.now ≡ length (cells n) = ap length c.cells-cells.ensures ∙ length-map (cells n) (λ (d : Definition). d.id) in
    let driven : length c.definitions.result.now - length c.cells-cells.result.now ≡ length (gates n) =
    omega (arith, gates_and_cells n, ap length c.definitions.ensures, held) in
    let tally = c.tally_of-tally.ensures.kinds in
    λ i. record {
      inputs = inputs i;
      outputs = outputs i;
      gates = driven i;
      cells = held i;
      chains = c.count.ensures i;
      faults = c.args.faults;
      classes = c.args.classes;
      patterns = c.args.patterns;
      cycles = c.args.cycles;
      limit = c.args.limit;
      detected = tally.detected i;
      redundant = tally.redundant i;
      aborted = tally.aborted i;
      untested = tally.redundant i + tally.aborted i;
      unasked = tally.unasked i;
    }
