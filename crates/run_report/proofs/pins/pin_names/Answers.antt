use Rattle.std.proofs.Common.{length, map, ◌∙◌, ap, arith, take_all}
use Rattle.statement.specs.Runs.{output_name}
use Rattle.run_report.proofs.WordLemmas.{pin_words}
use Rattle.scan_play.proofs.PlaySteps.{few_outputs}
use Rattle.run_report.proofs.pins.pin_names.Goals as goal

pub overflow_cast-output-end : goal.overflow_cast-output-end
overflow_cast-output-end c = omega (arith, few_outputs c.args.netlist.now c.sound.ensures, ap length c.outputs.ensures)

pub returns-clause-words : goal.returns-clause-words
returns-clause-words c =
    let n = c.args.netlist.now in
    pin_words n c.sound.ensures c.loop-output.names
    (c.loop-output.invariant ∙ ap (map (output_name n)) (take_all c.loop-output.output n.outputs (omega (arith, c.loop-output-test.false, ap length c.outputs.ensures))))
