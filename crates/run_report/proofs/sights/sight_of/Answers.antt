use Rattle.std.proofs.Common.{length, ap, arith}
use Rattle.std.proofs.lemmas.List.{length-map}
use Rattle.fault_universe.proofs.Elements.{contains_at}
use Rattle.statement.specs.Runs.{output_name}
use Rattle.scan_insert.specs.Scanned.{scanned_of}
use Rattle.run_report.proofs.SightLemmas.{is_output, pin_at}
use Rattle.run_report.proofs.sights.sight_of.Goals as goal

pub get-requires : goal.get-requires
get-requires c =
    let n = c.args.netlist.now in
    let chains = c.args.chains.now in
    let s = scanned_of n chains in
    let within = is_output n c.sound.ensures chains c.requires.chains c.args.place c.args.point c.strobe_of-strobe.result.cycle c.strobe_of-strobe.result.output c.requires.point c.strobe_of-strobe.ensures in
    omega (arith, within, ap length c.requires.pins, length-map s.outputs (output_name s))

pub returns-clause-named : goal.returns-clause-named
returns-clause-named c = contains_at c.args.pins.now c.strobe_of-strobe.result.output c.get.result.now c.get.ensures

pub returns-clause-seen : goal.returns-clause-seen
returns-clause-seen c =
    let n = c.args.netlist.now in
    let chains = c.args.chains.now in
    let output = c.strobe_of-strobe.result.output in
    let within = is_output n c.sound.ensures chains c.requires.chains c.args.place c.args.point c.strobe_of-strobe.result.cycle output c.requires.point c.strobe_of-strobe.ensures in
    (output, c.strobe_of-strobe.ensures, pin_at (scanned_of n chains) c.args.pins.now output c.get.result.now c.requires.pins within c.get.ensures)
