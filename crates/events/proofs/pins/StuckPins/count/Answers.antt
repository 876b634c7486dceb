use Rattle.std.proofs.Common.{map, sym, ◌∙◌}
use Rattle.std.proofs.lemmas.List.{length-map}
use Rattle.netlist.specs.Settled.{at}
use Rattle.events.specs.Words.{words}
use Rattle.events.proofs.Stuck.{length-on_pins}
use Rattle.events.proofs.pins.StuckPins.count.Goals as goal

pub returns : goal.returns
returns c =
    let p = c.args.self.now in
    let words_read = map (at p.values.now 0) p.pins.now in
    sym (length-on_pins (words p.rule.now.fault) p.id 0 words_read ∙ length-map p.pins.now (at p.values.now 0))
