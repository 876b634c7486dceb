use Rattle.std.proofs.Common.{◌∙◌, ap}
use Rattle.statement.specs.declared.lines.Line.TheVariants.{Stem}
use Rattle.netlist.specs.Settled.{at}
use Rattle.regions.specs.Turned.{turned_words}
use Rattle.regions.proofs.TurnedBits.{turned_made}
use Rattle.regions.proofs.turned.TurnedWordsComparing.made.Goals as goal

pub returns : goal.returns
returns c = λ d. c.turn.ensures
    ∙ (ap ((turned_words c.args.self.now.signal c.args.self.now.mask).line (Stem c.args.id)) (c.made-word.ensures d)
    ∙ turned_made c.args.self.now.signal c.args.self.now.mask (at c.args.values.now d) (record { id = c.args.id; kind = c.args.kind; pins = c.args.pins.now }))
