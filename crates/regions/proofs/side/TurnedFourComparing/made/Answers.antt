use Rattle.std.proofs.Common.{◌∙◌, ap}
use Rattle.statement.specs.declared.lines.Line.TheVariants.{Stem}
use Rattle.regions.specs.Side.{side_words}
use Rattle.regions.proofs.SideGates.{side_made}
use Rattle.regions.proofs.side.TurnedFourComparing.made.Goals as goal

pub returns : goal.returns
returns c = λ e. c.line.ensures
    ∙ (ap ((side_words c.args.self.now).line (Stem c.args.id)) c.four_of-four.ensures
    ∙ side_made c.args.self.now c.args.id c.args.kind c.args.pins.now c.args.values.now (record { a = 0; b = 0; c = 0; d = 0 }) e c.requires.below)
