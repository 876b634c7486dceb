use Rattle.std.proofs.Common.{◌∙◌, sym}
use Rattle.events.proofs.Stuck.{read_any, free_made}
use Rattle.events.proofs.words.WordsComparing.made.Goals as goal

pub returns-then-is_stuck_at : goal.returns-then-is_stuck_at
returns-then-is_stuck_at c = λ d. c.made_stuck.ensures ∙ read_any c.args.self.now.fault c.args.id c.args.kind c.args.pins.now c.args.values.now d c.requires.below

pub returns-else-is_stuck_at : goal.returns-else-is_stuck_at
returns-else-is_stuck_at c = λ d. c.word_of.ensures ∙ free_made c.args.self.now.fault c.args.id c.args.kind c.args.pins.now c.args.values.now d c.requires.below (sym c.is_stuck_at.ensures ∙ c.if-is_stuck_at.false)
