use Rattle.std.proofs.Common.{◌∙◌}
use Rattle.events.proofs.Bits.{no_bit}
use Rattle.events.proofs.Levels.{bits_length, mark_is}
use Rattle.std.proofs.lemmas.Bool.{both_ways}
use Rattle.events.specs.inner.Bitmaps.{has_bit}
use Rattle.events.proofs.agendas.Agenda.new.Goals as goal

pub returns-clause-size : goal.returns-clause-size
returns-clause-size c = bits_length c.in_ok-no_words.field-0.items 0 c.args.bound

pub returns-clause-clear : goal.returns-clause-clear
returns-clause-clear c =
    let words = c.in_ok-no_words.field-0.items in
    let none = no_bit words c.in_ok-no_words.ensures.none in
    λ q. mark_is words c.args.bound (λ k h. absurd (both_ways (has_bit words k) (none k) h)) q ∙ none q
