use Rattle.std.proofs.Common.{◌≡◌, ◌∙◌, ℕ, List, None, length, sym, subst}
use Rattle.std.specs.Option.{option_map}
use Rattle.statement.specs.Netlists.{Netlist}
use Rattle.statement.specs.Patterns.{Pattern}
use Rattle.netlist.specs.Lines.{IsLineOf}
use Rattle.word_sim.specs.Hits.{LastMarked}
use Rattle.word_sim.specs.inner.Packed.{AreGoodFor, IsMarked}
use Rattle.observed_points.specs.Points.{ArePoints, point_of}
use Rattle.transition_sim.proofs.LastTold.{told_by_words, no_value}
use Rattle.transition_sim.proofs.telling.told_by.Goals as goal

pub last_marked-found-requires-clause-points : goal.last_marked-found-requires-clause-points
last_marked-found-requires-clause-points c =
    let points = c.args.part.now.points.now in
    subst (λ (m : Netlist). ArePoints m points.seen.items points.first.items points.numbers.items) (sym c.requires.behind.netlist) c.requires.part.points_are

pub last_marked-found-requires-clause-line : goal.last_marked-found-requires-clause-line
last_marked-found-requires-clause-line c = subst (λ (m : Netlist). IsLineOf m c.args.fault.now.line) (sym c.requires.behind.netlist) c.requires.line

pub returns-clause-told : goal.returns-clause-told
returns-clause-told c =
    let part = c.args.part.now in
    let f = c.args.fault.now in
    let marks = c.launched-marks.result in
    let found = c.last_marked-found.result in
    let none : c.args.known ≡ None = no_value c.args.known (sym c.is_some.ensures ∙ c.if-is_some.false) in
    told_by_words part.netlist.now c.sound.ensures part.patterns.now part.words.now c.args.second.now.values c.requires.part.good c.requires.behind.settles f c.requires.line c.args.used marks
    c.requires.used c.launched-marks.ensures part.start found c.args.known c.moved.result none
    (subst (λ (m : Netlist). (ps : List Pattern) → AreGoodFor m ps c.args.second.now.values → IsMarked (length ps) marks
    → LastMarked m ps marks f (option_map (λ (w : ℕ × ℕ). (w.0, point_of m w.1)) found)) c.requires.behind.netlist c.last_marked-found.ensures.found)
    c.moved.ensures
