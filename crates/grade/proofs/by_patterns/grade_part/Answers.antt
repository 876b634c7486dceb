use Rattle.std.proofs.Common.{List, ap, subst, sym, drop, length, take, arith}
use Rattle.std.specs.List.{All}
use Rattle.std.proofs.lemmas.List.{length-take}
use Rattle.std.proofs.lemmas.List.Elements.{All-drop, All-take}
use Rattle.statement.specs.Netlists.{Netlist}
use Rattle.statement.specs.Patterns.{Pattern}
use Rattle.word_sim.specs.Words.{HasWidthsOf}
use Rattle.word_sim.specs.inner.Packed.{AreSettledWords}
use Rattle.grade.proofs.by_patterns.grade_part.Goals as goal

pub next_patterns-requires-clause-few : goal.next_patterns-requires-clause-few
next_patterns-requires-clause-few c =
    let size = length-take 64 (drop c.args.start c.args.asked.now.latest.now) in
    omega (arith, ap length c.batch_at.ensures, size)

pub next_patterns-requires-clause-wide : goal.next_patterns-requires-clause-wide
next_patterns-requires-clause-wide c =
    let a = c.args.asked.now in
    subst (λ (ps : List Pattern). All (HasWidthsOf c.args.events.now.netlist) ps) (sym c.batch_at.ensures)
    (subst (λ (m : Netlist). All (HasWidthsOf m) (take 64 (drop c.args.start a.latest.now))) (sym c.requires.before.netlist)
    (All-take (HasWidthsOf a.core.now) 64 (drop c.args.start a.latest.now) (All-drop (HasWidthsOf a.core.now) c.args.start a.latest.now c.requires.asked.wide)))

pub next_patterns-requires-clause-settled : goal.next_patterns-requires-clause-settled
next_patterns-requires-clause-settled c = subst (λ (m : Netlist). AreSettledWords m c.args.events.now.values) (sym c.requires.before.netlist) c.requires.before.settled
