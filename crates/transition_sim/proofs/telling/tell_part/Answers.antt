use Rattle.std.proofs.Common.{◌≡◌, ◌-◌, ◌∙◌, ℕ, List, length, take, drop, ap, refl, sym, subst, arith}
use Rattle.std.specs.List.{All}
use Rattle.statement.specs.declared.lines.Fault.{Fault}
use Rattle.statement.specs.Netlists.{Netlist, signals}
use Rattle.netlist.specs.Lines.{IsLineOf}
use Rattle.word_sim.specs.inner.Packed.{AreGoodFor, AreSettledWords}
use Rattle.observed_points.specs.Points.{ArePoints}
use Rattle.transition_sim.specs.inner.Launches.{AreTold, IsBehind}
use Rattle.transition_sim.specs.inner.Tasks.{IsFrame}
use Rattle.transition_sim.proofs.FrameWords.{frame_kept, part_wide}
use Rattle.transition_sim.proofs.LastTold.{part_up}
use Rattle.transition_sim.proofs.telling.tell_part.Goals as goal

pub next_patterns-requires-clause-wide : goal.next_patterns-requires-clause-wide
next_patterns-requires-clause-wide c =
    let task = c.args.task.now in
    part_wide task.core.now c.args.first.now.netlist task.patterns.now c.saturating_sub-start.result (c.args.end - c.saturating_sub-start.result) c.requires.first.netlist c.requires.task.wide

pub next_patterns-requires-clause-settled : goal.next_patterns-requires-clause-settled
next_patterns-requires-clause-settled c =
    subst (λ (m : Netlist). AreSettledWords m c.args.first.now.values) (sym c.requires.first.netlist) c.requires.first.settled

pub next_frame-requires-clause-first : goal.next_frame-requires-clause-first
next_frame-requires-clause-first c = c.in_ok-next_patterns.ensures.netlist ∙ c.requires.first.netlist

pub tell_all-requires-clause-part : goal.tell_all-requires-clause-part
tell_all-requires-clause-part c =
    let n = c.netlist.result.now in
    let some = take (c.args.end - c.saturating_sub-start.result) (drop c.saturating_sub-start.result c.args.task.now.patterns.now) in
    let points = c.args.task.now.points.now in
    let values = c.values.ensures.values in
    let same : c.args.first.now.netlist ≡ n = c.requires.first.netlist ∙ sym c.netlist.ensures in
    let last = c.requires.end.1 in
    let count = c.requires.task.count in
    record {
      good = subst (λ (xs : List ℕ). AreGoodFor n some xs) (sym values) (subst (λ (m : Netlist). AreGoodFor m some c.next_patterns.new.events.values) same c.in_ok-next_patterns.ensures.good);
      size = ap length values ∙ (c.values.ensures.standing.size ∙ ap (λ (m : Netlist). length (signals m)) (c.in_ok-next_patterns.ensures.netlist ∙ same));
      points_are = subst (λ (m : Netlist). ArePoints m points.seen.items points.first.items points.numbers.items) (sym c.netlist.ensures) c.requires.task.points_are;
      few = omega arith;
    }

pub tell_all-requires-clause-behind : goal.tell_all-requires-clause-behind
tell_all-requires-clause-behind c =
    subst (λ (xs : List ℕ). IsBehind c.netlist.result.now xs c.next_frame.new.second) (sym c.values.ensures.values)
    (subst (λ (m : Netlist). IsBehind m c.next_patterns.new.events.values c.next_frame.new.second) (sym c.netlist.ensures) c.in_ok-next_frame.ensures.behind)

pub tell_all-requires-clause-lines : goal.tell_all-requires-clause-lines
tell_all-requires-clause-lines c =
    subst (λ (m : Netlist). All (λ (f : Fault). IsLineOf m f.line) c.args.task.now.faults.now) (sym c.netlist.ensures) c.requires.task.lines

pub returns-clause-first : goal.returns-clause-first
returns-clause-first c =
    frame_kept c.args.task.now.core.now c.args.first.now c.next_patterns.new.events c.requires.first c.in_ok-next_patterns.ensures.netlist c.in_ok-next_patterns.ensures.settled

pub returns-clause-second : goal.returns-clause-second
returns-clause-second c = subst (IsFrame c.args.task.now.core.now) (sym c.tell_all.ensures.same) c.in_ok-next_frame.ensures.second

pub returns-clause-told : goal.returns-clause-told
returns-clause-told c =
    let task = c.args.task.now in
    let start = c.saturating_sub-start.result in
    let some = take (c.args.end - start) (drop start task.patterns.now) in
    let last = c.requires.end.0 in (
      omega arith,
      part_up task.core.now task.patterns.now some start c.args.end (omega arith) refl task.faults.now c.args.told.now.items c.tell_all.new.told.items c.requires.later
          (subst (λ (m : Netlist). AreTold m some start task.faults.now c.args.told.now.items c.tell_all.new.told.items) c.netlist.ensures c.tell_all.ensures.told),
    )
