use Rattle.std.proofs.Common.{ℕ, Bool, List, length, map, not, subst, sym, ◌∙◌, ap, arith, Option}
use Rattle.std.specs.List.{AllZip}
use Rattle.std.specs.Option.{is_some}
use Rattle.statement.specs.declared.lines.Fault.{Fault}
use Rattle.statement.specs.declared.lines.Point.{Point}
use Rattle.netlist.specs.Conditions.{IsSound}
use Rattle.statement.specs.Faults.{universe_of}
use Rattle.transition_sim.specs.Detections.{LastTransition}
use Rattle.transition.proofs.Gathering.{universe_few, universe_lines}
use Rattle.transition_tests.specs.Batches.{AreLeftBy}
use Rattle.transition_tests.proofs.CubeLemmas.{few_faults}
use Rattle.transition_tests.proofs.TestLemmas.{left_where_none}
use Rattle.transition_tests.proofs.dropping.left_by.Goals as goal

pub last_tells2-requires-clause-lines : goal.last_tells2-requires-clause-lines
last_tells2-requires-clause-lines c = universe_lines c.args.core.now (subst IsSound c.netlist.ensures c.sound.ensures) c.args.faults.now c.requires.faults

pub last_tells2-requires-clause-few_faults : goal.last_tells2-requires-clause-few_faults
last_tells2-requires-clause-few_faults c =
    let few = universe_few c.args.core.now (subst IsSound c.netlist.ensures c.sound.ensures) c.requires.design in
    omega (arith, few, ap length c.requires.faults)

pub last_tells2-requires-clause-count : goal.last_tells2-requires-clause-count
last_tells2-requires-clause-count c =
    let few = few_faults c.args.core.now (subst IsSound c.netlist.ensures c.sound.ensures) c.requires.design in
    omega (arith, few, c.requires.count)

pub returns : goal.returns
returns c =
    let n = c.args.core.now in
    let last = c.in_ok-last.last.items in
    subst (λ (ms : List Bool). AreLeftBy n c.args.batch.now (universe_of n) ms)
    (sym (c.in_ok-left.ensures ∙ ap (λ (ls : List (Option (ℕ × Point))). map (λ (l : Option (ℕ × Point)). not (is_some l)) ls) c.deref.ensures.value))
    (left_where_none n c.args.batch.now (universe_of n) last
    (subst (λ (fs : List Fault). AllZip (LastTransition n c.args.batch.now) fs last) c.requires.faults c.in_ok-last.ensures))
