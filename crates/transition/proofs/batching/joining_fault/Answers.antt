use Rattle.std.proofs.Common.{◌≡◌, IsTrue, true, length, get_or, ap, sym, subst, arith, rules}
use Rattle.std.specs.List.{All}
use Rattle.statement.specs.declared.lines.Fault.{Fault}
use Rattle.netlist.specs.Lines.{IsLineOf}
use Rattle.transition.specs.inner.Asked.{Asked}
use Rattle.transition.specs.inner.Gathered.{MayJoin}
use Rattle.transition.proofs.BatchLemmas.{line_at}
use Rattle.transition.proofs.batching.joining_fault.Goals as goal

pub bounds-task-inside-place : goal.bounds-task-inside-place
bounds-task-inside-place g c =
    let same : length c.task.inside.faults.now ≡ length c.args.task.now.faults = ap (λ (a : Asked). length a.faults) c.task.view_is in
    let size : length c.task.inside.left.now ≡ length c.task.inside.faults.now = c.task.invariant.size in
    omega arith

pub is_apart-requires-clause-taken : goal.is_apart-requires-clause-taken
is_apart-requires-clause-taken g c = subst (λ (a : Asked). All (λ (f : Fault). IsLineOf a.netlist f.line) c.args.taken.now) (sym c.task.view_is) c.requires.taken

pub is_apart-requires-clause-line : goal.is_apart-requires-clause-line
is_apart-requires-clause-line g c =
    let t = c.task.inside in
    line_at t.netlist.now t.faults.now c.task.invariant.lines c.args.place c.fault-fault.result c.fault-fault.ensures

pub returns-then-is_apart : goal.returns-then-is_apart
returns-then-is_apart g c =
    let t = c.task.inside in
    let f = c.fault-fault.result in
    let told : IsTrue c.is_apart.result = search rules in
    let marked : get_or t.left.now c.args.place true ≡ true = search rules in
    let line = line_at t.netlist.now t.faults.now c.task.invariant.lines c.args.place f c.fault-fault.ensures in
    subst (λ (a : Asked). MayJoin a c.args.taken.now c.args.place f) c.task.view_is
    (record { fault = c.fault-fault.ensures; line = line; marked = marked; apart = c.is_apart.ensures.0 told })
