use Rattle.std.proofs.Common.{◌≤◌, List, length, subst, sym, arith}
use Rattle.std.specs.List.{All, AllZip}
use Rattle.std.proofs.lemmas.Result.{IfOk-weaker}
use Rattle.std.proofs.lemmas.Slice.Zip.{AllZip-long}
use Rattle.statement.specs.declared.lines.Fault.{Fault}
use Rattle.netlist.specs.Lines.{IsLineOf}
use Rattle.word_sim.specs.Hits.{LastDetected}
use Rattle.fewer_patterns.specs.Fewer.{IsNoWorse}
use Rattle.fewer_patterns.specs.declared.fronts.ToldPatterns.{ToldPatterns}
use Rattle.fewer_patterns.specs.inner.Enough.{AreEnough}
use Rattle.fewer_patterns.specs.inner.Fronts.{AreJoined}
use Rattle.fewer_patterns.proofs.Parting.{all_told_again, front_enough}
use Rattle.fewer_patterns.proofs.rounds.fewer_told.Goals as goal

pub parted-requires-clause-size : goal.parted-requires-clause-size
parted-requires-clause-size g c =
    let a = c.args.aim.now in
    omega (arith, AllZip-long (LastDetected a.core.now c.args.patterns.items) a.faults.now c.args.last.now c.requires.told)

pub improved_front-best-requires-clause-lines : goal.improved_front-best-requires-clause-lines
improved_front-best-requires-clause-lines g c κs within =
    let a = c.args.aim.now in
    subst (λ (fs : List Fault). All (λ (f : Fault). IsLineOf a.core.now f.line) fs) (sym c.deref.ensures.value) (c.in_ok-left.ensures.lines a.core.now c.requires.aim.lines)

pub improved_front-best-requires-clause-enough : goal.improved_front-best-requires-clause-enough
improved_front-best-requires-clause-enough g c κs within =
    let a = c.args.aim.now in
    let start = c.in_ok-start.start in
    let front = c.in_ok-left.field-0 in
    let low : start ≤ length c.args.patterns.items = omega (arith, c.in_ok-start.ensures, c.len.ensures) in
    subst (λ (fs : List Fault). AreEnough a.core.now a.holds.now fs start front.made.patterns.items front.made.last.items) (sym c.deref.ensures.value)
    (front_enough a.core.now a.holds.now c.args.patterns.items start a.faults.now c.args.last.now front low c.requires.told c.in_ok-left.ensures.front c.requires.obey)

pub with_tail-requires-clause-size : goal.with_tail-requires-clause-size
with_tail-requires-clause-size g c κs within =
    let a = c.args.aim.now in
    omega (arith, AllZip-long (LastDetected a.core.now c.args.patterns.items) a.faults.now c.args.last.now c.requires.told)

pub returns : goal.returns
returns g c =
    let a = c.args.aim.now in
    let n = a.core.now in
    let start = c.in_ok-start.start in
    let front = c.in_ok-left.field-0 in
    let best = c.in_ok-best.field-0 in
    let low : start ≤ length c.args.patterns.items = omega (arith, c.in_ok-start.ensures, c.len.ensures) in
    let enough = subst (λ (fs : List Fault). AreEnough n a.holds.now fs start best.patterns.items best.last.items) c.deref.ensures.value c.in_ok-best.ensures in
    IfOk-weaker c.with_tail.result (λ (all : ToldPatterns). AreJoined n start a.faults.now c.args.last.now best.patterns.items best.last.items front.tail.items all)
    (λ (all : ToldPatterns). IsNoWorse n a.holds.now a.faults.now c.args.patterns.items all.patterns.items × AllZip (LastDetected n all.patterns.items) a.faults.now all.last.items)
    (λ (all : ToldPatterns) join.
    all_told_again n a.holds.now c.args.patterns.items start a.faults.now c.args.last.now front low c.requires.told c.in_ok-left.ensures.front best.patterns.items best.last.items enough all join
    c.requires.obey)
    c.with_tail.ensures
