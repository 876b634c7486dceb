use Rattle.std.proofs.Common.{◌≤◌, ℕ, length, subst, ap, arith}
use Rattle.netlist.specs.Conditions.{IsSound}
use Rattle.statement.specs.Netlists.{Netlist, readers_of}
use Rattle.pair_sim.specs.Sims.{Sim}
use Rattle.redundancy_cert.specs.Stacks.{path_of_stack}
use Rattle.fan.proofs.Placing.{stem_place}
use Rattle.fan.proofs.Leaving.{end_splits}
use Rattle.fan.proofs.choosing.is_split.Goals as goal

pub returns-then-is_free_end : goal.returns-then-is_free_end
returns-then-is_free_end c =
    let sound : IsSound c.args.roled.now.case.core.now = subst IsSound c.netlist-netlist.ensures c.sound.ensures in
    λ t. end_splits c.args.roled.now.case c.requires.case.holds sound (path_of_stack c.args.stack.now) c.args.labels.now c.args.id
    (ap (λ (r : Sim). r.path) c.requires.at.at) c.if-is_free_end.ensures

pub returns : goal.returns
returns c =
    let n = c.args.roled.now.case.core.now in
    let x : ℕ = c.args.id in
    let many : 2 ≤ length (readers_of n x) =
    (let a = ap length c.readers.ensures in let b = ap (λ (m : Netlist). length (readers_of m x)) c.netlist-netlist.ensures in let l = c.if-readers-lt2.false in omega arith) in
    λ t.
    let w = c.is_free.ensures t in
    record { place = stem_place c.args.roled.now.case.fault n c.args.roled.now.case.holds.now x (w.free.signal, many); free = w }
