use Rattle.std.proofs.Common.{ℕ, List}
use Rattle.transition_report.specs.Strobes.{IsLaunchSeenAt}
use Rattle.check_parts.proofs.SightLemmas.{seen_pin, unseen_cycle}
use Rattle.slow_check.proofs.SeenLemmas.{seen_once}
use Rattle.slow_check.proofs.truth.is_seen_so.Goals as goal

pub returns-then-cycle-sight : goal.returns-then-cycle-sight
returns-then-cycle-sight c =
    let t = c.args.walk.now.trial.now in
    let sight = c.sight_behind-sight.result in
    let seen = c.sight_behind-sight.ensures.seen in
    unseen_cycle (IsLaunchSeenAt t.netlist.now t.chains.now) c.args.last.now c.in-Some.own c.in-Some.point c.in-Some.is sight.cycle sight.pin.now seen
    (λ (d : ℕ) (other : List ℕ) so. seen_once t.netlist.now c.requires.ready.trial.sound t.chains.now c.requires.ready.trial.dealt c.in-Some.own c.in-Some.point d sight.cycle other sight.pin.now so seen)
    c.args.place c.args.cycle c.args.pin.now c.if-cycle-sight.true

pub returns-else-cycle-sight : goal.returns-else-cycle-sight
returns-else-cycle-sight c =
    let t = c.args.walk.now.trial.now in
    let sight = c.sight_behind-sight.result in
    let seen = c.sight_behind-sight.ensures.seen in
    seen_pin (IsLaunchSeenAt t.netlist.now t.chains.now) c.args.last.now c.in-Some.own c.in-Some.point c.in-Some.is sight.cycle sight.pin.now seen
    (λ (d : ℕ) (other : List ℕ) so. seen_once t.netlist.now c.requires.ready.trial.sound t.chains.now c.requires.ready.trial.dealt c.in-Some.own c.in-Some.point d sight.cycle other sight.pin.now so seen)
    c.eq.result c.args.place c.args.cycle c.args.pin.now c.eq.ensures c.if-place-own.false c.if-cycle-sight.false
