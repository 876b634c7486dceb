use Rattle.std.proofs.Common.{◌≡◌, length-append, arith}
use Rattle.std.proofs.lemmas.List.Elements.{All-push}
use Rattle.worker.specs.declared.simulators.Part.{Part}
use Rattle.worker.proofs.simulators.parts_of.Goals as goal

pub loop-worker-preserved : goal.loop-worker-preserved
loop-worker-preserved c =
    let inv = c.loop-worker.invariant in
    record {
      each = rw c.push_reserved.ensures.items (All-push (λ (p : Part). p.simulator ≡ c.args.core.now) c.loop-worker.parts.items _ inv.each c.in_ok-simulator.ensures);
      len = rw c.push_reserved.ensures.items (simp length-append (omega (arith, inv.len)));
      count = omega (arith, inv.count, c.push_reserved.ensures.len);
      room = omega (arith, inv.room, c.push_reserved.ensures.capacity);
    }
