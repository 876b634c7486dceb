use Rattle.std.proofs.Common.{◌<◌, length}
use Rattle.scan_insert.specs.inner.Made.{held_at}
use Rattle.scan_insert.specs.Scanned.{befores}
use Rattle.scan_insert.proofs.Making.{befores_step, cells_of_chain}
use Rattle.scan_insert.proofs.shift_paths.befores.Goals as goal

pub push_befores-requires-clause-within : goal.push_befores-requires-clause-within
push_befores-requires-clause-within c =
    cells_of_chain (λ x. x < length c.args.sites.now) c.args.chains.now c.loop-c.c c.chain.result.now c.requires.within c.chain.ensures

pub loop-c-preserved : goal.loop-c-preserved
loop-c-preserved c =
    befores_step (held_at c.args.sites.now) c.args.first_input c.loop-c.c c.args.chains.now c.chain.result.now
    c.loop-c.befores.items c.push_befores.new.befores.items (befores (held_at c.args.sites.now) c.args.first_input c.args.chains.now)
    c.chain.ensures c.loop-c.invariant c.in_ok-push_befores.ensures
