use Rattle.std.proofs.Common.{◌∙◌}
use Rattle.scan_insert.specs.inner.Made.{held_at}
use Rattle.scan_insert.proofs.Ready.{befores_count}
use Rattle.scan_insert.proofs.parts.scanned_definitions.Goals as goal

pub push_definitions-requires-clause-befores : goal.push_definitions-requires-clause-befores
push_definitions-requires-clause-befores c =
    befores_count c.args.netlist.now c.args.chains.now (held_at c.args.sites.now) _ c.deref.result.now c.requires.ready.all (c.deref.ensures.value ∙ c.in_ok-before.ensures)
