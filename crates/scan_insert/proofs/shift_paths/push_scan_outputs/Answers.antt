use Rattle.std.proofs.Common.{ℕ, ◌+◌, ◌<◌, List, [], ◌∷◌, ◌++◌, map, length, ◌∙◌, ap}
use Rattle.std.specs.List.{zip}
use Rattle.netlist.specs.Netlist.{define}
use Rattle.statement.specs.declared.kinds.Kind.TheVariants.{Buff}
use Rattle.statement.specs.Runs.{numbers_from}
use Rattle.scan_insert.specs.Scan.{show_last}
use Rattle.scan_insert.specs.Scanned.{last_of}
use Rattle.scan_insert.specs.inner.Made.{held_at}
use Rattle.scan_insert.proofs.Making.{shown_step, cells_of_chain, filled_chain}
use Rattle.scan_insert.proofs.shift_paths.push_scan_outputs.Goals as goal

pub held_last-last-requires : goal.held_last-last-requires
held_last-last-requires c = record {
  some = filled_chain c.args.chains.now c.loop-c.c c.chain.result.now c.requires.filled c.chain.ensures;
  within = cells_of_chain (λ x. x < length c.args.sites.now) c.args.chains.now c.loop-c.c c.chain.result.now c.requires.within c.chain.ensures;
  low = c.requires.low;
}

pub loop-c-preserved : goal.loop-c-preserved
loop-c-preserved c =
    let held = held_at c.args.sites.now in
    let chains = c.args.chains.now in
    let first = c.args.first_output in
    shown_step held first c.loop-c.c chains c.chain.result.now c.in_ok-define.field-0 c.loop-c.made.items c.push.new.self.items
    (c.args.made.now.items ++ map show_last (zip (numbers_from first (length chains)) (map (λ (q : List ℕ). held (last_of q)) chains)))
    c.chain.ensures c.loop-c.invariant c.in_ok-push.ensures.items
    (c.in_ok-define.ensures ∙ ap (λ x. define (first + c.loop-c.c) Buff (x ∷ [])) c.held_last-last.ensures)
