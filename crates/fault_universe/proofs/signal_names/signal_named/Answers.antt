use Rattle.std.proofs.Common.{◌∙◌, sym, below_more, arith}
use Rattle.std.specs.Cmp.Lexicographic.{other_text, same_text}
use Rattle.fault_universe.proofs.Names.{name_found}
use Rattle.fault_universe.proofs.signal_names.signal_named.Goals as goal

pub loop-x-preserved : goal.loop-x-preserved
loop-x-preserved c =
    below_more _ _ c.loop-x.invariant
    (λ e. other_text c.name.result.now c.args.name.now c.if-eq.ensures (sym (name_found c.args.netlist.now c.sound.ensures c.loop-x.x c.name.result.now c.name.ensures) ∙ e))

pub returns-then-eq : goal.returns-then-eq
returns-then-eq c = (
  (let below = c.loop-x-test.true in omega (arith, below, c.signal_count-x-end.ensures)),
  name_found c.args.netlist.now c.sound.ensures c.loop-x.x c.name.result.now c.name.ensures ∙ same_text c.name.result.now c.args.name.now c.if-eq.ensures,
)
