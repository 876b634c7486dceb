use Rattle.slow_check.proofs.WalkLemmas.{compared}
use Rattle.slow_check.proofs.walking.names.Goals as goal

pub returns : goal.returns
returns c =
    compared c.args.netlist.now c.args.fault.now c.eq.result c.clear.new.self.items c.push_fault.new.text.items c.as_slice.result.now c.args.line.fault.now c.clear.ensures.items
    c.in_ok-push_fault.ensures c.as_slice.ensures.value c.eq.ensures
