use Rattle.std.proofs.Common.{false}
use Rattle.std.specs.Bool.{beq}
use Rattle.statement.specs.Values.{bit_table}
use Rattle.netlist.proofs.Lists.{decides_beq}
use Rattle.fault_collapse.proofs.laws.equivalent_agree.Goals as goal

pub returns : goal.returns
returns c n f g inputs state a b sound e p q =
    c.equivalent_agree_by.ensures beq decides_beq false bit_table c.bits_control.ensures n f g inputs state a b sound e p q
