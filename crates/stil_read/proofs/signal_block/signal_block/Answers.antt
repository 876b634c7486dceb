use Rattle.stil_read.proofs.StepLemmas.{declared_here, no_clock_line}
use Rattle.stil_read.proofs.signal_block.signal_block.Goals as goal

pub returns-in_default-behind_clock : goal.returns-in_default-behind_clock
returns-in_default-behind_clock c =
    no_clock_line _ _ _ _ c.in_ok-pi.pi c.in_ok-names.names c.len-chains.result c.in-Some.ensures.found c.in_ok-pi.ensures c.in_ok-names.ensures c.len-chains.ensures c.in_default-behind_clock.ensures

pub returns : goal.returns
returns c =
    declared_here _ _ _ _ _ _ c.in_ok-pi.pi c.in_ok-names.names c.in_ok-po.po c.len-chains.result c.in-Some.ensures.found c.in_ok-pi.ensures c.in_ok-names.ensures c.len-chains.ensures c.in-Some-behind_clock.ensures c.in_ok-po.ensures
