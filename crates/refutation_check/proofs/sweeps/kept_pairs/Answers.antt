use Rattle.refutation_check.proofs.LookSteps.{four_kept}
use Rattle.refutation_check.proofs.sweeps.kept_pairs.Goals as goal

pub returns-clause-so : goal.returns-clause-so
returns-clause-so c =
    four_kept c.args.netlist.now c.args.fault.now c.args.sets.now c.is_kept.new.sets c.is_kept-2.new.sets c.is_kept-3.new.sets c.args.gate c.args.id c.in_ok-zero.zero c.in_ok-rises.rises
    c.in_ok-falls.falls c.in_ok-one.one c.in_ok-zero.ensures.back c.in_ok-rises.ensures.back c.in_ok-falls.ensures.back c.in_ok-zero.ensures.so c.in_ok-rises.ensures.so
    c.in_ok-falls.ensures.so c.in_ok-one.ensures.so
