use Rattle.std.proofs.Common.{arith, inl, inr}
use Rattle.bench_text.proofs.TextLemmas.{lines-length}
use Rattle.check_command.proofs.Checked.{as_slow, as_stuck}
use Rattle.check_command.proofs.command.checked.Goals as goal

pub check_slow_files-requires-clause-lines : goal.check_slow_files-requires-clause-lines
check_slow_files-requires-clause-lines c = let few = lines-length c.args.net.now in omega arith

pub check_files-requires-clause-lines : goal.check_files-requires-clause-lines
check_files-requires-clause-lines c = let few = lines-length c.args.net.now in omega arith

pub returns-in-Some : goal.returns-in-Some
returns-in-Some c = as_slow _ c.in-Some.field-0.now c.in-Some.ensures c.check_slow_files.result c.check_slow_files.ensures.checked c.check_slow_files.ensures.good

pub returns-in-None : goal.returns-in-None
returns-in-None c = as_stuck _ (λ slow. c.in-None.ensures slow.0 slow.1) c.check_files.result c.check_files.ensures.checked c.check_files.ensures.good
