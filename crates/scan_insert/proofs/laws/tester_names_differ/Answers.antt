use Rattle.scan_insert.proofs.TesterNames.{tester_names_differ}
use Rattle.scan_insert.proofs.laws.tester_names_differ.Goals as goal

pub returns : goal.returns
returns c n chains sound design are = tester_names_differ n chains sound design are
