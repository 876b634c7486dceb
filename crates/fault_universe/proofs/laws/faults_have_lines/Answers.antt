use Rattle.fault_universe.proofs.Members.{line_of, member_line}
use Rattle.fault_universe.proofs.laws.faults_have_lines.Goals as goal

pub returns : goal.returns
returns c n f sound member = line_of n sound f.line (member_line n f member)
