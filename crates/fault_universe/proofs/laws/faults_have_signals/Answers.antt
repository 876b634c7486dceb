use Rattle.fault_universe.proofs.Members.{member_signal}
use Rattle.fault_universe.proofs.laws.faults_have_signals.Goals as goal

pub returns : goal.returns
returns c n i f sound e = member_signal n sound i f e
