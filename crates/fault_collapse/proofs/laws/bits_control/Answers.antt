use Rattle.fault_collapse.proofs.Controlled.{controlled}
use Rattle.fault_collapse.proofs.laws.bits_control.Goals as goal

pub returns : goal.returns
returns c = controlled
