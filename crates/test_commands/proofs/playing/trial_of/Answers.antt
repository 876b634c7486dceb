use Rattle.test_commands.proofs.PlayLemmas.{no_fault, no_file, no_netlist}
use Rattle.test_commands.proofs.playing.trial_of.Goals as goal

pub returns-in-Err : goal.returns-in-Err
returns-in-Err c = no_netlist _ _ _ c.in-Err.stop c.in-Err.ensures.step

pub returns-in-Err-fault_of : goal.returns-in-Err-fault_of
returns-in-Err-fault_of c = no_fault _ _ _ _ c.in-Err-fault_of.stop c.in-Ok.ensures.step c.in-Err-fault_of.ensures

pub returns-in-Err-stil_of : goal.returns-in-Err-stil_of
returns-in-Err-stil_of c = no_file _ _ _ _ _ c.in-Err-stil_of.stop c.in-Ok.ensures.step c.in-Ok-fault_of.ensures c.in-Err-stil_of.ensures

pub returns-in-Ok-stil_of : goal.returns-in-Ok-stil_of
returns-in-Ok-stil_of c = record { net_is = c.in-Ok.ensures.step; fault_is = c.in-Ok-fault_of.ensures; file_is = c.in-Ok-stil_of.ensures }
