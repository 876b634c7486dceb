use Rattle.test_commands.proofs.ChainTestLemmas.{no_design, no_test}
use Rattle.test_commands.proofs.chain_testing.trial_of.Goals as goal

pub returns-in-Err : goal.returns-in-Err
returns-in-Err c = no_design _ _ c.in-Err.stop c.in-Err.ensures.step

pub returns-in-Err-stil_of : goal.returns-in-Err-stil_of
returns-in-Err-stil_of c = no_test _ _ _ c.in-Err-stil_of.stop c.in-Ok.ensures.step c.in-Err-stil_of.ensures

pub returns-in-Ok-stil_of : goal.returns-in-Ok-stil_of
returns-in-Ok-stil_of c = record { net_is = c.in-Ok.ensures.step; design = c.in-Ok.ensures.design; file_is = c.in-Ok-stil_of.ensures }
