use Rattle.diagnose_command.proofs.DiagnoseLemmas.{no_design, no_log, no_test}
use Rattle.diagnose_command.proofs.cases.case_of.Goals as goal

pub returns-in-Err : goal.returns-in-Err
returns-in-Err c = λ chains rank. no_design chains rank _ _ _ c.in-Err.stop c.in-Err.ensures.step

pub returns-in-Err-stil_of : goal.returns-in-Err-stil_of
returns-in-Err-stil_of c = λ chains rank. no_test chains rank _ _ _ _ c.in-Err-stil_of.stop c.in-Ok.ensures.step c.in-Err-stil_of.ensures

pub returns-in-Err-log_of : goal.returns-in-Err-log_of
returns-in-Err-log_of c = λ chains rank. no_log chains rank _ _ _ _ _ c.in-Err-log_of.stop c.in-Ok.ensures.step c.in-Ok-stil_of.ensures c.in-Err-log_of.ensures

pub returns-in-Ok-log_of : goal.returns-in-Ok-log_of
returns-in-Ok-log_of c = λ chains rank. record { net_is = c.in-Ok.ensures.step; file_is = c.in-Ok-stil_of.ensures; log_is = c.in-Ok-log_of.ensures; design = c.in-Ok.ensures.design }
