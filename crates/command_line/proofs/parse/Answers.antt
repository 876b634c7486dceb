use Rattle.command_line.proofs.LineLemmas.{became, caused, named_refusal, named_request, taken}
use Rattle.command_line.proofs.parse.Goals as goal

pub returns-in-Err-clause-refusal : goal.returns-in-Err-clause-refusal
returns-in-Err-clause-refusal c = caused _ c.in-Err.error c.refusal.result c.in-Err.ensures.kinds c.refusal.ensures

pub returns-in-Ok-request_of-clause-request : goal.returns-in-Ok-request_of-clause-request
returns-in-Ok-request_of-clause-request c =
    named_request _ _ c.in-Ok-request_of.request c.in-Ok-request_of.ensures.line (taken _ _ c.in-Ok.ensures.kinds c.in-Ok.ensures.rows) c.with_files.result c.with_files.ensures.line

pub returns-in-Ok-request_of-clause-refusal : goal.returns-in-Ok-request_of-clause-refusal
returns-in-Ok-request_of-clause-refusal c =
    named_refusal _ _ c.in-Ok-request_of.request c.in-Ok-request_of.ensures.line (taken _ _ c.in-Ok.ensures.kinds c.in-Ok.ensures.rows) c.with_files.result c.with_files.ensures.line

pub returns-clause-refusal : goal.returns-clause-refusal
returns-clause-refusal c =
    became _ _ c.in-Err-request_of.none c.refusal_of.result c.in-Err-request_of.ensures.line (taken _ _ c.in-Ok.ensures.kinds c.in-Ok.ensures.rows) c.refusal_of.ensures
