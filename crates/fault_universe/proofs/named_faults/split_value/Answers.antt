use Rattle.std.proofs.Common.{codes}
use Rattle.plain_text.proofs.Parts.{with_suffix, no_suffix}
use Rattle.fault_universe.proofs.LineTexts.{no_value}
use Rattle.fault_universe.proofs.named_faults.split_value.Goals as goal

pub returns-in-Some : goal.returns-in-Some
returns-in-Some c = with_suffix c.args.text.now (codes "/0") c.in-Some.line.now c.in-Some.ensures.cases.0 c.in-Some.ensures.cases.1

pub returns-in-Some-strip_suffix : goal.returns-in-Some-strip_suffix
returns-in-Some-strip_suffix c = with_suffix c.args.text.now (codes "/1") c.in-Some-strip_suffix.line.now c.in-Some-strip_suffix.ensures.cases.0 c.in-Some-strip_suffix.ensures.cases.1

pub returns : goal.returns
returns c = no_value c.args.text.now (no_suffix c.args.text.now (codes "/0") c.in_default.ensures.cases) (no_suffix c.args.text.now (codes "/1") c.in_default-strip_suffix.ensures.cases)
