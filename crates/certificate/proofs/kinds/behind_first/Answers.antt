use Rattle.std.proofs.Common.{codes}
use Rattle.plain_text.proofs.Parts.{with_prefix}
use Rattle.certificate.proofs.kinds.behind_first.Goals as goal

pub returns-in-Some-strip_prefix : goal.returns-in-Some-strip_prefix
returns-in-Some-strip_prefix c =
    with_prefix c.args.bytes.now (codes "atpg certificate 2\n") c.in-Some-strip_prefix.lines.now c.in-Some-strip_prefix.ensures.cases.0 c.in-Some-strip_prefix.ensures.cases.1
