use Rattle.std.proofs.Common.{ap, arith, length}
use Rattle.file_check.proofs.TimesLemmas.{other_count}
use Rattle.file_check.proofs.times.has_times.Goals as goal

pub returns-then-of-len : goal.returns-then-of-len
returns-then-of-len c =
    let faults = ap length c.requires.subject.faults in
    let told = ap length c.of.ensures in
    other_count c.args.trial.now.core.now c.args.trial.now.patterns.now c.args.said.now (omega arith) (λ same. absurd (omega arith))
