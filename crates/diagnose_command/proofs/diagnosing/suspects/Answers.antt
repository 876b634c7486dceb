use Rattle.std.proofs.Common.{List, subst}
use Rattle.statement.specs.Runs.{Cycle}
use Rattle.diagnose.specs.Candidates.{AreCandidates}
use Rattle.diagnose.specs.Explaining.{told_cycles}
use Rattle.diagnose_command.proofs.diagnosing.suspects.Goals as goal

pub returns : goal.returns
returns g c =
    let s = c.args.scanned.now in
    let log = s.case.now.log in
    subst (λ (cycles : List Cycle). AreCandidates s.scanned.now c.args.listed.now.faults (told_cycles log.end cycles) log.failures c.in_ok-found.found.items) c.in_ok-core.ensures.cycles c.in_ok-found.ensures
