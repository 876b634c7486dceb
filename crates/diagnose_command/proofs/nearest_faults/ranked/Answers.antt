use Rattle.std.proofs.Common.{List, subst}
use Rattle.statement.specs.Runs.{Cycle}
use Rattle.diagnose.specs.Explaining.{told_cycles}
use Rattle.diagnose.specs.Ranking.{IsRanking}
use Rattle.diagnose_command.proofs.nearest_faults.ranked.Goals as goal

pub ranking-requires : goal.ranking-requires
ranking-requires g c =
    let t = c.in_ok-core.ensures in
    record { design = c.requires.design; core = t.core; fits = t.fits; few = t.few }

pub returns : goal.returns
returns g c =
    let s = c.args.scanned.now in
    let log = s.case.now.log in
    subst (λ (cycles : List Cycle). IsRanking s.scanned.now c.args.listed.now.faults (told_cycles log.end cycles) log.failures c.args.count c.in_ok-found.found.items) c.in_ok-core.ensures.cycles
    c.in_ok-found.ensures
