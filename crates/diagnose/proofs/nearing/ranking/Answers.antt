use Rattle.std.proofs.Common.{List, subst}
use Rattle.statement.specs.Runs.{Cycle}
use Rattle.diagnose.specs.Ranking.{IsRanking}
use Rattle.diagnose.proofs.DesignLemmas.{told_diagnosable}
use Rattle.diagnose.proofs.nearing.ranking.Goals as goal

pub all_ranked-requires : goal.all_ranked-requires
all_ranked-requires g c = told_diagnosable c.args.design.now c.args.vectors c.requires c.args.log.now.end c.in_ok-told.told c.in_ok-told.ensures

pub returns : goal.returns
returns g c =
    let d = c.args.design.now in
    subst (λ (cycles : List Cycle). IsRanking d.scanned.now d.faults.now cycles c.args.log.now.failures c.args.count c.truncate.new.self.items) c.in_ok-told.ensures
    (c.in_ok-list.list.items, c.in_ok-list.ensures, c.truncate.ensures.items)
