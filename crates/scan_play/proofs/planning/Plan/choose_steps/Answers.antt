use Rattle.std.proofs.Common.{sym, subst}
use Rattle.std.specs.List.{All}
use Rattle.statement.specs.Netlists.{Netlist}
use Rattle.netlist.specs.Netlist.{IsGateAt}
use Rattle.scan_play.proofs.planning.Plan.choose_steps.Goals as goal

pub is_path-requires-clause-gates : goal.is_path-requires-clause-gates
is_path-requires-clause-gates c =
    subst (λ (m : Netlist). All (IsGateAt m) c.deref-2.result.now) (sym c.netlist-netlist.ensures)
    (subst (All (IsGateAt c.args.core.now)) (sym c.deref-2.ensures.value) c.in_ok-choose.ensures)
