use Rattle.statement.specs.Netlists.{signals}
use Rattle.netlist.proofs.Lists.{All-from_contains}
use Rattle.tri.specs.Labels.{AllowsLabel}
use Rattle.tri.proofs.MoreKnown.{more_known}
use Rattle.tri.proofs.laws.more_decisions_more_known.Goals as goal

pub returns : goal.returns
returns c f path path' n holds l m sound p q more possible =
    All-from_contains (λ x. AllowsLabel (l x) (m x)) (signals n) (more_known f path path' n holds l m sound p q more possible)
