use Rattle.std.proofs.Common.{subst}
use Rattle.std.specs.Prelude.{IfOk}
use Rattle.statement.specs.Netlists.{Netlist}
use Rattle.atpg_top.specs.inner.Swept.{IsSweepShown}
use Rattle.atpg_top.proofs.sweeping.swept.Goals as goal

pub returns : goal.returns
returns g c = subst (λ (n : Netlist). IfOk c.shown_by-shown.result (IsSweepShown n)) c.in_ok-core.ensures.sample c.shown_by-shown.ensures
