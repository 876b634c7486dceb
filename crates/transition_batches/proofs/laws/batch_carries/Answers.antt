use Rattle.std.proofs.Common.{subst}
use Rattle.std.proofs.lemmas.Option.{slice_get_within, get_or_from_slice_get}
use Rattle.statement.specs.declared.lines.Fault.{Fault}
use Rattle.netlist.specs.Lines.{IsLineOf}
use Rattle.transition_batches.proofs.Evidence.{evidence_carries}
use Rattle.transition_batches.proofs.laws.batch_carries.Goals as goal

pub returns : goal.returns
returns c n holds fs j f limit found sound design valid apart whole here low w =
    evidence_carries n sound design holds fs valid apart whole j f here
    (subst (λ (g : Fault). IsLineOf n g.line) (get_or_from_slice_get fs j f f here) (valid j f (slice_get_within fs j f here))) limit found low w
