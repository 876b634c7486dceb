use Rattle.std.proofs.Common.{◌∙◌, subst}
use Rattle.statement.specs.Netlists.{Netlist}
use Rattle.events.specs.Stuck.{IsObservedOnly}
use Rattle.observed_points.specs.Points.{IsReadAt}
use Rattle.word_sim.proofs.detecting.last_marked.Goals as goal

pub last_at-requires-clause-read : goal.last_at-requires-clause-read
last_at-requires-clause-read c = subst (λ (m : Netlist). IsReadAt m c.args.fault.now.line c.in-Some.number) (c.netlist.ensures ∙ c.core.ensures) c.in-Some.ensures

pub last_stuck-requires-clause-enters : goal.last_stuck-requires-clause-enters
last_stuck-requires-clause-enters c = subst (λ (m : Netlist). ¬ IsObservedOnly m c.args.fault.now.line) (c.netlist.ensures ∙ c.core.ensures) c.in-None.ensures
