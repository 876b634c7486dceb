use Rattle.std.proofs.Common.{sym, subst}
use Rattle.std.specs.List.{All}
use Rattle.statement.specs.declared.lines.Fault.{Fault}
use Rattle.statement.specs.Netlists.{Netlist}
use Rattle.netlist.specs.Lines.{IsLineOf}
use Rattle.transition.proofs.searching.lines_within.Goals as goal

pub returns : goal.returns
returns c = subst (λ (m : Netlist). All (λ (f : Fault). IsLineOf m f.line) c.args.faults.now) (sym c.requires.same) c.requires.lines
