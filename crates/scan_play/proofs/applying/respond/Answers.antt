use Rattle.std.proofs.Common.{false, None, List, Bool, ap, ◌∙◌, subst}
use Rattle.statement.specs.Values.{Settles, bits, outs, next}
use Rattle.netlist.specs.Settled.{at}
use Rattle.scan_play.proofs.applying.respond.Goals as goal

pub returns : goal.returns
returns c =
    let rule = bits None in
    let n = c.args.core.now in
    let values = at c.in_ok-values.values.items false in
    record {
      values = values;
      settles = subst (λ (s : List Bool). Settles rule n c.args.pattern.now.inputs s values) c.cells.ensures
          (subst (λ (i : List Bool). Settles rule n i c.cells.result.now values) c.inputs.ensures (c.in_ok-values.ensures.settled false));
      outputs = c.in_ok-outs_into.ensures false ∙ ap (λ (vs : List Bool). outs rule n (at vs false)) c.deref.ensures.value;
      cells = c.in_ok-next_into.ensures false ∙ ap (λ (vs : List Bool). next rule n (at vs false)) c.deref-2.ensures.value;
    }
