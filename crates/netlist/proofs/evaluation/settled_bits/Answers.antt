use Rattle.std.proofs.Common.{false, List, Bool, ap, ◌∙◌}
use Rattle.netlist.specs.Settled.{at}
use Rattle.statement.specs.Values.{bits, outs, next}
use Rattle.netlist.proofs.evaluation.settled_bits.Goals as goal

pub returns : goal.returns
returns c =
    let rule = bits c.args.rule.now.fault in
    record {
      size = c.in_ok-signals.ensures.size;
      settles = c.in_ok-signals.ensures.settled false;
      outputs = c.in_ok-outs_into.ensures false ∙ ap (λ (values : List Bool). outs rule c.args.core.now (at values false)) c.deref.ensures.value;
      cells = c.in_ok-next_into.ensures false ∙ ap (λ (values : List Bool). next rule c.args.core.now (at values false)) c.deref-2.ensures.value;
    }
