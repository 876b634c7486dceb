use Rattle.std.proofs.Common.{subst, rules}
use Rattle.std.specs.List.{Contains}
use Rattle.statement.specs.Netlists.{Netlist, signals}
use Rattle.netlist.proofs.Placed.{signal_from}
use Rattle.list_calls.proofs.labels.push_labels.Goals as goal

pub push_label-requires-clause-signal : goal.push_label-requires-clause-signal
push_label-requires-clause-signal c =
    subst (λ (n : Netlist). Contains (signals n) c.loop-place.place) c.requires.netlist (signal_from c.args.netlist.now c.sound.ensures.formed.numbered c.loop-place.place (search rules))
