use Rattle.std.proofs.Common.{sym, ◌∙◌, ap, subst}
use Rattle.std.specs.List.{Contains}
use Rattle.netlist.specs.Conditions.{IsSound}
use Rattle.statement.specs.Netlists.{Netlist, is_flip_flop}
use Rattle.podem.proofs.Owns.{cell_is_source}
use Rattle.podem.proofs.searching.is_source.Goals as goal

pub returns : goal.returns
returns c cell =
    let n = c.args.core.now in
    let sound : IsSound n = subst IsSound c.netlist-netlist.ensures c.sound.ensures in
    let d = c.definition.result.now in
    cell_is_source n sound.formed.numbered d c.args.signal
    (subst (λ (m : Netlist). Contains m.definitions d) c.netlist-netlist.ensures c.definition.ensures.member) c.definition.ensures.same
    (sym (c.is_flip_flop.ensures ∙ ap is_flip_flop c.kind.ensures) ∙ cell)
