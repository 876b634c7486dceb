use Rattle.std.proofs.Common.{[], ◌∙◌, ap, length, sym, arith}
use Rattle.std.proofs.lemmas.List.{take_all}
use Rattle.std.proofs.lemmas.Option.{get_or_from_slice_get}
use Rattle.netlist.proofs.Placed.{signals_length}
use Rattle.netlist.proofs.WellFormed.{names_counted}
use Rattle.name_index.proofs.NameLemmas.{met_more}
use Rattle.name_index.proofs.names_of.Goals as goal

pub loop-x-preserved : goal.loop-x-preserved
loop-x-preserved c =
    let n = c.args.netlist.now in
    let counted = names_counted n c.sound.ensures in
    let size = signals_length n in
    let a = ap length c.inputs.ensures in
    let b = ap length c.definitions.ensures in
    let l = c.loop-x-test.true in
    met_more c.loop-x.names.keys c.insert_full.new.self.keys c.name.result n.names c.loop-x.x c.loop-x.invariant c.sound.ensures.formed.distinct (omega arith)
    (sym (get_or_from_slice_get n.names c.loop-x.x c.name.result.now [] c.name.ensures)) c.in_ok-insert_full.ensures.keys

pub returns : goal.returns
returns c =
    let n = c.args.netlist.now in
    let counted = names_counted n c.sound.ensures in
    let size = signals_length n in
    let a = ap length c.inputs.ensures in
    let b = ap length c.definitions.ensures in
    let stop = c.loop-x-test.false in
    c.loop-x.invariant ∙ take_all c.loop-x.x n.names (omega arith)
