use Rattle.std.proofs.Common.{◌≤◌, ◌∙◌, ap, sym, length, arith}
use Rattle.std.proofs.lemmas.Option.{slice_get_read}
use Rattle.statement.specs.Netlists.{name_of}
use Rattle.stil_vectors.proofs.FitLemmas.{got_at, input_within, named, names_differ, names_end, names_more, other_length, other_text, same_text}
use Rattle.stil_vectors.proofs.fitting.are_inputs.Goals as goal

pub returns-then-len-inputs : goal.returns-then-len-inputs
returns-then-len-inputs c =
    other_length (name_of c.args.netlist.now) c.args.netlist.now.inputs c.args.names.now
    (λ e. c.if-len-inputs.true (c.len.ensures ∙ e ∙ ap length (sym c.inputs-inputs.ensures)))

pub name-input-requires : goal.name-input-requires
name-input-requires c =
    input_within c.args.netlist.now c.sound.ensures c.loop-place.place c.index-inputs-place.result c.inputs-inputs.result.now c.inputs-inputs.ensures c.loop-place-test.true c.index-inputs-place.is

pub returns-then-ne : goal.returns-then-ne
returns-then-ne c =
    let n = c.args.netlist.now in
    names_differ (name_of n) n.inputs c.args.names.now c.loop-place.place c.index-inputs-place.result c.get-name.result.now
    (got_at c.inputs-inputs.result.now n.inputs c.loop-place.place c.index-inputs-place.result c.inputs-inputs.ensures c.loop-place-test.true c.index-inputs-place.is) c.get-name.ensures
    (λ e. other_text c.get-name.result.now c.name-input.result.now c.if-ne.ensures (e ∙ sym (named n c.index-inputs-place.result c.name-input.result.now c.name-input.ensures)))

pub loop-place-preserved : goal.loop-place-preserved
loop-place-preserved c =
    let n = c.args.netlist.now in
    names_more (name_of n) n.inputs c.args.names.now c.loop-place.place c.index-inputs-place.result c.get-name.result.now
    (got_at c.inputs-inputs.result.now n.inputs c.loop-place.place c.index-inputs-place.result c.inputs-inputs.ensures c.loop-place-test.true c.index-inputs-place.is) c.get-name.ensures
    (same_text c.get-name.result.now c.name-input.result.now c.if-ne.ensures ∙ named n c.index-inputs-place.result c.name-input.result.now c.name-input.ensures) c.loop-place.invariant

pub returns : goal.returns
returns c =
    let n = c.args.netlist.now in
    let e = ap length c.inputs-inputs.ensures in
    let few : length n.inputs ≤ c.loop-place.place = omega (arith, e) in
    let also : length c.args.names.now ≤ c.loop-place.place = omega (arith, e) in
    names_end (name_of n) n.inputs c.args.names.now c.loop-place.place few also c.loop-place.invariant
