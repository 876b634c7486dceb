use Rattle.std.proofs.Common.{◌≤◌, ◌<◌, ◌∙◌, ap, sym, length, arith}
use Rattle.std.specs.Prelude.{slice_index}
use Rattle.statement.specs.Runs.{output_name}
use Rattle.stil_vectors.proofs.FitLemmas.{names_differ, names_end, names_more, other_length, other_text, output_at, output_small, same_text}
use Rattle.stil_vectors.proofs.fitting.are_outputs.Goals as goal

pub returns-then-len-outputs : goal.returns-then-len-outputs
returns-then-len-outputs c =
    other_length (output_name c.args.netlist.now) c.args.netlist.now.outputs c.args.names.now
    (λ e. c.if-len-outputs.true (c.len.ensures ∙ e ∙ ap length (sym c.outputs-outputs.ensures)))

pub overflow_cast-place : goal.overflow_cast-place
overflow_cast-place c =
    let small = output_small c.args.netlist.now c.loop-place.place c.outputs-outputs.result.now c.sound.ensures c.outputs-outputs.ensures c.loop-place-test.true in
    omega (arith, small)

pub returns-then-ne : goal.returns-then-ne
returns-then-ne c =
    let n = c.args.netlist.now in
    let e = ap length c.outputs-outputs.ensures in
    let l : c.loop-place.place < length n.outputs = omega (arith, e) in
    names_differ (output_name n) n.outputs c.args.names.now c.loop-place.place (slice_index n.outputs c.loop-place.place) c.get-own.result.now (output_at n c.loop-place.place l) c.get-own.ensures
    (λ s. other_text c.get-own.result.now c.as_slice.result.now c.if-ne.ensures (s ∙ sym (c.as_slice.ensures.value ∙ c.in_ok-pin.ensures)))

pub loop-place-preserved : goal.loop-place-preserved
loop-place-preserved c =
    let n = c.args.netlist.now in
    let e = ap length c.outputs-outputs.ensures in
    let l : c.loop-place.place < length n.outputs = omega (arith, e) in
    names_more (output_name n) n.outputs c.args.names.now c.loop-place.place (slice_index n.outputs c.loop-place.place) c.get-own.result.now (output_at n c.loop-place.place l) c.get-own.ensures
    (same_text c.get-own.result.now c.as_slice.result.now c.if-ne.ensures ∙ c.as_slice.ensures.value ∙ c.in_ok-pin.ensures) c.loop-place.invariant

pub returns : goal.returns
returns c =
    let n = c.args.netlist.now in
    let e = ap length c.outputs-outputs.ensures in
    let few : length n.outputs ≤ c.loop-place.place = omega (arith, e) in
    let also : length c.args.names.now ≤ c.loop-place.place = omega (arith, e) in
    names_end (output_name n) n.outputs c.args.names.now c.loop-place.place few also c.loop-place.invariant
