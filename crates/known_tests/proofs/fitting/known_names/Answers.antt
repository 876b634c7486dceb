use Rattle.std.proofs.Common.{◌≤◌, ◌∙◌, ap, length, map, sym, arith}
use Rattle.statement.specs.Netlists.{name_of}
use Rattle.stil_vectors.proofs.FitLemmas.{got_at, input_within, named}
use Rattle.known_tests.proofs.KnownParts.{known_none, mapped_all, mapped_more}
use Rattle.known_tests.proofs.fitting.known_names.Goals as goal

pub loop-place-init : goal.loop-place-init
loop-place-init c = c.new-names.ensures ∙ sym (ap (map (name_of c.args.netlist.now)) (known_none c.args.unknown.now))

pub name-name-requires : goal.name-name-requires
name-name-requires c =
    input_within c.args.netlist.now c.sound.ensures c.loop-place.place c.index-inputs-place.result c.inputs-inputs.result.now c.inputs-inputs.ensures c.loop-place-test.true c.index-inputs-place.is

pub loop-place-preserved : goal.loop-place-preserved
loop-place-preserved c =
    let n = c.args.netlist.now in
    mapped_more (name_of n) c.args.unknown.now n.inputs c.loop-place.place c.index-inputs-place.result c.loop-place.names c.name-name.result.now c.is_unknown.result c.push_unless.new.names
    (got_at c.inputs-inputs.result.now n.inputs c.loop-place.place c.index-inputs-place.result c.inputs-inputs.ensures c.loop-place-test.true c.index-inputs-place.is)
    c.loop-place.invariant (named n c.index-inputs-place.result c.name-name.result.now c.name-name.ensures) c.is_unknown.ensures c.in_ok-push_unless.ensures

pub returns : goal.returns
returns c =
    let n = c.args.netlist.now in
    let e = ap length c.inputs-inputs.ensures in
    let few : length n.inputs ≤ c.loop-place.place = omega (arith, e) in
    mapped_all (name_of n) c.args.unknown.now n.inputs c.loop-place.place c.loop-place.names few c.loop-place.invariant
