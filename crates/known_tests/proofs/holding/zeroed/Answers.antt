use Rattle.std.proofs.Common.{◌≤◌, ap, length, refl, arith}
use Rattle.std.proofs.lemmas.Option.{slice_get_within}
use Rattle.statement.specs.Netlists.{Netlist}
use Rattle.known_tests.proofs.ZeroLemmas.{all_zeroed, more_zeroed, own_at, start_zeroed}
use Rattle.known_tests.proofs.holding.zeroed.Goals as goal

pub loop-input-init : goal.loop-input-init
loop-input-init c = start_zeroed c.args.unknown.now c.args.holds.now c.requires.size c.args.core.now.inputs c.in_ok-zeroed.zeroed c.requires.held c.in_ok-zeroed.ensures

pub loop-input-preserved : goal.loop-input-preserved
loop-input-preserved c =
    let hs = c.args.holds.now in
    let k = c.loop-input.input in
    let within = slice_get_within hs k c.held.result c.held.ensures in
    more_zeroed c.args.unknown.now hs c.requires.size k c.loop-input.zeroed c.set_hold.new.holds c.zeroed_at-hold.result c.held.result _ within
    (own_at hs k c.held.result within c.held.ensures) refl c.zeroed_at-hold.ensures c.set_hold.ensures c.loop-input.invariant

pub returns : goal.returns
returns c =
    let held = c.requires.held in
    let stop = c.loop-input-test.false in
    let size = ap length c.inputs.ensures in
    let whole = ap (λ (n : Netlist). length n.inputs) c.netlist-2.ensures in
    let past : length c.args.holds.now ≤ c.loop-input.input = omega arith in
    all_zeroed c.args.unknown.now c.args.holds.now c.requires.size c.loop-input.input c.loop-input.zeroed past c.loop-input.invariant
