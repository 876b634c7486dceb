use Rattle.std.proofs.Common.{◌≡◌, ◌<◌, length, get_or, ◌∙◌, ap, subst, List, ℕ}
use Rattle.std.proofs.lemmas.List.{get_or_read}
use Rattle.statement.specs.Netlists.{name_of}
use Rattle.scan_insert.proofs.Making.{map_step, name_read}
use Rattle.scan_insert.proofs.signal_names.push_inputs.Goals as goal

pub loop-x-preserved : goal.loop-x-preserved
loop-x-preserved c =
    let n = c.args.netlist.now in
    let i = c.loop-x.x-index in
    let items : c.inputs-x-items.result.now ≡ n.inputs = c.inputs-x-items.ensures in
    let within : i < length n.inputs = subst (λ (xs : List ℕ). i < length xs) items c.loop-x-test.true in
    let here : c.x-item.result ≡ get_or n.inputs i 0 =
    get_or_read c.inputs-x-items.result.now i c.x-item.result c.loop-x-test.true c.x-item.is 0 ∙ ap (λ (xs : List ℕ). get_or xs i 0) items in
    map_step (name_of n) c.args.names.now c.loop-x.names c.push.new.self n.inputs i 0 c.name.result.now within
    c.loop-x.invariant c.in_ok-push.ensures.ok (name_read n c.x-item.result c.name.result.now c.name.ensures ∙ ap (name_of n) here)
