use Rattle.std.proofs.Common.{◌∙◌, ap, arith, length, map}
use Rattle.std.proofs.lemmas.Iterator.Consumers.{YieldsList-end, YieldsList-turn}
use Rattle.std.proofs.lemmas.List.{length_push, map_push}
use Rattle.command_line.specs.CommandLine.{hold_of}
use Rattle.command_line.proofs.HoldLemmas.{YieldsItems, all_done, cut_here, none_done, one_bad, one_more}
use Rattle.command_line.proofs.holds.items_of.Goals as goal

pub loop-item-init : goal.loop-item-init
loop-item-init c = rw c.new-holds.ensures.items (none_done _)

pub returns-in_default : goal.returns-in_default
returns-in_default c =
    let split = c.split-item-items.ensures in
    let items = YieldsItems c.args.list.now c.into_iter-item-iterator.ensures.into_iter_gives split.text split.has_more split.pattern in
    let at = YieldsList-turn items c.loop-item.yielded _ c.loop-item.yielded_by _ _ c.in-Some.item c.in-Some.is c.next.ensures.steps in
    one_bad _ _ _ _ _ c.loop-item.invariant (cut_here _ (length c.loop-item.yielded) c.in-Some.item.now at) (rw c.in_default.is at c.hold_in.ensures)

pub loop-item-preserved : goal.loop-item-preserved
loop-item-preserved c =
    let split = c.split-item-items.ensures in
    let items = YieldsItems c.args.list.now c.into_iter-item-iterator.ensures.into_iter_gives split.text split.has_more split.pattern in
    let at = YieldsList-turn items c.loop-item.yielded _ c.loop-item.yielded_by _ _ c.in-Some.item c.in-Some.is c.next.ensures.steps in
    let held = map hold_of c.loop-item.holds.items in
    let pushed = ap (map hold_of) c.in-Ok.ensures.items ∙ map_push hold_of c.loop-item.holds.items c.in-Some-hold_in.hold in
    rw (pushed, length_push c.loop-item.yielded c.in-Some.item) (
    one_more _ held _ _ _ (hold_of c.in-Some-hold_in.hold) c.loop-item.invariant (cut_here _ (length c.loop-item.yielded) c.in-Some.item.now at) c.in-Some-hold_in.ensures
    )

pub returns : goal.returns
returns c =
    let split = c.split-item-items.ensures in
    let items = YieldsItems c.args.list.now c.into_iter-item-iterator.ensures.into_iter_gives split.text split.has_more split.pattern in
    let end = YieldsList-end items c.loop-item.yielded _ c.loop-item.yielded_by _ _ c.in-None.is c.next.ensures.steps in
    all_done _ (map hold_of c.loop-item.holds.items) _ (length c.loop-item.yielded) c.loop-item.invariant (omega (arith, end.1))
