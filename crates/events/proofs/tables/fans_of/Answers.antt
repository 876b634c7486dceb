use Rattle.std.proofs.Common.{◌<◌, ◌++◌, List, sym, ap, ◌∙◌, subst, length, map, refl, arith}
use Rattle.std.specs.List.{All}
use Rattle.statement.specs.declared.lines.Line.{Line}
use Rattle.statement.specs.Netlists.{signals, readers_of}
use Rattle.netlist.specs.Lines.{IsPinBelow}
use Rattle.netlist.proofs.ReaderRows.{are_below, row_below}
use Rattle.netlist.proofs.ReaderTables.{table_count, readers_at}
use Rattle.events.specs.inner.Placing.{called}
use Rattle.events.proofs.Fans.{fan_more, are_fans}
use Rattle.events.proofs.tables.fans_of.Goals as goal

pub push_all_called-requires : goal.push_all_called-requires
push_all_called-requires c =
    let n = c.args.netlist.now in
    let numbered = c.sound.ensures.formed.numbered in
    let table : List (List Line) = map (readers_of n) (signals n) in
    let l : c.loop-x.x < length (signals n) = subst (λ m. c.loop-x.x < m) c.requires c.loop-x-test.true in
    subst (λ m. All (IsPinBelow m) c.readers-readers.result.now) (sym c.requires)
    (row_below (length (signals n)) table (are_below n numbered table refl) c.loop-x.x c.readers-readers.result.now (subst (λ m. c.loop-x.x < m) (sym (table_count n)) l)
    (c.readers-readers.ensures ∙ sym (readers_at n numbered c.loop-x.x l)))

pub loop-x-preserved : goal.loop-x-preserved
loop-x-preserved c =
    fan_more c.args.netlist.now c.args.places.now c.args.bound c.loop-x.fan.items c.loop-x.ends.items c.push_all_called.new.fan.items c.push.new.self.items c.loop-x.x c.len.result
    c.loop-x.invariant (c.in_ok-push_all_called.ensures ∙ ap (λ (ls : List Line). c.loop-x.fan.items ++ called c.args.places.now c.args.bound ls) c.readers-readers.ensures)
    c.in_ok-push.ensures.items (c.len.ensures ∙ c.push_all_called.new.fan.ok.0)

pub returns : goal.returns
returns c =
    let high = c.loop-x-test.false in
    let low = c.loop-x.auto.x-end in
    let size = c.requires in
    are_fans c.args.netlist.now c.args.places.now c.args.bound c.loop-x.fan.items c.loop-x.ends.items c.loop-x.x c.loop-x.invariant (omega arith)
