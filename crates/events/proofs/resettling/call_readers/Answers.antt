use Rattle.std.proofs.Common.{◌<◌, ◌∙◌, List, length, get_or, map, set, sym, subst, refl}
use Rattle.std.specs.List.{All}
use Rattle.statement.specs.declared.lines.Line.{Line}
use Rattle.statement.specs.Netlists.{signals, readers_of}
use Rattle.netlist.proofs.Orders.{place_of}
use Rattle.netlist.proofs.ReaderRows.{are_below, row_below}
use Rattle.netlist.proofs.ReaderTables.{table_count, readers_at}
use Rattle.events.specs.inner.Running.{CallsTurned}
use Rattle.events.proofs.Calling.{all_called}
use Rattle.events.proofs.Fans.{row_calls, row_low}
use Rattle.events.proofs.resettling.call_readers.Goals as goal

pub call-requires : goal.call-requires
call-requires g c =
    let t = c.args.tables.now in
    subst (λ m. All (λ p. p < m) c.fan.result.now) (sym c.requires.marks)
    (row_low c.args.netlist.now t.places.items (length t.order.items) t.fans c.args.id c.fan.result.now c.requires.tables.fanned c.requires.within c.fan.ensures)

pub call_each-requires-clause-lines : goal.call_each-requires-clause-lines
call_each-requires-clause-lines g c =
    let n = c.args.netlist.now in
    let numbered = c.sound.ensures.formed.numbered in
    let table : List (List Line) = map (readers_of n) (signals n) in
    row_below (length (signals n)) table (are_below n numbered table refl) c.args.id c.readers-lines.result.now (subst (λ m. c.args.id < m) (sym (table_count n)) c.requires.within)
    (c.readers-lines.ensures ∙ sym (readers_at n numbered c.args.id c.requires.within))

pub returns : goal.returns
returns g c =
    let n = c.args.netlist.now in
    let t = c.args.tables.now in
    all_called (g.L.Logic.rule c.args.rule.now) n t.places.items c.args.values.now (set c.args.values.now c.args.id c.args.value) (readers_of n c.args.id) c.args.agenda.now c.call.new.agenda
    (λ f is. subst (λ m. get_or t.places.items f.id 0 < m) (sym c.requires.marks) (place_of n c.sound.ensures.formed.numbered t.order.items c.requires.tables.ordered t.places.items c.requires.tables.placed f is).0)
    (row_calls n t.places.items (length t.order.items) t.fans c.args.id c.fan.result.now c.args.agenda.now c.call.new.agenda
    c.requires.tables.fanned c.requires.within c.fan.ensures c.requires.marks c.call.ensures)

pub returns-then-is_watched : goal.returns-then-is_watched
returns-then-is_watched g c =
    subst (λ (ls : List Line). CallsTurned (g.L.Logic.rule c.args.rule.now) c.args.netlist.now ls c.args.tables.now.places.items c.args.values.now (set c.args.values.now c.args.id c.args.value) c.args.agenda.now c.call_each.new.agenda)
    c.readers-lines.ensures c.call_each.ensures
