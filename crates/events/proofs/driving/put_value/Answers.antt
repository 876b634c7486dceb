use Rattle.std.proofs.Common.{◌<◌, sym, subst, length}
use Rattle.std.specs.List.{All}
use Rattle.events.proofs.Fans.{row_calls, row_low}
use Rattle.events.proofs.DrivenValues.{put_other}
use Rattle.events.proofs.driving.put_value.Goals as goal

pub call-requires : goal.call-requires
call-requires g c =
    let t = c.args.tables.now in
    subst (λ m. All (λ p. p < m) c.fan.result.now) (sym c.requires.marks)
    (row_low c.args.netlist.now t.places.items (length t.order.items) t.fans c.args.id c.fan.result.now c.requires.tables.fanned c.requires.within c.fan.ensures)

pub returns : goal.returns
returns g c =
    let t = c.args.tables.now in
    put_other c.args.netlist.now t.places.items c.args.id c.index-3.result c.args.value c.args.values.now.items c.args.agenda.now c.call.new.agenda c.index-3.ensures
    (row_calls c.args.netlist.now t.places.items (length t.order.items) t.fans c.args.id c.fan.result.now c.args.agenda.now c.call.new.agenda
    c.requires.tables.fanned c.requires.within c.fan.ensures c.requires.marks c.call.ensures)
