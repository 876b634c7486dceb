use Rattle.std.proofs.Common.{◌≡◌, length, sym, ◌∙◌, subst, arith}
use Rattle.netlist.specs.Conditions.{IsSound}
use Rattle.word_sim.proofs.ToldFaults.{told_one}
use Rattle.word_sim.proofs.groups.tell_one.Goals as goal

pub returns : goal.returns
returns c =
    let count : c.len.result ≡ length c.args.pass.now.points.now.seen.items = (let a = c.len.ensures in let b = c.args.pass.now.points.now.seen.ok.0 in omega arith) in
    told_one c.args.events.now.netlist (subst IsSound (c.netlist.ensures ∙ c.core.ensures) c.sound.ensures) c.args.pass.now c.args.turned.now c.args.shown.now c.requires.turned
    c.args.k _ c.in-Some.end c.in-Some.word c.requires.within c.in-Some.is (sym c.index.ensures ∙ (c.if-index.false ∙ c.index-2.ensures)) c.if-under-turned-ne0.false
    c.len.result count c.last_among.result c.last_among.ensures
