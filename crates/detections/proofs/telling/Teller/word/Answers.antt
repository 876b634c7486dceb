use Rattle.std.proofs.Common.{subst}
use Rattle.netlist.specs.Conditions.{IsSound}
use Rattle.detections.proofs.TellWords.{told_none, told_word}
use Rattle.detections.proofs.telling.Teller.word.Goals as goal

pub returns-then-under-eq0-clause-told : goal.returns-then-under-eq0-clause-told
returns-then-under-eq0-clause-told c =
    told_none c.args.core.now c.netlist-netlist.result.now (subst IsSound c.netlist-netlist.ensures c.sound.ensures) c.args.fault.now c.requires.line c.args.patterns.now c.args.self.now.events.values
    c.values.result.now c.requires.can.good c.netlist-netlist.ensures c.values.ensures.values _ _ c.in-Some.ensures c.if-under-eq0.true

pub returns-clause-told : goal.returns-clause-told
returns-clause-told c =
    told_word c.args.core.now c.netlist-netlist.result.now c.args.self.now.events.netlist (subst IsSound c.netlist-netlist.ensures c.sound.ensures) c.args.fault.now c.requires.line c.args.patterns.now
    c.args.self.now.events.values c.values.result.now c.requires.can.good c.netlist-netlist.ensures c.values.ensures.values c.requires.can.netlist _ _ c.known_or_seen.result c.in-Some.ensures
    c.known_or_seen.ensures.seen
