use Rattle.std.proofs.Common.{◌≡◌, length, ap, sym, subst, arith}
use Rattle.std.proofs.lemmas.Bool.{both_ways}
use Rattle.statement.specs.declared.lines.Line.TheVariants.{Stem, Pin, Out}
use Rattle.netlist.specs.Netlist.{IsGateAt}
use Rattle.netlist.proofs.Placed.{signal_from}
use Rattle.head_lines.proofs.Chains.{pin_same, stem_pin, out_pin, readers_not_one, no_pin_reads, pin_below, one_pin_reads}
use Rattle.head_lines.proofs.room.only_reader.Goals as goal

pub returns-then-readers-ne1 : goal.returns-then-readers-ne1
returns-then-readers-ne1 c =
    readers_not_one c.args.netlist.now c.args.id (signal_from c.args.netlist.now c.sound.ensures.formed.numbered c.args.id c.requires)
    (λ e. let a = ap length c.readers-readers.ensures in let t = c.if-readers-ne1.true in omega arith)

pub is_gate-requires : goal.is_gate-requires
is_gate-requires c =
    let one : length c.readers-readers.result.now ≡ 1 = (let t = c.if-readers-ne1.false in omega arith) in
    pin_below c.args.netlist.now c.sound.ensures c.args.id c.in-Pin.z c.in-Pin.field-1 c.readers-readers.result.now _ c.readers-readers.ensures one c.in-Pin.is

pub returns-in-Stem : goal.returns-in-Stem
returns-in-Stem c =
    let one : length c.readers-readers.result.now ≡ 1 = (let t = c.if-readers-ne1.false in omega arith) in
    no_pin_reads c.args.netlist.now c.args.id c.readers-readers.result.now _ (Stem c.in-Stem.field-0) c.readers-readers.ensures one c.in-Stem.is
    (λ z k e g. stem_pin c.in-Stem.field-0 z k e)

pub returns-then-is_gate : goal.returns-then-is_gate
returns-then-is_gate c =
    let one : length c.readers-readers.result.now ≡ 1 = (let t = c.if-readers-ne1.false in omega arith) in
    one_pin_reads c.args.netlist.now c.sound.ensures c.args.id c.in-Pin.z c.in-Pin.field-1 c.readers-readers.result.now _ c.readers-readers.ensures one c.in-Pin.is
    (c.is_gate.ensures.0 c.if-is_gate.true)

pub returns-else-is_gate : goal.returns-else-is_gate
returns-else-is_gate c =
    let n = c.args.netlist.now in
    let one : length c.readers-readers.result.now ≡ 1 = (let t = c.if-readers-ne1.false in omega arith) in
    no_pin_reads n c.args.id c.readers-readers.result.now _ (Pin c.in-Pin.z c.in-Pin.field-1) c.readers-readers.ensures one c.in-Pin.is
    (λ z k e g. both_ways c.is_gate.result c.if-is_gate.false (c.is_gate.ensures.1 (subst (IsGateAt n) (sym (pin_same c.in-Pin.z c.in-Pin.field-1 z k e)) g)))

pub returns-in-Out : goal.returns-in-Out
returns-in-Out c =
    let one : length c.readers-readers.result.now ≡ 1 = (let t = c.if-readers-ne1.false in omega arith) in
    no_pin_reads c.args.netlist.now c.args.id c.readers-readers.result.now _ (Out c.in-Out.field-0) c.readers-readers.ensures one c.in-Out.is
    (λ z k e g. out_pin c.in-Out.field-0 z k e)
