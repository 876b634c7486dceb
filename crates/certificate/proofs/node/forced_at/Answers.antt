use Rattle.std.proofs.Common.{subst}
use Rattle.netlist.specs.Conditions.{IsSound}
use Rattle.certificate.proofs.NodeWords.{forced_here, no_bit, no_bit_blank, no_forced_blank, no_forced_name}
use Rattle.certificate.proofs.node.forced_at.Goals as goal

pub returns-in_default : goal.returns-in_default
returns-in_default c = no_forced_blank c.args.names.now (subst IsSound c.netlist.ensures c.sound.ensures) c.args.text.now c.in_default.ensures

pub returns-in_default-next_word : goal.returns-in_default-next_word
returns-in_default-next_word c =
    let name = c.in-Some.ensures in
    no_bit_blank c.args.names.now (subst IsSound c.netlist.ensures c.sound.ensures) c.args.text.now name.0 c.in-Some.name.0.now c.in-Some.name.1.now name.1 name.2
    c.in_default-next_word.ensures

pub returns-in_default-bit_of : goal.returns-in_default-bit_of
returns-in_default-bit_of c =
    let name = c.in-Some.ensures in
    let bit = c.in-Some-next_word.ensures in
    no_bit c.args.names.now (subst IsSound c.netlist.ensures c.sound.ensures) c.args.text.now name.0 c.in-Some.name.0.now c.in-Some.name.1.now name.1 name.2
    bit.0 c.in-Some-next_word.bit.0.now c.in-Some-next_word.bit.1.now bit.1 bit.2 c.in_default-bit_of.ensures

pub returns-in-None : goal.returns-in-None
returns-in-None c =
    let name = c.in-Some.ensures in
    no_forced_name c.args.names.now (subst IsSound c.netlist.ensures c.sound.ensures) c.args.text.now name.0 c.in-Some.name.0.now c.in-Some.name.1.now name.1 name.2
    c.in-None.ensures

pub returns-in-Some-get : goal.returns-in-Some-get
returns-in-Some-get c =
    let name = c.in-Some.ensures in
    let bit = c.in-Some-next_word.ensures in
    forced_here c.args.names.now (subst IsSound c.netlist.ensures c.sound.ensures) c.args.text.now name.0 c.in-Some.name.0.now c.in-Some.name.1.now name.1 name.2
    bit.0 c.in-Some-next_word.bit.0.now c.in-Some-next_word.bit.1.now bit.1 bit.2
    c.in-Some-get.x c.in-Some-bit_of.value c.in-Some-get.ensures.0 c.in-Some-get.ensures.1 c.in-Some-bit_of.ensures
