use Rattle.std.proofs.Common.{subst}
use Rattle.netlist.specs.Conditions.{IsSound}
use Rattle.certificate.proofs.NodeWords.{no_split_blank, no_split_name, split_here}
use Rattle.certificate.proofs.node.split_at.Goals as goal

pub returns-in_default : goal.returns-in_default
returns-in_default c = no_split_blank c.args.names.now (subst IsSound c.netlist.ensures c.sound.ensures) c.args.text.now c.in_default.ensures

pub returns-in-None : goal.returns-in-None
returns-in-None c =
    let name = c.in-Some.ensures in
    no_split_name c.args.names.now (subst IsSound c.netlist.ensures c.sound.ensures) c.args.text.now name.0 c.in-Some.name.0.now c.in-Some.name.1.now name.1 name.2 c.in-None.ensures

pub returns-in-Some-get : goal.returns-in-Some-get
returns-in-Some-get c =
    let name = c.in-Some.ensures in
    split_here c.args.names.now (subst IsSound c.netlist.ensures c.sound.ensures) c.args.text.now name.0 c.in-Some.name.0.now c.in-Some.name.1.now name.1 name.2
    c.in-Some-get.x c.in-Some-get.ensures.0 c.in-Some-get.ensures.1
