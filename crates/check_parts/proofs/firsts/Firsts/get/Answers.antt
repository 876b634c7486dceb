use Rattle.check_parts.proofs.FirstLemmas.{first_got}
use Rattle.check_parts.proofs.firsts.Firsts.get.Goals as goal

pub returns : goal.returns
returns c =
    first_got c.args.netlist.now c.args.evidence.now c.args.self.now.places.items c.args.fault.now c.spot_of.result c.index.result.now c.requires.first.places c.requires.member
    c.spot_of.ensures.spot c.index.ensures
