use Rattle.fault_collapse.proofs.Behaviour.{equivalent_agree}
use Rattle.fault_collapse.proofs.laws.equivalent_agree_by.Goals as goal

pub returns : goal.returns
returns h c same decides blank table controls n f g inputs state a b sound e p q =
    let agree = equivalent_agree same decides blank table controls c.holds_everywhere.ensures c.settles_once.ensures c.some_settles.ensures n sound inputs state f g e a b p q in
    (agree.outs, agree.next)
