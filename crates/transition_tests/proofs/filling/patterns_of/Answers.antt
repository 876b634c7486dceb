use Rattle.transition_tests.proofs.CubeLemmas.{agreeing_behind, all_behind, behind_count}
use Rattle.transition_tests.proofs.filling.patterns_of.Goals as goal

pub returns-clause-fit : goal.returns-clause-fit
returns-clause-fit c n holds obey fit =
    all_behind n holds c.args.batch.items c.in_ok-others.others.items c.append.new.self.items obey (c.in_ok-others.ensures.fit n holds fit) c.in_ok-append.ensures.items

pub returns-clause-few : goal.returns-clause-few
returns-clause-few c =
    behind_count c.args.batch.items c.in_ok-others.others.items c.append.new.self.items _ c.in_ok-append.ensures.items c.in_ok-others.ensures.few

pub returns-clause-made : goal.returns-clause-made
returns-clause-made c = (c.in_ok-others.others.items, c.in_ok-others.ensures.made, c.in_ok-append.ensures.items)

pub returns-clause-agree : goal.returns-clause-agree
returns-clause-agree c x is =
    agreeing_behind c.args.batch.items c.in_ok-others.others.items c.append.new.self.items x c.in_ok-append.ensures.items (c.in_ok-others.ensures.agree x is)
