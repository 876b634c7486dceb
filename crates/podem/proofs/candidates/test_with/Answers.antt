use Rattle.podem.proofs.Bits.{test_on_sources, free_on_sources, one_more_on_sources}
use Rattle.podem.proofs.candidates.test_with.Goals as goal

pub assign-requires : goal.assign-requires
assign-requires c = free_on_sources c.requires c.in_ok-source.source c.in_ok-source.ensures.0 c.in_ok-source.ensures.1

pub returns-clause-at : goal.returns-clause-at
returns-clause-at c =
    one_more_on_sources c.requires c.in_ok-source.source c.in_ok-source.ensures.0 c.in_ok-source.ensures.1 c.assign.new.self c.args.bit c.assign.ensures

pub returns-clause-test : goal.returns-clause-test
returns-clause-test c =
    test_on_sources (one_more_on_sources c.requires c.in_ok-source.source c.in_ok-source.ensures.0 c.in_ok-source.ensures.1 c.assign.new.self c.args.bit c.assign.ensures)
    c.point_of_test.result c.point_of_test.ensures
