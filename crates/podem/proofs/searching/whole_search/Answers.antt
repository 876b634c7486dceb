use Rattle.std.proofs.Common.{refl, ◌∙◌, arith}
use Rattle.decisions.proofs.Finish.{one_tree, gave_up}
use Rattle.podem.specs.Sources.{sources}
use Rattle.podem.proofs.Looked.{fits_looked, settled_longer, tree_looked}
use Rattle.podem.proofs.searching.whole_search.Goals as goal

pub new-requires : goal.new-requires
new-requires c = one_tree (c.in_ok-found.ensures.given_up c.in_default.is) c.in_ok-nodes.ensures

pub returns-clause-answer : goal.returns-clause-answer
returns-clause-answer c =
    let k = c.args.case.now in
    let w = gave_up (fits_looked k.fault k.core.now k.holds.now c.requires.start.case.sound) (c.in_ok-found.ensures.given_up c.in_default.is) (c.new.ensures ∙ c.in_ok-nodes.ensures) (omega arith) (omega arith) in
    record {
      evidence = w.0;
      sources = (tree_looked k.fault k.core.now k.holds.now w.1, w.2 (sources k.core.now k.holds.now) (λ path x h. h.1));
    }
