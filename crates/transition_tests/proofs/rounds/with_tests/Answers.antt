use Rattle.std.proofs.Common.{◌≤◌, ◌+◌, length, arith}
use Rattle.std.proofs.lemmas.Result.{IfOk-weaker}
use Rattle.transition_tests.specs.Making.{cubes_in}
use Rattle.transition_tests.proofs.CubeLemmas.{few_cubes}
use Rattle.transition_tests.proofs.rounds.with_tests.Goals as goal

pub returns-clause-few : goal.returns-clause-few
returns-clause-few c =
    let few = few_cubes c.args.found.now in
    IfOk-weaker c.patterns_of.result (λ v. length v.items ≤ length c.args.batch.items + length (cubes_in c.args.found.now)) (λ v. length v.items ≤ length c.args.batch.items + length c.args.found.now)
    (λ v fewer. omega arith) c.patterns_of.ensures.few
