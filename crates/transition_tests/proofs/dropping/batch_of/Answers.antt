use Rattle.std.proofs.Common.{◌≡◌, List, ap, length, ◌∙◌, sym, subst}
use Rattle.std.specs.List.{All}
use Rattle.std.proofs.lemmas.Result.{IfOk-weaker}
use Rattle.rand_core.specs.Steps.{stream_of, steps_u32}
use Rattle.rand_pcg.specs.Lcg.{Lcg}
use Rattle.rand_pcg.specs.Pcg.{pcg32}
use Rattle.cubes.specs.Cubes.{Cube, IsPatternOf, open_cube}
use Rattle.statement.specs.Patterns.{Pattern}
use Rattle.transition_tests.specs.Batches.{batch_of, drawn, words_on_stream}
use Rattle.transition_tests.proofs.BatchLemmas.{drawn_count, drawn_obey}
use Rattle.transition_tests.proofs.dropping.batch_of.Goals as goal

pub returns-clause-drawn : goal.returns-clause-drawn
returns-clause-drawn c =
    let n = c.args.core.now in
    let holds = c.args.holds.now in
    IfOk-weaker c.drawn.result (λ v. v.items ≡ drawn 64 c.in_ok-open.open (stream_of (steps_u32 pcg32) c.new-rng.result)) (λ v. v.items ≡ batch_of n holds c.args.seed)
    (λ v is. is ∙ (ap (λ (x : Cube). drawn 64 x (stream_of (steps_u32 pcg32) c.new-rng.result)) c.in_ok-open.ensures
    ∙ ap (λ (g : Lcg). drawn 64 (open_cube n holds) (stream_of (steps_u32 pcg32) g)) c.new-rng.ensures))
    c.drawn.ensures

pub returns-clause-obey : goal.returns-clause-obey
returns-clause-obey c =
    let n = c.args.core.now in
    let holds = c.args.holds.now in
    IfOk-weaker c.drawn.result (λ v. v.items ≡ batch_of n holds c.args.seed) (λ v. All (IsPatternOf n holds) v.items)
    (λ v is. subst (λ (ps : List Pattern). All (IsPatternOf n holds) ps) (sym is) (drawn_obey n holds c.requires 64 (words_on_stream 1 c.args.seed))) (returns-clause-drawn c)

pub returns-clause-count : goal.returns-clause-count
returns-clause-count c =
    let n = c.args.core.now in
    let holds = c.args.holds.now in
    IfOk-weaker c.drawn.result (λ v. v.items ≡ batch_of n holds c.args.seed) (λ v. length v.items ≡ 64)
    (λ v is. ap length is ∙ drawn_count 64 (open_cube n holds) (words_on_stream 1 c.args.seed)) (returns-clause-drawn c)
