use Rattle.std.proofs.Common.{◌≡◌, ◌≤◌, List, length, ap, ◌∙◌, subst, sym, arith}
use Rattle.std.specs.List.{All, AllPairs, AllZip, Contains}
use Rattle.std.proofs.lemmas.Result.{IfOk-weaker}
use Rattle.std.proofs.lemmas.Slice.Zip.{AllZip-long}
use Rattle.rand_core.specs.Steps.{stream_of, steps_u32}
use Rattle.rand_pcg.specs.Lcg.{Lcg}
use Rattle.rand_pcg.specs.Pcg.{pcg32}
use Rattle.statement.specs.Patterns.{Holds}
use Rattle.statement.specs.Netlists.{Netlist}
use Rattle.cubes.specs.Cubes.{Cube, AgreesWith, HasBitsOf, HaveSameWidths, IsCubeOf, IsPatternOf}
use Rattle.cubes.specs.Filling.{filled_all}
use Rattle.cubes.specs.Merging.{AreMerged}
use Rattle.cubes.proofs.MergeLemmas.{each_kept}
use Rattle.transition_tests.specs.Making.{AreFilledFrom, cubes_in}
use Rattle.transition_tests.specs.inner.Cubes.{HasAgreeing}
use Rattle.transition_tests.proofs.CubeLemmas.{agreeing}
use Rattle.transition_tests.proofs.filling.filled.Goals as goal

pub merge-requires : goal.merge-requires
merge-requires c = subst (AllPairs HaveSameWidths) (sym (c.deref.ensures.value ∙ c.in_ok-cubes.ensures)) c.requires

pub returns-clause-made : goal.returns-clause-made
returns-clause-made c =
    let cubes = cubes_in c.args.found.now in
    let same = c.deref.ensures.value ∙ c.in_ok-cubes.ensures in
    let merged = c.in_ok-merged.merged.items in
    IfOk-weaker c.fill_all.result (λ v. v.items ≡ filled_all c.deref-2.result.now (stream_of (steps_u32 pcg32) c.new-rng.result)) (λ v. AreFilledFrom cubes c.args.stream c.args.seed v.items)
    (λ v is. (
      merged,
      subst (λ (cs : List Cube). AreMerged cs merged (length cs)) same c.in_ok-merged.ensures.merged,
      is ∙ (ap (λ (ms : List Cube). filled_all ms (stream_of (steps_u32 pcg32) c.new-rng.result)) c.deref-2.ensures.value
          ∙ ap (λ (g : Lcg). filled_all merged (stream_of (steps_u32 pcg32) g)) c.new-rng.ensures),
    ))
    c.fill_all.ensures.patterns

pub returns-clause-fit : goal.returns-clause-fit
returns-clause-fit c =
    let cubes = cubes_in c.args.found.now in
    let same = c.deref.ensures.value ∙ c.in_ok-cubes.ensures in
    IfOk-weaker c.fill_all.result (λ v. (n : Netlist) (holds : Holds) → All (IsCubeOf n holds) c.deref-2.result.now → All (IsPatternOf n holds) v.items)
    (λ v. (n : Netlist) (holds : Holds) → All (IsCubeOf n holds) cubes → All (IsPatternOf n holds) v.items)
    (λ v all n holds fit. all n holds (subst (λ (ms : List Cube). All (IsCubeOf n holds) ms) (sym c.deref-2.ensures.value)
    (c.in_ok-merged.ensures.fit n holds (subst (λ (cs : List Cube). All (IsCubeOf n holds) cs) (sym same) fit)))) c.fill_all.ensures.fit

pub returns-clause-few : goal.returns-clause-few
returns-clause-few c =
    let few = c.in_ok-merged.ensures.few in
    let same = ap length (c.deref.ensures.value ∙ c.in_ok-cubes.ensures) in
    IfOk-weaker c.fill_all.result (λ v. AllZip AgreesWith v.items c.deref-2.result.now) (λ v. length v.items ≤ length (cubes_in c.args.found.now))
    (λ v zip. omega (arith, AllZip-long AgreesWith v.items c.deref-2.result.now zip, few, same, ap length c.deref-2.ensures.value)) c.fill_all.ensures.agree

pub returns-clause-agree : goal.returns-clause-agree
returns-clause-agree c =
    let cubes = cubes_in c.args.found.now in
    let merged = subst (λ (cs : List Cube). AreMerged cs c.in_ok-merged.merged.items (length cs)) (c.deref.ensures.value ∙ c.in_ok-cubes.ensures) c.in_ok-merged.ensures.merged in
    let kept = subst (λ (ms : List Cube). (x : Cube) → Contains cubes x → (r : Cube) × Contains ms r × HaveSameWidths r x × HasBitsOf r x) (sym c.deref-2.ensures.value)
    (each_kept cubes c.in_ok-merged.merged.items merged.0 merged.1) in
    IfOk-weaker c.fill_all.result (λ v. AllZip AgreesWith v.items c.deref-2.result.now) (λ v. (x : Cube) → Contains cubes x → HasAgreeing v.items x)
    (λ v zip. agreeing cubes c.deref-2.result.now v.items kept zip) c.fill_all.ensures.agree
