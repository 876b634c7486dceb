use Rattle.std.proofs.Common.{◌≤◌, List, ap, length, vec_len, sym, subst, arith}
use Rattle.std.specs.List.{All, AllZip}
use Rattle.std.proofs.lemmas.Result.{IfOk-weaker}
use Rattle.std.proofs.lemmas.Slice.Zip.{AllZip-long}
use Rattle.cubes.specs.Cubes.{Cube, AgreesWith, IsCubeOf, IsPatternOf}
use Rattle.worker.proofs.WorkLemmas.{same_widths}
use Rattle.worker.proofs.publishing.patterns_of.Goals as goal

pub merge-requires : goal.merge-requires
merge-requires g c = same_widths g.J.About.subject.netlist g.J.About.subject.holds c.args.cubes.now c.requires

pub returns-clause-few : goal.returns-clause-few
returns-clause-few g c =
    let few = c.in_ok-merged.ensures.few in
    IfOk-weaker c.fill_all.result (λ v. AllZip AgreesWith v.items c.deref.result.now) (λ v. vec_len v ≤ length c.args.cubes.now)
    (λ v zip. omega (arith, AllZip-long AgreesWith v.items c.deref.result.now zip, few, ap length c.deref.ensures.value)) c.fill_all.ensures.agree

pub returns-clause-wide : goal.returns-clause-wide
returns-clause-wide g c =
    let n = g.J.About.subject.netlist in
    let holds = g.J.About.subject.holds in
    let fit : All (IsCubeOf n holds) c.deref.result.now =
    subst (λ (ms : List Cube). All (IsCubeOf n holds) ms) (sym c.deref.ensures.value) (c.in_ok-merged.ensures.fit n holds c.requires) in
    IfOk-weaker c.fill_all.result (λ v. (m : _) (h : _) → All (IsCubeOf m h) c.deref.result.now → All (IsPatternOf m h) v.items) (λ v. All (IsPatternOf n holds) v.items)
    (λ v all. all n holds fit) c.fill_all.ensures.fit
