use Rattle.std.proofs.Common.{[], ◌∷◌, ◌++◌, false, not, List, Some, set, refl, ap, sym, ◌∙◌, subst, arith}
use Rattle.tri.specs.Paths.{decisions}
use Rattle.redundancy_cert.specs.declared.steps.Step.{Step}
use Rattle.redundancy_cert.specs.inner.Walk.{IsAt, path_of}
use Rattle.redundancy_cert.proofs.WalkLemmas.{path_onto-append, stands_forced}
use Rattle.redundancy_cert.proofs.StepLemmas.{turned_at, turned_last, forced}
use Rattle.redundancy_cert.proofs.steps.force.Goals as goal

pub returns-clause-at : goal.returns-clause-at
returns-clause-at c =
    let old : List Step = c.args.path.now.items in
    let other : Step = record { signal = c.args.signal; bit = not c.args.bit; waiting = false } in
    let step : Step = record { signal = c.args.signal; bit = c.args.bit; waiting = false } in
    let at : IsAt c.descend.new.pass (old ++ other ∷ []) = subst (IsAt c.descend.new.pass) c.in_ok-descend.ensures.path c.in_ok-descend.ensures.at in
    subst (IsAt c.decide.new.self) (sym (turned_last old c.descend.new.path.items c.len-last.result other step (let e = c.len-last.ensures in omega arith) c.in_ok-descend.ensures.path))
    (turned_at c.descend.new.pass c.decide.new.self old other (Some c.args.bit) c.standing.ensures at c.decide.ensures step refl refl)

pub returns-clause-is : goal.returns-clause-is
returns-clause-is c =
    let old : List Step = c.args.path.now.items in
    let other : Step = record { signal = c.args.signal; bit = not c.args.bit; waiting = false } in
    let step : Step = record { signal = c.args.signal; bit = c.args.bit; waiting = false } in
    forced c.args.fault.now c.args.pass.now c.descend.new.pass c.args.fits c.is_closed-shut.result old (set c.descend.new.path.items c.len-last.result step) c.args.signal c.args.bit
    c.in_ok-descend.ensures.same
    (c.is_closed-shut.ensures ((c.args.signal, not c.args.bit) ∷ path_of old)
    (c.in_ok-descend.ensures.at.decided ∙ (ap (λ (ss : List Step). decisions (path_of ss)) c.in_ok-descend.ensures.path ∙ ap decisions (path_onto-append [] old other))))
    c.if-not-fits.false (stands_forced c.args.signal c.args.bit old (set c.descend.new.path.items c.len-last.result step)
    (turned_last old c.descend.new.path.items c.len-last.result other step (let e = c.len-last.ensures in omega arith) c.in_ok-descend.ensures.path))
