use Rattle.std.proofs.Common.{subst}
use Rattle.refutation.specs.Refutations.{clauses}
use Rattle.refutation_check.specs.declared.checks.Played.{Played}
use Rattle.refutation_check.specs.inner.Checks.{IsPlayed}
use Rattle.refutation_check.proofs.BaseLemmas.{basis_stays}
use Rattle.refutation_check.proofs.CheckLemmas.{leads_on}
use Rattle.refutation_check.proofs.TrailLemmas.{grows_then}
use Rattle.refutation_check.proofs.checks.leads.Goals as goal

pub returns-in_err-play-clause-grows : goal.returns-in_err-play-clause-grows
returns-in_err-play-clause-grows c = grows_then c.args.sets.now c.loop-k.sets c.play.new.sets c.loop-k.invariant.grows c.play.ensures.grows

pub returns-in-Ends-clause-grows : goal.returns-in-Ends-clause-grows
returns-in-Ends-clause-grows c = grows_then c.args.sets.now c.loop-k.sets c.play.new.sets c.loop-k.invariant.grows c.play.ensures.grows

pub returns-in-Fails-clause-grows : goal.returns-in-Fails-clause-grows
returns-in-Fails-clause-grows c = grows_then c.args.sets.now c.loop-k.sets c.play.new.sets c.loop-k.invariant.grows c.play.ensures.grows

pub loop-k-preserved : goal.loop-k-preserved
loop-k-preserved c =
    let b = c.args.basis.now in
    let n = b.netlist.now in
    let f = b.fault.now in
    let lemmas = clauses b.lemmas.now in
    let old = c.loop-k.sets in
    let new = c.play.new.sets in
    let v = c.loop-k.invariant in
    record {
      grows = grows_then c.args.sets.now old new v.grows c.play.ensures.grows;
      basis = basis_stays b old new c.play.ensures.grows v.basis;
      rest = leads_on n f lemmas c.args.sets.now.told old.told c.moves-moves.result.now c.loop-k.k c.index-moves-k.result c.moves-moves.result.now c.args.step.now.last c.loop-k-test.true
          c.index-moves-k.is v.rest new.told (subst (λ (p : Played). IsPlayed n f lemmas old.told c.index-moves-k.result new.told p) c.in-On.is c.in_ok-play.ensures.so);
    }

pub returns-clause-grows : goal.returns-clause-grows
returns-clause-grows c = grows_then c.args.sets.now c.loop-k.sets c.is_contradicted.new.sets c.loop-k.invariant.grows c.is_contradicted.ensures.grows
