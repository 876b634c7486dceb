-- The value of a source, as the labels have it.
use Rattle.std.proofs.Common.{◌≡◌, ℕ, sym, ◌∙◌, ap, subst}
use Rattle.std.specs.List.{Contains}
use Rattle.statement.specs.declared.kinds.Tri.{Tri}
use Rattle.tri.specs.Labels.{good_of}
use Rattle.tri.specs.Paths.{decisions}
use Rattle.decisions.specs.declared.cases.Case.{Case}
use Rattle.decisions.specs.Cases.{IsCase, sim_of}
use Rattle.pair_sim.specs.Sims.{Sim, HasGood}
use Rattle.pair_sim.proofs.Free.{good_is}
use Rattle.podem.specs.Sources.{all_sources, value_of}
use Rattle.podem.specs.inner.Searching.{IsKept}
use Rattle.podem.proofs.Owns.{source_signal, any_own}

pub good_value : {c : Case} → IsCase c → (s : Sim) (x : ℕ) (v : Tri) → IsKept c s → Contains (all_sources c.core.now) x → HasGood s x v → v ≡ value_of c.holds.now s.path x
good_value {c} w s x v k m h =
    let f = c.fault in
    let n = c.core.now in
    let holds = c.holds.now in
    let g : HasGood (sim_of c s.path) x v = subst (λ (r : Sim). HasGood r x v) k h in
    sym g.good ∙ (good_is f (decisions s.path) n holds g.label g.are x (source_signal n x m)
    ∙ ap (good_of (decisions s.path x)) (any_own f (decisions s.path) n holds g.label g.are w.fit w.sound.formed.numbered x m))
