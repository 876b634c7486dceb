-- Bits of sources, one after the other.
use Rattle.std.proofs.Common.{◌≡◌, ℕ, Bool, [], ◌∷◌, Option, Some, None, sym, ◌∙◌, ap, subst}
use Rattle.std.specs.Prelude.{IfSome}
use Rattle.std.specs.List.{Contains}
use Rattle.statement.specs.declared.kinds.Tri.TheVariants.{X}
use Rattle.statement.specs.declared.lines.Point.{Point}
use Rattle.statement.specs.Netlists.{Netlist, signals}
use Rattle.tri.specs.Paths.{IsUnknown, IsTestPath}
use Rattle.decisions.specs.declared.cases.Case.{Case}
use Rattle.pair_sim.specs.Sims.{Sim, assigned, HasGood, IsFree}
use Rattle.decisions.proofs.Standing.{of_case}
use Rattle.podem.specs.Sources.{all_sources}
use Rattle.podem.specs.inner.Searching.{AreOnSources, OnSources, IsReady, IsTestAt}
use Rattle.podem.proofs.Owns.{source_signal, free_is_source}
use Rattle.podem.proofs.Steps.{one_more_source}
use Rattle.podem.proofs.Turns.{none_only}

-- no decision yet
pub none_on_sources : {c : Case} {s : Sim} → IsReady c s → AreOnSources c s
none_on_sources {c} {s} w = record {
  at = of_case c.fault c.core.now c.holds.now s [] w.begins;
  only = subst (OnSources c.core.now c.holds.now) (sym (ap (λ (r : Sim). r.path) w.begins)) (none_only c.fault c.core.now c.holds.now);
}

module _ {c : Case} {s : Sim} (w : AreOnSources c s) where
  pub test_on_sources : (o : Option Point) → IfSome o (IsTestPath s.fault s.netlist s.holds s.path) → IfSome o (IsTestAt c s)
  test_on_sources None t = tt
  test_on_sources (Some point) t = record {
    path = s.path;
    at = w.at;
    test = subst (λ (r : Sim). IsTestPath r.fault r.netlist r.holds r.path point) w.at t;
    only = w.only;
  }

  module _ (x : ℕ) (source : Contains (all_sources c.core.now) x) (g : HasGood s x X) where
    pub free_on_sources : IsFree s x
    free_on_sources = record {
      label = g.label;
      are = g.are;
      signal = subst (λ (n : Netlist). Contains (signals n) x) (sym (ap (λ (r : Sim). r.netlist) w.at)) (source_signal c.core.now x source);
      unknown = g.good;
    }

    pub one_more_on_sources : (new : Sim) (b : Bool) → new ≡ assigned s x b → AreOnSources c new
    one_more_on_sources new b a =
        let f = c.fault in
        let n = c.core.now in
        let holds = c.holds.now in
        let free : IsUnknown f n holds s.path x = subst (λ (r : Sim). IsUnknown r.fault r.netlist r.holds r.path x) w.at free_on_sources in
        record {
          at = of_case f n holds new ((x, b) ∷ s.path) (a ∙ ap (λ (r : Sim). assigned r x b) w.at);
          only = subst (OnSources n holds) (sym (ap (λ (r : Sim). r.path) a)) (one_more_source n holds x b s.path w.only (free_is_source f n holds s.path x source free));
        }
