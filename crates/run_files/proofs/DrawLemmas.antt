-- The batches of drawn patterns.
use Rattle.std.proofs.Common.{◌≡◌, ℕ, ◌+◌, List, length, length-append, sym, ap, subst, arith}
use Rattle.std.specs.List.{All}
use Rattle.std.proofs.lemmas.List.Elements.{All-append}
use Rattle.statement.specs.declared.lines.Fault.{Fault}
use Rattle.statement.specs.Netlists.{Netlist}
use Rattle.statement.specs.Patterns.{Holds, Pattern}
use Rattle.netlist.specs.Lines.{IsLineOf}
use Rattle.cubes.specs.Cubes.{Cube, IsCubeOf, IsPatternOf, open_cube}
use Rattle.cubes.proofs.OpenLemmas.{open_fits}
use Rattle.word_sim.specs.Words.{HasWidthsOf}
use Rattle.word_sim.proofs.WidthLemmas.{widths}
use Rattle.run_files.specs.declared.asked.RunPlan.{RunPlan}
use Rattle.run_files.specs.inner.Batches.{AreNumbered, AreOfCube, AreRest, AreSome, AreWithNumbers, IsBatch, IsNext, IsSoFar, MayDraw, MaySimulate}
use Rattle.run_files.specs.inner.Plans.{AreFaultsOf, MayRun}
use Rattle.run_files.specs.inner.Searches.{AreBehind}

pub numbered_lent : (n : Netlist) (fs gs : List (ℕ × Fault)) → fs ≡ gs → AreNumbered n gs → AreNumbered n fs
numbered_lent n fs gs same are = subst (λ (hs : List (ℕ × Fault)). AreNumbered n hs) (sym same) are

pub are_numbered : (n : Netlist) (lent fs : List Fault) (gs : List (ℕ × Fault)) → AreWithNumbers lent gs → AreFaultsOf n fs → lent ≡ fs → AreNumbered n gs
unfolding AreWithNumbers
are_numbered n lent fs gs with are same = with n (subst (λ (hs : List Fault). All (λ (f : Fault). IsLineOf n f.line) hs) (sym same) are.lines)

-- the open cube is one of the simulators' netlist
pub may_draw : (n : Netlist) (holds : Holds) (cube : Cube) (simulated : Netlist) (plan : RunPlan) → MayRun n holds plan → cube ≡ open_cube n holds → simulated ≡ n → MayDraw n holds cube simulated
may_draw n holds cube simulated plan may is same = record { same = same; fits = subst (λ (d : Cube). IsCubeOf n holds d) (sym is) (open_fits n holds may.held) }

module _ (n : Netlist) (holds : Holds) where
  module _ (cube : Cube) (simulated : Netlist) (drawn : List Pattern) (left : List (ℕ × Fault)) (may : MayDraw n holds cube simulated) (of : AreOfCube cube drawn) (are : AreNumbered n left) where
    pub may_simulate : (lent : List Pattern) → lent ≡ drawn → MaySimulate simulated lent left
    unfolding AreOfCube
    may_simulate lent same =
        let size = ap length same in
        record {
          few = omega (arith, of.0);
          wide = subst (λ (m : Netlist). All (HasWidthsOf m) lent) (sym may.same)
              (subst (λ (ps : List Pattern). All (HasWidthsOf n) ps) (sym same) (widths n holds drawn (of.1 n holds may.fits)));
          lines = subst (λ (m : Netlist). All (λ (g : ℕ × Fault). IsLineOf m g.1.line) left) (sym may.same) are.lines;
        }

    pub is_batch : (taken : List Pattern) (rest : List (ℕ × Fault)) → AreSome drawn taken → AreRest left rest → IsBatch n holds taken rest
    unfolding AreOfCube AreSome AreRest
    is_batch taken rest some others = record {
      obey = some.1 n holds (of.1 n holds may.fits);
      few = omega (arith, some.0, of.0);
      lines = others n are;
    }

  pub is_next : (old new more : List Pattern) (left rest : List (ℕ × Fault)) → IsSoFar n holds old left → IsBatch n holds more rest → AreBehind old more new → IsNext n holds old new rest
  is_next old new more left rest so_far batch is =
      let P : Pattern → Type 0 = IsPatternOf n holds in
      let size = ap length is.are in
      let both = length-append old more in
      record {
        so_far = record {
          obey = subst (λ (ps : List Pattern). All P ps) (sym is.are) (All-append P old more so_far.obey batch.obey);
          lines = batch.lines;
        };
        few = omega (arith, batch.few);
      }
