-- What a search on sources asks of its tree, and what its path decides.
use Rattle.std.proofs.Common.{◌≡◌, ℕ, Bool, true, false, cond, List, [], ◌∷◌, Option, Some, None, refl, sym, ◌∙◌, subst, eqb}
use Rattle.std.specs.Option.{is_none}
use Rattle.std.specs.List.{Contains}
use Rattle.std.proofs.lemmas.Bool.{eqb-true}
use Rattle.statement.specs.declared.kinds.Tri.{Tri}
use Rattle.statement.specs.declared.kinds.Tri.TheVariants.{X}
use Rattle.statement.specs.declared.lines.Fault.{Fault}
use Rattle.statement.specs.Patterns.{Holds}
use Rattle.statement.specs.Netlists.{Netlist}
use Rattle.netlist.specs.Conditions.{IsSound}
use Rattle.tri.specs.Paths.{Path, decisions, IsClosedPath, IsGoingPath}
use Rattle.tri.proofs.PathLemmas.{not_closed}
use Rattle.redundancy_cert.specs.declared.nodes.Node.{Node}
use Rattle.redundancy_cert.specs.declared.nodes.Node.TheVariants.{Closed, Open, Split, Forced}
use Rattle.redundancy_cert.specs.declared.stacks.Other.{Other}
use Rattle.redundancy_cert.specs.declared.stacks.Other.TheVariants.{Untried, Searched, Shut}
use Rattle.redundancy_cert.specs.declared.stacks.Side.{Side}
use Rattle.redundancy_cert.specs.Fits.{NodeFits}
use Rattle.redundancy_cert.specs.Stacks.{node_of, stack_onto, StandsAround}
use Rattle.pair_sim.specs.Sims.{sim, HasGood}
use Rattle.pair_sim.proofs.Free.{own_if_undecided}
use Rattle.decisions.specs.Standing.{AsksFit, SplitsAmong}
use Rattle.podem.specs.Sources.{sources, StandsInSources, PlaceInSources}
use Rattle.podem.specs.inner.Searching.{OnSources, PlaceLooked}
use Rattle.podem.proofs.Owns.{source_signal, any_source, source_own}

-- where the search may go on, the label isn't closed
pub going_open : (f : Fault) (n : Netlist) (holds : Holds) → IsSound n → (path : Path) → IsGoingPath f n holds path → IsClosedPath f n holds path → ⊥
going_open f n holds sound path w = not_closed f n holds sound path w.label w.are w.left_open

-- what stands in a tree on sources fits, and what is split on is a source
pub source_fits : (f : Fault) (n : Netlist) (holds : Holds) → IsSound n → AsksFit (PlaceInSources f n holds) f n holds
source_fits f n holds sound p h = node_fits p.path p.node h
  where
    node_fits : (path : Path) (node : Node) → StandsInSources f n holds path node → NodeFits f n holds path node
    node_fits path Closed h = h
    node_fits path Open h = going_open f n holds sound path h
    node_fits path (Split x) h = h.0
    node_fits path (Forced x b) h = h.0

pub splits_sources : (f : Fault) (n : Netlist) (holds : Holds) → SplitsAmong (PlaceInSources f n holds) (sources n holds)
splits_sources f n holds path x h = h.1

module _ (f : Fault) (n : Netlist) (holds : Holds) where
  -- a path of decisions on sources
  pub only_sources : (looks : Bool) (stack : List Side) (p : Path) → OnSources n holds p → StandsAround (PlaceLooked looks f n holds) p stack → OnSources n holds (stack_onto p stack)
  only_sources looks [] p h w = h
  only_sources looks (r ∷ ss) p h w = only_sources looks ss ((r.signal, r.bit) ∷ p) (more r.signal r.bit r.other w.0) w.2
    where
      source : (x : ℕ) (b : Bool) (o : Other) → PlaceLooked looks f n holds (record { path = p; node = node_of x b o }) → Contains (sources n holds) x
      source x b Untried k = k.1
      source x b (Searched t) k = k.1
      source x b Shut k = k.1

      more : (x : ℕ) (b : Bool) (o : Other) → PlaceLooked looks f n holds (record { path = p; node = node_of x b o }) → OnSources n holds ((x, b) ∷ p)
      more x b o k y c e =
          let step : (t : Bool) → eqb y x ≡ t → cond t (Some b) (decisions p y) ≡ Some c → Contains (sources n holds) y =
          elim [
            | true ↦ λ m q. subst (Contains (sources n holds)) (sym (eqb-true y x m)) (source x b o k)
            | false ↦ λ m q. h y c q
          ] in
          step (eqb y x) refl e

  pub none_only : OnSources n holds []
  none_only x b e = absurd cc

-- where all sources are known, all are decided
pub known_decided : (f : Fault) (n : Netlist) (holds : Holds) (path : Path) (x : ℕ) (v : Tri) → Contains (sources n holds) x → HasGood (sim n f holds path) x v → (v ≡ X → ⊥)
    → is_none (decisions path x) ≡ false
known_decided f n holds path x v c g h = decided_some (decisions path x) refl
  where
    decided_some : (o : Option Bool) → decisions path x ≡ o → is_none o ≡ false
    decided_some None e = absurd (h (sym g.good
        ∙ (sym (own_if_undecided f (decisions path) n holds g.label g.are x (source_signal n x (any_source n holds x c)) e) ∙ source_own f (decisions path) n holds g.label g.are x c)))
    decided_some (Some b) e = refl
