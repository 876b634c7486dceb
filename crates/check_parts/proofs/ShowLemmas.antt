-- A tree that is refused doesn't fit.
use Rattle.std.proofs.Common.{◌≡◌, ℕ, ◌∙◌, List, [], ◌∷◌, Some, sym, ap, subst, append-nil}
use Rattle.std.specs.List.{All, slice_get}
use Rattle.std.proofs.lemmas.List.Elements.{All-contains}
use Rattle.statement.specs.declared.lines.Fault.{Fault}
use Rattle.statement.specs.Netlists.{Netlist}
use Rattle.statement.specs.Patterns.{Holds}
use Rattle.fault_universe.proofs.Elements.{contains_at}
use Rattle.redundancy_cert.specs.declared.nodes.Node.{Node}
use Rattle.redundancy_cert.specs.Trees.{Place, places, preorder, Tree}
use Rattle.redundancy_cert.specs.Fits.{Fits, IsFirstBad, PlaceFits}
use Rattle.redundancy_cert.specs.inner.Walk.{walk}
use Rattle.redundancy_cert.proofs.WalkLemmas.{walk_tree}
use Rattle.tri.specs.Paths.{Path}

pub all_at : {X : Type 0} (P : X → Type 0) (xs : List X) (k : ℕ) (x : X) → All P xs → slice_get xs k ≡ Some x → P x
all_at P xs k x all at = All-contains P xs x all (contains_at xs k x at)

walked : (t : Tree) (p : Path) → places p t ≡ walk (p ∷ []) (preorder t)
walked t p = sym (append-nil (places p t)) ∙ (sym (walk_tree t p [] []) ∙ ap (walk (p ∷ [])) (append-nil (preorder t)))

pub bad_misfits : (f : Fault) (n : Netlist) (holds : Holds) (nodes : List Node) (i : ℕ) → IsFirstBad f n holds nodes i → Fits f n holds nodes → ⊥
bad_misfits f n holds nodes i bad fits =
    let same : places [] fits.0 ≡ places [] bad.tree = walked fits.0 [] ∙ (ap (walk ([] ∷ [])) (fits.1 ∙ sym bad.is) ∙ sym (walked bad.tree [])) in
    let all : All (PlaceFits f n holds) (places [] bad.tree) = subst (λ (ps : List Place). All (PlaceFits f n holds) ps) same fits.2 in
    bad.bad (all_at (PlaceFits f n holds) (places [] bad.tree) i bad.place all bad.at)
