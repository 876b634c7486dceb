-- A fitting tree without Open shows the fault redundant.
use Rattle.std.proofs.Common.{◌≡◌, ℕ, ◌+◌, Bool, true, false, cond, List, [], ◌∷◌, ◌++◌, Some, refl, ◌∙◌, ap, inl, inr, eqb, arith}
use Rattle.std.proofs.lemmas.Bool.{cases_Bool, eqb-true}
use Rattle.std.proofs.lemmas.List.Elements.{All-head, All-tail}
use Rattle.statement.specs.declared.lines.Fault.{Fault}
use Rattle.statement.specs.declared.lines.Point.{Point}
use Rattle.statement.specs.Netlists.{Netlist}
use Rattle.netlist.specs.Conditions.{IsSound}
use Rattle.netlist.proofs.Lists.{all_left, all_right}
use Rattle.statement.specs.Patterns.{Holds, Obeys, Detects}
use Rattle.tri.specs.Labels.{Follows}
use Rattle.netlist.specs.Detection.{IsRedundant}
use Rattle.tri.specs.Paths.{Path, decisions, IsClosedPath}
use Rattle.tri.proofs.ClosedLemmas.{closed_detects_nothing}
use Rattle.redundancy_cert.specs.declared.nodes.Node.{Node}
use Rattle.redundancy_cert.specs.declared.nodes.Node.TheVariants.{Closed, Open, Split, Forced}
use Rattle.redundancy_cert.specs.Trees.{Tree, ClosedEnd, OpenEnd, SplitOn, ForcedTo, preorder, places, open_count, closed_count}
use Rattle.redundancy_cert.specs.Fits.{PlaceFits, FitsBelow, Fits}

-- ---- counts of lists one behind the other

pub open_count-append : (xs ys : List Node) → open_count (xs ++ ys) ≡ open_count xs + open_count ys
open_count-append [] ys = omega arith
open_count-append (Closed ∷ xs) ys = open_count-append xs ys
open_count-append (Open ∷ xs) ys = let h = open_count-append xs ys in omega arith
open_count-append (Split x ∷ xs) ys = open_count-append xs ys
open_count-append (Forced x b ∷ xs) ys = open_count-append xs ys

pub closed_count-append : (xs ys : List Node) → closed_count (xs ++ ys) ≡ closed_count xs + closed_count ys
closed_count-append [] ys = omega arith
closed_count-append (Closed ∷ xs) ys = let h = closed_count-append xs ys in omega arith
closed_count-append (Open ∷ xs) ys = closed_count-append xs ys
closed_count-append (Split x ∷ xs) ys = closed_count-append xs ys
closed_count-append (Forced x b ∷ xs) ys = closed_count-append xs ys

-- ---- one decision more

pub follows_more : (path : Path) (n : Netlist) (a : ℕ → Bool) (x : ℕ) (v : Bool) → Follows (decisions path) n a → a x ≡ v → Follows (decisions ((x, v) ∷ path)) n a
follows_more path n a x v h e y c s =
    let step : (t : Bool) → eqb y x ≡ t → cond t (Some v) (decisions path y) ≡ Some c → a y ≡ c =
    elim [
      | true ↦ λ m k. let here : a y ≡ v = ap a (eqb-true y x m) ∙ e in let same : v ≡ c = cc in here ∙ same
      | false ↦ λ m k. h y c s k
    ] in
    step (eqb y x) refl

pub follows_none : (n : Netlist) (a : ℕ → Bool) → Follows (decisions []) n a
follows_none n a x b s e = cc

-- ---- a pattern follows the decisions that agree with it

module _ (f : Fault) (n : Netlist) (holds : Holds) (sound : IsSound n) (inputs state : List Bool) (point : Point) (obeys : Obeys holds inputs) (seen : Detects n f inputs state point) where
  at_closed : (path : Path) → IsClosedPath f n holds path → Follows (decisions path) n seen.good → ⊥
  at_closed path w h =
      closed_detects_nothing f (decisions path) n holds w.label inputs state point sound w.are w.closed obeys
      (record { good = seen.good; settles = seen.good_settles; follows = h }) seen

  at_tree : (t : Tree) (path : Path) → FitsBelow f n holds path t → open_count (preorder t) ≡ 0 → Follows (decisions path) n seen.good → ⊥
  at_tree ClosedEnd path w none h = at_closed path (All-head (PlaceFits f n holds) (record { path = path; node = Closed }) [] w) h
  at_tree OpenEnd path w none h = omega arith
  at_tree (SplitOn x t u) path w none h =
      let below = All-tail (PlaceFits f n holds) (record { path = path; node = Split x }) (places ((x, false) ∷ path) t ++ places ((x, true) ∷ path) u) w in
      let counts = open_count-append (preorder t) (preorder u) in
      elim (cases_Bool (seen.good x)) [
        | inl one ↦ at_tree u ((x, true) ∷ path) (all_right (PlaceFits f n holds) (places ((x, false) ∷ path) t) (places ((x, true) ∷ path) u) below) (omega arith)
            (follows_more path n seen.good x true h one)
        | inr zer ↦ at_tree t ((x, false) ∷ path) (all_left (PlaceFits f n holds) (places ((x, false) ∷ path) t) (places ((x, true) ∷ path) u) below) (omega arith)
            (follows_more path n seen.good x false h zer)
      ]
  at_tree (ForcedTo x true t) path w none h =
      let here = All-head (PlaceFits f n holds) (record { path = path; node = Forced x true }) (places ((x, true) ∷ path) t) w in
      let below = All-tail (PlaceFits f n holds) (record { path = path; node = Forced x true }) (places ((x, true) ∷ path) t) w in
      elim (cases_Bool (seen.good x)) [
        | inl one ↦ at_tree t ((x, true) ∷ path) below none (follows_more path n seen.good x true h one)
        | inr zer ↦ at_closed ((x, false) ∷ path) here.2 (follows_more path n seen.good x false h zer)
      ]
  at_tree (ForcedTo x false t) path w none h =
      let here = All-head (PlaceFits f n holds) (record { path = path; node = Forced x false }) (places ((x, false) ∷ path) t) w in
      let below = All-tail (PlaceFits f n holds) (record { path = path; node = Forced x false }) (places ((x, false) ∷ path) t) w in
      elim (cases_Bool (seen.good x)) [
        | inl one ↦ at_closed ((x, true) ∷ path) here.2 (follows_more path n seen.good x true h one)
        | inr zer ↦ at_tree t ((x, false) ∷ path) below none (follows_more path n seen.good x false h zer)
      ]

pub redundant : (f : Fault) (n : Netlist) (holds : Holds) (nodes : List Node) → IsSound n → Fits f n holds nodes → open_count nodes ≡ 0 → IsRedundant n holds f
redundant f n holds nodes sound w none inputs state point obeys seen =
    at_tree f n holds sound inputs state point obeys seen w.0 [] w.2 (ap open_count w.1 ∙ none) (follows_none n seen.good)
