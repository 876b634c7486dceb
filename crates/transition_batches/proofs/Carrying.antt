-- Trees and cubes are evidence on the two frames of a slow line where they are in a batch: the labels of both are the same ones.
use Rattle.std.proofs.Common.{◌≡◌, ℕ, ◌<◌, ◌≤◌, Bool, true, false, not, List, [], ◌∷◌, ◌++◌, Some, None, refl, sym, ◌∙◌, ap, subst, arith, eqb, cond}
use Rattle.std.proofs.lemmas.List.{length-map}
use Rattle.std.proofs.lemmas.Bool.{eqb-true}
use Rattle.std.proofs.lemmas.List.Elements.{All-head, All-tail, All-nil, All-cons, All-append}
use Rattle.std.specs.List.{All, Contains}
use Rattle.statement.specs.declared.kinds.Tri.TheVariants.{X}
use Rattle.statement.specs.declared.lines.Fault.{Fault}
use Rattle.statement.specs.Netlists.{Netlist, signals, cells}
use Rattle.statement.specs.Patterns.{Holds}
use Rattle.netlist.specs.Conditions.{IsSound}
use Rattle.netlist.proofs.Lists.{all_left, all_right}
use Rattle.netlist.proofs.SomeSettled.{some_settled}
use Rattle.tri.specs.declared.labels.Label.{Label}
use Rattle.tri.specs.Labels.{Decisions, labels, input_labels, cell_labels, AreLabels, IsClosedAt}
use Rattle.tri.specs.Paths.{Path, decisions, IsClosedPath, IsUnknown}
use Rattle.tri.proofs.PathLemmas.{closed_alike}
use Rattle.redundancy_cert.specs.declared.nodes.Node.{Node}
use Rattle.redundancy_cert.specs.declared.nodes.Node.TheVariants.{Closed, Open, Split, Forced}
use Rattle.redundancy_cert.specs.Trees.{Tree, ClosedEnd, OpenEnd, SplitOn, ForcedTo, preorder, Place, places}
use Rattle.redundancy_cert.specs.Fits.{NodeFits, PlaceFits, FitsBelow, Fits}
use Rattle.transition_batches.specs.Batches.{DecidesBelow}

-- ---- decisions below a bound

-- nothing from the bound on is decided
abbrev pub IsLow : ℕ → Decisions → Type 0
IsLow bound path = (x : ℕ) → bound ≤ x → path x ≡ None

pub none_low : (bound : ℕ) → IsLow bound (decisions [])
none_low bound x l = refl

pub more_low : (bound : ℕ) (path : Path) (x : ℕ) (b : Bool) → x < bound → IsLow bound (decisions path) → IsLow bound (decisions ((x, b) ∷ path))
more_low bound path x b l low y h =
    let step : (t : Bool) → eqb y x ≡ t → cond t (Some b) (decisions path y) ≡ None =
    elim [
      | true ↦ λ e. (let same : y ≡ x = eqb-true y x e in absurd (omega arith))
      | false ↦ λ e. low y h
    ] in
    step (eqb y x) refl

-- ---- labels of one netlist that are those of another

-- Two netlists, each with a fault: each labelling of the one, read at the places of the other's signals, is a labelling of the other, and closed where it is.
pub record Carries (bound : ℕ) (m n : Netlist) (g f : Fault) (holds other : Holds) (to : ℕ → ℕ) : Type 0 where
  pub labels : (path : Decisions) (l : ℕ → Label) → IsLow bound path → AreLabels (Some g) path m holds l → AreLabels (Some f) path n other (λ x. l (to x))
  pub closed : (path : Decisions) (l : ℕ → Label) → IsLow bound path → AreLabels (Some g) path m holds l → IsClosedAt g path m l → IsClosedAt f path n (λ x. l (to x))
  pub left_open : (path : Decisions) (l : ℕ → Label) → IsLow bound path → AreLabels (Some g) path m holds l → IsClosedAt f path n (λ x. l (to x)) → IsClosedAt g path m l
  pub same : (x : ℕ) → x < bound → to x ≡ x
  pub signal : (x : ℕ) → x < bound → Contains (signals n) x

module _ (bound : ℕ) (m n : Netlist) (g f : Fault) (holds other : Holds) (to : ℕ → ℕ) (carries : Carries bound m n g f holds other to)
    (whole : IsSound m) (sound : IsSound n) where
  some_labels : (path : Decisions) → (l : ℕ → Label) × AreLabels (Some g) path m holds l
  some_labels path =
      let blank : Label = record { own = X; good = X; faulty = X; may_differ = false } in
      some_settled blank (labels (Some g) path) m (input_labels path m holds) (cell_labels path m) whole.formed.numbered whole.closed whole.acyclic
      (length-map m.inputs _) (length-map (cells m) _)

  closed_path : (path : Path) → IsLow bound (decisions path) → IsClosedPath g m holds path → IsClosedPath f n other path
  closed_path path low w = record {
    label = λ x. w.label (to x);
    are = carries.labels (decisions path) w.label low w.are;
    closed = carries.closed (decisions path) w.label low w.are w.closed;
  }

  open_path : (path : Path) → IsLow bound (decisions path) → (IsClosedPath g m holds path → ⊥) → IsClosedPath f n other path → ⊥
  open_path path low h w =
      let s = some_labels (decisions path) in
      let back : IsClosedAt f (decisions path) n (λ x. s.0 (to x)) =
      closed_alike f (decisions path) n other sound w.label (λ x. s.0 (to x)) w.are (carries.labels (decisions path) s.0 low s.1) w.closed in
      h (record { label = s.0; are = s.1; closed = carries.left_open (decisions path) s.0 low s.1 back })

  unknown : (path : Path) (x : ℕ) → IsLow bound (decisions path) → x < bound → IsUnknown g m holds path x → IsUnknown f n other path x
  unknown path x low l w = record {
    label = λ y. w.label (to y);
    are = carries.labels (decisions path) w.label low w.are;
    signal = carries.signal x l;
    unknown = ap (λ y. (w.label y).good) (carries.same x l) ∙ w.unknown;
  }

  node_fits : (path : Path) (node : Node) → IsLow bound (decisions path) → DecidesBelow bound node → NodeFits g m holds path node → NodeFits f n other path node
  node_fits path Closed low below w = closed_path path low w
  node_fits path Open low below w = open_path path low w
  node_fits path (Split x) low below w = (open_path path low w.0, unknown path x low below w.1)
  node_fits path (Forced x b) low below w =
      (open_path path low w.0, unknown path x low below w.1, closed_path ((x, not b) ∷ path) (more_low bound path x (not b) below low) w.2)

  fits_below : (t : Tree) (path : Path) → IsLow bound (decisions path) → All (DecidesBelow bound) (preorder t) → FitsBelow g m holds path t → FitsBelow f n other path t
  fits_below ClosedEnd path low d w =
      let place : Place = record { path = path; node = Closed } in
      let here = All-head (PlaceFits g m holds) place [] w in
      All-cons (PlaceFits f n other) place [] (node_fits path Closed low tt here) (All-nil (PlaceFits f n other))
  fits_below OpenEnd path low d w =
      let place : Place = record { path = path; node = Open } in
      let here = All-head (PlaceFits g m holds) place [] w in
      All-cons (PlaceFits f n other) place [] (node_fits path Open low tt here) (All-nil (PlaceFits f n other))
  fits_below (SplitOn x t u) path low d w =
      let place : Place = record { path = path; node = Split x } in
      let zeros = places ((x, false) ∷ path) t in
      let ones = places ((x, true) ∷ path) u in
      let l : x < bound = All-head (DecidesBelow bound) (Split x) (preorder t ++ preorder u) d in
      let rest = All-tail (DecidesBelow bound) (Split x) (preorder t ++ preorder u) d in
      let here = All-head (PlaceFits g m holds) place (zeros ++ ones) w in
      let below = All-tail (PlaceFits g m holds) place (zeros ++ ones) w in
      All-cons (PlaceFits f n other) place (zeros ++ ones) (node_fits path (Split x) low l here)
      (All-append (PlaceFits f n other) zeros ones
      (fits_below t ((x, false) ∷ path) (more_low bound path x false l low) (all_left (DecidesBelow bound) (preorder t) (preorder u) rest) (all_left (PlaceFits g m holds) zeros ones below))
      (fits_below u ((x, true) ∷ path) (more_low bound path x true l low) (all_right (DecidesBelow bound) (preorder t) (preorder u) rest) (all_right (PlaceFits g m holds) zeros ones below)))
  fits_below (ForcedTo x b t) path low d w =
      let place : Place = record { path = path; node = Forced x b } in
      let rest = places ((x, b) ∷ path) t in
      let l : x < bound = All-head (DecidesBelow bound) (Forced x b) (preorder t) d in
      All-cons (PlaceFits f n other) place rest (node_fits path (Forced x b) low l (All-head (PlaceFits g m holds) place rest w))
      (fits_below t ((x, b) ∷ path) (more_low bound path x b l low) (All-tail (DecidesBelow bound) (Forced x b) (preorder t) d) (All-tail (PlaceFits g m holds) place rest w))

  pub carried : (nodes : List Node) → All (DecidesBelow bound) nodes → Fits g m holds nodes → Fits f n other nodes
  carried nodes d w = (w.0, w.1, fits_below w.0 [] (none_low bound) (subst (All (DecidesBelow bound)) (sym w.1) d) w.2)
