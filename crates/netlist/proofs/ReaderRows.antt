-- The rows of a table of readers.
use Rattle.std.proofs.Common.{◌≡◌, ℕ, ◌+◌, ◌<◌, Bool, true, false, cond, List, [], ◌∷◌, map, length, get_or, sym, ◌∙◌, ap, subst, arith, eqb}
use Rattle.std.specs.List.{All, Contains, flat_map, filter}
use Rattle.std.proofs.lemmas.List.{length-map, get_or-map}
use Rattle.std.proofs.lemmas.List.Elements.{All-nil, All-cons, All-append, All-map}
use Rattle.statement.specs.declared.lines.Line.{Line}
use Rattle.statement.specs.declared.lines.Line.TheVariants.{Pin, Out}
use Rattle.statement.specs.Netlists.{Definition, Netlist, signals, pins_reading, readers_of}
use Rattle.netlist.specs.Conditions.{IsNumbered}
use Rattle.netlist.specs.inner.Sorting.{AreBelow, AreReaders}
use Rattle.netlist.specs.Lines.{IsPinBelow}
use Rattle.netlist.proofs.Lists.{contains_head, contains_tail}
use Rattle.netlist.proofs.Placed.{definition_below}

-- the lines of a table of readers are as its visits need them
reading_below : (m x w k : ℕ) (ys : List ℕ) → w < m → All (IsPinBelow m) (pins_reading x w k ys)
reading_below m x w k [] l = All-nil _
reading_below m x w k (y ∷ ys) l =
    let more = reading_below m x w (k + 1) ys l in
    let first : (b : Bool) → All (IsPinBelow m) (cond b (Pin w k ∷ pins_reading x w (k + 1) ys) (pins_reading x w (k + 1) ys)) =
    elim [ true ↦ All-cons (IsPinBelow m) (Pin w k) (pins_reading x w (k + 1) ys) l more | false ↦ more ] in
    first (eqb y x)

all_flat : {X Y : Type 0} (P : Y → Type 0) (f : X → List Y) (xs : List X) → ((x : X) → Contains xs x → All P (f x)) → All P (flat_map f xs)
all_flat P f [] h = All-nil _
all_flat P f (x ∷ xs) h = All-append P (f x) (flat_map f xs) (h x (contains_head x xs)) (all_flat P f xs (λ y c. h y (contains_tail x y xs c)))

readers_below : (n : Netlist) → IsNumbered n → (x : ℕ) → All (IsPinBelow (length (signals n))) (readers_of n x)
readers_below n numbered x =
    All-append (IsPinBelow (length (signals n))) (flat_map (λ (d : Definition). pins_reading x d.id 0 d.pins) n.definitions)
    (map (λ (y : ℕ). Out y) (filter (λ y. eqb y x) n.outputs))
    (all_flat (IsPinBelow (length (signals n))) (λ (d : Definition). pins_reading x d.id 0 d.pins) n.definitions
    (λ d c. reading_below (length (signals n)) x d.id 0 d.pins (definition_below n numbered d c)))
    (All-map (IsPinBelow (length (signals n))) (λ (y : ℕ). Out y) (filter (λ y. eqb y x) n.outputs) (λ k d l. tt))

pub are_below : (n : Netlist) → IsNumbered n → (table : List (List Line)) → AreReaders n table → AreBelow (length (signals n)) table
are_below n numbered table is = record {
  size = ap length is ∙ length-map (signals n) (readers_of n);
  pins = subst (All (All (IsPinBelow (length (signals n))))) (sym is)
      (All-map (All (IsPinBelow (length (signals n)))) (readers_of n) (signals n) (λ k d l. readers_below n numbered (get_or (signals n) k d)));
}

pub row_is : (n : Netlist) → IsNumbered n → (table : List (List Line)) → AreReaders n table → (x : ℕ) (row : List Line)
    → x < length table → row ≡ get_or table x [] → row ≡ readers_of n x
row_is n numbered table is x row l e =
    let size : length table ≡ length (signals n) = ap length is ∙ length-map (signals n) (readers_of n) in
    let within : x < length (signals n) = omega arith in
    e
    ∙ (ap (λ (t : List (List Line)). get_or t x []) is
    ∙ (get_or-map (readers_of n) (signals n) x 0 [] within ∙ ap (readers_of n) (numbered x within)))

pub row_below : (m : ℕ) (table : List (List Line)) → AreBelow m table → (x : ℕ) (row : List Line) → x < length table → row ≡ get_or table x [] → All (IsPinBelow m) row
row_below m table below x row l e = subst (All (IsPinBelow m)) (sym e) (below.pins x [] l)
