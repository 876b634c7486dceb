-- The vectors drive the held inputs with their bits.
use Rattle.std.proofs.Common.{◌≡◌, ℕ, suc, zero, Bool, false, not, List, [], ◌∷◌, ◌++◌, map, length, replicate, Option, Some, slice_get, ap, subst, sym}
use Rattle.std.specs.List.{All, zip}
use Rattle.std.proofs.lemmas.List.Elements.{All-nil, All-cons, All-head, All-tail, All-append}
use Rattle.statement.specs.declared.kinds.Tri.{Tri}
use Rattle.statement.specs.declared.kinds.Tri.TheVariants.{X}
use Rattle.statement.specs.Netlists.{Netlist}
use Rattle.statement.specs.Patterns.{Holds, Obeys, Pattern}
use Rattle.statement.specs.Values.{known}
use Rattle.statement.specs.Tests.{cells_of, longest_of, by_chain, word_in, word_out, held_or_zero, Response, flush}
use Rattle.statement.specs.Runs.{numbers_from, Cycle}
use Rattle.scan_play.specs.Shifts.{idle_inputs, shift, load}
use Rattle.scan_play.specs.Vectors.{capture, applied, AreVectors}

idle_obeys : (holds : Holds) (others : List Bool) → Obeys holds (idle_inputs holds ++ others)
idle_obeys [] others k b e = cc
idle_obeys (x ∷ xs) others zero b e = ap (λ (y : Bool). Some y) (held_bit x b (some_same x (Some b) e))
  where
    some_same : (y z : Option Bool) → Some y ≡ Some z → y ≡ z
    some_same y z e = cc

    held_bit : (y : Option Bool) (b : Bool) → y ≡ Some b → held_or_zero y ≡ b
    held_bit y b e = ap held_or_zero e
idle_obeys (x ∷ xs) others (suc k) b e = idle_obeys xs others k b e

slice_front : (us vs : List Bool) (k : ℕ) (b : Bool) → slice_get us k ≡ Some b → slice_get (us ++ vs) k ≡ Some b
slice_front [] vs k b e = cc
slice_front (u ∷ us) vs zero b e = e
slice_front (u ∷ us) vs (suc k) b e = slice_front us vs k b e

abbrev IsObeyed : Holds → Cycle → Type 0
IsObeyed holds c = Obeys holds c.drive

all_map : {X Y : Type 0} (P : Y → Type 0) (f : X → Y) (xs : List X) → ((x : X) → P (f x)) → All P (map f xs)
all_map P f [] h = All-nil _
all_map P f (x ∷ xs) h = All-cons P (f x) (map f xs) (h x) (all_map P f xs h)

load_obeys : (n : Netlist) (holds : Holds) (chains : List (List ℕ)) (bits : List Bool) (held : List Tri) → All (IsObeyed holds) (load n holds chains bits held)
load_obeys n holds chains bits held =
    let m = longest_of chains in
    all_map (IsObeyed holds) (shift n holds (map (word_in m) (by_chain chains bits)) (map (word_out m) (by_chain chains held))) (numbers_from 0 m) (λ t. idle_obeys holds _)

capture_obeys : (holds : Holds) (chains : List (List ℕ)) (p : Pattern) (r : Response) → Obeys holds p.inputs → IsObeyed holds (capture chains p r)
capture_obeys holds [] p r h = h
capture_obeys holds (chain ∷ chains) p r h = λ k b e. slice_front p.inputs _ k b (h k b e)

applied_obeys : (n : Netlist) (holds : Holds) (chains : List (List ℕ)) (held : List Tri) (ps : List Pattern) (rs : List Response) → All (λ (p : Pattern). Obeys holds p.inputs) ps
    → All (IsObeyed holds) (applied n holds chains held (zip ps rs))
applied_obeys n holds chains held [] rs h = load_obeys n holds chains (replicate (length (cells_of chains)) false) held
applied_obeys n holds chains held (p ∷ ps) [] h = load_obeys n holds chains (replicate (length (cells_of chains)) false) held
applied_obeys n holds chains held (p ∷ ps) (r ∷ rs) h =
    let P : Pattern → Type 0 = λ q. Obeys holds q.inputs in
    All-append (IsObeyed holds) (load n holds chains p.cells held) (capture chains p r ∷ applied n holds chains (map known r.cells) (zip ps rs)) (load_obeys n holds chains p.cells held)
    (All-cons (IsObeyed holds) (capture chains p r) (applied n holds chains (map known r.cells) (zip ps rs)) (capture_obeys holds chains p r (All-head P p ps h))
    (applied_obeys n holds chains (map known r.cells) ps rs (All-tail P p ps h)))

pub vectors_obey : (n : Netlist) (holds : Holds) (chains : List (List ℕ)) (patterns : List Pattern) (cycles : List Cycle) → AreVectors n holds chains patterns cycles
    → All (λ (p : Pattern). Obeys holds p.inputs) patterns → All (λ (cycle : Cycle). Obeys holds cycle.drive) cycles
vectors_obey n holds chains patterns cycles v h =
    let P : Cycle → Type 0 = IsObeyed holds in
    let count = length (cells_of chains) in
    let idle = replicate count X in
    let l1 = load n holds chains (flush chains) idle in
    let l2 = load n holds chains (map not (flush chains)) (map known (flush chains)) in
    let l3 = load n holds chains (replicate count false) (map known (map not (flush chains))) in
    subst (λ (x : List Cycle). All P x) (sym v.are)
    (All-append P (l1 ++ l2 ++ l3) (applied n holds chains idle (zip patterns v.responses))
    (All-append P (l1 ++ l2) l3 (All-append P l1 l2 (load_obeys n holds chains (flush chains) idle) (load_obeys n holds chains (map not (flush chains)) (map known (flush chains))))
    (load_obeys n holds chains (replicate count false) (map known (map not (flush chains)))))
    (applied_obeys n holds chains idle patterns v.responses h))
