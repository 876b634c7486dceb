-- The vectors of launch on capture drive the held inputs with their bits.
use Rattle.std.proofs.Common.{◌≡◌, ◌∙◌, ℕ, suc, zero, Bool, false, not, List, [], ◌∷◌, ◌++◌, map, length, option_map, replicate, Some, slice_get, ap, subst, sym}
use Rattle.std.specs.List.{All, zip}
use Rattle.std.proofs.lemmas.List.Elements.{All-append, All-cons, All-from_get_or, All-head, All-map, All-tail}
use Rattle.std.proofs.lemmas.Option.{slice_get-map}
use Rattle.statement.specs.declared.kinds.Tri.{Tri}
use Rattle.statement.specs.declared.kinds.Tri.TheVariants.{X}
use Rattle.statement.specs.Netlists.{Netlist}
use Rattle.statement.specs.Patterns.{Holds, Obeys, Pattern}
use Rattle.statement.specs.Values.{known}
use Rattle.statement.specs.Tests.{cells_of, longest_of, by_chain, word_in, word_out, held_or_zero, Response, flush}
use Rattle.statement.specs.Runs.{numbers_from, Cycle}
use Rattle.scan_play.specs.Shifts.{idle_inputs, shift, load}
use Rattle.scan_play.specs.Vectors.{capture}
use Rattle.transition_play.specs.LaunchVectors.{launch, launched, AreLaunchVectors}

abbrev IsObeyed : Holds → Cycle → Type 0
IsObeyed holds c = Obeys holds c.drive

-- what is driven behind the inputs changes nothing
slice_front : (us vs : List Bool) (k : ℕ) (b : Bool) → slice_get us k ≡ Some b → slice_get (us ++ vs) k ≡ Some b
slice_front [] vs k b e = cc
slice_front (u ∷ us) vs zero b e = e
slice_front (u ∷ us) vs (suc k) b e = slice_front us vs k b e

front_obeys : (holds : Holds) (us vs : List Bool) → Obeys holds us → Obeys holds (us ++ vs)
front_obeys holds us vs h k b e = slice_front us vs k b (h k b e)

idle_obeys : (holds : Holds) → Obeys holds (idle_inputs holds)
idle_obeys holds k b e = slice_get-map held_or_zero holds k ∙ ap (option_map held_or_zero) e

load_obeys : (n : Netlist) (holds : Holds) (chains : List (List ℕ)) (bits : List Bool) (held : List Tri) → All (IsObeyed holds) (load n holds chains bits held)
load_obeys n holds chains bits held =
    let m = longest_of chains in
    let f : ℕ → Cycle = shift n holds (map (word_in m) (by_chain chains bits)) (map (word_out m) (by_chain chains held)) in
    All-map (IsObeyed holds) f (numbers_from 0 m) (All-from_get_or (λ t. IsObeyed holds (f t)) (numbers_from 0 m) 0 (λ i l. front_obeys holds (idle_inputs holds) _ (idle_obeys holds)))

launch_obeys : (n : Netlist) (holds : Holds) (chains : List (List ℕ)) (p : Pattern) → Obeys holds p.inputs → IsObeyed holds (launch n chains p)
launch_obeys n holds [] p h = h
launch_obeys n holds (chain ∷ chains) p h = front_obeys holds p.inputs _ h

capture_obeys : (holds : Holds) (chains : List (List ℕ)) (p : Pattern) (r : Response) → Obeys holds p.inputs → IsObeyed holds (capture chains p r)
capture_obeys holds [] p r h = h
capture_obeys holds (chain ∷ chains) p r h = front_obeys holds p.inputs _ h

launched_obeys : (n : Netlist) (holds : Holds) (chains : List (List ℕ)) (held : List Tri) (ps : List Pattern) (rs : List Response) → All (λ (p : Pattern). Obeys holds p.inputs) ps
    → All (IsObeyed holds) (launched n holds chains held (zip ps rs))
launched_obeys n holds chains held [] rs h = load_obeys n holds chains (replicate (length (cells_of chains)) false) held
launched_obeys n holds chains held (p ∷ ps) [] h = load_obeys n holds chains (replicate (length (cells_of chains)) false) held
launched_obeys n holds chains held (p ∷ ps) (r ∷ rs) h =
    let O : Cycle → Type 0 = IsObeyed holds in
    let P : Pattern → Type 0 = λ q. Obeys holds q.inputs in
    let own = All-head P p ps h in
    let more = launched n holds chains (map known r.cells) (zip ps rs) in
    All-append O (load n holds chains p.cells held) (launch n chains p ∷ capture chains p r ∷ more) (load_obeys n holds chains p.cells held)
    (All-cons O (launch n chains p) (capture chains p r ∷ more) (launch_obeys n holds chains p own)
    (All-cons O (capture chains p r) more (capture_obeys holds chains p r own) (launched_obeys n holds chains (map known r.cells) ps rs (All-tail P p ps h))))

pub vectors_obey : (n : Netlist) (holds : Holds) (chains : List (List ℕ)) (patterns : List Pattern) (cycles : List Cycle) → AreLaunchVectors n holds chains patterns cycles
    → All (λ (p : Pattern). Obeys holds p.inputs) patterns → All (λ (cycle : Cycle). Obeys holds cycle.drive) cycles
vectors_obey n holds chains patterns cycles v h =
    let O : Cycle → Type 0 = IsObeyed holds in
    let count = length (cells_of chains) in
    let quiet : List Tri = replicate count X in
    let l1 = load n holds chains (flush chains) quiet in
    let l2 = load n holds chains (map not (flush chains)) (map known (flush chains)) in
    let l3 = load n holds chains (replicate count false) (map known (map not (flush chains))) in
    subst (λ (x : List Cycle). All O x) (sym v.are)
    (All-append O (l1 ++ l2 ++ l3) (launched n holds chains quiet (zip patterns v.responses))
    (All-append O (l1 ++ l2) l3 (All-append O l1 l2 (load_obeys n holds chains (flush chains) quiet) (load_obeys n holds chains (map not (flush chains)) (map known (flush chains))))
    (load_obeys n holds chains (replicate count false) (map known (map not (flush chains)))))
    (launched_obeys n holds chains quiet patterns v.responses h))
