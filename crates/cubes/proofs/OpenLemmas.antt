-- The open cube: how its inputs grow, and that it is one of the netlist that obeys the held inputs.
use Rattle.std.proofs.Common.{zero, suc, ◌≡◌, ℕ, ◌+◌, Bool, List, [], ◌∷◌, ◌++◌, length, map, take, get_or, Option, Some, None, sym, ◌∙◌, ap}
use Rattle.std.specs.List.{slice_get}
use Rattle.std.proofs.lemmas.List.{length-map, length-replicate, map_push, take_more}
use Rattle.std.proofs.lemmas.Option.{get_or_from_slice_get, slice_get_within}
use Rattle.statement.specs.Values.{known}
use Rattle.statement.specs.declared.kinds.Tri.{Tri}
use Rattle.statement.specs.declared.kinds.Tri.TheVariants.{X}
use Rattle.statement.specs.Netlists.{Netlist, cells}
use Rattle.statement.specs.Patterns.{Holds}
use Rattle.netlist.specs.Holds.{AreHoldsOf}
use Rattle.tri.specs.Labels.{held_value}
use Rattle.cubes.specs.Cubes.{IsCubeOf, open_cube}

pub values_more : (holds : Holds) (k : ℕ) (old new : List Tri) (h : Option Bool) (v : Tri) → slice_get holds k ≡ Some h → v ≡ held_value h
    → old ≡ map held_value (take k holds) → new ≡ old ++ v ∷ [] → new ≡ map held_value (take (k + 1) holds)
values_more holds k old new h v at is before added =
    let there : get_or holds k None ≡ h = get_or_from_slice_get holds k h None at in
    let next : take (k + 1) holds ≡ take k holds ++ h ∷ [] =
    take_more holds k None (slice_get_within holds k h at) ∙ ap (λ (o : Option Bool). take k holds ++ o ∷ []) there in
    added ∙ (ap (λ (vs : List Tri). vs ++ v ∷ []) before ∙ (ap (λ (w : Tri). map held_value (take k holds) ++ w ∷ []) is
    ∙ (sym (map_push held_value (take k holds) h) ∙ ap (λ (os : Holds). map held_value os) (sym next))))

held_there : (holds : Holds) (k : ℕ) (b : Bool) → slice_get holds k ≡ Some (Some b) → slice_get (map held_value holds) k ≡ Some (known b)
held_there [] k b e = cc
held_there (h ∷ hs) zero b e = (let here : h ≡ Some b = cc in ap (λ (o : Option Bool). Some (held_value o)) here)
held_there (h ∷ hs) (suc k) b e = held_there hs k b e

pub open_fits : (n : Netlist) (holds : Holds) → AreHoldsOf n holds → IsCubeOf n holds (open_cube n holds)
open_fits n holds are = record {
  inputs = length-map holds held_value ∙ are;
  cells = length-replicate (length (cells n)) X;
  held = λ k b e. held_there holds k b e;
}
