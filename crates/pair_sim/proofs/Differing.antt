-- Where two known values at a point differ, so do the bits there of every pattern with the decided bits.
use Rattle.std.proofs.Common.{◌≡◌, ℕ, zero, suc, ◌&&◌, ◌||◌, Bool, true, false, List, [], ◌∷◌, map, Some, refl, ◌∙◌, ap, subst}
use Rattle.std.specs.List.{All, AllZip, slice_get}
use Rattle.std.proofs.lemmas.List.Elements.{All-nil, All-cons}
use Rattle.statement.specs.declared.kinds.Tri.{Tri}
use Rattle.statement.specs.declared.kinds.Tri.TheVariants.{Zero, One, X}
use Rattle.statement.specs.Values.{known, allows}
use Rattle.netlist.specs.ThreeValues.{is_zero, is_one}
use Rattle.tri.specs.declared.labels.Label.{Label}
use Rattle.tri.specs.Labels.{IsAbove, AreAbove}
use Rattle.tri.specs.Paths.{IsFirstEffect}

effect_differs : (v w : Tri) (g b : Bool) → (is_zero v && is_one w || is_one v && is_zero w) ≡ true → allows v g ≡ true → allows w b ≡ true → g ≡ b → ⊥
effect_differs Zero Zero true true e h k s = cc
effect_differs Zero Zero true false e h k s = cc
effect_differs Zero Zero false true e h k s = cc
effect_differs Zero Zero false false e h k s = cc
effect_differs Zero One true true e h k s = cc
effect_differs Zero One true false e h k s = cc
effect_differs Zero One false true e h k s = cc
effect_differs Zero One false false e h k s = cc
effect_differs Zero X true true e h k s = cc
effect_differs Zero X true false e h k s = cc
effect_differs Zero X false true e h k s = cc
effect_differs Zero X false false e h k s = cc
effect_differs One Zero true true e h k s = cc
effect_differs One Zero true false e h k s = cc
effect_differs One Zero false true e h k s = cc
effect_differs One Zero false false e h k s = cc
effect_differs One One true true e h k s = cc
effect_differs One One true false e h k s = cc
effect_differs One One false true e h k s = cc
effect_differs One One false false e h k s = cc
effect_differs One X true true e h k s = cc
effect_differs One X true false e h k s = cc
effect_differs One X false true e h k s = cc
effect_differs One X false false e h k s = cc
effect_differs X Zero true true e h k s = cc
effect_differs X Zero true false e h k s = cc
effect_differs X Zero false true e h k s = cc
effect_differs X Zero false false e h k s = cc
effect_differs X One true true e h k s = cc
effect_differs X One true false e h k s = cc
effect_differs X One false true e h k s = cc
effect_differs X One false false e h k s = cc
effect_differs X X true true e h k s = cc
effect_differs X X true false e h k s = cc
effect_differs X X false true e h k s = cc
effect_differs X X false false e h k s = cc

above_place : (ls : List Label) (gs bs : List Bool) (k : ℕ) (m : Label) → AreAbove ls gs bs → slice_get ls k ≡ Some m
    → (g : Bool) × (b : Bool) × (slice_get gs k ≡ Some g) × (slice_get bs k ≡ Some b) × IsAbove m g b
above_place [] [] [] k m h e = absurd cc
above_place [] [] (b ∷ bs) k m h e = absurd h
above_place [] (g ∷ gs) bs k m h e = absurd h
above_place (l ∷ ls) [] bs k m h e = absurd h
above_place (l ∷ ls) (g ∷ gs) [] k m h e = absurd h
above_place (l ∷ ls) (g ∷ gs) (b ∷ bs) zero m h e = let same : l ≡ m = cc in (g, b, refl, refl, subst (λ (x : Label). IsAbove x g b) same h.0)
above_place (l ∷ ls) (g ∷ gs) (b ∷ bs) (suc k) m h e = above_place ls gs bs k m h.1 e

pub differ_there : (ls : List Label) (gs bs : List Bool) (k : ℕ) → AreAbove ls gs bs → IsFirstEffect ls k → slice_get gs k ≡ slice_get bs k → ⊥
differ_there ls gs bs k h t e =
    let w = above_place ls gs bs k t.label h t.here in
    let same : w.0 ≡ w.1 = cc in
    effect_differs t.label.good t.label.faulty w.0 w.1 t.effect w.4.good w.4.faulty same

-- each source has a bit that its value allows
pub driven_allowed : {A : Type 0} (key : A → ℕ) (value : ℕ → Tri) (a : ℕ → Bool) (xs : List A) (bs : List Bool)
    → AllZip (λ v b. allows v b ≡ true) (map (λ x. value (key x)) xs) bs → AllZip (λ x v. a (key x) ≡ v) xs bs → All (λ x. allows (value (key x)) (a (key x)) ≡ true) xs
driven_allowed key value a [] bs h k = All-nil _
driven_allowed key value a (x ∷ xs) [] h k = absurd h
driven_allowed key value a (x ∷ xs) (b ∷ bs) h k =
    All-cons (λ y. allows (value (key y)) (a (key y)) ≡ true) x xs (ap (allows (value (key x))) k.0 ∙ h.0) (driven_allowed key value a xs bs h.1 k.1)

pub known_is : (b c : Bool) → allows (known b) c ≡ true → c ≡ b
known_is true true h = refl
known_is true false h = cc
known_is false true h = cc
known_is false false h = refl
