-- A fill agrees with its cube, and keeps its widths and held bits.
use Rattle.std.proofs.Common.{◌≡◌, ℕ, zero, suc, Bool, true, false, List, [], ◌∷◌, length, refl, sym, ◌∙◌, ap, subst, Some}
use Rattle.std.specs.List.{All, AllZip, slice_get}
use Rattle.std.proofs.lemmas.List.Elements.{All-nil, All-cons, All-head, All-tail}
use Rattle.std.proofs.lemmas.Slice.Zip.{AllZip-long}
use Rattle.rand_core.specs.Stream.{Stream, next_u32}
use Rattle.statement.specs.declared.kinds.Tri.{Tri}
use Rattle.statement.specs.declared.kinds.Tri.TheVariants.{Zero, One, X}
use Rattle.statement.specs.Values.{known, allows}
use Rattle.netlist.specs.ThreeValues.{AreAllowed}
use Rattle.statement.specs.Netlists.{Netlist}
use Rattle.statement.specs.Patterns.{Holds, Pattern}
use Rattle.cubes.specs.Cubes.{Cube, AgreesWith, IsCubeOf, IsPatternOf}
use Rattle.cubes.specs.Filling.{filled, words_after, filled_cube, words_after_cube, filled_all}

pub filled_allowed : (vs : List Tri) (words : Stream) → AreAllowed vs (filled vs words)
filled_allowed [] words = tt
filled_allowed (Zero ∷ vs) words = (refl, filled_allowed vs words)
filled_allowed (One ∷ vs) words = (refl, filled_allowed vs words)
filled_allowed (X ∷ vs) words = (refl, filled_allowed vs (next_u32 words).1)

pub fill_agrees : (c : Cube) (p : Pattern) (words later : Stream) → p.inputs ≡ filled c.inputs words → p.cells ≡ filled c.cells later → AgreesWith p c
fill_agrees c p words later e h = record {
  inputs = subst (λ bits. AreAllowed c.inputs bits) (sym e) (filled_allowed c.inputs words);
  cells = subst (λ bits. AreAllowed c.cells bits) (sym h) (filled_allowed c.cells later);
}

-- a known value allows its bit alone
allows_only : (v : Tri) (b c : Bool) → v ≡ known b → allows v c ≡ true → c ≡ b
allows_only v b c e h = of_known b c (subst (λ w. allows w c ≡ true) e h)
  where
    of_known : (b c : Bool) → allows (known b) c ≡ true → c ≡ b
    of_known true true h = refl
    of_known true false h = h
    of_known false true h = sym h
    of_known false false h = refl

bit_allowed : (vs : List Tri) (bits : List Bool) → AreAllowed vs bits → (k : ℕ) (b : Bool) → slice_get vs k ≡ Some (known b) → slice_get bits k ≡ Some b
bit_allowed [] bits h k b e = absurd (cc)
bit_allowed (v ∷ vs) [] h k b e = absurd h
bit_allowed (v ∷ vs) (c ∷ bits) h zero b e = let is : v ≡ known b = cc in ap Some (allows_only v b c is h.0)
bit_allowed (v ∷ vs) (c ∷ bits) h (suc k) b e = bit_allowed vs bits h.1 k b e

pub fill_fits : (n : Netlist) (holds : Holds) (c : Cube) (p : Pattern) → AgreesWith p c → IsCubeOf n holds c → IsPatternOf n holds p
fill_fits n holds c p agrees fits = record {
  inputs = AllZip-long _ c.inputs p.inputs agrees.inputs ∙ fits.inputs;
  cells = AllZip-long _ c.cells p.cells agrees.cells ∙ fits.cells;
  obeys = λ k b at. bit_allowed c.inputs p.inputs agrees.inputs k b (fits.held k b at);
}

-- ---- several cubes

pub filled_agree : (cubes : List Cube) (words : Stream) → AllZip AgreesWith (filled_all cubes words) cubes
filled_agree [] words = tt
filled_agree (c ∷ cs) words = (
  fill_agrees c (filled_cube c words) words (words_after c.inputs words) refl refl,
  filled_agree cs (words_after_cube c words),
)

pub filled_fit : (n : Netlist) (holds : Holds) (cubes : List Cube) (patterns : List Pattern) → AllZip AgreesWith patterns cubes → All (IsCubeOf n holds) cubes → All (IsPatternOf n holds) patterns
filled_fit n holds [] [] agree fit = All-nil (IsPatternOf n holds)
filled_fit n holds [] (p ∷ ps) agree fit = elim agree [ ]
filled_fit n holds (c ∷ cs) [] agree fit = elim agree [ ]
filled_fit n holds (c ∷ cs) (p ∷ ps) agree fit =
    All-cons (IsPatternOf n holds) p ps (fill_fits n holds c p agree.0 (All-head (IsCubeOf n holds) c cs fit))
    (filled_fit n holds cs ps agree.1 (All-tail (IsCubeOf n holds) c cs fit))
