-- The bits of words at outputs and at cells' pins.
use Rattle.std.proofs.Common.{◌≡◌, ℕ, ◌+◌, List, [], ◌∷◌, ◌++◌, map, None, refl, ap, ap₂, ◌∙◌}
use Rattle.std.specs.List.{flat_map}
use Rattle.std.proofs.lemmas.List.{map-append}
use Rattle.netlist.proofs.Lists.{map_map}
use Rattle.statement.specs.declared.lines.Line.TheVariants.{Out}
use Rattle.statement.specs.Netlists.{Definition}
use Rattle.statement.specs.Values.{bits, on_pins, pins_of}
use Rattle.events.specs.Words.{bit_of, words}

module _ (j : ℕ) (a : ℕ → ℕ) where
  bits_on_pins : (z k : ℕ) (vs : List ℕ) → map (bit_of j) (on_pins (words None) z k vs) ≡ on_pins (bits None) z k (map (bit_of j) vs)
  bits_on_pins z k [] = refl
  bits_on_pins z k (v ∷ vs) = ap (λ bs. bit_of j v ∷ bs) (bits_on_pins z (k + 1) vs)

  pub bits_of_outs : (ys : List ℕ) → map (bit_of j) (map (λ x. (words None).line (Out x) (a x)) ys) ≡ map (λ x. (bits None).line (Out x) (bit_of j (a x))) ys
  bits_of_outs [] = refl
  bits_of_outs (y ∷ ys) = ap (λ bs. bit_of j (a y) ∷ bs) (bits_of_outs ys)

  pub bits_of_next : (ds : List Definition) → map (bit_of j) (flat_map (pins_of (words None) a) ds) ≡ flat_map (pins_of (bits None) (λ x. bit_of j (a x))) ds
  bits_of_next [] = refl
  bits_of_next (d ∷ ds) =
      map-append (bit_of j) (pins_of (words None) a d) (flat_map (pins_of (words None) a) ds)
      ∙ ap₂ (λ xs ys. xs ++ ys) (bits_on_pins d.id 0 (map a d.pins) ∙ ap (on_pins (bits None) d.id 0) (map_map a (bit_of j) d.pins)) (bits_of_next ds)
