-- Unknown inputs by name: they are named as inputs that are held at 0 are.
use Rattle.std.proofs.Common.{◌≡◌, ℕ, Bool, true, false, List, [], ◌∷◌, length, map, Some, None, refl, sym, ◌∙◌, ap, arith}
use Rattle.std.specs.List.{flat_map, zip}
use Rattle.std.proofs.lemmas.List.{length-map}
use Rattle.statement.specs.Netlists.{Netlist, name_of}
use Rattle.statement.specs.Patterns.{Holds}
use Rattle.netlist.specs.Conditions.{IsSound}
use Rattle.report.specs.Reports.{Hold}
use Rattle.run_report.specs.Heads.{hold_at, holds_named}
use Rattle.good_files.proofs.Held.{held_once}
use Rattle.unknown_inputs.specs.Unknowns.{Unknowns, unknown_part}
use Rattle.good_unknown_files.specs.GoodUnknownFiles.{unknown_names}
use Rattle.good_unknown_files.specs.inner.Named.{at_zero, is_held, zero_hold, zero_holds}

held_back : (us : Unknowns) → map is_held (zero_holds us) ≡ us
held_back [] = refl
held_back (true ∷ us) = ap (λ (vs : List Bool). true ∷ vs) (held_back us)
held_back (false ∷ us) = ap (λ (vs : List Bool). false ∷ vs) (held_back us)

module _ (n : Netlist) where
  zero_named : (xs : List ℕ) (us : Unknowns) → length us ≡ length xs
      → flat_map (hold_at n) (zip xs (zero_holds us)) ≡ map at_zero (map (name_of n) (unknown_part us xs))
  zero_named [] [] e = refl
  zero_named [] (u ∷ us) e = absurd (omega (arith, e))
  zero_named (x ∷ xs) [] e = absurd (omega (arith, e))
  zero_named (x ∷ xs) (true ∷ us) e = ap (λ (hs : List Hold). at_zero (name_of n x) ∷ hs) (zero_named xs us (omega (arith, e)))
  zero_named (x ∷ xs) (false ∷ us) e = zero_named xs us (omega (arith, e))

  -- the names of held inputs, whatever their bits
  pub held_names : (xs : List ℕ) (hs : Holds) → length hs ≡ length xs
      → map (λ (h : Hold). h.name) (flat_map (hold_at n) (zip xs hs)) ≡ map (name_of n) (unknown_part (map is_held hs) xs)
  held_names [] [] e = refl
  held_names [] (h ∷ hs) e = absurd (omega (arith, e))
  held_names (x ∷ xs) [] e = absurd (omega (arith, e))
  held_names (x ∷ xs) (Some bit ∷ hs) e = ap (λ (ns : List (List ℕ)). name_of n x ∷ ns) (held_names xs hs (omega (arith, e)))
  held_names (x ∷ xs) (None ∷ hs) e = held_names xs hs (omega (arith, e))

  -- the names of unknown inputs are those of inputs held at 0
  pub named_at_zero : (unknown : Unknowns) (names : List (List ℕ)) → length unknown ≡ length n.inputs → names ≡ unknown_names n unknown
      → map at_zero names ≡ holds_named n (zero_holds unknown)
  named_at_zero unknown names size said = ap (map at_zero) said ∙ sym (zero_named n.inputs unknown size)

  -- there is one choice of unknown inputs at most
  pub unknown_once : IsSound n → (a b : Unknowns) (names : List (List ℕ)) → length a ≡ length n.inputs → length b ≡ length n.inputs
      → names ≡ unknown_names n a → names ≡ unknown_names n b → a ≡ b
  unknown_once sound a b names p q s t =
      sym (held_back a)
      ∙ (ap (map is_held)
      (held_once n sound (zero_holds a) (zero_holds b) (map at_zero names) (length-map a zero_hold ∙ p) (length-map b zero_hold ∙ q) (named_at_zero a names p s) (named_at_zero b names q t))
      ∙ held_back b)
