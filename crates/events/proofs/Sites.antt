-- The signal whose equation a pin enters.
use Rattle.std.proofs.Common.{◌≡◌, ℕ, ◌<◌, ◌≤◌, List, length, get_or, refl, sym, subst, inl, arith}
use Rattle.std.proofs.lemmas.Bool.{eq-eqb}
use Rattle.statement.specs.declared.lines.Line.{Line}
use Rattle.statement.specs.declared.lines.Line.TheVariants.{Stem, Pin}
use Rattle.netlist.specs.Conditions.{IsNumbered}
use Rattle.netlist.specs.Lines.{IsLineOf}
use Rattle.statement.specs.Netlists.{Netlist, signals}
use Rattle.netlist.specs.Orders.{IsOrder, ArePlaces}
use Rattle.netlist.proofs.Placed.{definition_below, signal_below}
use Rattle.events.specs.Stuck.{IsObservedOnly, IsSite}
use Rattle.netlist.proofs.Orders.{place_of}
use Rattle.events.proofs.Placing.{gate_at_place}

module _ (n : Netlist) (numbered : IsNumbered n) (line : Line) (z k : ℕ) (is : line ≡ Pin z k) (h : IsLineOf n line) where
  pub pin_within : z < length (signals n)
  pin_within = let w = subst (IsLineOf n) is h in subst (λ x. x < length (signals n)) w.2 (definition_below n numbered w.0 w.1)

  module _ (order places : List ℕ) (ordered : IsOrder n order) (placed : ArePlaces n order places) where
    pub pin_site : get_or places z 0 < length order → IsSite n line z
    pin_site low =
        let w = subst (IsLineOf n) is h in
        subst (λ (l : Line). IsSite n l z) (sym is)
        (eq-eqb z z refl, inl (w.0, gate_at_place n numbered order places ordered placed w.0 w.1 (subst (λ x. get_or places x 0 < length order) (sym w.2) low), w.2))

    pub pin_observed : length order ≤ get_or places z 0 → IsObservedOnly n line
    pin_observed high =
        subst (IsObservedOnly n) (sym is)
        (λ g. let l : get_or places z 0 < length order = subst (λ x. get_or places x 0 < length order) g.2 (place_of n numbered order ordered places placed g.0 g.1).0 in
        let e : length order ≤ get_or places z 0 = high in absurd (omega arith))
