-- Whether a gate is blocked, from what a check of it finds.
use Rattle.std.proofs.Common.{◌≡◌, ◌↔◌, ℕ, ◌<◌, ◌≤◌, Bool, true, false, not, List, map, length, refl, sym, ◌∙◌, ap, subst, arith}
use Rattle.std.specs.List.{Contains}
use Rattle.std.proofs.lemmas.Bool.{both_ways, not-true}
use Rattle.statement.specs.declared.lines.Fault.{Fault}
use Rattle.statement.specs.Netlists.{Definition, Netlist, is_flip_flop, is_cell, signals}
use Rattle.netlist.specs.Netlist.{is_gate}
use Rattle.netlist.specs.Conditions.{IsSound}
use Rattle.netlist.proofs.Lists.{contains_filter, filter_contains}
use Rattle.netlist.proofs.Placed.{same_definition, signal_below}
use Rattle.netlist.proofs.Settling.{above_inputs}
use Rattle.tri.proofs.LabelLemmas.{defined_is_signal}
use Rattle.refutation.specs.declared.pairs.Pairs.{Pairs}
use Rattle.refutation.specs.Pairs.{Pair, has, AreAmong, AreApart}
use Rattle.refutation.specs.Refutations.{Told, told_of, IsBlocked, made}
use Rattle.refutation_check.specs.inner.Images.{made_sets}
use Rattle.refutation_check.proofs.ImageLemmas.{made_sound, made_reach}

pub no_bit : {P : Type 0} → (P → ⊥) → (false ≡ true) ↔ P
no_bit h = ((λ e. absurd (both_ways false refl e)), (λ w. absurd (h w)))

module _ (n : Netlist) (sound : IsSound n) (f : Fault) (told : Told) (x : ℕ) where
  gate_defined : (w : IsBlocked n f told x) → Contains n.definitions w.gate
  gate_defined w = (contains_filter is_gate n.definitions w.gate w.member).0

  pub input_unblocked : x < length n.inputs → (false ≡ true) ↔ IsBlocked n f told x
  input_unblocked l = no_bit (λ w. let high = above_inputs n sound.formed.numbered w.gate (gate_defined w) in let id = w.id in omega arith)

  pub beyond_unblocked : length (signals n) ≤ x → (false ≡ true) ↔ IsBlocked n f told x
  beyond_unblocked l = no_bit (λ w.
      let low = signal_below n sound.formed.numbered w.gate.id (defined_is_signal n w.gate (gate_defined w)) in
      let id = w.id in omega arith)

  module _ (d : Definition) (c : Contains n.definitions d) (is : d.id ≡ x) where
    the_gate : (w : IsBlocked n f told x) → w.gate ≡ d
    the_gate w = same_definition n sound.formed.numbered w.gate d (gate_defined w) c (w.id ∙ sym is)

    pub cell_unblocked : is_flip_flop d.kind ≡ true → (false ≡ true) ↔ IsBlocked n f told x
    cell_unblocked cell = no_bit (λ w.
        both_ways (is_cell w.gate) (not-true (is_cell w.gate) (contains_filter is_gate n.definitions w.gate w.member).1) (ap (λ (g : Definition). is_cell g) (the_gate w) ∙ cell))

    pub gate_blocked : is_flip_flop d.kind ≡ false → (result : Bool) (own sets : Pairs) → own ≡ told_of told x → sets ≡ made_sets f d (map (told_of told) d.pins)
        → (result ≡ true) ↔ AreApart sets own → (result ≡ true) ↔ IsBlocked n f told x
    gate_blocked gate result own sets own_is sets_is apart = (
      (λ h. record {
        gate = d;
        member = filter_contains is_gate n.definitions d c (ap not gate);
        id = is;
        none = λ ps among. subst (λ (s : Pairs). has s (made f d ps) ≡ false) own_is
            (apart.0 h (made f d ps) (subst (λ (s : Pairs). has s (made f d ps) ≡ true) (sym sets_is) (made_sound f d (map (told_of told) d.pins) ps among)));
      }),
      (λ w. apart.1 (λ p h.
          let none = subst (λ (g : Definition). (ps : List Pair) → AreAmong (map (told_of told) g.pins) ps → has (told_of told x) (made f g ps) ≡ false) (the_gate w) w.none in
          let there = made_reach f d (map (told_of told) d.pins) p (subst (λ (s : Pairs). has s p ≡ true) sets_is h) in
          subst (λ (s : Pairs). has s p ≡ false) (sym own_is) (subst (λ (q : Pair). has (told_of told x) q ≡ false) there.2 (none there.0 there.1)))),
    )
