-- A redundant fault changes no run of the scanned netlist.
use Rattle.std.proofs.Common.{◌≡◌, ℕ, suc, zero, Bool, cond, List, [], ◌∷◌, ◌++◌, map, length, Option, Some, None, refl, sym, ◌∙◌, ap, subst, arith}
use Rattle.statement.specs.declared.lines.Fault.{Fault}
use Rattle.std.specs.List.{All}
use Rattle.statement.specs.Netlists.{Netlist}
use Rattle.statement.specs.Patterns.{Holds, Obeys}
use Rattle.netlist.specs.Holds.{AreHoldsOf}
use Rattle.netlist.specs.Conditions.{IsSound}
use Rattle.statement.specs.Values.{Settles, bit_table, bits}
use Rattle.netlist.specs.Detection.{IsRedundant}
use Rattle.tri.proofs.ClosedLemmas.{redundant_changes_nothing}
use Rattle.netlist.specs.Lines.{IsLineOf}
use Rattle.scan_insert.specs.Scanned.{AreChainsOf, sites_of, scanned_of, naming_of, fault_at}
use Rattle.scan_insert.specs.Laws.{shifted, last_values}
use Rattle.scan_insert.proofs.Unchanged.{nothing}
use Rattle.statement.specs.Runs.{Cycle, Ticks, Runs}
use Rattle.std.proofs.lemmas.List.{length-map, map-id}
use Rattle.std.proofs.lemmas.List.Elements.{All-head, All-tail}
use Rattle.scan_play.proofs.Widths.{split_inputs, cells_count, valid_fault, no_fault}
use Rattle.scan_play.proofs.Bridge.{scan_values}
use Rattle.scan_play.proofs.Instances.{bits_above}

-- the functional inputs of what is driven obey the held inputs too
obeys_front : (holds : Holds) (us vs : List Bool) → length us ≡ length holds → Obeys holds (us ++ vs) → Obeys holds us
obeys_front [] us vs e h k b is = absurd (none_some is)
  where
    none_some : {x : Option Bool} → None ≡ Some x → ⊥
    none_some e = cc
obeys_front (x ∷ xs) [] vs e h k b is = absurd (omega (arith, e))
obeys_front (x ∷ xs) (u ∷ us) vs e h zero b is = h zero b is
obeys_front (x ∷ xs) (u ∷ us) vs e h (suc k) b is = obeys_front xs us vs (omega (arith, e)) (λ j c. h (suc j) c) k b is

module _ (n : Netlist) (f : Fault) (sound : IsSound n) (line : IsLineOf n f.line) (holds : Holds) (fit : AreHoldsOf n holds) (redundant : IsRedundant n holds f) where
  same_tick_unscanned : (state : List Bool) (cycle : Cycle) (shown shown' after after' : List Bool) → Obeys holds cycle.drive
      → Ticks bit_table None n state cycle shown after → Ticks bit_table (Some f) n state cycle shown' after' → (shown ≡ shown') × (after ≡ after')
  same_tick_unscanned state cycle shown shown' after after' obeys t u =
      let same : Obeys holds (map (λ b. b) cycle.drive) = subst (Obeys holds) (sym (map-id cycle.drive)) obeys in
      let r = redundant_changes_nothing f n holds (map (λ b. b) cycle.drive) state t.values u.values redundant same t.settles u.settles in
      (t.shows ∙ (r.0 ∙ sym u.shows), t.keeps ∙ (ap (λ x. cond cycle.pulse x state) r.1 ∙ sym u.keeps))

  module _ (chain : List ℕ) (rest : List (List ℕ)) (are : AreChainsOf n (chain ∷ rest)) where
    same_tick_scanned : (state : List Bool) (cycle : Cycle) (shown shown' after after' : List Bool) → Obeys holds cycle.drive
        → Ticks bit_table None (scanned_of n (chain ∷ rest)) state cycle shown after
        → Ticks bit_table (fault_at (sites_of n (chain ∷ rest)) (Some f)) (scanned_of n (chain ∷ rest)) state cycle shown' after'
        → (shown ≡ shown') × (after ≡ after')
    same_tick_scanned state cycle shown shown' after after' obeys t u =
        let s = naming_of n (chain ∷ rest) in
        let S = scanned_of n (chain ∷ rest) in
        let g = fault_at (sites_of n (chain ∷ rest)) (Some f) in
        let parts = split_inputs _ (map s.stem n.inputs) s.enable s.scan_in (map (λ b. b) cycle.drive) t.settles.0 in
        let size : length parts.0 ≡ length n.inputs = parts.4 ∙ length-map n.inputs s.stem in
        let p : Settles (bits None) S (parts.0 ++ parts.1 ∷ parts.2) state t.values = subst (λ d. Settles (bits None) S d state t.values) parts.3 t.settles in
        let q : Settles (bits g) S (parts.0 ++ parts.1 ∷ parts.2) state u.values = subst (λ d. Settles (bits g) S d state u.values) parts.3 u.settles in
        let v = scan_values bit_table bits_above n chain rest None sound are (no_fault n) parts.0 parts.1 parts.2 state t.values size p in
        let w = scan_values bit_table bits_above n chain rest (Some f) sound are (valid_fault n f line) parts.0 parts.1 parts.2 state u.values size q in
        let front : Obeys holds parts.0 = obeys_front holds parts.0 (parts.1 ∷ parts.2) (size ∙ sym fit) (subst (Obeys holds) (sym (map-id cycle.drive) ∙ parts.3) obeys) in
        let r = redundant_changes_nothing f n holds parts.0 state v.values w.values redundant front v.settles w.settles in (
          t.shows ∙ (v.shows ∙ (ap (λ o. o ++ last_values bits_above.blank (chain ∷ rest) state) r.0 ∙ (sym w.shows ∙ sym u.shows))),
          t.keeps ∙ (ap (λ x. cond cycle.pulse x state) (v.keeps ∙ (ap (λ x. cond parts.1 (shifted (chain ∷ rest) parts.2 state) x) r.1 ∙ sym w.keeps)) ∙ sym u.keeps),
        )

pub same_tick : (n : Netlist) (holds : Holds) (chains : List (List ℕ)) (f : Fault) → IsSound n → AreHoldsOf n holds → AreChainsOf n chains → IsLineOf n f.line → IsRedundant n holds f
    → (state : List Bool) (cycle : Cycle) (shown shown' after after' : List Bool) → Obeys holds cycle.drive
    → Ticks bit_table None (scanned_of n chains) state cycle shown after
    → Ticks bit_table (fault_at (sites_of n chains) (Some f)) (scanned_of n chains) state cycle shown' after'
    → (shown ≡ shown') × (after ≡ after')
same_tick n holds [] f sound fit are line redundant state cycle shown shown' after after' obeys t u =
    let same = (nothing n [] (Some f) sound are (cells_count n [] are) (valid_fault n f line)).1 in
    same_tick_unscanned n f sound line holds fit redundant state cycle shown shown' after after' obeys t (subst (λ g. Ticks bit_table g n state cycle shown' after') same u)
same_tick n holds (chain ∷ rest) f sound fit are line redundant state cycle shown shown' after after' obeys t u =
    same_tick_scanned n f sound line holds fit redundant chain rest are state cycle shown shown' after after' obeys t u

pub no_sequence_detects : (n : Netlist) (holds : Holds) (chains : List (List ℕ)) (f : Fault) (state : List Bool) (cycles : List Cycle) (shown shown' : List (List Bool))
    → IsSound n → AreHoldsOf n holds → AreChainsOf n chains → IsLineOf n f.line → IsRedundant n holds f
    → All (λ (c : Cycle). Obeys holds c.drive) cycles → Runs bit_table None (scanned_of n chains) state cycles shown
    → Runs bit_table (fault_at (sites_of n chains) (Some f)) (scanned_of n chains) state cycles shown'
    → shown ≡ shown'
no_sequence_detects n holds chains f state [] [] [] sound fit are line redundant all p q = refl
no_sequence_detects n holds chains f state [] [] (x ∷ xs) sound fit are line redundant all p q = absurd q
no_sequence_detects n holds chains f state [] (x ∷ xs) shown' sound fit are line redundant all p q = absurd p
no_sequence_detects n holds chains f state (c ∷ cs) [] shown' sound fit are line redundant all p q = absurd p
no_sequence_detects n holds chains f state (c ∷ cs) (x ∷ xs) [] sound fit are line redundant all p q = absurd q
no_sequence_detects n holds chains f state (c ∷ cs) (x ∷ xs) (y ∷ ys) sound fit are line redundant all p q =
    let same = same_tick n holds chains f sound fit are line redundant state c x y p.0 q.0 (All-head (λ (d : Cycle). Obeys holds d.drive) c cs all) p.1 q.1 in
    let on : Runs bit_table None (scanned_of n chains) q.0 cs xs = subst (λ s. Runs bit_table None (scanned_of n chains) s cs xs) same.1 p.2 in
    ap (λ z. z ∷ xs) same.0 ∙ ap (λ zs. y ∷ zs) (no_sequence_detects n holds chains f q.0 cs xs ys sound fit are line redundant (All-tail (λ (d : Cycle). Obeys holds d.drive) c cs all) on q.2)
