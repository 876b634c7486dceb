-- On a netlist with an order of its gates some assignment settles: drive the sources, then evaluate gate by gate.
use Rattle.std.proofs.Common.{◌≡◌, ℕ, suc, zero, ◌+◌, ◌<◌, ◌≤◌, ◌≢◌, List, map, length, get_or, set, replicate, refl, subst, arith}
use Rattle.std.specs.List.{All, AllPairs}
use Rattle.std.proofs.lemmas.List.{length-replicate, length-map, get_or_default}
use Rattle.statement.specs.declared.lines.Line.TheVariants.{Stem}
use Rattle.statement.specs.Netlists.{Definition, Netlist, cells}
use Rattle.netlist.specs.Netlist.{IsAcyclic}
use Rattle.netlist.specs.Conditions.{IsClosed, IsNumbered}
use Rattle.netlist.specs.Orders.{IsOrder}
use Rattle.statement.specs.Values.{Rule, Settles, pins_of}
use Rattle.netlist.specs.Settled.{at}
use Rattle.netlist.specs.Settling.{IsDriven}
use Rattle.netlist.specs.inner.Settling.{SettlesUpTo}
use Rattle.netlist.proofs.OrderExists.{order_exists}
use Rattle.netlist.proofs.Settling.{drive_more, driven, settle_more, settled, cells_below, cells_distinct, inputs_below, inputs_distinct}
use Rattle.netlist.proofs.Placed.{signals_length}

module _ {V : Type 0} (rule : Rule V) (blank : V) where
  -- the first m of these signals have what is driven onto them
  drive_first : (ids : List ℕ) (values old : List V) → All (λ x. x < length old) ids → AllPairs (λ x y. x ≢ y) ids → length values ≡ length ids
      → (m : ℕ) → m ≤ length ids → (new : List V) × IsDriven rule ids values old new m
  drive_first ids values old below distinct size zero l =
      (old, record { size = refl; here = λ k d k<. absurd (omega (arith, k<)); others = λ x d none. refl })
  drive_first ids values old below distinct size (suc m) l =
      let w = drive_first ids values old below distinct size m (omega arith) in
      let i = get_or ids m 0 in
      let v = get_or values m blank in
      let low : i < length old = below m 0 (omega arith) in
      let same = w.1.size in
      let next : m + 1 ≡ suc m = omega arith in (
        set w.0 i (rule.line (Stem i) v),
        subst (λ k. IsDriven rule ids values old (set w.0 i (rule.line (Stem i) v)) k) next
            (drive_more rule ids values old w.0 m i (rule.line (Stem i) v) v w.1 (omega arith) (omega arith) (omega arith) refl
            (λ j j<. distinct j m 0 j< (omega arith)) (get_or_default values m blank v (omega arith)) refl),
      )

module _ (n : Netlist) (numbered : IsNumbered n) (order : List ℕ) (ordered : IsOrder n order) where
  -- the first m gates are evaluated
  settle_first : {V : Type 0} (rule : Rule V) (inputs state start : List V) (blank : V) → SettlesUpTo rule n order inputs state start 0 blank
      → (m : ℕ) → m ≤ length order → (values : List V) × SettlesUpTo rule n order inputs state values m blank
  settle_first rule inputs state start blank h zero l = (start, h)
  settle_first rule inputs state start blank h (suc m) l =
      let w = settle_first rule inputs state start blank h m (omega arith) in
      let p = ordered.members m 0 (omega arith) in
      let g = p.0 in
      let v = rule.line (Stem g.id) (rule.gate g (pins_of rule (at w.0 blank) g)) in
      let next : m + 1 ≡ suc m = omega arith in (
        set w.0 g.id v,
        subst (λ k. SettlesUpTo rule n order inputs state (set w.0 g.id v) k blank) next
            (settle_more n numbered order ordered rule inputs state w.0 m blank w.1 (omega arith) g p.1 p.2 v refl),
      )

pub some_settled : {V : Type 0} (blank : V) (rule : Rule V) (n : Netlist) (inputs state : List V) → IsNumbered n → IsClosed n → IsAcyclic n
    → length inputs ≡ length n.inputs → length state ≡ length (cells n) → (a : ℕ → V) × Settles rule n inputs state a
some_settled {V} blank rule n inputs state numbered closed acyclic i s =
    let o = order_exists n numbered closed acyclic in
    let ids : List ℕ = map (λ (d : Definition). d.id) (cells n) in
    let many : length ids ≡ length (cells n) = length-map (cells n) (λ (d : Definition). d.id) in
    let total = length n.inputs + length n.definitions in
    let v0 : List V = replicate total blank in
    let size : length v0 ≡ length n.inputs + length n.definitions = length-replicate total blank in
    let all = signals_length n in
    let w1 = drive_first rule blank n.inputs inputs v0 (inputs_below n numbered (length v0) (omega arith)) (inputs_distinct n numbered) i (length n.inputs) (omega arith) in
    let size1 = w1.1.size in
    let w2 = drive_first rule blank ids state w1.0 (cells_below n numbered ids (length w1.0) refl (omega arith)) (cells_distinct n numbered ids refl) (omega arith) (length ids) (omega arith) in
    let start = driven n numbered rule o.0 n.inputs ids inputs state v0 w1.0 w2.0 size refl refl i s w1.1 w2.1 in
    let w = settle_first n numbered o.0 o.1 rule inputs state w2.0 blank (start.each blank) (length o.0) (omega arith) in
    (at w.0 blank, settled n numbered o.0 o.1 rule inputs state w.0 (length o.0) blank w.1 (omega arith))
