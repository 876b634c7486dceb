-- Equivalent faults are detected by the same patterns at the same points.
use Rattle.std.proofs.Common.{◌≡◌, ℕ, Bool, false, List, ap, ◌∙◌, sym, Some}
use Rattle.std.specs.List.{slice_get}
use Rattle.std.proofs.lemmas.Slice.Zip.{AllZip-long}
use Rattle.statement.specs.declared.lines.Fault.{Fault}
use Rattle.statement.specs.declared.lines.Point.{Point}
use Rattle.statement.specs.declared.lines.Point.TheVariants.{Output, Cell}
use Rattle.statement.specs.Netlists.{Netlist, cells}
use Rattle.netlist.specs.Conditions.{IsSound}
use Rattle.statement.specs.Values.{bits, outs, next}
use Rattle.statement.specs.Patterns.{observed, Detects}
use Rattle.netlist.specs.Laws.{SomeSettles}
use Rattle.fault_collapse.specs.Joined.{IsEquivalent}
use Rattle.fault_collapse.specs.Laws.{EquivalentAgree}

same_observed : (n : Netlist) (f g : Fault) (a b : ℕ → Bool) → outs (bits (Some f)) n a ≡ outs (bits (Some g)) n b → next (bits (Some f)) n a ≡ next (bits (Some g)) n b
    → (point : Point) → observed (bits (Some f)) n a point ≡ observed (bits (Some g)) n b point
same_observed n f g a b p q (Output k) = ap (λ xs. slice_get xs k) p
same_observed n f g a b p q (Cell k) = ap (λ xs. slice_get xs k) q

module _ (agree : EquivalentAgree) (some : SomeSettles Bool) (n : Netlist) (sound : IsSound n) (inputs state : List Bool) (point : Point) (f g : Fault) (same : IsEquivalent n f g) where
  pub detected_too : Detects n f inputs state point → Detects n g inputs state point
  detected_too d =
      let p = d.faulty_settles in
      let m = some false (bits (Some g)) n inputs state sound.formed.numbered sound.closed sound.acyclic (AllZip-long _ n.inputs inputs p.0) (AllZip-long _ (cells n) state p.1) in
      let h = agree n f g inputs state d.faulty m.0 sound same p m.1 in
      record {
        good = d.good;
        faulty = m.0;
        good_settles = d.good_settles;
        faulty_settles = m.1;
        differs = λ e. d.differs (e ∙ sym (same_observed n f g d.faulty m.0 h.0 h.1 point));
      }
