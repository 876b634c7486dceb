use Rattle.std.proofs.Common.{◌≡◌, Some, sym, ◌∙◌, subst}
use Rattle.statement.specs.declared.lines.Fault.{Fault}
use Rattle.scan_insert.specs.Scanned.{fault_at, scanned_of, sites_of}
use Rattle.diagnose.specs.Explaining.{Explains}
use Rattle.diagnose.proofs.ZeroDistance.{explains_zero, zero_explains}
use Rattle.diagnose.proofs.laws.nearest_explain.Goals as goal

pub returns : goal.returns
returns c n chains cycles log r sound design are fits ranked =
    let s = scanned_of n chains in
    let scanned = c.scanned_is_sound.ensures n chains sound design are in
    let names = c.tester_names_differ.ensures n chains sound design are in
    let g = fault_at (sites_of n chains) (Some ranked.fault) in (
      (λ e. record {
        fault = ranked.fault;
        is_fault = ranked.is_fault;
        explains = zero_explains s g cycles log scanned.closed scanned.acyclic names fits r.missing r.extra ranked.differs e;
      }),
      (λ w.
          let same : w.fault ≡ ranked.fault = same_some w.fault ranked.fault (sym w.is_fault ∙ ranked.is_fault) in
          explains_zero s g cycles log scanned.closed scanned.acyclic names fits r.missing r.extra ranked.differs
          (subst (λ (f : Fault). Explains s (fault_at (sites_of n chains) (Some f)) cycles log) same w.explains)),
    )
  where
    same_some : (x y : Fault) → Some x ≡ Some y → x ≡ y
    same_some x y e = cc
