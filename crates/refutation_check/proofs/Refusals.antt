-- A refutation that is refused shows nothing: the cone is one alone, and so are the steps that hold.
use Rattle.std.proofs.Common.{◌≡◌, ◌≢◌, ℕ, Bool, true, false, List, refl, sym, subst}
use Rattle.statement.specs.declared.lines.Line.{Line}
use Rattle.statement.specs.declared.lines.Fault.{Fault}
use Rattle.statement.specs.Netlists.{Netlist}
use Rattle.statement.specs.Patterns.{Holds}
use Rattle.refutation_check.specs.declared.faults.RefutationFault.{RefutationFault}
use Rattle.refutation_check.specs.declared.faults.RefutationFault.TheVariants.{BadStep, Unfinished, NoMemory}
use Rattle.refutation.specs.Steps.{Step}
use Rattle.refutation.specs.Cones.{IsCone}
use Rattle.refutation.specs.Refutations.{HoldsAt, Refutes, start}
use Rattle.refutation_check.specs.Refusals.{IsRefutationFault}

same_bit : (a b : Bool) → (a ≡ true → b ≡ true) → (b ≡ true → a ≡ true) → a ≡ b
same_bit true b h k = sym (h refl)
same_bit false true h k = k refl
same_bit false false h k = refl

same_cone : (n : Netlist) (line : Line) (one other : ℕ → Bool) → IsCone n line one → IsCone n line other → one ≡ other
same_cone n line one other c d =
    let each : (x : ℕ) → one x ≡ other x = λ x. same_bit (one x) (other x) (c.least other d.closed x) (d.least one c.closed x) in
    λ j x. each x j

pub refutes_nothing : (f : Fault) (n : Netlist) (holds : Holds) (steps : List Step) (fault : RefutationFault) → fault ≢ NoMemory → IsRefutationFault f n holds steps fault → Refutes f n holds steps → ⊥
refutes_nothing f n holds steps (BadStep k) other w r =
    w.2.bad (subst (λ (cone : ℕ → Bool). HoldsAt n f (start n holds f cone) steps k) (same_cone n f.line r.cone w.0 r.is_cone w.1) (r.each k w.2.within))
refutes_nothing f n holds steps Unfinished other w r = w.3 r.ends
refutes_nothing f n holds steps NoMemory other w r = other refl
