-- A fault at a pin, and the fault at the gate's output.
use Rattle.std.proofs.Common.{◌≡◌, Bool, refl, sym, ◌∙◌, ap, Option, None, Some}
use Rattle.statement.specs.declared.lines.Line.{Line}
use Rattle.statement.specs.declared.lines.Line.TheVariants.{Stem}
use Rattle.statement.specs.declared.lines.Fault.{Fault}
use Rattle.statement.specs.Netlists.{Definition, Netlist}
use Rattle.netlist.specs.Conditions.{IsSound}
use Rattle.fault_collapse.specs.declared.drivers.Driver.{Driver}
use Rattle.fault_collapse.specs.Joined.{output_value, IsJoined}
use Rattle.fault_collapse.specs.inner.Merging.{stem_fault, IsDriver, IsReadBy}
use Rattle.fault_collapse.proofs.Reading.{one_reader}

read_by : (n : Netlist) (f g : Fault) (j : IsJoined n f g) → IsReadBy n f.line j.gate
read_by n f g j = record { member = j.member; place = j.place; signal = j.signal; pin = j.pin; input = j.input }

pub none_reads : (n : Netlist) (f : Fault) → ((d : Definition) → IsReadBy n f.line d → ⊥) → (g : Fault) → IsJoined n f g → ⊥
none_reads n f none g j = none j.gate (read_by n f g j)

module _ (n : Netlist) (sound : IsSound n) (f : Fault) (d : Definition) (driver : Driver) (reads : IsReadBy n f.line d) (drives : IsDriver n d driver)
    (made : Option Bool) (gives : made ≡ output_value driver.kind f.value) where
  made_by : made ≡ output_value d.kind f.value
  made_by = gives ∙ ap (λ k. output_value k f.value) drives.kind

  gate_of : (g : Fault) (j : IsJoined n f g) → j.gate ≡ d
  gate_of g j = one_reader n sound f.line j.gate d (read_by n f g j) reads

  value_of : (g : Fault) (j : IsJoined n f g) → made ≡ Some g.value
  value_of g j = made_by ∙ (ap (λ (c : Definition). output_value c.kind f.value) (sym (gate_of g j)) ∙ j.values)

  pub none_made : made ≡ None → (g : Fault) → IsJoined n f g → ⊥
  none_made none g j = let both : None ≡ Some g.value = sym none ∙ value_of g j in absurd (cc)

  pub joins : (w : Bool) → made ≡ Some w → IsJoined n f (stem_fault d.id w)
  joins w some = record {
    gate = d;
    place = reads.place;
    signal = reads.signal;
    member = reads.member;
    pin = reads.pin;
    input = reads.input;
    output = refl;
    values = sym made_by ∙ some;
  }

  pub joins_no_other : (w : Bool) → made ≡ Some w → (g : Fault) → IsJoined n f g → g ≡ stem_fault d.id w
  joins_no_other w some g j =
      let line : g.line ≡ Stem d.id = j.output ∙ ap (λ (c : Definition). Stem c.id) (gate_of g j) in
      let both : Some g.value ≡ Some w = sym (value_of g j) ∙ some in
      let bit : g.value ≡ w = cc in
      ap (λ (l : Line). record { line = l; value = g.value }) line ∙ ap (λ (v : Bool). record { line = Stem d.id; value = v }) bit
