use Rattle.std.proofs.Common.{◌≡◌, ◌∙◌, ℕ, Some, ap}
use Rattle.std.specs.List.{slice_get}
use Rattle.statement.specs.declared.lines.Fault.{Fault}
use Rattle.fault_universe.specs.inner.Written.{IsWritten}
use Rattle.statement.specs.Faults.{universe_of}
use Rattle.fault_universe.proofs.Distinct.{distinct_faults, one_place}
use Rattle.fault_universe.proofs.Elements.{contains_at}
use Rattle.fault_universe.proofs.LineTexts.{same_fault}
use Rattle.fault_universe.proofs.Members.{line_written, member_line}
use Rattle.fault_universe.proofs.laws.texts_differ.Goals as goal

pub returns : goal.returns
returns c n i j f g sound here there same =
    let written : (k : ℕ) (h : Fault) → slice_get (universe_of n) k ≡ Some h → IsWritten n h.line =
    λ k h e. line_written n sound h.line (member_line n h (contains_at (universe_of n) k h e)) in
    let is : f ≡ g = same_fault n sound f g (written i f here) (written j g there) same in
    one_place (universe_of n) i j g (distinct_faults n sound) (here ∙ ap (λ (h : Fault). Some h) is) there
