use Rattle.std.proofs.Common.{◌++◌, ◌<◌, List, ℕ, length, sym, subst, ap, ◌∙◌}
use Rattle.std.specs.List.{All}
use Rattle.statement.specs.Faults.{universe_of}
use Rattle.statement.specs.Tests.{vectors_in}
use Rattle.good_files.specs.ScanOff.{design_chains}
use Rattle.diagnose.specs.Explaining.{told_cycles}
use Rattle.diagnose_command.specs.Diagnoses.{candidates_line, suspect_lines}
use Rattle.diagnose_command.proofs.DiagnoseLemmas.{candidates_at, places_within, scanned_chains, scanned_design}
use Rattle.diagnose_command.proofs.diagnosing.diagnosis.Goals as goal

pub suspects-requires-clause-design : goal.suspects-requires-clause-design
suspects-requires-clause-design g c κs within =
    let l = c.in_ok-listed.listed in
    scanned_design c.args.scanned.now c.requires.scanned c.sound.ensures l.faults l.classes c.in_ok-listed.ensures.faults c.in_ok-listed.ensures.classes

pub text_of-requires-clause-within : goal.text_of-requires-clause-within
text_of-requires-clause-within g c =
    let s = c.args.scanned.now in
    let n = s.case.now.netlist in
    let chains = design_chains n s.chains in
    let log = s.case.now.log in
    let told = told_cycles log.end (vectors_in s.case.now.file) in
    let found = c.in_ok-found.found.items in
    let are = candidates_at n chains s.scanned.now c.in_ok-listed.listed.faults told log.failures found c.requires.scanned.is_scanned c.in_ok-listed.ensures.faults c.in_ok-found.ensures in
    subst (λ (places : List ℕ). All (λ i. i < length (universe_of n)) places) (sym c.deref.ensures.value) (places_within n chains told log.failures found are)

pub returns-in-Ok : goal.returns-in-Ok
returns-in-Ok g c =
    let s = c.args.scanned.now in
    let n = s.case.now.netlist in
    let chains = design_chains n s.chains in
    let log = s.case.now.log in
    let cycles = vectors_in s.case.now.file in
    let found = c.in_ok-found.found.items in
    let are_chains = scanned_chains s c.requires.scanned in
    let are = candidates_at n chains s.scanned.now c.in_ok-listed.listed.faults (told_cycles log.end cycles) log.failures found c.requires.scanned.is_scanned c.in_ok-listed.ensures.faults c.in_ok-found.ensures in
    let scanned = c.scanned_is_sound.ensures n chains c.sound.ensures c.requires.scanned.design are_chains in
    record {
      found = found;
      exactly = are;
      holds = c.candidates_tell_the_truth.ensures n chains cycles log found c.sound.ensures scanned are_chains are;
      text_is = c.in-Ok.ensures ∙ ap (λ (places : List ℕ). candidates_line (length places) ++ suspect_lines n places) c.deref.ensures.value;
    }
