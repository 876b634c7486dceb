use Rattle.std.proofs.Common.{◌++◌, ◌<◌, List, length, sym, subst, ap, ◌∙◌}
use Rattle.std.specs.List.{All}
use Rattle.statement.specs.Faults.{universe_of}
use Rattle.statement.specs.Tests.{vectors_in}
use Rattle.good_files.specs.ScanOff.{design_chains}
use Rattle.diagnose.specs.Explaining.{told_cycles}
use Rattle.diagnose.specs.declared.ranks.Ranked.{Ranked}
use Rattle.diagnose_command.specs.Diagnoses.{nearest_line, ranked_lines}
use Rattle.diagnose_command.proofs.DiagnoseLemmas.{scanned_design}
use Rattle.diagnose_command.proofs.NearestLemmas.{ranked_within, ranking_at}
use Rattle.diagnose_command.proofs.nearest_faults.nearest.Goals as goal

pub ranked-requires-clause-design : goal.ranked-requires-clause-design
ranked-requires-clause-design g c =
    let l = c.in_ok-listed.listed in
    scanned_design c.args.scanned.now c.requires.scanned c.sound.ensures l.faults l.classes c.in_ok-listed.ensures.faults c.in_ok-listed.ensures.classes

pub text_of-requires-clause-within : goal.text_of-requires-clause-within
text_of-requires-clause-within g c =
    let s = c.args.scanned.now in
    let n = s.case.now.netlist in
    let chains = design_chains n s.chains in
    let log = s.case.now.log in
    let told = told_cycles log.end (vectors_in s.case.now.file) in
    let found = c.in_ok-found.found.items in
    let are = ranking_at n chains s.scanned.now c.in_ok-listed.listed.faults told log.failures c.args.count found c.requires.scanned.is_scanned c.in_ok-listed.ensures.faults c.in_ok-found.ensures in
    subst (λ (rs : List Ranked). All (λ (r : Ranked). r.place < length (universe_of n)) rs) (sym c.deref.ensures.value) (ranked_within n chains told log.failures c.args.count found are)

pub returns-in-Ok : goal.returns-in-Ok
returns-in-Ok g c =
    let s = c.args.scanned.now in
    let n = s.case.now.netlist in
    let chains = design_chains n s.chains in
    let log = s.case.now.log in
    let told = told_cycles log.end (vectors_in s.case.now.file) in
    let found = c.in_ok-found.found.items in
    record {
      ranking = found;
      is_ranking = ranking_at n chains s.scanned.now c.in_ok-listed.listed.faults told log.failures c.args.count found c.requires.scanned.is_scanned c.in_ok-listed.ensures.faults c.in_ok-found.ensures;
      text_is = c.in-Ok.ensures ∙ ap (λ (rs : List Ranked). nearest_line (length rs) ++ ranked_lines n rs) c.deref.ensures.value;
    }
