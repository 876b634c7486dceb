use Rattle.std.proofs.Common.{length, map, sym, ◌∙◌, ap, subst}
use Rattle.std.proofs.lemmas.List.{length-map}
use Rattle.statement.specs.Faults.{universe_of}
use Rattle.statement.specs.Tests.{vectors_in}
use Rattle.netlist.specs.Conditions.{IsSound}
use Rattle.scan_insert.specs.Scanned.{Insertion, insertion_of}
use Rattle.scan_play.proofs.Shifting.{zip_length}
use Rattle.chain_test.specs.Hardware.{at_site}
use Rattle.grade.specs.inner.Spread.{AreSiteGrades, grade_at}
use Rattle.grade.proofs.Spread.{all_spread, grades_of}
use Rattle.grade.proofs.spreading.grades.Goals as goal

pub spread-requires-clause-size : goal.spread-requires-clause-size
spread-requires-clause-size g c =
    ap length c.deref.ensures.value
    ∙ (sym (zip_length _ (map (at_site c.args.design.now.scanned.now.sites) c.args.design.now.classes.now.representatives) c.in_ok-by_class.by_class.items c.in_ok-by_class.ensures)
    ∙ length-map c.args.design.now.classes.now.representatives (at_site c.args.design.now.scanned.now.sites))

pub returns : goal.returns
returns g c =
    let d = c.requires.design in
    let n = c.args.design.now.core.now in
    let chains = c.args.design.now.chains.now in
    let cycles = vectors_in c.args.file.now in
    let classes = c.args.design.now.classes.now in
    let by_class = c.in_ok-by_class.by_class.items in
    let sound = subst IsSound c.netlist.ensures c.sound.ensures in
    let scanned = subst IsSound (c.netlist-2.ensures ∙ ap (λ (s : Insertion). s.netlist) d.is_scanned) c.sound-2.ensures in
    let on_scanned = subst (λ (s : Insertion). AreSiteGrades s cycles classes.representatives by_class) d.is_scanned c.in_ok-by_class.ensures in
    grades_of c.args.design.now.scanned.now (insertion_of n chains) c.args.design.now.faults.now (universe_of n) cycles (map (grade_at by_class) classes.numbers) c.in_ok-grades.grades.items
    d.is_scanned d.are_faults (c.in_ok-grades.ensures ∙ ap (λ by. map (grade_at by) classes.numbers) c.deref.ensures.value)
    (all_spread c.equivalent_runs.ensures c.faults_have_lines.ensures n chains sound scanned d.are_chains cycles classes d.are_classes by_class on_scanned)
