use Rattle.std.proofs.Common.{Some, length, replicate}
use Rattle.std.proofs.lemmas.List.{length-replicate}
use Rattle.statement.specs.declared.kinds.Tri.TheVariants.{X}
use Rattle.statement.specs.Netlists.{cells}
use Rattle.tri.specs.Settled.{tri_table}
use Rattle.scan_insert.specs.Scanned.{scanned_of, sites_of}
use Rattle.chain_test.specs.Hardware.{at_site}
use Rattle.grade.proofs.Seen.{grade_by_patterns}
use Rattle.grade.proofs.laws.patterns_grade.Goals as goal

pub returns : goal.returns
returns c n holds chains patterns cycles f grade sound design are v line h =
    let s = scanned_of n chains in
    let scanned = c.scanned_is_sound.ensures n chains sound design are in
    let fit = c.vectors_fit.ensures n holds chains patterns cycles sound are v in
    let run = c.some_run.ensures X tri_table (Some (at_site (sites_of n chains) f)) s (replicate (length (cells s)) X) cycles scanned.formed.numbered scanned.closed scanned.acyclic
    (length-replicate (length (cells s)) X) fit in
    record { shown = run.0; runs = run.1; told = grade_by_patterns n holds chains patterns cycles f sound are v line run.0 run.1 grade h }
