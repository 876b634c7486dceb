use Rattle.std.proofs.Common.{subst, sym}
use Rattle.std.specs.List.{Contains}
use Rattle.fault_universe.specs.Universe.{all_lines}
use Rattle.fault_universe.specs.inner.Written.{IsWritten}
use Rattle.fault_universe.proofs.Members.{line_written}
use Rattle.fault_collapse.specs.inner.Merging.{IsReadBy}
use Rattle.fault_collapse.proofs.Reading.{pin_read, stem_read_cases}
use Rattle.fault_collapse.proofs.gates.reader_of.Goals as goal

pub sole_reader-requires : goal.sole_reader-requires
sole_reader-requires c =
    let n = c.args.netlist.now in
    subst (IsWritten n) c.in-Stem.is (line_written n c.sound.ensures c.args.line.now c.requires)

pub returns-in-Stem : goal.returns-in-Stem
returns-in-Stem c =
    stem_read_cases c.args.netlist.now c.sound.ensures c.in-Stem.x c.args.line.now c.in-Stem.is c.sole_reader.result c.sole_reader.ensures

pub returns-in-Pin : goal.returns-in-Pin
returns-in-Pin c =
    let n = c.args.netlist.now in
    let m = pin_read n c.sound.ensures c.in-Pin.z c.in-Pin.field-1 (subst (Contains (all_lines n)) c.in-Pin.is c.requires) in
    (m.0, m.1, subst (λ l. IsReadBy n l m.0) (sym c.in-Pin.is) m.2)
