use Rattle.statement.specs.declared.lines.Fault.{Fault}
use Rattle.statement.specs.Faults.{universe_of}
use Rattle.fault_universe.proofs.Elements.{contains_at}
use Rattle.scan_insert.specs.Scanned.{line_at, scanned_of, sites_of}
use Rattle.diagnose.specs.Explaining.{told_cycles}
use Rattle.diagnose.proofs.laws.candidates_tell_the_truth.Goals as goal

pub returns : goal.returns
returns c n chains cycles log found sound scanned are candidates = record {
  each = λ i has.
      let k = (candidates.exactly i).0 has in
      let moved : Fault = record { line = line_at (sites_of n chains) k.fault.line; value = k.fault.value } in
      record {
        fault = k.fault;
        is_fault = k.is_fault;
        fails = c.explaining_tells_the_truth.ensures (scanned_of n chains) moved (told_cycles log.end cycles) log.failures scanned.closed scanned.acyclic k.explains;
      };
  no_other = λ holds patterns i vectors k.
      let line = c.faults_have_lines.ensures n k.fault sound (contains_at (universe_of n) i k.fault k.is_fault) in
      let both = c.vectors_explain.ensures n holds chains patterns cycles k.fault log sound scanned are vectors line in
      (candidates.exactly i).1 record { fault = k.fault; is_fault = k.is_fault; explains = both.1 k.fails };
}
