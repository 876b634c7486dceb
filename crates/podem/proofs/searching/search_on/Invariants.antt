use Rattle.std.proofs.Common.{◌+◌, ◌-◌, ◌*◌, ◌≤◌, length}
use Rattle.std.specs.Prelude.{IsTrue}
use Rattle.statement.specs.Netlists.{signals}
use Rattle.tri.specs.Paths.{IsGoingPath}
use Rattle.redundancy_cert.specs.Stacks.{path_of_stack}
use Rattle.decisions.specs.Standing.{SearchesAt}
use Rattle.decisions.specs.Turns.{undecided}
use Rattle.podem.specs.inner.Searching.{PlaceLooked}
use Rattle.podem.proofs.searching.search_on.Given as goal

abbrev pub invariant-loop-closed : goal.invariant-loop-closed
invariant-loop-closed l = record {
  searching : SearchesAt (PlaceLooked l.looks l.case.fault l.case.core.now l.case.holds.now) l.case.fault l.case.core.now l.case.holds.now l.labels l.stack.items l.closed;
  seen : IsTrue l.is_seen → IsGoingPath l.case.fault l.case.core.now l.case.holds.now (path_of_stack l.stack.items);
  within : l.closed ≤ l.limit;
}

abbrev pub decreases-loop-closed : goal.decreases-loop-closed
decreases-loop-closed l = (l.limit - l.closed) * (length (signals l.case.core.now) + 1) + undecided (path_of_stack l.stack.items) (signals l.case.core.now)
