use Rattle.std.proofs.Common.{◌≡◌, ◌<◌, ℕ, List, Option, length, vec_len, ap, subst, sym, arith}
use Rattle.std.specs.Prelude.{IfSome}
use Rattle.std.specs.List.{All, AllZip}
use Rattle.std.proofs.lemmas.Slice.Zip.{AllZip-long}
use Rattle.statement.specs.declared.lines.Fault.{Fault}
use Rattle.statement.specs.declared.lines.Point.{Point}
use Rattle.netlist.specs.Lines.{IsLineOf}
use Rattle.statement.specs.Netlists.{Netlist}
use Rattle.statement.specs.Patterns.{Pattern}
use Rattle.word_sim.specs.Hits.{LastDetected}
use Rattle.list_core.proofs.FinishLemmas.{last_within}
use Rattle.list_calls.proofs.compaction.compacted.Goals as goal

pub last_tells-requires-clause-lines : goal.last_tells-requires-clause-lines
last_tells-requires-clause-lines g c =
    let j = g.J.About.subject in
    subst (λ (fs : List Fault). All (λ (f : Fault). IsLineOf c.args.core.now f.line) fs) (sym c.requires.faults)
    (subst (λ (m : Netlist). All (λ (f : Fault). IsLineOf m f.line) j.faults) (sym c.requires.core) c.requires.lines)

pub compact-requires : goal.compact-requires
compact-requires g c =
    let n = c.args.core.now in
    let list = c.args.list in
    let faults = c.args.faults.now in
    let last = c.deref.result.now in
    let all : AllZip (LastDetected n list.patterns) faults last =
    subst (λ (os : List (Option (ℕ × Point))). AllZip (LastDetected n list.patterns) faults os) (sym c.deref.ensures.value)
    (subst (λ (qs : List Pattern). AllZip (LastDetected n qs) faults c.in_ok-last.last.items) c.patterns.ensures c.in_ok-last.ensures) in
    let long = AllZip-long (LastDetected n list.patterns) faults last all in
    let patterns = c.into_parts-patterns.result.0 in
    let verdicts = c.into_parts-patterns.result.1 in
    let count : length list.patterns ≡ vec_len patterns = omega (arith, ap length c.into_parts-patterns.ensures.patterns, patterns.ok.0) in
    let P : ℕ → Type 0 = λ k. All (λ (l : Option (ℕ × Point)). IfSome l (λ p. p.0 < k)) last in
    record {
      size = omega (arith, long, ap length c.requires.faults, c.true_list.ensures.true_list.count, ap length c.into_parts-patterns.ensures.verdicts, verdicts.ok.0);
      within = subst P count (last_within n list.patterns faults last all);
      few = omega (arith, c.requires.few, count);
    }
