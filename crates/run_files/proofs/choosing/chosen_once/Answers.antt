use Rattle.std.proofs.Common.{◌≡◌, ◌∙◌, ℕ, Bool, List, ap, length, map, subst, sym, arith}
use Rattle.std.specs.List.{All, AllZip}
use Rattle.std.proofs.lemmas.List.{length-map}
use Rattle.std.proofs.lemmas.Result.{IfOk-weaker}
use Rattle.statement.specs.declared.lines.Fault.{Fault}
use Rattle.statement.specs.Netlists.{Netlist}
use Rattle.statement.specs.Patterns.{Holds, Pattern}
use Rattle.netlist.specs.Conditions.{IsSound}
use Rattle.netlist.specs.Lines.{IsLineOf}
use Rattle.word_sim.specs.Hits.{LastDetected}
use Rattle.word_sim.specs.Never.{AreNever, unmarked}
use Rattle.evidence.specs.Laws.{ShownIsRedundant}
use Rattle.list_core.specs.declared.compaction.Finished.{Finished}
use Rattle.list_core.specs.declared.verdicts.Verdict.{Verdict}
use Rattle.list_core.specs.Finished.{AreFinished}
use Rattle.fewer_patterns.specs.Fewer.{IsNoWorse}
use Rattle.run_files.specs.inner.Often.{AreChosen}
use Rattle.run_files.specs.inner.Searches.{AreKnown}
use Rattle.run_files.specs.inner.Verdicts.{is_redundant}
use Rattle.run_files.proofs.KnownLemmas.{known_by, never_redundant, no_worse_of_all}
use Rattle.run_files.proofs.OftenLemmas.{chosen_once}
use Rattle.run_files.proofs.choosing.chosen_once.Goals as goal

-- what is no worse for the others is for all, and the redundant ones aren't detected by it either
left_out : (n : Netlist) (holds : Holds) (limit : ℕ) (refutes : Bool) (faults left : List Fault) (given new : List Pattern) (verdicts : List Verdict) (marks : List Bool) → IsSound n
    → ShownIsRedundant → AreKnown n holds limit refutes faults given verdicts → marks ≡ map is_redundant verdicts → left ≡ unmarked marks faults → IsNoWorse n holds left given new
    → IsNoWorse n holds faults given new × AreNever n new faults marks
left_out n holds limit refutes faults left given new verdicts marks sound law known are rest is =
    let old : AreNever n given faults marks = subst (λ (ms : List Bool). AreNever n given faults ms) (sym are) (never_redundant n holds limit refutes faults given verdicts known sound law) in
    let all = no_worse_of_all n holds faults given new marks old (subst (λ (fs : List Fault). IsNoWorse n holds fs given new) rest is) in
    let by = known_by n holds limit refutes faults given new verdicts all known in
    (all, subst (λ (ms : List Bool). AreNever n new faults ms) (sym are) (never_redundant n holds limit refutes faults new verdicts by sound law))

pub unmarked-requires : goal.unmarked-requires
unmarked-requires g c =
    let marks = c.deref-2.ensures.value ∙ (c.in_ok-redundant.ensures ∙ ap (λ (vs : List Verdict). map is_redundant vs) c.deref.ensures.value) in
    record { size = ap length marks ∙ (length-map c.args.found.verdicts.items is_redundant ∙ c.requires.known.count) }

pub fewer-requires-clause-lines : goal.fewer-requires-clause-lines
fewer-requires-clause-lines g c κs within =
    let P : List Fault → Type 0 = λ fs. All (λ (f : Fault). IsLineOf c.args.errand.now.core.now f.line) fs in
    subst P (sym c.deref-3.ensures.value) (c.in_ok-left.ensures.lines c.args.errand.now.core.now c.requires.faults.lines)

pub compact_told-requires : goal.compact_told-requires
compact_told-requires g c =
    let n = c.args.errand.now.core.now in
    let faults = c.args.faults.now in
    let verdicts = c.args.found.verdicts.items in
    let left = c.deref-3.result.now in
    let marks = c.deref-2.ensures.value ∙ (c.in_ok-redundant.ensures ∙ ap (λ (vs : List Verdict). map is_redundant vs) c.deref.ensures.value) in
    let same : c.deref-4.result.now ≡ c.deref-2.result.now = c.deref-4.ensures.value ∙ sym c.deref-2.ensures.value in
    let rest = c.deref-3.ensures.value ∙ (c.in_ok-left.ensures.exactly ∙ ap (λ (ms : List Bool). unmarked ms faults) (sym same)) in
    let new = c.in_ok-told.told.patterns.items in
    let both = left_out n c.args.errand.now.holds.now c.args.plan.limit g.E.Engine.refutes faults left c.args.found.patterns.items new verdicts c.deref-4.result.now (subst IsSound c.netlist.ensures c.sound.ensures)
    c.shown_is_redundant.ensures c.requires.known (same ∙ marks) rest c.in_ok-told.ensures.fewer in
    record {
      count = c.requires.known.count;
      redundant = both.1;
      told = subst (λ (fs : List Fault). AllZip (LastDetected n new) fs c.in_ok-told.told.last.items) rest c.in_ok-told.ensures.told;
      few = omega (arith, c.requires.small, both.0.few);
    }

pub returns : goal.returns
returns g c =
    let n = c.args.errand.now.core.now in
    let holds = c.args.errand.now.holds.now in
    let faults = c.args.faults.now in
    let given = c.args.found.patterns.items in
    let fewer = c.in_ok-told.told.patterns.items in
    let verdicts = c.args.found.verdicts.items in
    let marks = c.deref-2.ensures.value ∙ (c.in_ok-redundant.ensures ∙ ap (λ (vs : List Verdict). map is_redundant vs) c.deref.ensures.value) in
    let rest = c.deref-3.ensures.value ∙ c.in_ok-left.ensures.exactly in
    let both = left_out n holds c.args.plan.limit g.E.Engine.refutes faults c.deref-3.result.now given fewer verdicts c.deref-2.result.now (subst IsSound c.netlist.ensures c.sound.ensures)
    c.shown_is_redundant.ensures c.requires.known marks rest c.in_ok-told.ensures.fewer in
    IfOk-weaker c.compact_told.result (λ (f : Finished). AreFinished n faults fewer verdicts f.patterns.items f.verdicts.items)
    (λ (f : Finished). AreChosen n holds 1 faults given verdicts f.patterns.items f.verdicts.items)
    (λ (f : Finished) done. chosen_once n holds faults given fewer f.patterns.items verdicts f.verdicts.items c.requires.small both.0 done) c.compact_told.ensures
