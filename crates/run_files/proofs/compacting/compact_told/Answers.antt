use Rattle.std.proofs.Common.{◌≡◌, ◌<◌, ℕ, Bool, List, Option, length, subst, sym, arith, vec_len}
use Rattle.std.specs.Prelude.{IfSome}
use Rattle.std.specs.List.{All, AllZip}
use Rattle.std.proofs.lemmas.Result.{IfOk-weaker}
use Rattle.std.proofs.lemmas.Slice.Zip.{AllZip-long}
use Rattle.statement.specs.Netlists.{Netlist}
use Rattle.statement.specs.declared.lines.Fault.{Fault}
use Rattle.statement.specs.declared.lines.Point.{Point}
use Rattle.statement.specs.Patterns.{Pattern}
use Rattle.word_sim.specs.Hits.{LastDetected}
use Rattle.word_sim.specs.Never.{AreNever, unmarked}
use Rattle.list_core.specs.declared.compaction.Finished.{Finished}
use Rattle.list_core.specs.Finished.{AreFinished}
use Rattle.list_core.specs.Kept.{AreLastDetected}
use Rattle.list_core.proofs.FinishLemmas.{last_within}
use Rattle.run_files.proofs.compacting.compact_told.Goals as goal

abbrev Told : Type 0
Told = Option (ℕ × Point)

-- what is told of those that aren't redundant, of all
all_told : (n : Netlist) (patterns : List Pattern) (faults : List Fault) (marks : List Bool) (told said last lasts : List Told) → said ≡ told → lasts ≡ last
    → AllZip (LastDetected n patterns) (unmarked marks faults) told → AreNever n patterns faults marks
    → ((m : Netlist) (ps : List Pattern) (fs : List Fault) → AreNever m ps fs marks → AllZip (LastDetected m ps) (unmarked marks fs) said → AllZip (LastDetected m ps) fs last)
    → AllZip (LastDetected n patterns) faults lasts
all_told n patterns faults marks told said last lasts tells shows are never law =
    subst (λ (os : List Told). AllZip (LastDetected n patterns) faults os) (sym shows)
    (law n patterns faults never (subst (λ (os : List Told). AllZip (LastDetected n patterns) (unmarked marks faults) os) (sym tells) are))

pub compact-requires : goal.compact-requires
compact-requires c =
    let n = c.args.core.now in
    let faults = c.args.faults.now in
    let patterns = c.args.told.patterns.items in
    let last = c.deref-2.result.now in
    let all = all_told n patterns faults c.args.redundant.now c.args.told.last.items c.deref.result.now c.in_ok-last.last.items last c.deref.ensures.value c.deref-2.ensures.value
    c.requires.told c.requires.redundant c.in_ok-last.ensures in
    let long = AllZip-long (LastDetected n patterns) faults last all in
    let count : length patterns ≡ vec_len c.args.told.patterns = omega (arith, c.args.told.patterns.ok.0) in
    let P : ℕ → Type 0 = λ k. All (λ (l : Told). IfSome l (λ p. p.0 < k)) last in
    record {
      size = omega (arith, long, c.requires.count, c.args.verdicts.ok.0);
      within = subst P count (last_within n patterns faults last all);
      few = omega (arith, c.requires.few, count);
    }

pub returns : goal.returns
returns c =
    let n = c.args.core.now in
    let faults = c.args.faults.now in
    let patterns = c.args.told.patterns.items in
    let verdicts = c.args.verdicts.items in
    let last = c.deref-2.result.now in
    let all : AreLastDetected n patterns faults last =
    all_told n patterns faults c.args.redundant.now c.args.told.last.items c.deref.result.now c.in_ok-last.last.items last c.deref.ensures.value c.deref-2.ensures.value c.requires.told
    c.requires.redundant c.in_ok-last.ensures in
    IfOk-weaker c.compact.result
    (λ (f : Finished). (m : Netlist) (fs : List Fault) → AreLastDetected m patterns fs last → AreFinished m fs patterns verdicts f.patterns.items f.verdicts.items)
    (λ (f : Finished). AreFinished n faults patterns verdicts f.patterns.items f.verdicts.items) (λ (f : Finished) told. told n faults all) c.compact.ensures
