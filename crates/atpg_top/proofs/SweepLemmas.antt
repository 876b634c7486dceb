-- The test of good files, read back and played, and the lines that `sweep` shows.
use Rattle.std.proofs.Common.{◌≡◌, ◌∙◌, ◌++◌, [], None, Result, Ok, Err, ap, append_assoc, arith, length, subst, sym}
use Rattle.std.specs.Prelude.{OnOk}
use Rattle.std.proofs.lemmas.List.Elements.{All-nil}
use Rattle.statement.specs.Faults.{universe_of}
use Rattle.statement.specs.Patterns.{Holds}
use Rattle.run_files.specs.declared.asked.Wanted.{Wanted}
use Rattle.asked_run.specs.Asked.{IsWanted}
use Rattle.statement.specs.Benches.{Text}
use Rattle.statement.specs.Netlists.{Netlist}
use Rattle.netlist.specs.Conditions.{IsSound}
use Rattle.netlist.specs.Designs.{IsDesign}
use Rattle.scan_insert.specs.Scanned.{AreChainsOf, scanned_of}
use Rattle.scan_play.specs.Laws.{VectorsDecide}
use Rattle.scan_play.specs.Playing.{PlaysAs}
use Rattle.scan_play.specs.declared.played.Played.{Played}
use Rattle.scan_play.specs.declared.played.Played.TheVariants.{Passes}
use Rattle.stil_read.specs.Laws.{AtMostOne}
use Rattle.stil_read.specs.Reading.{StandsFor}
use Rattle.stil_patterns.specs.Laws.{FileVectors, FilesFit}
use Rattle.statement.specs.Tests.{vectors_in}
use Rattle.stil_vectors.specs.Fitting.{FitsNetlist}
use Rattle.statement.specs.Stils.{StilFile}
use Rattle.good_files.specs.GoodFiles.{AreGoodFiles, Contents, chains_in, chains_said}
use Rattle.good_files.specs.ScanOff.{design_chains}
use Rattle.run_files.specs.declared.files.RunFiles.{RunFiles}
use Rattle.run_files.specs.Runs.{contents_of, files_of}
use Rattle.atpg_top.specs.Sweeps.{IsSweepRun, sweep_chains}
use Rattle.atpg_top.specs.inner.Swept.{IsPassedText}
use Rattle.statement.specs.Statement.{FiveFiles}
use Rattle.good_files.proofs.Chains.{dealt}

-- ---- the run

-- a mark for each fault, and no pattern before the searches
pub is_wanted : (n : Netlist) (holds : Holds) (w : Wanted) → length w.faults.items ≡ length (universe_of n) → w.first.items ≡ [] → IsWanted n holds w
is_wanted n holds w marks none = record { faults = marks; first = rw none (All-nil _); few = omega (arith, ap length none) }

-- ---- the test

pub on_ok : {A E : Type 0} {P Q : Type 0} (r : Result A E) → (P → Q) → OnOk r P → OnOk r Q
on_ok (Ok x) f p = f p
on_ok (Err e) f p = tt

module _ (files : FiveFiles) (c : Contents) (sound : IsSound c.netlist) (design : IsDesign c.netlist) (good : AreGoodFiles files c) where
  -- the text stands for one file
  read_as : AtMostOne → (file : StilFile) → StandsFor files.stil file → file ≡ c.file
  read_as one file stands = one files.stil file c.file stands good.stand.stil

  chains_dealt : AreChainsOf c.netlist (chains_in c)
  chains_dealt = dealt c.netlist (chains_said c.said) good.tested.scan.allowed

  fits : AtMostOne → FilesFit → (file : StilFile) → StandsFor files.stil file → FitsNetlist file (scanned_of c.netlist (chains_in c))
  fits one law file stands =
      subst (λ (f : StilFile). FitsNetlist f (scanned_of c.netlist (chains_in c))) (sym (read_as one file stands))
      (law c.netlist good.tested.holds (chains_in c) good.tested.patterns c.file sound design chains_dealt good.tested.test.is_file_of)

  passes : AtMostOne → FileVectors → VectorsDecide → (file : StilFile) → StandsFor files.stil file
      → (answer : Played) → PlaysAs (scanned_of c.netlist (chains_in c)) None (vectors_in file) answer → answer ≡ Passes
  passes one vectors decide file stands answer plays =
      let n = c.netlist in
      let t = good.tested in
      let chains = chains_in c in
      let are = vectors n t.holds chains t.patterns c.file t.test.is_file_of in
      (decide n t.holds chains t.patterns (vectors_in c.file) sound chains_dealt are).good answer
      (subst (λ (f : StilFile). PlaysAs (scanned_of n chains) None (vectors_in f) answer) (read_as one file stands) plays)

-- the text of a run's test, and the netlist scanned as the run scans it
pub passed : (n : Netlist) (made : RunFiles) → IsSound n → IsDesign n → IsSweepRun n made → AtMostOne → FilesFit → FileVectors → VectorsDecide
    → IsPassedText (scanned_of n (design_chains n sweep_chains)) made.stil.items
passed n made sound design run one law vectors decide =
    let c = contents_of n run.file run.evidence made in
    let same : scanned_of n (design_chains n (chains_said made.said)) ≡ scanned_of n (design_chains n sweep_chains) = ap (scanned_of n) run.chains_are in
    subst (λ (m : Netlist). IsPassedText m made.stil.items) same
    (record {
      some = (run.file, run.good.stand.stil);
      fits = fits (files_of made) c sound design run.good one law;
      passes = passes (files_of made) c sound design run.good one vectors decide;
    })

-- ---- the lines

-- a text that has grown, and what is to come
behind : (before after line more : Text) → after ≡ before ++ line → after ++ more ≡ before ++ (line ++ more)
behind before after line more grown = ap (λ (t : Text). t ++ more) grown ∙ append_assoc before line more

three : (a b c more : Text) → (a ++ (b ++ c)) ++ more ≡ a ++ (b ++ (c ++ more))
three a b c more = append_assoc a (b ++ c) more ∙ ap (λ (t : Text). a ++ t) (append_assoc b c more)

four : (a b c d more : Text) → (a ++ (b ++ (c ++ d))) ++ more ≡ a ++ (b ++ (c ++ (d ++ more)))
four a b c d more = append_assoc a (b ++ (c ++ d)) more ∙ ap (λ (t : Text). a ++ t) (three b c d more)

-- the lines of three parts
pub shown_lines : (a b c d e f g h i end t0 t1 t2 t3 : Text) → t0 ≡ [] → t1 ≡ t0 ++ (a ++ (b ++ (c ++ d))) → t2 ≡ t1 ++ (e ++ (f ++ g)) → t3 ≡ t2 ++ (h ++ (i ++ end))
    → t3 ≡ a ++ (b ++ (c ++ (d ++ (e ++ (f ++ (g ++ (h ++ (i ++ end))))))))
shown_lines a b c d e f g h i end t0 t1 t2 t3 i0 i1 i2 i3 =
    let z = h ++ (i ++ end) in
    let y = e ++ (f ++ (g ++ z)) in
    i3 ∙ (behind t1 t2 (e ++ (f ++ g)) z i2 ∙ (ap (λ (t : Text). t1 ++ t) (three e f g z) ∙ (behind t0 t1 (a ++ (b ++ (c ++ d))) y i1
    ∙ (ap (λ (t : Text). t0 ++ t) (four a b c d y) ∙ ap (λ (t : Text). t ++ (a ++ (b ++ (c ++ (d ++ y))))) i0))))
