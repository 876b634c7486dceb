use Rattle.std.proofs.Common.{◌≡◌, ◌∙◌, ap, subst, sym}
use Rattle.statement.specs.Benches.{Text}
use Rattle.netlist.specs.Conditions.{IsSound}
use Rattle.statement.specs.Netlists.{Netlist}
use Rattle.scan_insert.specs.Scanned.{scanned_of}
use Rattle.good_files.specs.ScanOff.{design_chains}
use Rattle.atpg_top.specs.Sweeps.{sweep_chains}
use Rattle.atpg_top.specs.inner.Swept.{IsPassedText, IsPlayedText}
use Rattle.atpg_top.proofs.SweepLemmas.{on_ok, passed}
use Rattle.atpg_top.proofs.sweeping.play_back.Goals as goal

abbrev scanned_by : Netlist → Netlist
scanned_by n = scanned_of n (design_chains n sweep_chains)

pub play_text-played-requires : goal.play_text-played-requires
play_text-played-requires c =
    let n = c.args.core.now in
    let made = c.args.made.now in
    let sound : IsSound n = subst IsSound c.netlist-netlist.ensures c.sound.ensures in
    let scanned : c.in_ok-scanned.scanned ≡ scanned_by n = c.in_ok-scanned.ensures ∙ ap scanned_by c.netlist-netlist.ensures in
    subst (λ (m : Netlist). IsPassedText m c.as_slice.result.now) (sym scanned)
    (subst (λ (t : Text). IsPassedText (scanned_by n) t) (sym c.as_slice.ensures.value)
    (passed n made sound c.requires.design c.requires.run c.at_most_one.ensures c.files_fit.ensures c.file_vectors.ensures c.vectors_decide.ensures))

pub returns : goal.returns
returns c =
    let n = c.args.core.now in
    let scanned : c.in_ok-scanned.scanned ≡ scanned_by n = c.in_ok-scanned.ensures ∙ ap scanned_by c.netlist-netlist.ensures in
    on_ok c.play_text-played.result
    (λ played.
    let same = subst (λ (t : Text). IsPlayedText (scanned_by n) t) c.as_slice.ensures.value (subst (λ (m : Netlist). IsPlayedText m c.as_slice.result.now) scanned played) in
    record { file = same.file; read_back = same.read_back; plays = same.plays })
    c.play_text-played.ensures
