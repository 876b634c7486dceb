use Rattle.std.proofs.Common.{◌++◌, ◌∷◌, ◌∙◌, ap, codes, length, List}
use Rattle.statement.specs.Benches.{Text}
use Rattle.statement.specs.Stils.{clock, numbered, scan_inputs, scan_outputs, where_chained}
use Rattle.stil_write.specs.Pieces.{waveform_lines}
use Rattle.stil_write.specs.Texts.{clock_form, drive_form, strobe_form, timing_head}
use Rattle.stil_write.proofs.LoopLemmas.{behind}
use Rattle.stil_write.proofs.writer.push_timing.Goals as goal

pub returns : goal.returns
returns c =
    let f = c.args.file.now in
    let n = ap length c.chains-chains.ensures in
    let drives = waveform_lines drive_form (codes "SC__pi" ∷ scan_inputs f) in
    let pulses = waveform_lines clock_form (clock f) in
    let strobes = waveform_lines strobe_form (codes "SC__po" ∷ scan_outputs f) in
    let tail = codes "    }\n  }\n}\n" in
    let o = c.extend_from_slice.new.self.items in
    let p = c.push_waveforms.new.out.items in
    let q = c.push_waveforms-2.new.out.items in
    let r = c.push_waveforms-3.new.out.items in
    let end = c.extend_from_slice-2.new.self.items in
    behind c.args.out.now.items o end timing_head (drives ++ (pulses ++ (strobes ++ tail))) c.in_ok-extend_from_slice.ensures.items
    (behind o p end drives (pulses ++ (strobes ++ tail))
    (c.in_ok-push_waveforms.ensures ∙ ap (λ (ns : List Text). o ++ waveform_lines drive_form ns) (c.in_ok-drives.ensures ∙ ap (λ k. codes "SC__pi" ∷ numbered (codes "SC__si") k) n))
    (behind p q end pulses (strobes ++ tail)
    (c.in_ok-push_waveforms-2.ensures ∙ ap (λ (ns : List Text). p ++ waveform_lines clock_form ns) (c.in_ok-clock.ensures ∙ ap (λ k. where_chained k (codes "SC__ck")) n))
    (behind q r end strobes tail
    (c.in_ok-push_waveforms-3.ensures ∙ ap (λ (ns : List Text). q ++ waveform_lines strobe_form ns) (c.in_ok-strobes.ensures ∙ ap (λ k. codes "SC__po" ∷ numbered (codes "SC__so") k) n))
    c.in_ok-extend_from_slice-2.ensures.items)))
