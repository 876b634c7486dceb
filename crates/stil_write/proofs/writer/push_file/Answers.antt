use Rattle.std.proofs.Common.{◌++◌, length}
use Rattle.stil_write.specs.Texts.{burst_text, groups_text, head_text, pattern_text}
use Rattle.statement.specs.Stils.{procedures_by, signals_text, structures_text, timing_text}
use Rattle.stil_write.proofs.LoopLemmas.{behind}
use Rattle.stil_write.proofs.writer.push_file.Goals as goal

pub returns : goal.returns
returns c =
    let f = c.args.file.now in
    let procedures = procedures_by (length f.chains) f in
    let end = c.push_pattern.new.out.items in
    let rest6 = procedures ++ pattern_text f in
    let rest5 = burst_text ++ rest6 in
    let rest4 = structures_text f.chains ++ rest5 in
    let rest3 = timing_text f ++ rest4 in
    let rest2 = groups_text f ++ rest3 in
    let rest1 = signals_text f ++ rest2 in
    behind c.args.out.now.items c.extend_from_slice.new.self.items end head_text rest1 c.in_ok-extend_from_slice.ensures.items
    (behind c.extend_from_slice.new.self.items c.push_all_signals.new.out.items end (signals_text f) rest2 c.in_ok-push_all_signals.ensures
    (behind c.push_all_signals.new.out.items c.push_groups.new.out.items end (groups_text f) rest3 c.in_ok-push_groups.ensures
    (behind c.push_groups.new.out.items c.push_timing.new.out.items end (timing_text f) rest4 c.in_ok-push_timing.ensures
    (behind c.push_timing.new.out.items c.push_structures.new.out.items end (structures_text f.chains) rest5 c.in_ok-push_structures.ensures
    (behind c.push_structures.new.out.items c.extend_from_slice-2.new.self.items end burst_text rest6 c.in_ok-extend_from_slice-2.ensures.items
    (behind c.extend_from_slice-2.new.self.items c.push_procedures.new.out.items end procedures (pattern_text f) c.in_ok-push_procedures.ensures c.in_ok-push_pattern.ensures))))))
