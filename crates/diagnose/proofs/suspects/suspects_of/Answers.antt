use Rattle.std.proofs.Common.{length, ap, ◌∙◌}
use Rattle.scan_insert.specs.Scanned.{Insertion}
use Rattle.scan_insert.proofs.Ready.{sites_cover}
use Rattle.diagnose.proofs.Found.{signals_within}
use Rattle.diagnose.proofs.suspects.suspects_of.Goals as goal

pub all_suspects-requires : goal.all_suspects-requires
all_suspects-requires c =
    let d = c.requires in
    let cover = sites_cover d.design d.chains d.sound d.are_chains in
    signals_within d.design c.args.design.now.classes.now (length c.args.design.now.scanned.now.sites) d.sound d.are_classes c.faults_have_signals.ensures
    (ap (λ (s : Insertion). length s.sites) d.is_scanned ∙ cover)
