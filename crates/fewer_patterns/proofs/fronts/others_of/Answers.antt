use Rattle.std.proofs.Common.{◌∙◌, ap, length}
use Rattle.std.proofs.lemmas.List.{length-map}
use Rattle.fewer_patterns.specs.inner.Enough.{is_told}
use Rattle.fewer_patterns.proofs.fronts.others_of.Goals as goal

pub unmarked-requires : goal.unmarked-requires
unmarked-requires c =
    let marks = c.deref.ensures.value ∙ c.in_ok-marks.ensures in
    record { size = ap length marks ∙ (length-map c.args.last.now is_told ∙ c.requires) }
