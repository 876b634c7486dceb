use Rattle.std.proofs.Common.{◌∙◌}
use Rattle.diagnose.proofs.CutLemmas.{first_in_burst}
use Rattle.diagnose.proofs.cutting.first_of.Goals as goal

pub returns : goal.returns
returns c =
    let b = c.args.burst.now in
    first_in_burst b.pulse b.width c.args.count b.count b.drive.items c.in_ok-from_slice.field-0.items b.strobe.items c.in_ok-from_slice-2.field-0.items
    b.ins.items c.in_ok-from_slice-3.field-0.items b.outs.items c.in_ok-from_slice-4.field-0.items c.requires
    (c.in_ok-from_slice.ensures.items ∙ c.deref.ensures.value) (c.in_ok-from_slice-2.ensures.items ∙ c.deref-2.ensures.value)
    (c.in_ok-from_slice-3.ensures.items ∙ c.deref-3.ensures.value) (c.in_ok-from_slice-4.ensures.items ∙ c.deref-4.ensures.value)
