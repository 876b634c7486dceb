use Rattle.std.proofs.Common.{refl}
use Rattle.atpg_top.proofs.sweeping.work.Goals as goal

pub returns-in-Ok : goal.returns-in-Ok
returns-in-Ok g c =
    let s = c.in-Ok.ensures in
    let none = c.new.ensures.items in
    ((s.0, s.1, rw (none, s.2) refl), rw none refl)
