use Rattle.std.proofs.Common.{sym, subst}
use Rattle.fan.specs.inner.Searching.{IsOnPath, IsGoing}
use Rattle.fan.proofs.Beside.{chosen_if}
use Rattle.fan.proofs.Looked.{on_path}
use Rattle.fan.proofs.searching.decide.Goals as goal

pub choose-aim-requires-clause-at : goal.choose-aim-requires-clause-at
choose-aim-requires-clause-at c =
    subst (λ ss. IsOnPath c.args.roled.now.case c.args.labels.now ss) (sym c.deref.ensures.value) (on_path c.args.roled.now c.requires.case.roles c.requires.at)

pub choose-aim-requires-clause-going : goal.choose-aim-requires-clause-going
choose-aim-requires-clause-going c =
    subst (λ ss. IsGoing c.args.roled.now.case ss) (sym c.deref.ensures.value) c.requires.going

pub split-requires-clause-chosen : goal.split-requires-clause-chosen
split-requires-clause-chosen c =
    chosen_if c.args.roled.now.case (on_path c.args.roled.now c.requires.case.roles c.requires.at) c.requires.going c.choose-aim.ensures.free

pub hurry-requires-clause-chosen : goal.hurry-requires-clause-chosen
hurry-requires-clause-chosen c =
    chosen_if c.args.roled.now.case (on_path c.args.roled.now c.requires.case.roles c.requires.at) c.requires.going c.choose-aim.ensures.free
