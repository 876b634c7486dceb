use Rattle.std.proofs.Common.{Option, subst}
use Rattle.scan_play.specs.declared.played.Played.{Played}
use Rattle.scan_play.specs.Playing.{PlaysAs}
use Rattle.scan_play.specs.inner.Unmet.{or_passes}
use Rattle.scan_play.proofs.PlayLemmas.{plays_as}
use Rattle.scan_play.proofs.playing.play.Goals as goal

pub returns-in-None : goal.returns-in-None
returns-in-None c =
    subst (λ (x : Option Played). PlaysAs c.args.core.now c.args.fault c.args.vectors.now (or_passes x)) c.in-None.is
    (plays_as c.args.fault c.args.core.now c.args.vectors.now c.in_ok-play_before.field-0 c.requires.fits c.in_ok-play_before.ensures)

pub returns-in-Some : goal.returns-in-Some
returns-in-Some c =
    subst (λ (x : Option Played). PlaysAs c.args.core.now c.args.fault c.args.vectors.now (or_passes x)) c.in-Some.is
    (plays_as c.args.fault c.args.core.now c.args.vectors.now c.in_ok-play_before.field-0 c.requires.fits c.in_ok-play_before.ensures)
