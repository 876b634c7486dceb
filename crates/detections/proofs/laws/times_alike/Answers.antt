use Rattle.detections.proofs.Counts.{times_alike}
use Rattle.detections.proofs.laws.times_alike.Goals as goal

pub returns : goal.returns
returns g n patterns most f f' times same h = times_alike n patterns most f f' times same h
