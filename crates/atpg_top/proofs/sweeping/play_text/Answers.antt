use Rattle.atpg_top.proofs.SweepLemmas.{on_ok}
use Rattle.atpg_top.proofs.sweeping.play_text.Goals as goal

pub play_passing-played-requires-clause-passes : goal.play_passing-played-requires-clause-passes
play_passing-played-requires-clause-passes c = c.requires.passes c.in_ok-file.file c.in_ok-file.ensures

pub returns : goal.returns
returns c = on_ok c.play_passing-played.result (λ plays. record { file = c.in_ok-file.file; read_back = c.in_ok-file.ensures; plays = plays }) c.play_passing-played.ensures
