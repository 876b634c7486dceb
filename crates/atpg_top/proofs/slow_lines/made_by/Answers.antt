use Rattle.atpg_top.proofs.slow_lines.made_by.Goals as goal

pub returns : goal.returns
returns g c = c.transition_files.ensures
