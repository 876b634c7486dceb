-- What a look at a step stands on stays while the sets grow.
use Rattle.std.proofs.Common.{ℕ, ◌∙◌}
use Rattle.statement.specs.declared.lines.Fault.{Fault}
use Rattle.statement.specs.Netlists.{Netlist}
use Rattle.refutation_check.specs.declared.bases.Basis.{Basis}
use Rattle.refutation_check.specs.inner.Bases.{AreSetsFor, IsBasisOf}
use Rattle.refutation_check.specs.inner.Trails.{Trailed, Grows}
use Rattle.refutation_check.proofs.CheckLemmas.{grows_longer}
use Rattle.refutation_check.proofs.LookLemmas.{calm_grows}

pub sets_stay : (n : Netlist) (f : Fault) (from : ℕ) (old new : Trailed) → Grows old new → AreSetsFor n f from old → AreSetsFor n f from new
sets_stay n f from old new g s = record {
  sound = s.sound;
  line = s.line;
  size = g.size ∙ s.size;
  begun = grows_longer old new from g s.begun;
  calm = calm_grows n f old new from g s.begun s.calm;
}

pub basis_stays : (b : Basis) (old new : Trailed) → Grows old new → IsBasisOf old b → IsBasisOf new b
basis_stays b old new g h = record { sets = sets_stay b.netlist.now b.fault.now b.from old new g h.sets; lemmas = h.lemmas }
