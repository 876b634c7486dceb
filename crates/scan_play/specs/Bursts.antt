-- How vectors are kept: cycles one behind the other that differ in a few inputs and outputs alone.
use Rattle.std.specs.Prelude.{ℕ, ◌*◌, Bool, List, ◌++◌, map, take, drop}
use Rattle.std.specs.List.{flat_map}
use Rattle.statement.specs.declared.kinds.Tri.{Tri}
use Rattle.statement.specs.Runs.{numbers_from, Cycle}
use Rattle.scan_play.specs.declared.cycles.Burst.{Burst}

-- cycle t: the first inputs and outputs are as in each cycle, and the others have their values of this one
abbrev pub cycle_at : List Bool → List Tri → Bool → ℕ → List Bool → List Tri → ℕ → Cycle
cycle_at drive strobe pulse width ins outs t = record {
  drive = drive ++ take width (drop (t * width) ins);
  strobe = strobe ++ take width (drop (t * width) outs);
  pulse = pulse;
}

abbrev pub cycle_of : Burst → ℕ → Cycle
cycle_of b t = cycle_at b.drive.items b.strobe.items b.pulse b.width b.ins.items b.outs.items t

abbrev pub cycles_of : Burst → List Cycle
cycles_of b = map (cycle_of b) (numbers_from 0 b.count)

abbrev pub all_cycles : List Burst → List Cycle
all_cycles bursts = flat_map cycles_of bursts
