-- The batch of patterns that are drawn, and which faults it leaves to be searched. (Fault dropping: Bushnell and Agrawal, Essentials of Electronic
-- Testing.)
use Rattle.std.specs.Prelude.{ℕ, Bool, true, false, List, length, replicate, None}
use Rattle.std.specs.List.{AllZip}
use Rattle.rand_core.specs.Stream.{Stream}
use Rattle.rand_core.specs.Steps.{stream_of, steps_u32}
use Rattle.rand_pcg.specs.Lcg.{started, increment_of}
use Rattle.rand_pcg.specs.Pcg.{multiplier_64, pcg32}
use Rattle.statement.specs.declared.lines.Fault.{Fault}
use Rattle.statement.specs.Netlists.{Netlist}
use Rattle.cubes.specs.Cubes.{Cube, open_cube}
use Rattle.statement.specs.Patterns.{Holds, Pattern}
use Rattle.cubes.specs.Filling.{filled_all}
use Rattle.transition_sim.specs.Detections.{IsDetected, LastTransition}

-- a fault is left where no pattern of the batch detects it
abbrev pub IsLeftBy : Netlist → List Pattern → Fault → Bool → Type 0
IsLeftBy n batch f true = LastTransition n batch f None
IsLeftBy n batch f false = IsDetected n batch f

-- which of the faults are left, in order
abbrev pub AreLeftBy : Netlist → List Pattern → List Fault → List Bool → Type 0
AreLeftBy n batch faults left = AllZip (IsLeftBy n batch) faults left

-- ---- the batch

-- so many patterns of one cube, each filled from the words that those before it leave
unfoldable pub drawn : ℕ → Cube → Stream → List Pattern
drawn count c words = filled_all (replicate count c) words

-- the words of the generator of a seed on this stream (O'Neill, PCG: XSH RR 64/32)
abbrev pub words_on_stream : ℕ → ℕ → Stream
words_on_stream stream seed = stream_of (steps_u32 pcg32) (started 64 multiplier_64 seed (increment_of 64 stream))

-- 64 patterns of the netlist, each bit of which is drawn from stream 1 of the seed but those of held inputs
abbrev pub batch_of : Netlist → Holds → ℕ → List Pattern
batch_of n holds seed = drawn 64 (open_cube n holds) (words_on_stream 1 seed)
