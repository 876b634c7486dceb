-- What an evaluation answers.
use Rattle.std.specs.Prelude.{◌≡◌, Bool, false, List, length, Option}
use Rattle.statement.specs.declared.lines.Fault.{Fault}
use Rattle.statement.specs.Netlists.{Netlist, signals}
use Rattle.statement.specs.Values.{Settles, bits, outs, next}
use Rattle.netlist.specs.Settled.{at}

-- the settled bit of each signal, of each output pin and of each cell's pin, with or without a fault
pub record AreSettledBits (n : Netlist) (f : Option Fault) (inputs state : List Bool) (signal_bits output_bits cell_bits : List Bool) : Type 0 where
  pub size : length signal_bits ≡ length (signals n)
  pub settles : Settles (bits f) n inputs state (at signal_bits false)
  pub outputs : output_bits ≡ outs (bits f) n (at signal_bits false)
  pub cells : cell_bits ≡ next (bits f) n (at signal_bits false)
