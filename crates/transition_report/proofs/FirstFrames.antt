-- The frames in which the first input is slow, which every design has.
use Rattle.std.proofs.Common.{false, map, get_or}
use Rattle.std.proofs.lemmas.List.Elements.{Contains-append_left, Contains-get_or}
use Rattle.statement.specs.declared.lines.Fault.{Fault}
use Rattle.statement.specs.declared.lines.Line.TheVariants.{Stem}
use Rattle.statement.specs.Netlists.{Definition, Netlist}
use Rattle.netlist.specs.Conditions.{IsSound}
use Rattle.netlist.specs.Designs.{IsDesign}
use Rattle.netlist.specs.Lines.{IsLineOf}
use Rattle.transition_frames.specs.Frames.{frames_of}
use Rattle.transition_frames.proofs.Soundness.{frames_sound}

abbrev pub first_slow : Netlist → Fault
first_slow n = record { line = Stem (get_or n.inputs 0 0); value = false }

pub first_is_line : (n : Netlist) → IsSound n → IsLineOf n (first_slow n).line
first_is_line n sound =
    Contains-append_left n.inputs (map (λ (d : Definition). d.id) n.definitions) (get_or n.inputs 0 0) (Contains-get_or n.inputs 0 0 sound.sized.input)

pub first_framed : (n : Netlist) → IsSound n → IsDesign n → IsSound (frames_of n (first_slow n))
first_framed n sound design = frames_sound n sound design (first_slow n) (first_is_line n sound)
