-- The text of a netlist's slow line is that of one in a report.
use Rattle.std.proofs.Common.{◌<◌, ◌++◌, ◌∙◌, Bool, length, codes, decimal, ap, arith, append_assoc}
use Rattle.statement.specs.declared.lines.Line.{Line as LineOf}
use Rattle.statement.specs.declared.lines.Line.TheVariants.{Stem, Pin, Out}
use Rattle.statement.specs.declared.lines.Fault.{Fault}
use Rattle.statement.specs.Netlists.{Netlist, name_of, signals}
use Rattle.statement.specs.Faults.{line_text}
use Rattle.netlist.specs.Conditions.{IsSound}
use Rattle.netlist.specs.Lines.{IsLineOf, signal_of}
use Rattle.netlist.proofs.WellFormed.{few_pins_of, names_counted}
use Rattle.report.specs.declared.models.FaultModel.TheVariants.{Transition}
use Rattle.report.specs.Reports.{IsFaultTextBy, at_stem, at_pin, at_output, slow_text}
use Rattle.run_report.proofs.WordLemmas.{name_word}
use Rattle.transition_report.specs.Texts.{transition_text}

line_said : (n : Netlist) → IsSound n → (l : LineOf) (v : Bool) → IsLineOf n l → signal_of l < length (signals n) → IsFaultTextBy Transition (line_text n l ++ slow_text v)
line_said n sound (Stem x) v is lt =
    at_stem (line_text n (Stem x) ++ slow_text v) (record {
      name = name_of n x;
      value = v;
      word = name_word n sound x (omega (arith, names_counted n sound, lt));
      text_is = append_assoc (codes "stem ") (name_of n x) (slow_text v);
    })
line_said n sound (Out y) v is lt =
    at_output (line_text n (Out y) ++ slow_text v) (record {
      name = name_of n y;
      value = v;
      word = name_word n sound y (omega (arith, names_counted n sound, lt));
      text_is = append_assoc (codes "out ") (name_of n y) (slow_text v);
    })
line_said n sound (Pin z k) v is lt =
    let name = name_of n z in
    let few = few_pins_of n sound.closed is.0 is.1 in
    at_pin (line_text n (Pin z k) ++ slow_text v) (record {
      name = name;
      place = k;
      value = v;
      word = name_word n sound z (omega (arith, names_counted n sound, lt));
      small = omega (arith, few, is.3);
      text_is = append_assoc (codes "pin ") (name ++ (codes " " ++ decimal k)) (slow_text v)
          ∙ ap (λ t. codes "pin " ++ t) (append_assoc name (codes " " ++ decimal k) (slow_text v) ∙ ap (λ t. name ++ t) (append_assoc (codes " ") (decimal k) (slow_text v)));
    })

pub slow_said : (n : Netlist) → IsSound n → (f : Fault) → IsLineOf n f.line → signal_of f.line < length (signals n) → IsFaultTextBy Transition (transition_text n f)
slow_said n sound f is lt = line_said n sound f.line f.value is lt
