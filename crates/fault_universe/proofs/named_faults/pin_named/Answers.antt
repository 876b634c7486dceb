use Rattle.fault_universe.proofs.NamedLines.{no_pin_blank, no_pin_name, no_pin_number, pin_text}
use Rattle.fault_universe.proofs.named_faults.pin_named.Goals as goal

pub returns-in_default : goal.returns-in_default
returns-in_default g c = no_pin_blank (g.N.SignalNames.named c.args.names.now) c.sound.ensures c.args.text.now c.in_default.ensures

pub returns-in_default-signal : goal.returns-in_default-signal
returns-in_default-signal g c =
    no_pin_name (g.N.SignalNames.named c.args.names.now) c.sound.ensures c.args.text.now c.in-Some.parts.0.now c.in-Some.parts.1.now c.in-Some.ensures.0 c.in-Some.ensures.1
    c.in_default-signal.ensures

pub returns-in-None : goal.returns-in-None
returns-in-None g c =
    no_pin_number (g.N.SignalNames.named c.args.names.now) c.sound.ensures c.args.text.now c.in-Some.parts.0.now c.in-Some.parts.1.now c.in-Some.ensures.0 c.in-Some.ensures.1
    c.in-None.ensures.cases

pub returns-in-Some-number : goal.returns-in-Some-number
returns-in-Some-number g c = (
  (c.in-Some-signal.ensures.0, c.in-Some-number.ensures.within),
  pin_text (g.N.SignalNames.named c.args.names.now) c.args.text.now c.in-Some.parts.0.now c.in-Some.parts.1.now c.in-Some-signal.z c.in-Some-number.k c.in-Some.ensures.1
      c.in-Some-signal.ensures.1 c.in-Some-number.ensures.cases,
)
