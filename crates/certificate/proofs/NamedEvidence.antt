-- Evidence that shows something has a text, and what is read can be written.
use Rattle.std.proofs.Common.{◌<◌, List}
use Rattle.std.specs.List.{All, Contains}
use Rattle.std.proofs.lemmas.List.Elements.{All-weaker}
use Rattle.statement.specs.declared.lines.Line.{Line}
use Rattle.statement.specs.declared.lines.Line.TheVariants.{Stem, Pin, Out}
use Rattle.statement.specs.declared.lines.Fault.{Fault}
use Rattle.statement.specs.Netlists.{Netlist}
use Rattle.statement.specs.Patterns.{Holds}
use Rattle.statement.specs.Faults.{universe_of}
use Rattle.netlist.specs.Conditions.{IsSound}
use Rattle.netlist.specs.Netlist.{signal_count}
use Rattle.netlist.specs.Lines.{signal_of}
use Rattle.fault_universe.specs.inner.Written.{IsWritten}
use Rattle.evidence.specs.declared.kinds.Evidence.{Evidence}
use Rattle.evidence.specs.declared.kinds.Evidence.TheVariants.{Tree, Refutation}
use Rattle.evidence.specs.Evidence.{Shows}
use Rattle.certificate.specs.Certificates.{HasSignals, HasSmallNumbers, IsEvidence, IsNamed, IsWellFormed}
use Rattle.certificate.proofs.FaultTexts.{member_written}
use Rattle.certificate.proofs.NamedTrees.{nodes_named}

written_signal : (n : Netlist) (l : Line) → IsWritten n l → signal_of l < signal_count n
written_signal n (Stem x) w = w
written_signal n (Pin z k) w = w.0
written_signal n (Out y) w = w

formed_signals : (n : Netlist) (e : Evidence) → IsWellFormed n e → HasSignals n e
formed_signals n (Tree nodes) formed = formed.0
formed_signals n (Refutation steps) formed = tt

module _ (n : Netlist) (sound : IsSound n) where
  pub member_signal : (f : Fault) → Contains (universe_of n) f → signal_of f.line < signal_count n
  member_signal f m = written_signal n f.line (member_written n sound f m)

  pub all_named : (evidence : List (Fault × Evidence)) → All (IsEvidence n) evidence → All (IsNamed n) evidence
  all_named evidence each =
      All-weaker (IsEvidence n) (IsNamed n) (λ p is. record { fault = member_signal p.0 is.fault; signals = formed_signals n p.1 is.formed }) evidence each

  module _ (f : Fault) (holds : Holds) where
    pub shown_named : (e : Evidence) → Shows f n holds e → HasSignals n e
    shown_named (Tree nodes) shows = nodes_named n sound f holds nodes shows
    shown_named (Refutation steps) shows = tt

    pub shown_formed : (e : Evidence) → Shows f n holds e → HasSmallNumbers e → IsWellFormed n e
    shown_formed (Tree nodes) shows small = (nodes_named n sound f holds nodes shows, (shows.0, shows.1))
    shown_formed (Refutation steps) shows small = small
