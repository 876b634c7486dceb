-- Certificates and reports of transition faults as texts: those of stuck lines, with first lines of their own, the transition faults' texts,
-- and the names of the two frames.
use Rattle.std.specs.Prelude.{if◌then◌else◌, ℕ, ◌<◌, Bool, List, [], ◌∷◌, ◌++◌, codes, length}
use Rattle.std.specs.List.{flat_map}
use Rattle.statement.specs.declared.lines.Fault.{Fault}
use Rattle.statement.specs.Netlists.{Netlist, signals}
use Rattle.netlist.specs.Lines.{IsLineOf, signal_of}
use Rattle.statement.specs.Faults.{line_text}
use Rattle.evidence.specs.declared.kinds.Evidence.{Evidence}
use Rattle.certificate.specs.Certificates.{evidence_text, has_refutation, HasSignals}
use Rattle.report.specs.Reports.{Hold, slow_text}
use Rattle.report.specs.Texts.{counts_text, hold_line, share_line}
use Rattle.statement.specs.Reports.{fault_line}
use Rattle.transition_frames.specs.Frames.{frames_of}
use Rattle.transition_report.specs.declared.reporting.TransitionReport.{TransitionReport}

-- `stem x rise`, `pin z 3 fall`
abbrev pub transition_text : Netlist → Fault → List ℕ
transition_text n f = line_text n f.line ++ slow_text f.value

-- a fault, and its evidence by the names of these two frames
abbrev pub transition_line : Netlist → Netlist → Fault × Evidence → List ℕ
transition_line n two p = transition_text n p.0 ++ (evidence_text two p.1 ++ codes "\n")

-- whether there are refutations
abbrev pub transition_first_line : Bool → List ℕ
transition_first_line refutes = if refutes then codes "atpg transition certificate 2\n" else codes "atpg transition certificate 1\n"

abbrev pub transition_certificate : Netlist → List (Fault × Evidence) → List ℕ
transition_certificate n evidence =
    transition_first_line (has_refutation evidence) ++ flat_map (λ (p : Fault × Evidence). transition_line n (frames_of n p.0) p) evidence

-- a line of the netlist, and evidence whose tree decides signals of its two frames
pub record IsNamedInFrames (n : Netlist) (p : Fault × Evidence) : Type 0 where
  pub line : IsLineOf n p.0.line
  pub signal : signal_of p.0.line < length (signals n)
  pub signals : HasSignals (frames_of n p.0) p.1

-- The second version is written exactly where an input is held.
abbrev pub transition_head : List Hold → List ℕ
transition_head [] = codes "atpg transition 1\n"
transition_head (h ∷ hs) = codes "atpg transition 2\n"

abbrev pub transition_report_text : TransitionReport → List ℕ
transition_report_text r =
    transition_head r.holds
    ++ (counts_text r.counts
    ++ (share_line (codes "coverage ") r.coverage
    ++ (share_line (codes "efficiency ") r.efficiency
    ++ (flat_map hold_line r.holds
    ++ flat_map fault_line r.lines))))
