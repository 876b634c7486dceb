-- What stands in a line of a certificate.
use Rattle.std.specs.Prelude.{ℕ, ◌≡◌, ◌≢◌, ◌++◌, List, Option, None, Some}
use Rattle.std.specs.List.{All, Contains, flat_map}
use Rattle.statement.specs.declared.lines.Fault.{Fault}
use Rattle.statement.specs.declared.lines.Line.{Line}
use Rattle.statement.specs.Netlists.{Netlist}
use Rattle.statement.specs.Faults.{line_text, universe_of}
use Rattle.fault_universe.specs.Universe.{all_lines}
use Rattle.evidence.specs.declared.kinds.Evidence.{Evidence}
use Rattle.certificate.specs.Certificates.{IsWellFormed, evidence_text}
use Rattle.certificate.specs.Words.{IsEnd}
use Rattle.transition_frames.specs.Frames.{frames_of}
use Rattle.transition_report.specs.Texts.{transition_line, transition_text}
use Rattle.transition_report.specs.Reading.{IsTransitionEvidence}

-- the line of faults that is written so, if there is one
abbrev pub IsLineFound : Netlist → List ℕ → Option Line → Type 0
IsLineFound n text None = (line : Line) → Contains (all_lines n) line → text ≢ line_text n line
IsLineFound n text (Some line) = Contains (all_lines n) line × (text ≡ line_text n line)

-- the text begins with the fault
pub record IsSlowFaultAt (n : Netlist) (text : List ℕ) (fault : Fault) (rest : List ℕ) : Type 0 where
  pub member : Contains (universe_of n) fault
  pub parts : text ≡ transition_text n fault ++ rest
  pub end : IsEnd rest

abbrev pub NoSlowFaultAt : Netlist → List ℕ → Type 0
NoSlowFaultAt n text = (fault : Fault) (rest : List ℕ) → ¬ IsSlowFaultAt n text fault rest

-- a fault of the netlist, and evidence on the signals of these two frames
pub record IsWrittenIn (n two : Netlist) (p : Fault × Evidence) : Type 0 where
  pub fault : Contains (universe_of n) p.0
  pub formed : IsWellFormed two p.1

-- two frames, in which some line is slow
abbrev pub IsFramed : Netlist → Netlist → Type 0
IsFramed n two = (slow : Fault) × (two ≡ frames_of n slow)

-- a line without its end
abbrev pub slow_words : Netlist → Netlist → Fault × Evidence → List ℕ
slow_words n two p = transition_text n p.0 ++ evidence_text two p.1

pub record IsSlowLine (n two : Netlist) (line : List ℕ) (p : Fault × Evidence) : Type 0 where
  pub written : IsWrittenIn n two p
  pub text : line ≡ slow_words n two p

-- the text has these lines, by the names of these two frames
pub record AreLinesIn (n two : Netlist) (text : List ℕ) (evidence : List (Fault × Evidence)) : Type 0 where
  pub each : All (IsWrittenIn n two) evidence
  pub is : text ≡ flat_map (transition_line n two) evidence

-- and each by the names of its own
pub record AreSlowLines (n : Netlist) (text : List ℕ) (evidence : List (Fault × Evidence)) : Type 0 where
  pub each : All (IsTransitionEvidence n) evidence
  pub is : text ≡ flat_map (λ (p : Fault × Evidence). transition_line n (frames_of n p.0) p) evidence
