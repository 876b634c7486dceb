-- What a test with unknown inputs claims of faults: the counts of claims, and a line for each fault.
use Rattle.std.specs.Prelude.{ℕ, ◌<◌, ⊤, Bool, true, false, List, codes, count_by, decimal, length, map, ◌++◌}
use Rattle.std.specs.List.{zip}
use Rattle.statement.specs.declared.lines.Fault.{Fault}
use Rattle.statement.specs.Netlists.{Netlist}
use Rattle.statement.specs.Faults.{fault_text}
use Rattle.scan_insert.specs.Names.{pin_name_of}
use Rattle.unknown_report.specs.declared.claims.Claim.{Claim}
use Rattle.unknown_report.specs.declared.claims.Claim.TheVariants.{Detected, Redundant, Undetected, Unknown}
use Rattle.unknown_report.specs.declared.claims.ClaimCounts.{ClaimCounts}

abbrev pub is_detected : Claim → Bool
is_detected (Detected cycle output) = true
is_detected Redundant = false
is_detected Undetected = false
is_detected Unknown = false

abbrev pub is_redundant : Claim → Bool
is_redundant (Detected cycle output) = false
is_redundant Redundant = true
is_redundant Undetected = false
is_redundant Unknown = false

abbrev pub is_undetected : Claim → Bool
is_undetected (Detected cycle output) = false
is_undetected Redundant = false
is_undetected Undetected = true
is_undetected Unknown = false

abbrev pub is_unknown : Claim → Bool
is_unknown (Detected cycle output) = false
is_unknown Redundant = false
is_unknown Undetected = false
is_unknown Unknown = true

abbrev pub counts_of : List Claim → ClaimCounts
counts_of claims = record {
  faults = length claims;
  detected = count_by is_detected claims;
  redundant = count_by is_redundant claims;
  undetected = count_by is_undetected claims;
  unknown = count_by is_unknown claims;
}

-- ` detected 12 SC__so0`, by the pins of the scanned netlist
abbrev pub claim_text : Netlist → Claim → List ℕ
claim_text s (Detected cycle output) = codes " detected " ++ (decimal cycle ++ (codes " " ++ pin_name_of s output))
claim_text s Redundant = codes " redundant"
claim_text s Undetected = codes " undetected"
claim_text s Unknown = codes " unknown"

-- the fault of the design, and what is claimed of it
abbrev pub claim_line : Netlist → Netlist → Fault → Claim → List ℕ
claim_line n s f claim = fault_text n f ++ claim_text s claim

-- a line for each fault
abbrev pub claim_lines : Netlist → Netlist → List Fault → List Claim → List (List ℕ)
claim_lines n s faults claims = map (λ (p : Fault × Claim). claim_line n s p.0 p.1) (zip faults claims)

-- the strobe that a claim names is one of an output
abbrev pub IsClaimOutput : Netlist → Claim → Type 0
IsClaimOutput s (Detected cycle output) = output < length s.outputs
IsClaimOutput s Redundant = ⊤
IsClaimOutput s Undetected = ⊤
IsClaimOutput s Unknown = ⊤
