-- Laws of certificates, each the contract of a function of its name.
use Rattle.std.specs.Prelude.{ℕ, false, ◌≡◌, ◌++◌, List, codes}
use Rattle.std.specs.List.{All}
use Rattle.statement.specs.declared.lines.Fault.{Fault}
use Rattle.statement.specs.Netlists.{Netlist}
use Rattle.netlist.specs.Conditions.{IsSound}
use Rattle.evidence.specs.declared.kinds.Evidence.{Evidence}
use Rattle.evidence.specs.Evidence.{MayBe}
use Rattle.certificate.specs.Certificates.{IsCertificate}

-- bytes are the certificate of one list of evidence at most
abbrev pub OneCertificate : Type 0
OneCertificate =
    (n : Netlist) (bytes : List ℕ) (evidence others : List (Fault × Evidence)) → IsSound n → IsCertificate n bytes evidence → IsCertificate n bytes others → evidence ≡ others

-- a certificate that begins so has trees alone
abbrev pub FirstLineTells : Type 0
FirstLineTells =
    (n : Netlist) (bytes rest : List ℕ) (evidence : List (Fault × Evidence)) → IsCertificate n bytes evidence → bytes ≡ codes "atpg certificate 1\n" ++ rest
    → All (λ (p : Fault × Evidence). MayBe false p.1) evidence
