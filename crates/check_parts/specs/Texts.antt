-- Five texts, and why one that both checks read has no value.
use Rattle.std.specs.Prelude.{⊤, Err}
use Rattle.statement.specs.Benches.{Text}
use Rattle.statement.specs.Statement.{FiveFiles}
use Rattle.bench_text.specs.declared.refusal.Names.TheVariants.{Design}
use Rattle.bench_text.specs.declared.refusal.BenchFault.TheVariants.{Refused}
use Rattle.bench_text.specs.Reading.{IsRead}
use Rattle.good_files.specs.declared.answers.CheckFault.{CheckFault}
use Rattle.good_files.specs.declared.answers.CheckFault.TheVariants as fault
use Rattle.good_files.specs.Checks.{NoFile}
use Rattle.check_parts.specs.declared.texts.FiveTexts.{FiveTexts}

abbrev pub files_of : FiveTexts → FiveFiles
files_of t = record { net = t.net.now; scan = t.scan.now; stil = t.stil.now; certificate = t.certificate.now; report = t.report.now }

-- why a text has no value, text by text
abbrev pub IsNetFault : Text → CheckFault → Type 0
IsNetFault net (fault.Netlist refusal) = IsRead Design net (Err (Refused refusal))
IsNetFault net fault.NotStil = ⊥
IsNetFault net fault.NotCertificate = ⊥
IsNetFault net fault.NotReport = ⊥
IsNetFault net fault.NoMemory = ⊤

abbrev pub IsStilFault : Text → CheckFault → Type 0
IsStilFault stil (fault.Netlist refusal) = ⊥
IsStilFault stil fault.NotStil = NoFile stil
IsStilFault stil fault.NotCertificate = ⊥
IsStilFault stil fault.NotReport = ⊥
IsStilFault stil fault.NoMemory = ⊤
