use Rattle.std.proofs.Common.{subst}
use Rattle.netlist.specs.Conditions.{IsSound}
use Rattle.certificate.proofs.NamedEvidence.{all_named}
use Rattle.file_calls.proofs.certificates.push_rewritten.Goals as goal

pub write_evidence-requires : goal.write_evidence-requires
write_evidence-requires c = all_named c.args.core.now (subst IsSound c.netlist.ensures c.sound.ensures) c.args.evidence.now c.requires.each
