-- Where evidence is looked up, and the checkers for it.
use Rattle.std.specs.Prelude.{◌≡◌}
use Rattle.std.specs.List.{All}
use Rattle.netlist.specs.Conditions.{IsSound}
use Rattle.certificate.specs.Certificates.{IsEvidence}
use Rattle.redundancy_cert.specs.Checking.{Checking}
use Rattle.check_parts.specs.declared.ends.Lookup.{Lookup}
use Rattle.check_parts.specs.Firsts.{AreFirsts}

pub record IsLookup (l : Lookup) : Type 0 where
  pub sound : IsSound l.core.now
  pub evidence : All (IsEvidence l.core.now) l.evidence.now
  pub firsts : AreFirsts l.core.now l.evidence.now l.firsts.now

pub record AreCheckersOf (l : Lookup) (c : Checking) : Type 0 where
  pub netlist : c.netlist ≡ l.core.now
  pub holds : c.holds ≡ l.holds.now
