-- What a check of evidence finds.
use Rattle.std.specs.Prelude.{◌≡◌, ⊤, MatchOption, Option}
use Rattle.std.specs.List.{All}
use Rattle.statement.specs.Netlists.{Netlist}
use Rattle.redundancy_cert.specs.declared.counts.Counts.{Counts}
use Rattle.redundancy_cert.specs.Trees.{DecidesSignal}
use Rattle.evidence.specs.declared.kinds.Evidence.{Evidence}
use Rattle.evidence.specs.declared.kinds.Evidence.TheVariants.{Tree, Refutation}
use Rattle.evidence.specs.Evidence.{closed_ends, open_ends}

-- a tree decides signals of the netlist
abbrev pub NamesSignals : Netlist → Evidence → Type 0
NamesSignals n (Tree nodes) = All (DecidesSignal n) nodes
NamesSignals n (Refutation steps) = ⊤

-- so many ends of each kind
pub record AreEndCounts (e : Evidence) (counts : Counts) : Type 0 where
  pub closed : counts.closed ≡ closed_ends e
  pub left_open : counts.left_open ≡ open_ends e

-- it shows what it should, with so many ends; or it doesn't
abbrev pub AreShown : Type 0 → Evidence → Option Counts → Type 0
AreShown shows e ends = MatchOption ends (¬ shows) (λ counts. shows × AreEndCounts e counts)
