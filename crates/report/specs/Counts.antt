-- The counts of a report, in the order of its text.
use Rattle.std.specs.Prelude.{ℕ, ◌≡◌, ◌<◌, ◌^◌, List, [], ◌∷◌, codes}
use Rattle.std.specs.List.{All}
use Rattle.report.specs.declared.counts.ReportCounts.{ReportCounts}

-- each count behind its word, but that of faults that weren't asked for
abbrev pub worded : ReportCounts → List (List ℕ × ℕ)
worded c =
    (codes "inputs ", c.inputs) ∷ (codes "outputs ", c.outputs) ∷ (codes "gates ", c.gates) ∷ (codes "cells ", c.cells) ∷ (codes "chains ", c.chains)
    ∷ (codes "faults ", c.faults) ∷ (codes "classes ", c.classes) ∷ (codes "patterns ", c.patterns) ∷ (codes "cycles ", c.cycles) ∷ (codes "limit ", c.limit)
    ∷ (codes "detected ", c.detected) ∷ (codes "redundant ", c.redundant) ∷ (codes "aborted ", c.aborted) ∷ (codes "untested ", c.untested) ∷ []

-- each is a number of 64 bits
abbrev pub AreSmallCounts : ReportCounts → Type 0
AreSmallCounts c = All (λ (p : List ℕ × ℕ). p.1 < 2 ^ 64) (worded c) × (c.unasked < 2 ^ 64)

-- and none weren't asked for
abbrev pub AreAllAsked : ReportCounts → Type 0
AreAllAsked c = AreSmallCounts c × (c.unasked ≡ 0)
