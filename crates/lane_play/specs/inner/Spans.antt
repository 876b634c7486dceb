-- Which machines may be stuck at the lines that a signal names.
use Rattle.std.specs.Prelude.{ℕ, ◌≡◌, ◌<◌, ◌≤◌, List, length, slice_index_or}
use Rattle.statement.specs.declared.lines.Fault.{Fault}
use Rattle.netlist.specs.Lines.{signal_of}
use Rattle.lane_play.specs.declared.spans.Span.{Span}

-- of the first m machines none outside of the span is stuck at a line that the signal names
pub record IsSpanned (faults : List Fault) (m x : ℕ) (span : Span) : Type 0 where
  pub within : span.to ≤ length faults
  pub inside : (j : ℕ) (d : Fault) → j < m → signal_of (slice_index_or faults j d).line ≡ x → (span.from ≤ j) × (j < span.to)

-- a span for each signal
abbrev pub AreSpans : List Fault → ℕ → List Span → Type 0
AreSpans faults m spans = (x : ℕ) (d : Span) → x < length spans → IsSpanned faults m x (slice_index_or spans x d)
