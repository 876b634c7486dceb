-- The least kind of refusal that applies to a line.
use Rattle.std.proofs.Common.{◌≡◌, ℕ, Bool, true, false, cond, List, refl, sym, ap, ◌∙◌}
use Rattle.std.specs.Prelude.{Option, Some, None, Err, unwrap_or}
use Rattle.bench_text.specs.declared.draft.Draft.{Draft}
use Rattle.bench_text.specs.declared.refusal.Names.{Names}
use Rattle.bench_text.specs.declared.refusal.BenchKind.{BenchKind}
use Rattle.bench_text.specs.declared.refusal.BenchKind.TheVariants.{BadByte, BadLine, UnknownGate, BadPins, DefinedTwice, Reserved}
use Rattle.bench_text.specs.declared.refusal.LineRefusal.{LineRefusal}
use Rattle.bench_text.specs.declared.refusal.LineRefusal.TheVariants.{NoMemory, Refused}
use Rattle.bench_text.specs.Refusals.{says, line_refusal, defines_one_of, has_reserved_name, has_unknown_gate, holds}
use Rattle.bench_text.specs.inner.OneLine.{own_refusal}
use Rattle.bench_text.specs.inner.LineRead.{IsLine, IsRefusal}
use Rattle.bench_text.specs.Forms.{Statement, Nothing}
use Rattle.bench_text.specs.Texts.{statement_on, signals_of}
use Rattle.bench_text.specs.Said.{statements_of}
use Rattle.bench_text.specs.inner.Drafted.{signals_in, Keeps}
use Rattle.bench_text.proofs.Lists.{false_if}

-- the first four kinds, and what comes after them
abbrev after_four : Bool → Bool → Bool → Bool → Option BenchKind → Option BenchKind
after_four a b c d rest = cond a (Some BadByte) (cond b (Some BadLine) (cond c (Some UnknownGate) (cond d (Some BadPins) rest)))

none_of_four : (a b c d : Bool) (rest : Option BenchKind) → after_four a b c d None ≡ None → after_four a b c d rest ≡ rest
none_of_four true b c d rest h = cc
none_of_four false true c d rest h = cc
none_of_four false false true d rest h = cc
none_of_four false false false true rest h = cc
none_of_four false false false false rest h = refl

one_of_four : (a b c d : Bool) (rest : Option BenchKind) (k : BenchKind) → after_four a b c d None ≡ Some k → after_four a b c d rest ≡ Some k
one_of_four true b c d rest k h = h
one_of_four false true c d rest k h = h
one_of_four false false true d rest k h = h
one_of_four false false false true rest k h = h
one_of_four false false false false rest k h = cc

module _ (reading : Names) (before : List (List ℕ)) (line : List ℕ) where
  pub refusal-own : (k : BenchKind) → own_refusal reading line ≡ Some k → line_refusal reading before line ≡ Some k
  unfolding own_refusal line_refusal
  refusal-own k h = one_of_four _ _ _ _ _ k h

  module _ (s : Statement) (fine : own_refusal reading line ≡ None) (e : says reading line ≡ Some s) where
    pub refusal-twice : defines_one_of before s ≡ true → line_refusal reading before line ≡ Some DefinedTwice
    unfolding own_refusal line_refusal
    refusal-twice h = none_of_four _ _ _ _ _ fine ∙ (rw (e, h) refl)

    pub refusal-reserved : defines_one_of before s ≡ false → has_reserved_name reading s ≡ true → line_refusal reading before line ≡ Some Reserved
    unfolding own_refusal line_refusal
    refusal-reserved h k = none_of_four _ _ _ _ _ fine ∙ (rw (e, h, k) refl)

    pub refusal-none : defines_one_of before s ≡ false → has_reserved_name reading s ≡ false → line_refusal reading before line ≡ None
    unfolding own_refusal line_refusal
    refusal-none h k = none_of_four _ _ _ _ _ fine ∙ (rw (e, h, k) refl)

  pub said-says : (s : Statement) → says reading line ≡ Some s → statement_on reading line ≡ s
  said-says s e = ap (λ o. unwrap_or o Nothing) e

  pub line_err : (A : Type 0) (e : LineRefusal) → IsLine reading line (Err e) → IsRefusal {A = A} (line_refusal reading before line) (Err e)
  line_err A NoMemory h = tt
  line_err A (Refused k) h = refusal-own k h

-- a line that is fine on its own has a known gate
pub known-gate : (reading : Names) (line : List ℕ) (s : Statement) → own_refusal reading line ≡ None → says reading line ≡ Some s → has_unknown_gate s ≡ false
unfolding own_refusal
known-gate reading line s h e = false_if _ (λ (t : has_unknown_gate s ≡ true). let k : has_unknown_gate_of (says reading line) ≡ true = ap has_unknown_gate_of e ∙ t in unknown _ _ _ _ k h)
  where
    has_unknown_gate_of : Option Statement → Bool
    has_unknown_gate_of o = holds has_unknown_gate o

    unknown : (a b c d : Bool) → c ≡ true → after_four a b c d None ≡ None → ⊥
    unknown true b c d k h = cc
    unknown false true c d k h = cc
    unknown false false true d k h = cc
    unknown false false false d k h = cc

-- what the code tested, in the line's words
pub tested : (before now : List (List ℕ)) (s t : Statement) (r b : Bool) → now ≡ before → t ≡ s → r ≡ defines_one_of now t → r ≡ b → defines_one_of before s ≡ b
tested before now s t r b e f g h = (λ i. defines_one_of (sym e i) (sym f i)) ∙ sym g ∙ h

pub signals-kept : (old new : Draft) → Keeps old new → signals_in new ≡ signals_in old
signals-kept old new k = ap (λ notes. signals_of (statements_of notes)) k.said
