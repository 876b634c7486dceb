-- The first strobe that is known to be wrong, where a line of a shift path is stuck.
use Rattle.std.proofs.Common.{◌≡◌, ◌≢◌, ◌⊎◌, ℕ, ◌+◌, ◌*◌, ◌<◌, ◌≤◌, Bool, true, false, not, List, [], ◌∷◌, length, replicate, Option, Some, None, slice_get, refl, sym, ◌∙◌, ap, ap₂, subst, inl, inr, arith}
use Rattle.std.specs.List.{All, zip, Contains}
use Rattle.std.proofs.lemmas.Bool.{cases_lt}
use Rattle.std.proofs.lemmas.List.{length-replicate}
use Rattle.statement.specs.declared.kinds.Tri.TheVariants.{X}
use Rattle.statement.specs.declared.lines.Fault.{Fault}
use Rattle.statement.specs.Netlists.{Netlist, cells}
use Rattle.netlist.specs.Conditions.{IsSound}
use Rattle.statement.specs.Values.{bit_table, known}
use Rattle.statement.specs.Runs.{Cycle, shown_at, Runs}
use Rattle.scan_play.specs.Cycles.{IsCycleOf}
use Rattle.scan_play.specs.Passing.{IsWrong}
use Rattle.scan_play.proofs.RunLaws.{some_run}
use Rattle.chain_test.specs.FirstWrong.{IsFirstWrong}
use Rattle.chain_test.specs.Laws.{FirstFailsAt, FlushTold, IsFlushCycle}
use Rattle.statement.specs.Patterns.{Holds, Pattern}
use Rattle.netlist.specs.Holds.{AreHoldsOf}
use Rattle.statement.specs.Tests.{longest_of, Response}
use Rattle.scan_insert.specs.Scanned.{AreChainsOf, scanned_of}
use Rattle.scan_insert.proofs.Concrete.{bits_multiplex}
use Rattle.scan_play.specs.Vectors.{vectors}
use Rattle.scan_play.proofs.Instances.{tris_multiplex}
use Rattle.scan_play.proofs.Places.{longest_above}
use Rattle.tri.specs.Settled.{tri_table}
use Rattle.chain_test.specs.ShiftPaths.{shift_path}
use Rattle.chain_test.proofs.FlushFails.{flush_fails, flush_shows, some}
use Rattle.chain_test.proofs.KnownWrongs.{known_fails}

bits_differ : (b v : Bool) (o : Option Bool) → o ≡ Some b → o ≡ Some v → v ≡ not b → ⊥
bits_differ true v o p q e = let h : Some true ≡ Some false = sym p ∙ (q ∙ ap (λ x. Some x) e) in cc
bits_differ false v o p q e = let h : Some false ≡ Some true = sym p ∙ (q ∙ ap (λ x. Some x) e) in cc

module _ (s : Netlist) (sound : IsSound s) (g : Fault) (cycles : List Cycle) (fit : All (IsCycleOf s) cycles) (c o : ℕ) (fails : FirstFailsAt s g cycles c o) where
  run : (shown : List (List Bool)) × Runs bit_table (Some g) s (replicate (length (cells s)) false) cycles shown
  run = some_run false bit_table (Some g) s (replicate (length (cells s)) false) cycles sound.formed.numbered sound.closed sound.acyclic (length-replicate (length (cells s)) false) fit

  -- no strobe before is known to be wrong
  none_before : (t k : ℕ) → (t < c) ⊎ ((t ≡ c) × (k ≢ o)) → IsFirstWrong s g cycles (Some (t, k)) → ⊥
  none_before t k early first =
      let wrong = known_fails s g cycles t k sound.closed sound.acyclic first in
      let met = fails.met (replicate (length (cells s)) false) run.0 run.1 t k wrong.0 early wrong.1 in
      bits_differ wrong.0 (not wrong.0) (shown_at run.0 t k) met (wrong.2 (replicate (length (cells s)) false) run.0 run.1) refl

  pub told_there : (found : Option (ℕ × ℕ)) (first : IsFirstWrong s g cycles found) → IsWrong known cycles first.shown c o → found ≡ Some (c, o)
  told_there None first wrong = absurd (first.first c o wrong)
  told_there (Some (t, k)) first wrong = elim (cases_lt t c) [
    | inl l ↦ absurd (none_before t k (inl l) first)
    | inr up ↦ elim (cases_lt c t) [
      | inl m ↦ absurd (first.first.1 c o (inl m) wrong)
      | inr down ↦
          let same : t ≡ c = omega arith in
          elim (cases_lt k o) [
            | inl l ↦ absurd (none_before t k (inr (same, λ e. absurd (omega (arith, e)))) first)
            | inr above ↦ elim (cases_lt o k) [
              | inl m ↦ absurd (first.first.1 c o (inr (sym same, m)) wrong)
              | inr below ↦ let at : k ≡ o = omega arith in ap₂ (λ (x y : ℕ). Some (x, y)) same at
            ]
          ]
    ]
  ]

-- ---- in the flush

within_flush : (m count : ℕ) (v : Bool) (cycle : ℕ) → 0 < count → count ≤ m → IsFlushCycle m count v cycle → (m ≤ cycle) × (cycle < 3 * m)
within_flush m count true cycle some long h = (omega (arith, h), omega (arith, h))
within_flush m count false cycle some long (inl h) = (omega (arith, h.1), omega (arith, h.0, h.1))
within_flush m count false cycle some long (inr h) = (omega (arith, h.1), omega (arith, h.1))

one_bit : (o : Option Bool) (a b : Bool) → o ≡ Some a → o ≡ Some b → a ≡ b
one_bit o true true p q = refl
one_bit o false false p q = refl
one_bit o true false p q = let h : Some true ≡ Some false = sym p ∙ q in cc
one_bit o false true p q = let h : Some false ≡ Some true = sym p ∙ q in cc

told_in_flush : (n : Netlist) (holds : Holds) (fit : AreHoldsOf n holds) (sound : IsSound n) (chain : List ℕ) (rest : List (List ℕ)) (are : AreChainsOf n (chain ∷ rest))
    (tests : List (Pattern × Response)) (c : ℕ) (own : List ℕ) (e : slice_get (chain ∷ rest) c ≡ Some own) (g : Fault) (path : Contains (shift_path n (chain ∷ rest) c) g.line)
    (cycle : ℕ) → IsFlushCycle (longest_of (chain ∷ rest)) (length own) g.value cycle → IsSound (scanned_of n (chain ∷ rest))
    → All (IsCycleOf (scanned_of n (chain ∷ rest))) (vectors n holds (chain ∷ rest) tests) → (found : Option (ℕ × ℕ))
    → IsFirstWrong (scanned_of n (chain ∷ rest)) g (vectors n holds (chain ∷ rest) tests) found → found ≡ Some (cycle, length n.outputs + c)
told_in_flush n holds fit sound chain rest are tests c own e g path cycle h scanned widths found first =
    let s = scanned_of n (chain ∷ rest) in
    let cycles = vectors n holds (chain ∷ rest) tests in
    let fails = flush_fails n holds fit sound chain rest are tests c own e g path cycle h in
    let b = fails.fails.0 in
    let bounds = within_flush (longest_of (chain ∷ rest)) (length own) g.value cycle (some n sound chain rest are c own e) (longest_above (chain ∷ rest) c own e) h in
    let state : List Bool = replicate (length (cells s)) false in
    let bits = run s scanned g cycles widths cycle (length n.outputs + c) fails in
    let stuck = flush_shows n holds fit sound chain rest are tests c own e g path bit_table bits_multiplex false state bits.0 bits.1 cycle bounds.0 bounds.1 in
    let same = one_bit (shown_at bits.0 cycle (length n.outputs + c)) g.value (not b) stuck (fails.fails.2 state bits.0 bits.1) in
    let tri = flush_shows n holds fit sound chain rest are tests c own e g path tri_table tris_multiplex X (replicate (length (cells s)) X) first.shown first.runs cycle bounds.0 bounds.1 in
    told_there s scanned g cycles widths cycle (length n.outputs + c) fails found first (b, fails.fails.1, tri ∙ ap (λ v. Some (known v)) same)

pub told_law : FlushTold
told_law n [] cycles sound are scanned widths holds patterns c chain g cycle found v e path is first = cc
told_law n (chain ∷ rest) cycles sound are scanned widths holds patterns c own g cycle found v e path is first =
    told_in_flush n holds v.held sound chain rest are (zip patterns v.responses) c own e g path cycle is scanned
    (subst (λ (x : List Cycle). All (IsCycleOf (scanned_of n (chain ∷ rest))) x) v.are widths) found
    (subst (λ (x : List Cycle). IsFirstWrong (scanned_of n (chain ∷ rest)) g x found) v.are first)
