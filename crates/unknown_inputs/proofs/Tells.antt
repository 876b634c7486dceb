-- What the player answers of the opened netlist, and what is redundant while the unknown inputs have 0.
use Rattle.std.proofs.Common.{◌≡◌, ℕ, suc, ◌≤◌, ◌⊎◌, Bool, true, false, not, List, [], ◌∷◌, map, length, get_or, replicate, Option, Some, None, slice_get, slice_index_or, IsTrue, refl, sym, ◌∙◌, ap, subst, inl, inr, arith}
use Rattle.std.specs.List.{All, AllZip}
use Rattle.std.proofs.lemmas.List.{length-map, length-replicate}
use Rattle.std.proofs.lemmas.List.Elements.{All-nil, All-cons, All-head, All-tail}
use Rattle.statement.specs.declared.kinds.Tri.{Tri}
use Rattle.statement.specs.declared.kinds.Tri.TheVariants.{X}
use Rattle.statement.specs.declared.lines.Fault.{Fault}
use Rattle.statement.specs.Netlists.{Netlist, cells}
use Rattle.statement.specs.Patterns.{Holds, Obeys}
use Rattle.statement.specs.Values.{bit_table, allows}
use Rattle.statement.specs.Runs.{Cycle, Runs, strobe_at, shown_at}
use Rattle.netlist.specs.ThreeValues.{AreAllowed}
use Rattle.tri.specs.Settled.{tri_table}
use Rattle.scan_play.specs.Cycles.{IsCycleOf}
use Rattle.scan_play.specs.Playing.{IsStrobeMet}
use Rattle.scan_play.proofs.RunLaws.{some_run, run_row_length, allowed_bit, bit_at}
use Rattle.scan_play.proofs.TriLaws.{value_where_strobed}
use Rattle.unknown_inputs.specs.Unknowns.{Unknowns, known_part, IsFilled, holds_at_zero}
use Rattle.unknown_inputs.specs.Opened.{opened_number, fault_opened, opened}
use Rattle.unknown_inputs.specs.Laws.{OpenedTellsTheTruth, HeldUnknownIsUntold}
use Rattle.unknown_inputs.proofs.KnownParts.{merged, length-merged, known_part-merged, merged_obeys}
use Rattle.unknown_inputs.proofs.Above.{opened_allows}

same_value : {V : Type 0} (x y : V) → Some x ≡ Some y → x ≡ y
same_value x y e = cc

-- ---- strobes that are met

row_met : (ss vs : List Tri) (bs : List Bool) → length ss ≡ length vs → ((o : ℕ) → (get_or ss o X ≡ X) ⊎ (slice_get vs o ≡ Some (get_or ss o X))) → AreAllowed vs bs → AreAllowed ss bs
row_met [] [] bs e h k = k
row_met [] (v ∷ vs) bs e h k = absurd (omega (arith, e))
row_met (s ∷ ss) [] bs e h k = absurd (omega (arith, e))
row_met (s ∷ ss) (v ∷ vs) [] e h k = absurd k
row_met (s ∷ ss) (v ∷ vs) (b ∷ bs) e h k =
    let here : IsTrue (allows s b) = elim (h 0) [
      | inl x ↦ subst (λ (t : Tri). IsTrue (allows t b)) (sym x) refl
      | inr x ↦ subst (λ (t : Tri). IsTrue (allows t b)) (same_value v s x) k.0
    ] in
    (here, row_met ss vs bs (omega (arith, e)) (λ o. h (suc o)) k.1)

-- the strobes of the filled cycles are those of the others
all_met : (unknown : Unknowns) (f : Option Fault) (n : Netlist) (state : List Tri) (cycles wholes : List Cycle) (shown : List (List Tri)) (bit_shown : List (List Bool))
    → All (IsCycleOf n) cycles → AllZip (IsFilled unknown) cycles wholes → Runs tri_table f n state cycles shown → ((c o : ℕ) → IsStrobeMet cycles shown c o)
    → AllZip AreAllowed shown bit_shown → AllZip (λ (c : Cycle) bs. AreAllowed c.strobe bs) wholes bit_shown
all_met unknown f n state [] [] [] [] fit filled run met h = tt
all_met unknown f n state [] [] [] (b ∷ bs) fit filled run met h = absurd h
all_met unknown f n state [] [] (x ∷ xs) bit_shown fit filled run met h = absurd run
all_met unknown f n state [] (w ∷ ws) shown bit_shown fit filled run met h = absurd filled
all_met unknown f n state (c ∷ cs) [] shown bit_shown fit filled run met h = absurd filled
all_met unknown f n state (c ∷ cs) (w ∷ ws) [] bit_shown fit filled run met h = absurd run
all_met unknown f n state (c ∷ cs) (w ∷ ws) (x ∷ xs) [] fit filled run met h = absurd h
all_met unknown f n state (c ∷ cs) (w ∷ ws) (x ∷ xs) (b ∷ bs) fit filled run met h =
    let own = All-head (IsCycleOf n) c cs fit in (
      subst (λ (ss : List Tri). AreAllowed ss b) (sym filled.0.strobe)
          (row_met c.strobe x b (own.strobe ∙ sym (run_row_length f n state c x run.0 run.1)) (met 0) h.0),
      all_met unknown f n run.0 cs ws xs bs (All-tail (IsCycleOf n) c cs fit) filled.1 run.2 (λ k o. met (suc k) o) h.1,
    )

same_strobes : (unknown : Unknowns) (cycles wholes : List Cycle) → AllZip (IsFilled unknown) cycles wholes → map (λ (c : Cycle). c.strobe) wholes ≡ map (λ (c : Cycle). c.strobe) cycles
same_strobes unknown [] [] h = refl
same_strobes unknown [] (w ∷ ws) h = absurd h
same_strobes unknown (c ∷ cs) [] h = absurd h
same_strobes unknown (c ∷ cs) (w ∷ ws) h =
    ap (λ s. s ∷ map (λ (x : Cycle). x.strobe) ws) h.0.strobe ∙ ap (λ r. c.strobe ∷ r) (same_strobes unknown cs ws h.1)

same_strobe_at : (unknown : Unknowns) (cycles wholes : List Cycle) (c o : ℕ) → AllZip (IsFilled unknown) cycles wholes → strobe_at wholes c o ≡ strobe_at cycles c o
same_strobe_at unknown cycles wholes c o h = ap (λ (rows : List (List Tri)). slice_index_or (slice_index_or rows c []) o X) (same_strobes unknown cycles wholes h)

pub opened_tells_the_truth : OpenedTellsTheTruth
opened_tells_the_truth n unknown f cycles sound valid fit = record {
  passes = λ played wholes filled state bit_shown run.
      all_met unknown (fault_opened n unknown f) (opened n unknown) (replicate (length (cells (opened n unknown))) X) cycles wholes played.0 bit_shown fit filled played.1 played.2
      (opened_allows n unknown f cycles wholes played.0 state bit_shown sound valid filled played.1 run);
  fails = λ c o played wholes filled.
      let at = played.2.1 in (
        at.0,
        same_strobe_at unknown cycles wholes c o filled ∙ at.1,
        λ state bit_shown run. bit_at played.0 bit_shown c o (not at.0) (opened_allows n unknown f cycles wholes played.0 state bit_shown sound valid filled played.1 run) at.2,
      );
}

-- ---- the unknown inputs have 0

module _ (n : Netlist) (unknown : Unknowns) (few : length unknown ≤ length n.inputs) where
  zeroed : Cycle → Cycle
  zeroed c = record { drive = merged false unknown n.inputs c.drive; strobe = c.strobe; pulse = c.pulse }

  drive_fits : (c : Cycle) → IsCycleOf (opened n unknown) c → length c.drive ≡ length (known_part unknown n.inputs)
  drive_fits c fit = fit.drive ∙ length-map (known_part unknown n.inputs) (opened_number n unknown)

  zeroed_filled : (cycles : List Cycle) → All (IsCycleOf (opened n unknown)) cycles → AllZip (IsFilled unknown) cycles (map zeroed cycles)
  unfolding zeroed
  zeroed_filled [] fit = tt
  zeroed_filled (c ∷ cs) fit =
      let own = All-head (IsCycleOf (opened n unknown)) c cs fit in (
        record { drive = known_part-merged false unknown n.inputs c.drive (drive_fits c own); strobe = refl; pulse = refl },
        zeroed_filled cs (All-tail (IsCycleOf (opened n unknown)) c cs fit),
      )

  zeroed_fit : (cycles : List Cycle) → All (IsCycleOf (opened n unknown)) cycles → All (IsCycleOf n) (map zeroed cycles)
  unfolding zeroed
  zeroed_fit [] fit = All-nil _
  zeroed_fit (c ∷ cs) fit =
      let own = All-head (IsCycleOf (opened n unknown)) c cs fit in
      All-cons (IsCycleOf n) (zeroed c) (map zeroed cs)
      (record { drive = length-merged false unknown n.inputs c.drive (drive_fits c own); strobe = own.strobe ∙ length-map n.outputs (opened_number n unknown) })
      (zeroed_fit cs (All-tail (IsCycleOf (opened n unknown)) c cs fit))

  zeroed_obey : (holds : Holds) (cycles : List Cycle) → All (IsCycleOf (opened n unknown)) cycles → All (λ (c : Cycle). Obeys (known_part unknown holds) c.drive) cycles
      → All (λ (c : Cycle). Obeys (holds_at_zero unknown holds) c.drive) (map zeroed cycles)
  unfolding zeroed
  zeroed_obey holds [] fit h = All-nil _
  zeroed_obey holds (c ∷ cs) fit h =
      let P : Cycle → Type 0 = λ x. Obeys (known_part unknown holds) x.drive in
      let Q : Cycle → Type 0 = λ x. Obeys (holds_at_zero unknown holds) x.drive in
      All-cons Q (zeroed c) (map zeroed cs)
      (merged_obeys unknown holds n.inputs c.drive few (drive_fits c (All-head (IsCycleOf (opened n unknown)) c cs fit)) (All-head P c cs h))
      (zeroed_obey holds cs (All-tail (IsCycleOf (opened n unknown)) c cs fit) (All-tail P c cs h))

not_other : (b : Bool) → b ≡ not b → ⊥
not_other true e = cc
not_other false e = cc

pub held_unknown_is_untold : HeldUnknownIsUntold
held_unknown_is_untold n unknown holds f cycles c o sound few untold fit obey passes fails =
    let wholes = map (zeroed n unknown few) cycles in
    let filled = zeroed_filled n unknown few cycles fit in
    let whole_fit = zeroed_fit n unknown few cycles fit in
    let state : List Bool = replicate (length (cells n)) false in
    let size : length state ≡ length (cells n) = length-replicate (length (cells n)) false in
    let good = some_run false bit_table None n state wholes sound.formed.numbered sound.closed sound.acyclic size whole_fit in
    let faulty = some_run false bit_table (Some f) n state wholes sound.formed.numbered sound.closed sound.acyclic size whole_fit in
    let same : good.0 ≡ faulty.0 = untold state wholes good.0 faulty.0 (zeroed_obey n unknown few holds cycles fit obey) good.1 faulty.1 in
    let wrong = fails wholes filled in
    let shown = wrong.2 state faulty.0 faulty.1 in
    let met = value_where_strobed (λ v (b : Bool). IsTrue (allows v b)) wholes good.0 c o wrong.0 (passes wholes filled state good.0 good.1) wrong.1 in
    let bit : met.0 ≡ wrong.0 = allowed_bit wrong.0 met.0 met.2 in
    let there : shown_at good.0 c o ≡ Some (not wrong.0) = ap (λ (rows : List (List Bool)). shown_at rows c o) same ∙ shown in
    not_other wrong.0 (sym bit ∙ same_value met.0 (not wrong.0) (sym met.1 ∙ there))
