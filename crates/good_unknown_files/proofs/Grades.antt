-- What a grade on the opened netlist tells of the chip, whatever the unknown inputs have.
use Rattle.std.proofs.Common.{◌≡◌, ℕ, not, List, [], ◌∷◌, map, Some, refl, ◌∙◌, ap}
use Rattle.std.specs.Prelude.{slice_index_or}
use Rattle.std.specs.List.{All, AllZip}
use Rattle.statement.specs.declared.kinds.Tri.{Tri}
use Rattle.statement.specs.declared.kinds.Tri.TheVariants.{X}
use Rattle.statement.specs.declared.lines.Fault.{Fault}
use Rattle.statement.specs.Netlists.{Netlist}
use Rattle.statement.specs.Runs.{Cycle, strobe_at}
use Rattle.netlist.specs.Conditions.{IsSound}
use Rattle.netlist.specs.Lines.{IsLineOf}
use Rattle.scan_play.specs.Cycles.{IsCycleOf}
use Rattle.scan_play.proofs.RunLaws.{bit_at}
use Rattle.scan_play.proofs.Widths.{valid_fault}
use Rattle.grade.specs.Grades.{IsGraded}
use Rattle.grade.specs.declared.grade.Grade.TheVariants.{Detected, Undetected}
use Rattle.unknown_inputs.specs.Laws.{OpenedAllows, OpenedTellsTheTruth}
use Rattle.unknown_inputs.specs.Opened.{opened, opened_fault}
use Rattle.unknown_inputs.specs.Unknowns.{FailsWhateverAt, IsFilled, PassesWhatever, Unknowns}

-- filled cycles strobe as before
same_strobes : (unknown : Unknowns) (cycles wholes : List Cycle) → AllZip (IsFilled unknown) cycles wholes
    → map (λ (x : Cycle). x.strobe) wholes ≡ map (λ (x : Cycle). x.strobe) cycles
same_strobes unknown [] [] filled = refl
same_strobes unknown [] (w ∷ ws) filled = absurd filled
same_strobes unknown (c ∷ cs) [] filled = absurd filled
same_strobes unknown (c ∷ cs) (w ∷ ws) filled =
    ap (λ (s : List Tri). s ∷ map (λ (x : Cycle). x.strobe) ws) filled.0.strobe ∙ ap (λ (rest : List (List Tri)). c.strobe ∷ rest) (same_strobes unknown cs ws filled.1)

same_strobe : (unknown : Unknowns) (cycles wholes : List Cycle) (c o : ℕ) → AllZip (IsFilled unknown) cycles wholes → strobe_at wholes c o ≡ strobe_at cycles c o
same_strobe unknown cycles wholes c o filled = ap (λ (rows : List (List Tri)). slice_index_or (slice_index_or rows c []) o X) (same_strobes unknown cycles wholes filled)

module _ (chip : Netlist) (sound : IsSound chip) (unknown : Unknowns) (g : Fault) (line : IsLineOf chip g.line) (cycles : List Cycle) where
  -- the first place that is known to be wrong is wrong whatever they have
  pub fails_whatever : OpenedAllows → (c o : ℕ) → IsGraded (opened chip unknown) (opened_fault chip unknown g) cycles (Detected c o) → FailsWhateverAt chip unknown (Some g) cycles c o
  fails_whatever law c o graded wholes filled =
      let wrong = graded.told.0 in (
        wrong.0,
        same_strobe unknown cycles wholes c o filled ∙ wrong.1,
        λ state bits run.
            bit_at graded.shown bits c o (not wrong.0)
            (law chip unknown (Some g) cycles wholes graded.shown state bits sound (valid_fault chip g line) filled graded.runs run) wrong.2,
      )

  pub passes_whatever : OpenedTellsTheTruth → All (IsCycleOf (opened chip unknown)) cycles
      → IsGraded (opened chip unknown) (opened_fault chip unknown g) cycles Undetected → PassesWhatever chip unknown (Some g) cycles
  passes_whatever law fit graded =
      (law chip unknown (Some g) cycles sound (valid_fault chip g line) fit).passes (graded.shown, graded.runs, graded.told)
