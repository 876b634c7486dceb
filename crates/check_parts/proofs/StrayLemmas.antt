-- The certificate's order, line by line.
use Rattle.std.proofs.Common.{◌≡◌, ℕ, ◌+◌, ◌<◌, ◌≤◌, List, [], ◌∷◌, ◌++◌, length, get_or, take, sym, ◌∙◌, arith}
use Rattle.std.proofs.lemmas.List.{length-map, take_more}
use Rattle.std.proofs.lemmas.Option.{get_or_from_slice_get}
use Rattle.statement.specs.declared.lines.Fault.{Fault}
use Rattle.evidence.specs.declared.kinds.Evidence.{Evidence}
use Rattle.good_files.specs.GoodFiles.{faults_in}
use Rattle.check_parts.proofs.FirstLemmas.{fault_at}

faults_count : (evidence : List (Fault × Evidence)) → length (faults_in evidence) ≡ length evidence
faults_count evidence = length-map evidence (λ (p : Fault × Evidence). p.0)

-- in order so far
pub record AreInOrder (evidence : List (Fault × Evidence)) (left : List Fault) (k : ℕ) : Type 0 where
  pub enough : k ≤ length left
  pub same : take k (faults_in evidence) ≡ take k left

module _ (evidence : List (Fault × Evidence)) (left : List Fault) (k : ℕ) (p : Fault × Evidence) (lt : k < length evidence) (read : p ≡ get_or evidence k p) (so_far : AreInOrder evidence left k) where
  -- it is the fault's that is left
  pub in_order : (g : Fault) → k < length left → g ≡ get_or left k g → p.0 ≡ g → AreInOrder evidence left (k + 1)
  in_order g inside own same =
      let count = faults_count evidence in
      let a : get_or (faults_in evidence) k g ≡ p.0 = get_or_from_slice_get (faults_in evidence) k p.0 g (fault_at evidence k p lt read) in
      record {
        enough = omega arith;
        same =
            take_more (faults_in evidence) k g (omega arith)
            ∙ ((λ i. so_far.same i ++ (a ∙ (same ∙ own)) i ∷ []) ∙ sym (take_more left k g inside));
      }
