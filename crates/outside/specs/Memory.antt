-- What a shelf and a sink in memory are seen as, and that they fail at the calls of their plan.
use Rattle.std.specs.Prelude.{◌≡◌, ◌++◌, ℕ, List, Option, Some, None, Result, Ok, Err, take, fold, refl}
use Rattle.std.specs.Coded.{Coded, code_by, coded×, coded_ℕ}
use Rattle.std.specs.FinMap as map
use denote.Ref.{Bor}
use Rattle.outside.specs.FileMap.{FileMap, file_map_code}
use Rattle.outside.specs.Plan.{Plan, plan_code}
use Rattle.outside.specs.declared.failing.FailingCall.{FailingCall}
use Rattle.outside.specs.declared.refusal.WriteRefusal.{WriteRefusal}
use Rattle.outside.specs.declared.refusal.WriteRefusal.TheVariants as write

-- the files, the calls that are to fail, and how many have failed
pub record ShelfInMemory : Type 0 where
  pub files : FileMap
  pub plan : Plan
  pub failures : ℕ

abbrev pub shelf_code : Coded ShelfInMemory
shelf_code =
    code_by (FileMap × (Plan × ℕ)) (coded× file_map_code (coded× plan_code coded_ℕ)) (λ s. (s.files, (s.plan, s.failures))) (λ p. record { files = p.0; plan = p.1.0; failures = p.1.1 }) (λ _. refl)

-- the bytes taken, the calls that are to fail, and how many have failed
pub record SinkInMemory : Type 0 where
  pub bytes : List ℕ
  pub plan : Plan
  pub failures : ℕ

-- the files of these names and bytes, put one after another: of two with one name the last stays
abbrev pub file_map_of : List (Bor (List ℕ) × Bor (List ℕ)) → FileMap
file_map_of files = fold (λ put file. map.insert put file.0.now file.1.now) map.empty files

-- a write fails where the plan says so, with a prefix of the planned length under the name; else the name holds all the bytes
abbrev pub WritesAsPlanned : Option FailingCall → FileMap → FileMap → List ℕ → List ℕ → Result Unit WriteRefusal → Type 0
WritesAsPlanned None old new name bytes (Ok _) = new ≡ map.insert old name bytes
WritesAsPlanned (Some call) old new name bytes (Err write.Failed) = new ≡ map.insert old name (take call.kept bytes)
WritesAsPlanned _ old new name bytes (Err write.NoMemory) = new ≡ old
WritesAsPlanned _ old new name bytes _ = ⊥

-- the same of a sink
abbrev pub PutsAsPlanned : Option FailingCall → List ℕ → List ℕ → List ℕ → Result Unit WriteRefusal → Type 0
PutsAsPlanned None old new bytes (Ok _) = new ≡ old ++ bytes
PutsAsPlanned (Some call) old new bytes (Err write.Failed) = new ≡ old ++ take call.kept bytes
PutsAsPlanned _ old new bytes (Err write.NoMemory) = new ≡ old
PutsAsPlanned _ old new bytes _ = ⊥
