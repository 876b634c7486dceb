-- Faults that are left out of a simulation, and put back into what it tells.
use Rattle.std.proofs.Common.{◌≡◌, ℕ, zero, suc, Bool, true, false, cond, ◌+◌, ◌<◌, ◌≤◌, List, [], ◌∷◌, ◌++◌, length, get_or, drop, Option, None, refl, sym, ◌∙◌, ap, arith}
use Rattle.std.specs.List.{All, AllZip}
use Rattle.std.proofs.lemmas.List.{append_assoc, append-nil, drop_all, drop_more}
use Rattle.statement.specs.declared.lines.Fault.{Fault}
use Rattle.statement.specs.declared.lines.Point.{Point}
use Rattle.statement.specs.Netlists.{Netlist}
use Rattle.statement.specs.Patterns.{Pattern}
use Rattle.word_sim.specs.Hits.{LastDetected}
use Rattle.word_sim.specs.Never.{AreNever, unmarked}
use Rattle.word_sim.specs.inner.Leaving.{told_of_all}

abbrev pub Told : Type 0
Told = Option (ℕ × Point)

-- ---- the faults that are left

module _ (marks : List Bool) (faults : List Fault) (k : ℕ) (f : Fault) (left : List Fault) (l : k < length faults) (m : k < length marks)
    (so_far : left ++ unmarked (drop k marks) (drop k faults) ≡ unmarked marks faults) where
  there : left ++ cond (get_or marks k false) (unmarked (drop (k + 1) marks) (drop (k + 1) faults)) (get_or faults k f ∷ unmarked (drop (k + 1) marks) (drop (k + 1) faults)) ≡ unmarked marks faults
  there =
      ap (λ (ms : List Bool). left ++ unmarked ms (get_or faults k f ∷ drop (k + 1) faults)) (sym (drop_more marks k false m))
      ∙ (ap (λ (fs : List Fault). left ++ unmarked (drop k marks) fs) (sym (drop_more faults k f l)) ∙ so_far)

  pub left_out : get_or marks k false ≡ true → left ++ unmarked (drop (k + 1) marks) (drop (k + 1) faults) ≡ unmarked marks faults
  left_out e =
      ap (λ (b : Bool). left ++ cond b (unmarked (drop (k + 1) marks) (drop (k + 1) faults)) (get_or faults k f ∷ unmarked (drop (k + 1) marks) (drop (k + 1) faults))) (sym e) ∙ there

  pub left_more : get_or marks k false ≡ false → (left ++ get_or faults k f ∷ []) ++ unmarked (drop (k + 1) marks) (drop (k + 1) faults) ≡ unmarked marks faults
  left_more e =
      append_assoc left (get_or faults k f ∷ []) (unmarked (drop (k + 1) marks) (drop (k + 1) faults))
      ∙ (ap (λ (b : Bool). left ++ cond b (unmarked (drop (k + 1) marks) (drop (k + 1) faults)) (get_or faults k f ∷ unmarked (drop (k + 1) marks) (drop (k + 1) faults))) (sym e) ∙ there)

no_faults : (marks : List Bool) → unmarked marks [] ≡ []
no_faults [] = refl
no_faults (m ∷ ms) = refl

pub all_left : (marks : List Bool) (faults : List Fault) (k : ℕ) (left : List Fault) → length faults ≤ k → left ++ unmarked (drop k marks) (drop k faults) ≡ unmarked marks faults
    → left ≡ unmarked marks faults
all_left marks faults k left all is =
    sym (append-nil left)
    ∙ (ap (λ (fs : List Fault). left ++ fs) (sym (no_faults (drop k marks)))
    ∙ (ap (λ (fs : List Fault). left ++ unmarked (drop k marks) fs) (sym (drop_all k faults all)) ∙ is))

-- what all have those that are left have
module _ (P : Fault → Type 0) where
  all_tail : (f : Fault) (fs : List Fault) → All P (f ∷ fs) → All P fs
  all_tail f fs all k d lt = all (suc k) d (omega arith)

  all_more : (f : Fault) (fs : List Fault) → P f → All P fs → All P (f ∷ fs)
  all_more f fs p all zero d lt = p
  all_more f fs p all (suc k) d lt = all k d (omega arith)

  none_has : All P []
  none_has k d lt = absurd (omega arith)

  pub left_have : (marks : List Bool) (faults : List Fault) → All P faults → All P (unmarked marks faults)
  left_have [] faults all = none_has
  left_have (m ∷ ms) [] all = none_has
  left_have (true ∷ ms) (f ∷ fs) all = left_have ms fs (all_tail f fs all)
  left_have (false ∷ ms) (f ∷ fs) all = all_more f (unmarked ms fs) (all 0 f (omega arith)) (left_have ms fs (all_tail f fs all))

-- ---- what is told of all

pub none_of_marked : (marks : List Bool) (told : List Told) → told_of_all (true ∷ marks) told ≡ None ∷ told_of_all marks told
none_of_marked marks told = refl

pub none_at_end : (marks : List Bool) (mark : Bool) → told_of_all (mark ∷ marks) [] ≡ None ∷ told_of_all marks []
none_at_end marks true = refl
none_at_end marks false = refl

module _ (marks : List Bool) (told : List Told) (k next more : ℕ) (one : Told) (all : List Told) (l : k < length marks)
    (tells : (rest : List Bool) → told_of_all (get_or marks k false ∷ rest) (drop next told) ≡ one ∷ told_of_all rest (drop more told))
    (so_far : all ++ told_of_all (drop k marks) (drop next told) ≡ told_of_all marks told) where
  pub one_told : (all ++ one ∷ []) ++ told_of_all (drop (k + 1) marks) (drop more told) ≡ told_of_all marks told
  one_told =
      append_assoc all (one ∷ []) (told_of_all (drop (k + 1) marks) (drop more told))
      ∙ (ap (λ (os : List Told). all ++ os) (sym (tells (drop (k + 1) marks)))
      ∙ (ap (λ (ms : List Bool). all ++ told_of_all ms (drop next told)) (sym (drop_more marks k false l)) ∙ so_far))

pub all_of_told : (marks : List Bool) (told : List Told) (k next : ℕ) (all : List Told) → length marks ≤ k → all ++ told_of_all (drop k marks) (drop next told) ≡ told_of_all marks told
    → all ≡ told_of_all marks told
all_of_told marks told k next all end is = sym (append-nil all) ∙ (ap (λ (ms : List Bool). all ++ told_of_all ms (drop next told)) (sym (drop_all k marks end)) ∙ is)

-- what is told of all is true where it is of those that are left
module _ (n : Netlist) (patterns : List Pattern) where
  rest_never : (m : Bool) (ms : List Bool) (f : Fault) (fs : List Fault) → AreNever n patterns (f ∷ fs) (m ∷ ms) → AreNever n patterns fs ms
  rest_never m ms f fs never = record { size = (let s = never.size in omega arith); each = λ k g at marked. never.each (suc k) g at marked }

  pub all_told : (marks : List Bool) (faults : List Fault) (told : List Told) → AreNever n patterns faults marks
      → AllZip (LastDetected n patterns) (unmarked marks faults) told → AllZip (LastDetected n patterns) faults (told_of_all marks told)
  all_told [] [] told never last = tt
  all_told [] (f ∷ fs) told never last = absurd (let s = never.size in omega arith)
  all_told (m ∷ ms) [] told never last = absurd (let s = never.size in omega arith)
  all_told (true ∷ ms) (f ∷ fs) told never last = (never.each 0 f refl refl, all_told ms fs told (rest_never true ms f fs never) last)
  all_told (false ∷ ms) (f ∷ fs) [] never last = absurd last
  all_told (false ∷ ms) (f ∷ fs) (t ∷ ts) never last = (last.0, all_told ms fs ts (rest_never false ms f fs never) last.1)
