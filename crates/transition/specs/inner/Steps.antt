-- What follows of answers when there is one more, and of the slots when a batch is answered.
use Rattle.std.specs.Prelude.{ℕ, ◌≡◌, ◌<◌, ◌+◌, List, [], ◌∷◌, ◌++◌, Option, length, slice_index_or, take}
use Rattle.statement.specs.declared.lines.Fault.{Fault}
use Rattle.evidence.specs.declared.engine.Found.{Found}
use Rattle.transition.specs.inner.Asked.{AreAnswers, Asked, IsAnswer}
use Rattle.transition.specs.inner.Gathered.{AreGathered}
use Rattle.transition.specs.inner.Slots.{AreAnswersFrom, HaveSlots, with_answers}

-- answers for the first of these lines
pub record AreFirstAnswers (a : Asked) (slow : List Fault) (k : ℕ) (answers : List Found) : Type 0 where
  pub are : AreAnswers a (take k slow) answers

abbrev pub NoneAnswered : Type 0
NoneAnswered = (a : Asked) (slow : List Fault) (answers : List Found) → answers ≡ [] → AreFirstAnswers a slow 0 answers

-- one more, for the next line
abbrev pub OneMoreAnswered : Type 0
OneMoreAnswered =
    (a : Asked) (slow : List Fault) (k : ℕ) (f : Fault) (found : Found) (old new : List Found) → AreFirstAnswers a slow k old → k < length slow → f ≡ slice_index_or slow k f
    → IsAnswer a f found → new ≡ old ++ found ∷ [] → AreFirstAnswers a slow (k + 1) new

-- each answer has its slot
abbrev pub SlotsHold : Type 0
SlotsHold =
    (a : Asked) (first count : ℕ) (places seen : List ℕ) (slow shown : List Fault) (found : List Found) → AreGathered a first count places slow → seen ≡ places → shown ≡ slow
    → AreAnswers a shown found → HaveSlots count seen found

-- there are as many slots as before
abbrev pub SlotsKept : Type 0
SlotsKept =
    (a : Asked) (first : ℕ) (old new : List (Option (Option Found))) (places seen : List ℕ) (slow shown : List Fault) (found : List Found)
    → AreGathered a first (length old) places slow → seen ≡ places → shown ≡ slow → AreAnswers a shown found → AreAnswersFrom a first old → new ≡ with_answers old seen found
    → length new ≡ length old

-- what each has is for its fault
abbrev pub SlotsAnswered : Type 0
SlotsAnswered =
    (a : Asked) (first : ℕ) (old new : List (Option (Option Found))) (places seen : List ℕ) (slow shown : List Fault) (found : List Found)
    → AreGathered a first (length old) places slow → seen ≡ places → shown ≡ slow → AreAnswers a shown found → AreAnswersFrom a first old → new ≡ with_answers old seen found
    → AreAnswersFrom a first new
