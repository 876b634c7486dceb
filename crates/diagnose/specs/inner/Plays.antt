-- What came of suspects that are played against marks.
use Rattle.std.specs.Prelude.{ℕ, List}
use Rattle.statement.specs.declared.lines.Fault.{Fault}
use Rattle.diagnose.specs.declared.answers.Answer.{Answer}
use Rattle.diagnose.specs.declared.plays.Play.{Play}
use Rattle.diagnose.specs.inner.Answers.{AreAnswersOf}
use Rattle.diagnose.specs.inner.Marked.{marked_in}
use Rattle.diagnose.specs.inner.Ranks.{AreTallies}

-- these answers are those of the suspects from a place on
abbrev pub AreAnswersIn : Play → ℕ → List Answer → Type 0
AreAnswersIn p first answers = AreAnswersOf (marked_in p.marks.now) p.core.now p.vectors.now p.suspects.now first answers

-- at so many strobes of each of these suspects something is said, where they are marked and elsewhere
abbrev pub AreTalliesIn : Play → List Fault → List ℕ → List ℕ → Type 0
AreTalliesIn p suspects one other = AreTallies (marked_in p.marks.now) p.core.now p.vectors.now suspects one other
