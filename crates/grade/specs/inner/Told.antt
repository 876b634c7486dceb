-- The grade that plays tell.
use Rattle.std.specs.Prelude.{ℕ, Bool, true, false, Option, Some, None}
use Rattle.scan_play.specs.declared.played.Played.{Played}
use Rattle.scan_play.specs.declared.played.Played.TheVariants as played
use Rattle.grade.specs.declared.grade.Grade.{Grade}
use Rattle.grade.specs.declared.grade.Grade.TheVariants.{Detected, Undetected, Unknown}

-- the grade by the first place that is known to be wrong
abbrev pub grade_wrong : Option (ℕ × ℕ) → Grade
grade_wrong None = Unknown
grade_wrong (Some place) = Detected place.0 place.1

-- the grade by the first strobe that isn't met, and, where nothing is known there, by the first place that is known to be wrong
abbrev pub grade_by : Played → Option (ℕ × ℕ) → Grade
grade_by played.Passes wrong = Undetected
grade_by (played.Fails c o) wrong = Detected c o
grade_by (played.Unknown c o) wrong = grade_wrong wrong

abbrev pub grade_of : Option Played → Option (ℕ × ℕ) → Grade
grade_of None wrong = Undetected
grade_of (Some p) wrong = grade_by p wrong

-- the grade where the first strobe that isn't met tells it
abbrev pub grade_told : Option Played → Grade
grade_told unmet = grade_of unmet None

abbrev pub is_unknown : Played → Bool
is_unknown played.Passes = false
is_unknown (played.Fails c o) = false
is_unknown (played.Unknown c o) = true

-- nothing is known at the first strobe that isn't met
abbrev pub is_open : Option Played → Bool
is_open None = false
is_open (Some p) = is_unknown p
