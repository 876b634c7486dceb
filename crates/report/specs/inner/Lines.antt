-- Texts that begin with a line, or with some lines.
use Rattle.std.specs.Prelude.{ℕ, ◌≡◌, ◌≢◌, ◌/◌, ◌^◌, ◌<◌, ◌++◌, Bool, true, false, List, codes, decimal}
use Rattle.std.specs.List.{All}
use Rattle.report.specs.Reports.{Hold, Times, IsBenchWord}
use Rattle.statement.specs.Reports.{Line, outcome_text}
use Rattle.report.specs.Beginnings.{Begins, NoneBegins, IsCount}
use Rattle.report.specs.Texts.{count_line, hundredths, some_line, times_lines}

abbrev pub IsHold : Hold → Type 0
IsHold h = IsBenchWord h.name

-- no line of this word stands at the front with a count that isn't 0
abbrev pub NoSome : List ℕ → List ℕ → Type 0
NoSome word = NoneBegins (λ count. (0 < count) × IsCount count) (count_line word)

-- the text begins with as much of a line as stands for this count: with none where it is 0
abbrev pub SomeBegins : List ℕ → List ℕ → ℕ → List ℕ → Type 0
SomeBegins word text count rest = Begins IsCount (some_line word) text count rest × (count ≡ 0 → NoSome word rest)

-- the text begins with the lines of these, and then there is no such line
abbrev pub TimesBegin : List ℕ → Times → List ℕ → Type 0
TimesBegin text t rest =
    SomeBegins (codes "detect ") text t.most (times_lines t.of ++ rest) × All IsCount t.of × NoneBegins IsCount (count_line (codes "times ")) rest

-- a count and a share up to the ends of their lines
abbrev pub count_end : ℕ → List ℕ
count_end count = decimal count ++ codes "\n"

abbrev pub share_end : ℕ → List ℕ
share_end share = hundredths share ++ codes "\n"

-- lines without their ends
abbrev pub bit_text : Bool → List ℕ
bit_text false = codes " 0"
bit_text true = codes " 1"

abbrev pub hold_words : Hold → List ℕ
hold_words h = codes "hold " ++ (h.name ++ bit_text h.bit)

abbrev pub fault_words : Line → List ℕ
fault_words l = l.fault ++ outcome_text l.outcome l.pin
