-- Steps of a refutation as a text, which stands for them byte for byte.
use Rattle.std.specs.Prelude.{ℕ, ◌≡◌, ◌<◌, ◌^◌, ⊤, Bool, if◌then◌else◌, List, [], ◌∷◌, ◌++◌, codes, decimal}
use Rattle.std.specs.List.{All, flat_map}
use Rattle.refutation.specs.declared.pairs.Pairs.{Pairs}
use Rattle.refutation.specs.declared.steps.Literal.{Literal}
use Rattle.refutation.specs.declared.steps.Implied.{Implied}
use Rattle.refutation.specs.declared.steps.Move.{Move}
use Rattle.refutation.specs.declared.steps.Move.TheVariants.{Imply, Sweep}
use Rattle.refutation.specs.declared.steps.Reason.{Reason}
use Rattle.refutation.specs.declared.steps.Reason.TheVariants.{Gate, Lemma, Way, Gates}
use Rattle.refutation.specs.Steps.{Step}
use Rattle.refutation_text.specs.declared.reading.TextFault.{TextFault}
use Rattle.refutation_text.specs.declared.reading.TextFault.TheVariants.{NotSteps, NoMemory}

-- `0` or `1`
abbrev pub bit_byte : Bool → ℕ
bit_byte b = if b then 49 else 48

-- whether 00, 01, 10 and 11 are among them, in this order, and a blank
abbrev pub pairs_text : Pairs → List ℕ
pairs_text p = bit_byte p.zero ∷ bit_byte p.rises ∷ bit_byte p.falls ∷ bit_byte p.one ∷ 32 ∷ []

-- `5:0110 `
abbrev pub literal_text : Literal → List ℕ
literal_text l = decimal l.signal ++ 58 ∷ pairs_text l.pairs

-- `=5 `, `*3 `, `! `, `~ `
abbrev pub reason_text : Reason → List ℕ
reason_text (Gate x) = codes "=" ++ (decimal x ++ codes " ")
reason_text (Lemma k) = codes "*" ++ (decimal k ++ codes " ")
reason_text Way = codes "! "
reason_text Gates = codes "~ "

-- `5:0110 =7 `
abbrev pub implied_text : Implied → List ℕ
implied_text i = literal_text i.literal ++ reason_text i.reason

-- `5:0110 =7 `, `~ `
abbrev pub move_text : Move → List ℕ
move_text (Imply i) = implied_text i
move_text Sweep = codes "~ "

-- ` ( 5:0110 ; ~ 7:1000 =7 ; ! )`: the clause, the moves, and the last reason
abbrev pub step_text : Step → List ℕ
step_text s =
    codes " ( " ++ (flat_map literal_text s.clause ++ (codes "; " ++ (flat_map move_text s.moves ++ (codes "; " ++ (reason_text s.last ++ codes ")")))))

abbrev pub text_of : List Step → List ℕ
text_of steps = flat_map step_text steps

-- ---- numbers that a u32 can be

abbrev pub IsLiteral : Literal → Type 0
IsLiteral l = l.signal < 2 ^ 32

abbrev pub IsReason : Reason → Type 0
IsReason (Gate x) = x < 2 ^ 32
IsReason (Lemma k) = k < 2 ^ 32
IsReason Way = Unit {0}
IsReason Gates = Unit {0}

pub record IsImplied (i : Implied) : Type 0 where
  pub literal : IsLiteral i.literal
  pub reason : IsReason i.reason

abbrev pub IsMove : Move → Type 0
IsMove (Imply i) = IsImplied i
IsMove Sweep = Unit {0}

pub record IsStep (s : Step) : Type 0 where
  pub clause : All IsLiteral s.clause
  pub moves : All IsMove s.moves
  pub last : IsReason s.last

-- the bytes are the text of these steps
pub record AreSteps (bytes : List ℕ) (steps : List Step) : Type 0 where
  pub each : All IsStep steps
  pub text : bytes ≡ text_of steps

abbrev pub NoSteps : List ℕ → Type 0
NoSteps bytes = (steps : List Step) → ¬ AreSteps bytes steps

-- why a reader answers NotSteps; want of memory may come at any time
abbrev pub IsTextFault : Type 0 → TextFault → Type 0
IsTextFault none NotSteps = none
IsTextFault none NoMemory = ⊤
