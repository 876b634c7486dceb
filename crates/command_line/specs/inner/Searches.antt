-- What the values of a command that searches give.
use denote.Ref.{Bor}
use Rattle.std.specs.Prelude.{◌≡◌, List, Option, Some, None, Result, Ok, Err, codes, option_map}
use Rattle.clap.specs.Words.{Row, Text, first_of}
use Rattle.command_line.specs.CommandLine.{Search}
use Rattle.command_line.specs.declared.requests.NoRequest.{NoRequest}
use Rattle.command_line.specs.declared.requests.NoRequest.TheVariants as none
use Rattle.command_line.specs.declared.requests.RunNames.{RunNames}
use Rattle.command_line.specs.declared.requests.RunOptions.{RunOptions}
use Rattle.command_line.specs.declared.requests.SearchLine.{SearchLine}

-- they are these, or there are none and a number is bad
abbrev pub IsSearch : Option Search → Result SearchLine NoRequest → Type 0
IsSearch given (Ok line) = given ≡ Some (line.net.now, line.prefix.now, line.numbers)
IsSearch given (Err none.BadNumber) = given ≡ None
IsSearch given (Err _) = ⊥

-- the files of a `run` that is given these
pub record AreRunNames (rows : List Row) (given : Option (Bor Text)) (line : SearchLine) (names : RunNames) : Type 0 where
  pub net : names.net ≡ line.net
  pub prefix : names.prefix ≡ line.prefix
  pub order : names.order ≡ given
  pub list : option_map (λ t. t.now) names.list ≡ first_of (codes "faults") rows
  pub first : option_map (λ t. t.now) names.first ≡ first_of (codes "with") rows

-- they are these, or there are none and the engine or a number is bad
abbrev pub AreOptions : Option RunOptions → Result RunOptions NoRequest → Type 0
AreOptions given (Ok options) = given ≡ Some options
AreOptions given (Err none.BadEngine) = given ≡ None
AreOptions given (Err none.BadNumber) = given ≡ None
AreOptions given (Err _) = ⊥
