-- The items of a pattern as tokens.
use Rattle.std.specs.Prelude.{ℕ, ◌≡◌, List, ◌++◌, Option, Some, None, codes, length, map}
use Rattle.std.specs.Borrow.{Bor}
use Rattle.std.specs.List.{All, flat_map}
use Rattle.statement.specs.Benches.{Text}
use Rattle.stil_write.specs.declared.items.ItemKind.{ItemKind}
use Rattle.stil_write.specs.declared.items.ItemKind.TheVariants as kind
use Rattle.statement.specs.Stils.{Item, Call, Vector}
use Rattle.stil_write.specs.StilFiles.{item_of}
use Rattle.stil_write.specs.Pieces.{HasTargets}
use Rattle.stil_read.specs.Tokens.{Token, tokens}
use Rattle.stil_read.specs.inner.Assigned.{assigned_tokens}

abbrev pub call_begins : Text
call_begins = codes "Call \"load_unload\" {"

abbrev pub vector_begins : Text
vector_begins = codes "V {"

abbrev pub item_ends : Text
item_ends = codes "}"

-- what begins so, with words for these signals
abbrev pub begun_tokens : Text → List Text → List Text → List Token
begun_tokens begins labels words = tokens begins ++ (assigned_tokens labels words ++ tokens item_ends)

abbrev pub AreBegun : Text → List Text → List Token → List Text → List Token → Type 0
AreBegun begins labels all words rest = (length words ≡ length labels) × (all ≡ begun_tokens begins labels words ++ rest)

abbrev pub NoneBegun : Text → List Text → List Token → Type 0
NoneBegun begins labels all = (words : List Text) (rest : List Token) → length words ≡ length labels → all ≡ begun_tokens begins labels words ++ rest → ⊥

-- by the signals of calls and of vectors, in their quotes
abbrev pub item_tokens : List Text → List Text → Item → List Token
item_tokens called assigned (Call words) = begun_tokens call_begins called words
item_tokens called assigned (Vector words) = begun_tokens vector_begins assigned words

-- no item comes next
abbrev pub NoItem : List Text → List Text → List Token → Type 0
NoItem called assigned all = (item : Item) (rest : List Token) → HasTargets called assigned item → all ≡ item_tokens called assigned item ++ rest → ⊥

-- the item that comes next with these words, or that none does
abbrev pub IsItemAt : List Text → List Text → List Token → List Text → Option (ItemKind × Bor Text) → Type 0
IsItemAt called assigned all words None = NoItem called assigned all
IsItemAt called assigned all words (Some p) =
    HasTargets called assigned (item_of p.0 words) × (all ≡ item_tokens called assigned (item_of p.0 words) ++ tokens p.1.now)

-- the tokens are those of these items, and then of no further one
pub record AreItems (called assigned : List Text) (all : List Token) (items : List Item) (rest : List Token) : Type 0 where
  pub have_words : All (HasTargets called assigned) items
  pub split : all ≡ flat_map (item_tokens called assigned) items ++ rest

pub record AreAllItems (called assigned : List Text) (all : List Token) (items : List Item) (rest : List Token) : Type 0 where
  pub are : AreItems called assigned all items rest
  pub last : NoItem called assigned rest
