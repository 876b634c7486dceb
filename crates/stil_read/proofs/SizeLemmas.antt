-- A text has no more tokens than bytes, and a file no more items than tokens.
use Rattle.std.proofs.Common.{◌≡◌, ℕ, zero, suc, ◌+◌, ◌≤◌, ◌<◌, Bool, true, false, List, [], ◌∷◌, ◌++◌, length, length-append, refl, ap, sym, subst, arith}
use Rattle.std.specs.Prelude.{◌==◌, if◌then◌else◌, Option, Some, None, map}
use Rattle.std.specs.List.{flat_map}
use Rattle.statement.specs.Benches.{Text}
use Rattle.statement.specs.Stils.{Item, StilFile, quoted, assigned, called}
use Rattle.stil_write.specs.Texts.{head_text}
use Rattle.stil_read.specs.declared.bytes.Class.{Class}
use Rattle.stil_read.specs.declared.bytes.Class.TheVariants as class
use Rattle.stil_read.specs.Laws.{ItemsTakeBytes}
use Rattle.stil_read.specs.Tokens.{Token, Spelled, Stray, LexState, Between, InWord, BehindSlash, InQuotes, InLine, InBlock, BehindStar, Turn, behind, behind_slash, behind_star, class_of, first_byte, go, in_block, in_word, last_tokens, tokens, tokens_from, turn}
use Rattle.stil_read.specs.inner.Grammar.{AreChains, AreDeclared, ArePattern, IsShifted, IsSpelt, cells_word, clock_tokens, input_kind, items_head, output_kind, pattern_word, scan_input_kind, shift_head, vector_word}
use Rattle.stil_read.specs.inner.Items.{item_tokens}
use Rattle.stil_read.specs.inner.Signals.{AreSignals, signal_tokens}
use Rattle.stil_read.specs.inner.Skips.{behind_first, is_spelled}
use Rattle.stil_read.proofs.ItemLemmas.{item_shorter}
use Rattle.stil_read.proofs.ReadLemmas.{spelt_by}
use Rattle.stil_read.proofs.TokenLemmas.{at_end, step_from}

-- ---- tokens and bytes

-- a token is begun
abbrev begun : LexState → ℕ
begun Between = 0
begun (InWord word) = 1
begun (BehindSlash word) = 1
begun (InQuotes quote text) = 1
begun InLine = 0
begun InBlock = 1
begun BehindStar = 1

-- what a byte ends, and what it leaves begun
abbrev weight : Turn → ℕ
weight t = length t.ends + begun t.place

first_few : (kind : Class) (b : ℕ) → weight (first_byte kind b) ≤ 1
first_few class.Gap b = omega arith
first_few class.Mark b = omega arith
first_few class.Quote b = omega arith
first_few class.Slash b = omega arith
first_few class.Star b = omega arith
first_few class.Letter b = omega arith
first_few class.Other b = omega arith

behind_few : (word : List ℕ) (t : Turn) → weight t ≤ 1 → weight (behind word t) ≤ 2
behind_few [] t few = omega arith
behind_few (c ∷ cs) t few = omega arith

word_few : (kind : Class) (word : List ℕ) (b : ℕ) → weight (in_word kind word b) ≤ 2
word_few class.Gap word b = behind_few word (first_byte class.Gap b) (first_few class.Gap b)
word_few class.Mark word b = behind_few word (first_byte class.Mark b) (first_few class.Mark b)
word_few class.Quote word b = behind_few word (first_byte class.Quote b) (first_few class.Quote b)
word_few class.Slash word b = omega arith
word_few class.Star word b = behind_few word (first_byte class.Star b) (first_few class.Star b)
word_few class.Letter word b = omega arith
word_few class.Other word b = behind_few word (first_byte class.Other b) (first_few class.Other b)

slash_few : (kind : Class) (word : List ℕ) (b : ℕ) → weight (behind_slash kind word b) ≤ 2
slash_few class.Gap word b = word_few class.Gap (word ++ 47 ∷ []) b
slash_few class.Mark word b = word_few class.Mark (word ++ 47 ∷ []) b
slash_few class.Quote word b = word_few class.Quote (word ++ 47 ∷ []) b
slash_few class.Slash word b = behind_few word (go InLine) (omega arith)
slash_few class.Star word b = behind_few word (go InBlock) (omega arith)
slash_few class.Letter word b = word_few class.Letter (word ++ 47 ∷ []) b
slash_few class.Other word b = word_few class.Other (word ++ 47 ∷ []) b

star_few : (kind : Class) → weight (behind_star kind) ≤ 2
star_few = elim [ class.Gap ↦ omega arith | class.Mark ↦ omega arith | class.Quote ↦ omega arith | class.Slash ↦ omega arith | class.Star ↦ omega arith | class.Letter ↦ omega arith | class.Other ↦ omega arith ]

block_few : (kind : Class) → weight (in_block kind) ≤ 2
block_few = elim [ class.Gap ↦ omega arith | class.Mark ↦ omega arith | class.Quote ↦ omega arith | class.Slash ↦ omega arith | class.Star ↦ omega arith | class.Letter ↦ omega arith | class.Other ↦ omega arith ]

either_few : (same : Bool) (t u : Turn) (most : ℕ) → weight t ≤ most → weight u ≤ most → weight (if same then t else u) ≤ most
either_few true t u most p q = p
either_few false t u most p q = q

-- a byte ends or begins one token more at most
turn_few : (place : LexState) (b : ℕ) → weight (turn place b) ≤ 1 + begun place
turn_few Between b = first_few (class_of b) b
turn_few (InWord word) b = word_few (class_of b) word b
turn_few (BehindSlash word) b = slash_few (class_of b) word b
turn_few (InQuotes quote text) b =
    either_few (b == quote) (record { ends = Spelled (text ++ b ∷ []) ∷ []; place = Between }) (go (InQuotes quote (text ++ b ∷ []))) 2 (omega arith) (omega arith)
turn_few InLine b = either_few (b == 10) (go Between) (go InLine) 1 (omega arith) (omega arith)
turn_few InBlock b = block_few (class_of b)
turn_few BehindStar b = star_few (class_of b)

last_few : (place : LexState) → length (last_tokens place) ≤ begun place
last_few = elim [ Between ↦ omega arith | InWord word ↦ omega arith | BehindSlash word ↦ omega arith | InQuotes quote text ↦ omega arith | InLine ↦ omega arith | InBlock ↦ omega arith | BehindStar ↦ omega arith ]

tokens_few : (bytes : Text) (place : LexState) → length (tokens_from place bytes) ≤ length bytes + begun place
tokens_few [] place = omega (arith, ap length (at_end place), last_few place)
tokens_few (b ∷ bs) place =
    let t = turn place b in
    omega (arith, ap length (step_from place b bs), length-append t.ends (tokens_from t.place bs), turn_few place b, tokens_few bs t.place)

-- ---- items and tokens

behind_by : (here : Bool) (ts inner : List Token) (rest : Option (List Token)) → (if here then Some ts else rest) ≡ Some inner → (rest ≡ Some inner → length inner ≤ length ts)
    → length inner ≤ length ts
behind_by true ts inner rest e shorter = let same : ts ≡ inner = cc in omega (arith, ap length same)
behind_by false ts inner rest e shorter = shorter e

behind_shorter : (word : Text) (all inner : List Token) → behind_first word all ≡ Some inner → length inner ≤ length all
unfolding behind_first
behind_shorter word [] inner e = cc
behind_shorter word (t ∷ ts) inner e =
    let less = behind_by (is_spelled word t) ts inner (behind_first word ts) e (behind_shorter word ts inner) in
    omega arith

back_shorter : (all front rest : List Token) → all ≡ front ++ rest → length rest ≤ length all
back_shorter all front rest e = omega (arith, ap length e, length-append front rest)

names_shorter : (kind : Text) (all : List Token) (names : List Text) (rest : List Token) → AreSignals kind all names rest → length rest ≤ length all
names_shorter kind all names rest are = back_shorter all (signal_tokens kind names) rest are.split

declared_shorter : (all : List Token) (pi : List Text) (chains : ℕ) (po : List Text) (rest : List Token) → AreDeclared all pi chains po rest → length rest ≤ length all
declared_shorter all pi chains po rest are =
    omega (
      arith,
      back_shorter all (tokens head_text) are.one are.head,
      names_shorter input_kind are.one pi are.two are.inputs,
      names_shorter scan_input_kind are.two are.names are.three are.scan_inputs,
      back_shorter are.three (clock_tokens chains) are.four are.clock,
      names_shorter output_kind are.four po rest are.outputs,
    )

chains_shorter : (count : ℕ) (all : List Token) (chains : List (List Text)) (rest : List Token) → AreChains count all chains rest → length rest ≤ length all
chains_shorter zero all chains rest are = omega (arith, ap length are.1)
chains_shorter (suc count) all chains rest are =
    omega (
      arith,
      chains_shorter count all are.before are.inner are.earlier,
      behind_shorter cells_word are.inner are.chain.inner are.chain.skipped,
      names_shorter [] are.chain.inner are.cells rest are.chain.names,
    )

shift_shorter : (chains : ℕ) (all : List Token) (word : Text) (rest : List Token) → IsShifted chains all word rest → length rest ≤ length all
shift_shorter zero all word rest is = omega (arith, ap length is.1)
shift_shorter (suc count) all word rest is =
    let less = back_shorter is.inner (tokens shift_head) (Spelled word ∷ rest) is.word_is in
    omega (arith, behind_shorter vector_word all is.inner is.skipped, less)

-- each item has a token
items_few : (called assigned : List Text) (items : List Item) → length items ≤ length (flat_map (item_tokens called assigned) items)
items_few called assigned [] = omega arith
items_few called assigned (item ∷ items) =
    let own = item_tokens called assigned item in
    omega (
      arith,
      item_shorter called assigned item (own ++ []) [] refl,
      length-append own [],
      length-append own (flat_map (item_tokens called assigned) items),
      items_few called assigned items,
    )

pattern_few : (chains : ℕ) (all : List Token) (items : List Item) (rest : List Token) → ArePattern chains all items rest → length items ≤ length all
pattern_few chains all items rest are =
    let listed = flat_map (item_tokens (map quoted (called chains)) (map quoted (assigned chains))) items in
    omega (
      arith,
      behind_shorter pattern_word all are.inner are.skipped,
      back_shorter are.inner (tokens items_head) are.behind are.head,
      ap length are.listed.are.split,
      length-append listed rest,
      items_few (map quoted (called chains)) (map quoted (assigned chains)) items,
    )

spelt_few : (f : StilFile) (all : List Token) → IsSpelt f all → length f.items ≤ length all
spelt_few f all is =
    let count = length f.chains in
    omega (
      arith,
      declared_shorter all f.pi count f.po is.one is.signals,
      chains_shorter count is.one f.chains is.two is.chains,
      shift_shorter count is.two f.shift_word is.three is.shift,
      pattern_few count is.three f.items is.rest is.pattern,
    )

pub items_take_bytes : ItemsTakeBytes
items_take_bytes bytes f stands = omega (arith, spelt_few f (tokens bytes) (spelt_by bytes f stands), tokens_few bytes Between)
