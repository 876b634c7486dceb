-- The same tokens have one reading.
use Rattle.std.proofs.Common.{◌≡◌, ◌∙◌, ◌≤◌, ◌<◌, ℕ, zero, suc, List, [], ◌∷◌, ◌++◌, ap, sym, refl, subst, length, arith}
use Rattle.std.specs.Prelude.{Option, None, Some, codes, map}
use Rattle.statement.specs.Benches.{Text}
use Rattle.statement.specs.Stils.{Item, StilFile, quoted, assigned, called}
use Rattle.stil_write.specs.Texts.{head_text}
use Rattle.stil_read.specs.Tokens.{Spelled, Token, tokens}
use Rattle.stil_read.specs.inner.Signals.{AreSignals}
use Rattle.stil_read.specs.inner.Items.{AreAllItems}
use Rattle.stil_read.specs.inner.Grammar.{AreChains, AreDeclared, ArePattern, IsChain, IsLastChain, IsShiftWord, IsShifted, IsSpelt, clock_tokens, input_kind, items_head, output_kind, scan_input_kind, shift_head}
use Rattle.stil_read.proofs.SignalLemmas.{append_once, signals_once, spelled_once}
use Rattle.stil_read.proofs.PatternLemmas.{items_once}

pub same_some : {X : Type 0} (a b : X) → Some a ≡ Some b → a ≡ b
same_some a b e = cc

-- where the beginnings are the same
pub signals_at : (kind : Text) (all other : List Token) (names others : List Text) (rest more : List Token) → all ≡ other → AreSignals kind all names rest → AreSignals kind other others more
    → (names ≡ others) × (rest ≡ more)
signals_at kind all other names others rest more e a b =
    signals_once kind other names others rest more (subst (λ ts. AreSignals kind ts names rest) e a) b

pub record SameDeclared (pi qi : List Text) (n m : ℕ) (po qo : List Text) (rest more : List Token) : Type 0 where
  pub inputs : pi ≡ qi
  pub chains : n ≡ m
  pub outputs : po ≡ qo
  pub behind : rest ≡ more

pub declared_once : (all : List Token) (pi qi : List Text) (n m : ℕ) (po qo : List Text) (rest more : List Token) → AreDeclared all pi n po rest → AreDeclared all qi m qo more
    → SameDeclared pi qi n m po qo rest more
declared_once all pi qi n m po qo rest more a b =
    let one = append_once (tokens head_text) a.one b.one (sym a.head ∙ b.head) in
    let two = signals_at input_kind a.one b.one pi qi a.two b.two one a.inputs b.inputs in
    let three = signals_at scan_input_kind a.two b.two a.names b.names a.three b.three two.1 a.scan_inputs b.scan_inputs in
    let count : n ≡ m = sym a.counted ∙ ap length three.0 ∙ b.counted in
    let four = append_once (clock_tokens m) a.four b.four (sym (a.clock ∙ ap (λ k. clock_tokens k ++ a.four) count) ∙ three.1 ∙ b.clock) in
    let five = signals_at output_kind a.four b.four po qo rest more four a.outputs b.outputs in
    record { inputs = two.0; chains = count; outputs = five.0; behind = five.1 }

pub chain_once : (all : List Token) (cells others : List Text) (rest more : List Token) → IsChain all cells rest → IsChain all others more → (cells ≡ others) × (rest ≡ more)
chain_once all cells others rest more a b =
    signals_at [] a.inner b.inner cells others rest more (same_some a.inner b.inner (sym a.skipped ∙ b.skipped)) a.names b.names

pub chains_once : (n : ℕ) (all : List Token) (chains others : List (List Text)) (rest more : List Token) → AreChains n all chains rest → AreChains n all others more
    → (chains ≡ others) × (rest ≡ more)
chains_once zero all chains others rest more a b = (a.0 ∙ sym b.0, sym a.1 ∙ b.1)
chains_once (suc n) all chains others rest more a b =
    let before = chains_once n all a.before b.before a.inner b.inner a.earlier b.earlier in
    let last = chain_once b.inner a.cells b.cells rest more (subst (λ ts. IsChain ts a.cells rest) before.1 a.chain) b.chain in
    (a.pushed ∙ ap (λ (cs : List (List Text)). cs ++ a.cells ∷ []) before.0 ∙ ap (λ (c : List Text). b.before ++ c ∷ []) last.0 ∙ sym b.pushed, last.1)

pub shifted_once : (n : ℕ) (all : List Token) (word other : Text) (rest more : List Token) → IsShifted n all word rest → IsShifted n all other more → (word ≡ other) × (rest ≡ more)
shifted_once zero all word other rest more a b = (a.0 ∙ sym b.0, sym a.1 ∙ b.1)
shifted_once (suc n) all word other rest more a b =
    let inner : a.inner ≡ b.inner = same_some a.inner b.inner (sym a.skipped ∙ b.skipped) in
    spelled_once word other rest more (append_once (tokens shift_head) (Spelled word ∷ rest) (Spelled other ∷ more) (sym a.word_is ∙ inner ∙ b.word_is))

pub pattern_once : (n : ℕ) (all : List Token) (items others : List Item) (rest more : List Token) → ArePattern n all items rest → ArePattern n all others more → items ≡ others
pattern_once n all items others rest more a b =
    let inner : a.inner ≡ b.inner = same_some a.inner b.inner (sym a.skipped ∙ b.skipped) in
    let behind = append_once (tokens items_head) a.behind b.behind (sym a.head ∙ inner ∙ b.head) in
    (items_once (map quoted (called n)) (map quoted (assigned n)) b.behind items others rest more
    (subst (λ ts. AreAllItems (map quoted (called n)) (map quoted (assigned n)) ts items rest) behind a.listed) b.listed).0

same_file : (f g : StilFile) → f.pi ≡ g.pi → f.po ≡ g.po → f.chains ≡ g.chains → f.shift_word ≡ g.shift_word → f.items ≡ g.items → f ≡ g
same_file f g a b c d e =
    ap (λ (x : List Text). (let r : StilFile = record { pi = x; po = f.po; chains = f.chains; shift_word = f.shift_word; items = f.items } in r)) a
    ∙ ap (λ (x : List Text). (let r : StilFile = record { pi = g.pi; po = x; chains = f.chains; shift_word = f.shift_word; items = f.items } in r)) b
    ∙ ap (λ (x : List (List Text)). (let r : StilFile = record { pi = g.pi; po = g.po; chains = x; shift_word = f.shift_word; items = f.items } in r)) c
    ∙ ap (λ (x : Text). (let r : StilFile = record { pi = g.pi; po = g.po; chains = g.chains; shift_word = x; items = f.items } in r)) d
    ∙ ap (λ (x : List Item). (let r : StilFile = record { pi = g.pi; po = g.po; chains = g.chains; shift_word = g.shift_word; items = x } in r)) e

pub spelt_once : (f g : StilFile) (all : List Token) → IsSpelt f all → IsSpelt g all → f ≡ g
spelt_once f g all a b =
    let d = declared_once all f.pi g.pi (length f.chains) (length g.chains) f.po g.po a.one b.one a.signals b.signals in
    let n = length g.chains in
    let c = chains_once n b.one f.chains g.chains a.two b.two (subst (λ ts. AreChains n ts f.chains a.two) d.behind (subst (λ k. AreChains k a.one f.chains a.two) d.chains a.chains)) b.chains in
    let s = shifted_once n b.two f.shift_word g.shift_word a.three b.three (subst (λ ts. IsShifted n ts f.shift_word a.three) c.1 (subst (λ k. IsShifted k a.two f.shift_word a.three) d.chains a.shift)) b.shift in
    let p = pattern_once n b.three f.items g.items a.rest b.rest (subst (λ ts. ArePattern n ts f.items a.rest) s.1 (subst (λ k. ArePattern k a.three f.items a.rest) d.chains a.pattern)) b.pattern in
    same_file f g d.inputs d.outputs c.0 s.0 p
