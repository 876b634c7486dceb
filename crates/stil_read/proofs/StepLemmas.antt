-- What a reader that stopped says of every file.
use Rattle.std.proofs.Common.{◌≡◌, ◌∙◌, ◌≤◌, ◌<◌, ◌+◌, ◌⊎◌, inl, inr, ℕ, zero, suc, List, [], ◌∷◌, ◌++◌, ap, sym, refl, subst, length, arith, add-one, length-append, ◌-◌}
use Rattle.std.specs.Prelude.{Option, None, Some, codes}
use Rattle.statement.specs.Benches.{Text}
use Rattle.statement.specs.Stils.{Item, StilFile}
use Rattle.stil_write.specs.Texts.{head_text}
use Rattle.stil_read.specs.Tokens.{Spelled, Token, class_of, tokens, tokens_from}
use Rattle.stil_read.specs.inner.Signals.{AreSignals}
use Rattle.stil_read.specs.inner.Skips.{behind_first}
use Rattle.stil_read.specs.inner.Grammar.{AreChains, AreDeclared, ArePattern, IsChain, IsLastChain, IsShiftWord, IsShifted, IsSpelt, clock_tokens, input_kind, items_head, output_kind, pattern_word, scan_input_kind, shift_head, vector_word}
use Rattle.stil_read.proofs.SignalLemmas.{append_once, signals_once}
use Rattle.stil_read.proofs.OnceLemmas.{chain_once, chains_once, declared_once, pattern_once, shifted_once, signals_at, same_some}

-- ---- the clock's line

pub clock_line : (n : ℕ) → (n ≡ 0 → ⊥) → tokens (codes "\"SC__ck\" In;") ≡ clock_tokens n
unfolding tokens_from class_of
clock_line zero h = absurd (h refl)
clock_line (suc n) h = refl

-- ---- signals

pub declared_here : (all one two three four rest : List Token) (pi names po : List Text) (n : ℕ) → all ≡ tokens head_text ++ one → AreSignals input_kind one pi two → AreSignals scan_input_kind two names three
    → n ≡ length names → three ≡ clock_tokens n ++ four → AreSignals output_kind four po rest → AreDeclared all pi n po rest
declared_here all one two three four rest pi names po n h i s c k o =
    record { one = one; two = two; three = three; four = four; names = names; head = h; inputs = i; scan_inputs = s; counted = sym c; clock = k; outputs = o }

pub no_clock_line : (all one two three : List Token) (pi names : List Text) (n : ℕ) → all ≡ tokens head_text ++ one → AreSignals input_kind one pi two → AreSignals scan_input_kind two names three
    → n ≡ length names → ((ts : List Token) → three ≡ clock_tokens n ++ ts → ⊥) → (qi : List Text) (m : ℕ) (po : List Text) (rest : List Token) → AreDeclared all qi m po rest → ⊥
no_clock_line all one two three pi names n h i s c none qi m po rest a =
    let e = append_once (tokens head_text) one a.one (sym h ∙ a.head) in
    let f = signals_at input_kind one a.one pi qi two a.two e i a.inputs in
    let g = signals_at scan_input_kind two a.two names a.names three a.three f.1 s a.scan_inputs in
    let k : n ≡ m = c ∙ ap length g.0 ∙ a.counted in
    none a.four (g.1 ∙ a.clock ∙ ap (λ j. clock_tokens j ++ a.four) (sym k))

-- ---- chains

none_some : {X : Type 0} (o : Option X) (x : X) → o ≡ None → o ≡ Some x → ⊥
none_some o x e f = cc

pub chains_more : (k : ℕ) (all : List Token) (chains more : List (List Text)) (cells : List Text) (inner rest : List Token) → AreChains k all chains inner → IsChain inner cells rest
    → more ≡ chains ++ cells ∷ [] → AreChains (k + 1) all more rest
chains_more k all chains more cells inner rest a c e =
    rw add-one (record { before = chains; inner = inner; cells = cells; earlier = a; chain = c; pushed = e })

-- of more chains the first ones
pub record FirstChains (k : ℕ) (all : List Token) : Type 0 where
  pub chains : List (List Text)
  pub rest : List Token
  pub are : AreChains k all chains rest

fewer : (d k : ℕ) (all : List Token) (chains : List (List Text)) (rest : List Token) → AreChains (d + k) all chains rest → FirstChains k all
fewer zero k all chains rest a = record { chains = chains; rest = rest; are = subst (λ n. AreChains n all chains rest) (let e : 0 + k ≡ k = omega arith in e) a }
fewer (suc d) k all chains rest a =
    let b : IsLastChain (AreChains (d + k) all) chains rest = subst (λ n. AreChains n all chains rest) (let e : suc d + k ≡ suc (d + k) = omega arith in e) a in
    fewer d k all b.before b.inner b.earlier

pub no_more_chains : (k n : ℕ) (all : List Token) (chains : List (List Text)) (rest : List Token) → k < n → AreChains k all chains rest → ((cells : List Text) (more : List Token) → IsChain rest cells more → ⊥)
    → (others : List (List Text)) (more : List Token) → AreChains n all others more → ⊥
no_more_chains k n all chains rest l a none others more b =
    let e : n ≡ (n - suc k) + suc k = omega (arith, l) in
    let first = fewer (n - suc k) (suc k) all others more (subst (λ m. AreChains m all others more) e b) in
    let last : IsLastChain (AreChains k all) first.chains first.rest = first.are in
    let same = chains_once k all chains last.before rest last.inner a last.earlier in
    none last.cells first.rest (subst (λ ts. IsChain ts last.cells first.rest) (sym same.1) last.chain)

-- ---- the word of a shift

pub no_vector : (n : ℕ) (all : List Token) → (n ≡ 0 → ⊥) → behind_first vector_word all ≡ None → (word : Text) (rest : List Token) → IsShifted n all word rest → ⊥
no_vector zero all h e word rest a = h refl
no_vector (suc n) all h e word rest a = none_some (behind_first vector_word all) a.inner e a.skipped

-- ---- the pattern

pub no_items_head : (n : ℕ) (all inner : List Token) → behind_first pattern_word all ≡ Some inner → ((ts : List Token) → inner ≡ tokens items_head ++ ts → ⊥) → (items : List Item) (rest : List Token)
    → ArePattern n all items rest → ⊥
no_items_head n all inner e none items rest a = none a.behind (same_some inner a.inner (sym e ∙ a.skipped) ∙ a.head)

-- ---- the whole

pub no_signals : (all : List Token) → ((pi : List Text) (n : ℕ) (po : List Text) (rest : List Token) → AreDeclared all pi n po rest → ⊥) → (f : StilFile) → IsSpelt f all → ⊥
no_signals all none f a = none f.pi (length f.chains) f.po a.one a.signals

pub no_chains : (all one : List Token) (pi po : List Text) (n : ℕ) → AreDeclared all pi n po one → ((chains : List (List Text)) (rest : List Token) → AreChains n one chains rest → ⊥) → (f : StilFile) → IsSpelt f all → ⊥
no_chains all one pi po n d none f a =
    let s = declared_once all pi f.pi n (length f.chains) po f.po one a.one d a.signals in
    none f.chains a.two (subst (λ ts. AreChains n ts f.chains a.two) (sym s.behind) (subst (λ k. AreChains k a.one f.chains a.two) (sym s.chains) a.chains))

pub no_shift : (all one two : List Token) (pi po : List Text) (n : ℕ) (chains : List (List Text)) → AreDeclared all pi n po one → AreChains n one chains two
    → ((word : Text) (rest : List Token) → IsShifted n two word rest → ⊥) → (f : StilFile) → IsSpelt f all → ⊥
no_shift all one two pi po n chains d c none f a =
    let s = declared_once all pi f.pi n (length f.chains) po f.po one a.one d a.signals in
    let t = chains_once n one chains f.chains two a.two c (subst (λ ts. AreChains n ts f.chains a.two) (sym s.behind) (subst (λ k. AreChains k a.one f.chains a.two) (sym s.chains) a.chains)) in
    none f.shift_word a.three (subst (λ ts. IsShifted n ts f.shift_word a.three) (sym t.1) (subst (λ k. IsShifted k a.two f.shift_word a.three) (sym s.chains) a.shift))

pub no_items : (all one two three : List Token) (pi po : List Text) (n : ℕ) (chains : List (List Text)) (word : Text) → AreDeclared all pi n po one → AreChains n one chains two → IsShifted n two word three
    → ((items : List Item) (rest : List Token) → ArePattern n three items rest → ⊥) → (f : StilFile) → IsSpelt f all → ⊥
no_items all one two three pi po n chains word d c w none f a =
    let s = declared_once all pi f.pi n (length f.chains) po f.po one a.one d a.signals in
    let t = chains_once n one chains f.chains two a.two c (subst (λ ts. AreChains n ts f.chains a.two) (sym s.behind) (subst (λ k. AreChains k a.one f.chains a.two) (sym s.chains) a.chains)) in
    let u = shifted_once n two word f.shift_word three a.three w (subst (λ ts. IsShifted n ts f.shift_word a.three) (sym t.1) (subst (λ k. IsShifted k a.two f.shift_word a.three) (sym s.chains) a.shift)) in
    none f.items a.rest (subst (λ ts. ArePattern n ts f.items a.rest) (sym u.1) (subst (λ k. ArePattern k a.three f.items a.rest) (sym s.chains) a.pattern))

-- as many chains as scan inputs
pub chain_count : (n : ℕ) (all : List Token) (chains : List (List Text)) (rest : List Token) → AreChains n all chains rest → length chains ≡ n
chain_count zero all chains rest a = ap length a.0
chain_count (suc n) all chains rest a =
    let k = chain_count n all a.before a.inner a.earlier in
    let e = ap length a.pushed in
    let m = length-append a.before (a.cells ∷ []) in
    omega (arith, k, e, m)

pub spelt_here : (f : StilFile) (n : ℕ) (all one two three rest : List Token) → AreDeclared all f.pi n f.po one → AreChains n one f.chains two → IsShifted n two f.shift_word three → ArePattern n three f.items rest
    → IsSpelt f all
spelt_here f n all one two three rest d c s p =
    let e : n ≡ length f.chains = sym (chain_count n one f.chains two c) in
    record {
      one = one;
      two = two;
      three = three;
      rest = rest;
      signals = subst (λ k. AreDeclared all f.pi k f.po one) e d;
      chains = subst (λ k. AreChains k one f.chains two) e c;
      shift = subst (λ k. IsShifted k two f.shift_word three) e s;
      pattern = subst (λ k. ArePattern k three f.items rest) e p;
    }
