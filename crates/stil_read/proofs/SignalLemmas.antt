-- Signals of one kind, one after the other.
use Rattle.std.proofs.Common.{◌≡◌, ◌∙◌, List, [], ◌∷◌, ◌++◌, ap, sym, refl, append_assoc, append-nil}
use Rattle.statement.specs.Benches.{Text}
use Rattle.statement.specs.Stils.{quoted}
use Rattle.stil_read.specs.Tokens.{Token, Spelled, tokens}
use Rattle.stil_read.specs.inner.Signals.{AreSignals, NoSignal, signal_tokens}

pub spelled_once : (a b : Text) (x y : List Token) → Spelled a ∷ x ≡ Spelled b ∷ y → (a ≡ b) × (x ≡ y)
spelled_once a b x y e = (cc, cc)

pub append_once : {X : Type 0} (front a b : List X) → front ++ a ≡ front ++ b → a ≡ b
append_once [] a b e = e
append_once (x ∷ front) a b e = append_once front a b (let k : front ++ a ≡ front ++ b = cc in k)

last_once : (a b : Text) → a ++ 34 ∷ [] ≡ b ++ 34 ∷ [] → a ≡ b
last_once [] [] e = refl
last_once [] (y ∷ []) e = cc
last_once [] (y ∷ z ∷ b) e = cc
last_once (x ∷ []) [] e = cc
last_once (x ∷ z ∷ a) [] e = cc
last_once (x ∷ a) (y ∷ b) e =
    let h : x ≡ y = cc in
    let t : a ++ 34 ∷ [] ≡ b ++ 34 ∷ [] = cc in
    let r = last_once a b t in cc

quoted_once : (a b : Text) → quoted a ≡ quoted b → a ≡ b
quoted_once a b e = last_once a b (let k : a ++ 34 ∷ [] ≡ b ++ 34 ∷ [] = cc in k)

-- the tokens of one more
pub regroup : (kind : Text) (names : List Text) (name : Text) (rest : List Token)
    → signal_tokens kind (name ∷ names) ++ rest ≡ Spelled (quoted name) ∷ (tokens kind ++ (signal_tokens kind names ++ rest))
regroup kind names name rest = ap (λ ts. Spelled (quoted name) ∷ ts) (append_assoc (tokens kind) (signal_tokens kind names) rest)

by_names : (kind : Text) (names others : List Text) (rest more : List Token) → NoSignal kind rest → NoSignal kind more
    → signal_tokens kind names ++ rest ≡ signal_tokens kind others ++ more → (names ≡ others) × (rest ≡ more)
by_names kind [] [] rest more h k e = (refl, e)
by_names kind [] (y ∷ ys) rest more h k e = absurd (h y (signal_tokens kind ys ++ more) (e ∙ regroup kind ys y more))
by_names kind (x ∷ xs) [] rest more h k e = absurd (k x (signal_tokens kind xs ++ rest) (sym e ∙ regroup kind xs x rest))
by_names kind (x ∷ xs) (y ∷ ys) rest more h k e =
    let one = spelled_once (quoted x) (quoted y) _ _ (sym (regroup kind xs x rest) ∙ e ∙ regroup kind ys y more) in
    let name : x ≡ y = quoted_once x y one.0 in
    let others = by_names kind xs ys rest more h k (append_once (tokens kind) _ _ one.1) in
    let same : xs ≡ ys = others.0 in
    (cc, others.1)

-- no other names are read
pub signals_once : (kind : Text) (all : List Token) (names others : List Text) (rest more : List Token) → AreSignals kind all names rest → AreSignals kind all others more
    → (names ≡ others) × (rest ≡ more)
signals_once kind all names others rest more a b = by_names kind names others rest more a.last b.last (sym a.split ∙ b.split)

pub none_yet : (kind : Text) (all : List Token) → all ≡ signal_tokens kind [] ++ all
none_yet kind all = refl

flat_push : (kind : Text) (names : List Text) (name : Text) → signal_tokens kind (names ++ name ∷ []) ≡ signal_tokens kind names ++ (Spelled (quoted name) ∷ tokens kind)
flat_push kind [] name = ap (λ ts. Spelled (quoted name) ∷ ts) (append-nil (tokens kind))
flat_push kind (x ∷ xs) name =
    ap (λ ts. (Spelled (quoted x) ∷ tokens kind) ++ ts) (flat_push kind xs name) ∙ sym (append_assoc (Spelled (quoted x) ∷ tokens kind) (signal_tokens kind xs) (Spelled (quoted name) ∷ tokens kind))

pub one_more : (kind : Text) (all : List Token) (names : List Text) (rest after : List Token) (name : Text) → all ≡ signal_tokens kind names ++ rest
    → rest ≡ Spelled (quoted name) ∷ (tokens kind ++ after) → all ≡ signal_tokens kind (names ++ name ∷ []) ++ after
one_more kind all names rest after name e f =
    e ∙ ap (λ ts. signal_tokens kind names ++ ts) f ∙ sym (append_assoc (signal_tokens kind names) (Spelled (quoted name) ∷ tokens kind) after)
    ∙ ap (λ ts. ts ++ after) (sym (flat_push kind names name))
