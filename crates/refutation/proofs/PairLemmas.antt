-- Sets of pairs: which pairs are in them.
use Rattle.std.proofs.Common.{◌≡◌, ℕ, ◌+◌, Bool, true, false, not, List, [], ◌∷◌, map, Some, None, refl, ap}
use Rattle.std.specs.List.{All}
use Rattle.std.proofs.lemmas.Bool.{and_from}
use Rattle.std.proofs.lemmas.List.Elements.{All-head, All-tail}
use Rattle.statement.specs.declared.lines.Line.TheVariants.{Pin}
use Rattle.statement.specs.declared.lines.Fault.{Fault}
use Rattle.statement.specs.Values.{bits, on_pins, stuck}
use Rattle.refutation.specs.declared.pairs.Pairs.{Pairs}
use Rattle.refutation.specs.Pairs.{Pair, has, AreAmong, meet, others, any_pair, same, good_is, faulty_is, paired}

abbrev pub pair : Bool → Bool → Pair
pair g b = record { good = g; faulty = b }

has_meet_of : (s t : Pairs) (g b : Bool) → has s (pair g b) ≡ true → has t (pair g b) ≡ true → has (meet s t) (pair g b) ≡ true
has_meet_of s t true true h k = and_from s.one t.one h k
has_meet_of s t true false h k = and_from s.falls t.falls h k
has_meet_of s t false true h k = and_from s.rises t.rises h k
has_meet_of s t false false h k = and_from s.zero t.zero h k

pub has_meet : (s t : Pairs) (p : Pair) → has s p ≡ true → has t p ≡ true → has (meet s t) p ≡ true
has_meet s t p h k = has_meet_of s t p.good p.faulty h k

has_others_of : (s : Pairs) (g b : Bool) → has (others s) (pair g b) ≡ not (has s (pair g b))
has_others_of s true true = refl
has_others_of s true false = refl
has_others_of s false true = refl
has_others_of s false false = refl

pub has_others : (s : Pairs) (p : Pair) → has (others s) p ≡ not (has s p)
has_others s p = has_others_of s p.good p.faulty

has_any_of : (g b : Bool) → has any_pair (pair g b) ≡ true
has_any_of true true = refl
has_any_of true false = refl
has_any_of false true = refl
has_any_of false false = refl

pub has_any : (p : Pair) → has any_pair p ≡ true
has_any p = has_any_of p.good p.faulty

has_same_of : (g b : Bool) → g ≡ b → has same (pair g b) ≡ true
has_same_of true true e = refl
has_same_of true false e = cc
has_same_of false true e = cc
has_same_of false false e = refl

pub has_same : (p : Pair) → p.good ≡ p.faulty → has same p ≡ true
has_same p e = has_same_of p.good p.faulty e

has_good_of : (c g b : Bool) → g ≡ c → has (good_is c) (pair g b) ≡ true
has_good_of true true true e = refl
has_good_of true true false e = refl
has_good_of true false b e = cc
has_good_of false true b e = cc
has_good_of false false true e = refl
has_good_of false false false e = refl

pub has_good : (c : Bool) (p : Pair) → p.good ≡ c → has (good_is c) p ≡ true
has_good c p e = has_good_of c p.good p.faulty e

has_faulty_of : (c g b : Bool) → b ≡ c → has (faulty_is c) (pair g b) ≡ true
has_faulty_of true true true e = refl
has_faulty_of true false true e = refl
has_faulty_of true g false e = cc
has_faulty_of false g true e = cc
has_faulty_of false true false e = refl
has_faulty_of false false false e = refl

pub has_faulty : (c : Bool) (p : Pair) → p.faulty ≡ c → has (faulty_is c) p ≡ true
has_faulty c p e = has_faulty_of c p.good p.faulty e

-- ---- pairs on pins are the bits on them

pub goods_on_pins : (f : Fault) (z k : ℕ) (ps : List Pair) → map (λ (p : Pair). p.good) (on_pins (paired f) z k ps) ≡ on_pins (bits None) z k (map (λ (p : Pair). p.good) ps)
goods_on_pins f z k [] = refl
goods_on_pins f z k (p ∷ ps) = ap (λ bs. p.good ∷ bs) (goods_on_pins f z (k + 1) ps)

pub faults_on_pins : (f : Fault) (z k : ℕ) (ps : List Pair) → map (λ (p : Pair). p.faulty) (on_pins (paired f) z k ps) ≡ on_pins (bits (Some f)) z k (map (λ (p : Pair). p.faulty) ps)
faults_on_pins f z k [] = refl
faults_on_pins f z k (p ∷ ps) = ap (λ bs. stuck (λ b. b) (Some f) (Pin z k) p.faulty ∷ bs) (faults_on_pins f z (k + 1) ps)

pub are_among : (sets : ℕ → Pairs) (truth : ℕ → Pair) (xs : List ℕ) → All (λ x. has (sets x) (truth x) ≡ true) xs → AreAmong (map sets xs) (map truth xs)
are_among sets truth [] h = tt
are_among sets truth (x ∷ xs) h = (All-head (λ y. has (sets y) (truth y) ≡ true) x xs h, are_among sets truth xs (All-tail (λ y. has (sets y) (truth y) ≡ true) x xs h))
