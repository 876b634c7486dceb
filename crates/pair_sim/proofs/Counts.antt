-- How often a signal stands on a trail.
use Rattle.std.proofs.Common.{◌≡◌, ◌≢◌, ◌≤◌, ◌<◌, ◌+◌, ◌*◌, ℕ, zero, suc, Bool, true, false, cond, List, [], ◌∷◌, ◌++◌, length, refl, sym, ◌∙◌, ap, inl, inr, eqb, arith}
use Rattle.std.specs.List.{AllPairs, Contains}
use Rattle.std.proofs.lemmas.Bool.{cases_eq, eqb-true, eq-eqb}
use Rattle.std.proofs.lemmas.List.{get_or_default}
use Rattle.std.proofs.lemmas.List.Sums.{sum_by-append, sum_by-cons}
use Rattle.netlist.proofs.Lists.{contains_head, contains_tail, contains_cases, contains_nil}
use Rattle.tri.specs.declared.labels.Label.{Label}
use Rattle.events.specs.declared.trails.Change.{Change}
use Rattle.pair_sim.specs.inner.Levels.{times}

abbrev one_if : Bool → ℕ
one_if b = cond b 1 0

abbrev here : ℕ → Change Label → ℕ
here x c = one_if (eqb c.signal x)

if_true : (b : Bool) → b ≡ true → one_if b ≡ 1
if_true true h = refl
if_true false h = absurd cc

if_not : (b : Bool) → (b ≡ true → ⊥) → one_if b ≡ 0
if_not true h = absurd (h refl)
if_not false h = refl

pub times_append : (x : ℕ) (cs ds : List (Change Label)) → times x (cs ++ ds) ≡ times x cs + times x ds
times_append x cs ds = sum_by-append (here x) cs ds

times_cons : (x : ℕ) (c : Change Label) (cs : List (Change Label)) → times x (c ∷ cs) ≡ here x c + times x cs
times_cons x c cs = sum_by-cons (here x) c cs

here_few : (x : ℕ) (c : Change Label) → here x c ≤ 1
here_few x c = step (eqb c.signal x)
  where
    step : (b : Bool) → cond b 1 0 ≤ 1
    step true = omega arith
    step false = omega arith

is_here : (x : ℕ) (c : Change Label) → c.signal ≡ x → here x c ≡ 1
is_here x c e = if_true (eqb c.signal x) (eq-eqb c.signal x e)

not_here : (x : ℕ) (c : Change Label) → c.signal ≢ x → here x c ≡ 0
not_here x c ne = if_not (eqb c.signal x) (λ e. ne (eqb-true c.signal x e))

pub none_stands : (x : ℕ) (cs : List (Change Label)) → ((c : Change Label) → Contains cs c → c.signal ≢ x) → times x cs ≡ 0
none_stands x [] h = refl
none_stands x (c ∷ cs) h =
    omega (arith, times_cons x c cs, not_here x c (h c (contains_head c cs)), none_stands x cs (λ b m. h b (contains_tail c b cs m)))

pub stands_not : (x : ℕ) (cs : List (Change Label)) → times x cs ≡ 0 → (c : Change Label) → Contains cs c → c.signal ≢ x
stands_not x [] h c m = absurd (contains_nil c m)
stands_not x (d ∷ cs) h c m = λ e. elim (contains_cases d c cs m) [
  | inl same ↦ absurd (let o = is_here x d (ap (λ (b : Change Label). b.signal) same ∙ e) in omega (arith, times_cons x d cs))
  | inr rest ↦ stands_not x cs (omega (arith, times_cons x d cs)) c rest e
]

pub stands : (x : ℕ) (cs : List (Change Label)) → 0 < times x cs → (c : Change Label) × Contains cs c × (c.signal ≡ x)
stands x [] h = absurd (let e : times x [] ≡ 0 = refl in omega arith)
stands x (d ∷ cs) h = elim (cases_eq d.signal x) [
  | inl e ↦ (d, contains_head d cs, e)
  | inr other ↦
      let w = stands x cs (omega (arith, times_cons x d cs, not_here x d other)) in
      (w.0, contains_tail d w.0 cs w.1, w.2)
]

apart : (c : Change Label) (cs : List (Change Label)) → AllPairs (λ (a b : Change Label). a.signal ≢ b.signal) (c ∷ cs) → (b : Change Label) → Contains cs b → c.signal ≢ b.signal
apart c cs h b m e =
    h 0 (suc m.0) c (omega arith) (let l = m.1 in omega arith) (e ∙ sym (ap (λ (a : Change Label). a.signal) (get_or_default cs m.0 c b m.1 ∙ m.2)))

-- each signal stands there once at most
pub stands_once : (x : ℕ) (cs : List (Change Label)) → AllPairs (λ (c d : Change Label). c.signal ≢ d.signal) cs → times x cs ≤ 1
stands_once x [] h = let e : times x [] ≡ 0 = refl in omega arith
stands_once x (c ∷ cs) h =
    let tail : AllPairs (λ (a b : Change Label). a.signal ≢ b.signal) cs = λ i j d l m. h (suc i) (suc j) d (omega arith) (omega arith) in
    elim (cases_eq c.signal x) [
      | inl e ↦ omega (arith, times_cons x c cs, here_few x c, none_stands x cs (λ b m same. apart c cs h b m (e ∙ sym same)))
      | inr other ↦ omega (arith, times_cons x c cs, not_here x c other, stands_once x cs tail)
    ]

-- ---- a trail on which each signal stands four times at most

all_times : ℕ → List (Change Label) → ℕ
all_times zero cs = 0
all_times (suc k) cs = times k cs + all_times k cs

one_more : (k : ℕ) (c : Change Label) (cs : List (Change Label)) → all_times k cs ≤ all_times k (c ∷ cs) × (c.signal < k → all_times k cs + 1 ≤ all_times k (c ∷ cs))
unfolding all_times
one_more zero c cs = (omega arith, λ l. absurd (omega arith))
one_more (suc k) c cs =
    let h = one_more k c cs in
    let low = h.0 in
    let e = times_cons k c cs in (
      omega arith,
      λ l. elim (cases_eq c.signal k) [
        | inl is ↦ (let o = is_here k c is in omega arith)
        | inr other ↦ (let more = h.1 (omega arith) in omega arith)
      ],
    )

length_all : (k : ℕ) (cs : List (Change Label)) → ((c : Change Label) → Contains cs c → c.signal < k) → length cs ≤ all_times k cs
length_all k [] h = omega arith
length_all k (c ∷ cs) h =
    let a = (one_more k c cs).1 (h c (contains_head c cs)) in
    let b = length_all k cs (λ d m. h d (contains_tail c d cs m)) in
    omega arith

all_few : (k : ℕ) (cs : List (Change Label)) → ((x : ℕ) → times x cs ≤ 4) → all_times k cs ≤ 4 * k
unfolding all_times
all_few zero cs h = omega arith
all_few (suc k) cs h = omega (arith, h k, all_few k cs h)

pub length_few : (k : ℕ) (cs : List (Change Label)) → ((c : Change Label) → Contains cs c → c.signal < k) → ((x : ℕ) → times x cs ≤ 4) → length cs ≤ 4 * k
length_few k cs h few = omega (arith, length_all k cs h, all_few k cs few)

all_once : (k : ℕ) (cs : List (Change Label)) → ((x : ℕ) → times x cs ≤ 1) → all_times k cs ≤ k
unfolding all_times
all_once zero cs h = omega arith
all_once (suc k) cs h = omega (arith, h k, all_once k cs h)

-- changes, each of another signal, are no more than the signals
pub length_once : (k : ℕ) (cs : List (Change Label)) → ((c : Change Label) → Contains cs c → c.signal < k) → AllPairs (λ (c d : Change Label). c.signal ≢ d.signal) cs → length cs ≤ k
length_once k cs h once = omega (arith, length_all k cs h, all_once k cs (λ x. stands_once x cs once))
