-- Words put into each lane one after another, and four signals apart.
use Rattle.std.proofs.Common.{◌≡◌, ◌≢◌, ℕ, ◌+◌, ◌<◌, ◌≤◌, List, [], ◌∷◌, ◌++◌, map, take, length, get_or, set, sym, ◌∙◌, ap, subst, arith}
use Rattle.std.specs.List.{All, AllPairs}
use Rattle.std.proofs.lemmas.List.{length-map, length-set, map-append, take_all, take_more, take_more_set}
use Rattle.std.proofs.lemmas.List.Elements.{All-cons}
use Rattle.std.proofs.lemmas.List.Kept.{AllPairs-cons}
use Rattle.statement.specs.Netlists.{Netlist, signals}
use Rattle.events.specs.Standing.{Standing}
use Rattle.regions.specs.declared.fours.Four.{Four}
use Rattle.regions.specs.Side.{spread}
use Rattle.word_sim.specs.inner.Groups.{IsBeside, IsSpread}

-- the first x words stand in each lane, and nothing else is another
abbrev pub IsSpreadUpTo : List ℕ → Standing Four → Standing Four → ℕ → Type 0
IsSpreadUpTo values old w x = (w ≡ record old { values = w.values }) × (length w.values ≡ length values) × (take x w.values ≡ map spread (take x values))

pub one_spread : (values : List ℕ) (old w w' : Standing Four) (x k : ℕ) (four : Four) → IsSpreadUpTo values old w x → x < length values → w' ≡ record w { values = set w.values x four } → four ≡ spread k
    → k ≡ get_or values x k → IsSpreadUpTo values old w' (x + 1)
one_spread values old w w' x k four h l made is read =
    let e : w'.values ≡ set w.values x four = ap (λ (s : Standing Four). s.values) made in
    let size = h.1 in (
      made ∙ (ap (λ (s : Standing Four). record s { values = set w.values x four }) h.0 ∙ ap (λ vs. record old { values = vs }) (sym e)),
      ap length e ∙ (length-set w.values x four ∙ h.1),
      ap (take (x + 1)) e
          ∙ (take_more_set w.values x four (omega arith)
          ∙ (ap (λ vs. vs ++ four ∷ []) h.2
          ∙ (ap (λ v. map spread (take x values) ++ v ∷ []) (is ∙ ap spread read)
          ∙ sym (ap (map spread) (take_more values x k l) ∙ map-append spread (take x values) (get_or values x k ∷ []))))),
    )

pub all_spread : (values : List ℕ) (old w : Standing Four) (x : ℕ) → IsSpreadUpTo values old w x → length values ≤ x → w ≡ record old { values = map spread values }
all_spread values old w x h l =
    let size = h.1 in
    h.0 ∙ ap (λ vs. record old { values = vs }) (sym (take_all x w.values (omega arith)) ∙ (h.2 ∙ ap (map spread) (take_all x values l)))

pub spread_beside : (n m : Netlist) (values read : List ℕ) (w w' : Standing Four) → m ≡ n → read ≡ values → IsBeside m w → w' ≡ record w { values = map spread read } → length values ≡ length (signals n)
    → IsSpread n values w'
spread_beside n m values read w w' same is h made size =
    let e : w'.values ≡ map spread values = ap (λ (s : Standing Four). s.values) made ∙ ap (map spread) is in
    record {
      beside = record {
        netlist = ap (λ (s : Standing Four). s.netlist) made ∙ (h.netlist ∙ same);
        trail = ap (λ (s : Standing Four). s.trail) made ∙ h.trail;
        room = subst (λ k. 3 ≤ k) (sym (ap (λ (s : Standing Four). s.room) made)) h.room;
        size = ap length e ∙ (length-map values spread ∙ size);
      };
      values_are = e;
    }

none_of : {X : Type 0} (P : X → Type 0) → All P []
none_of P i d l = absurd (omega (arith, l))

no_pairs : {X : Type 0} (R : X → X → Type 0) → AllPairs R []
no_pairs R i j d l m = absurd (omega (arith, m))

module _ (a b c d : ℕ) where
  pub four_within : (m : ℕ) → a < m → b < m → c < m → d < m → All (λ x. x < m) (a ∷ b ∷ c ∷ d ∷ [])
  four_within m la lb lc ld =
      let low = λ (x : ℕ). x < m in
      All-cons low a (b ∷ c ∷ d ∷ []) la (All-cons low b (c ∷ d ∷ []) lb (All-cons low c (d ∷ []) lc (All-cons low d [] ld (none_of low))))

  pub four_apart : a ≢ b → a ≢ c → a ≢ d → b ≢ c → b ≢ d → c ≢ d → AllPairs (λ x y. x ≢ y) (a ∷ b ∷ c ∷ d ∷ [])
  four_apart ab ac ad bc bd cd =
      let apart = λ (x y : ℕ). x ≢ y in
      AllPairs-cons apart a (b ∷ c ∷ d ∷ []) (All-cons (apart a) b (c ∷ d ∷ []) ab (All-cons (apart a) c (d ∷ []) ac (All-cons (apart a) d [] ad (none_of (apart a)))))
      (AllPairs-cons apart b (c ∷ d ∷ []) (All-cons (apart b) c (d ∷ []) bc (All-cons (apart b) d [] bd (none_of (apart b))))
      (AllPairs-cons apart c (d ∷ []) (All-cons (apart c) d [] cd (none_of (apart c))) (AllPairs-cons apart d [] (none_of (apart d)) (no_pairs apart))))
