-- The changes that show at points, gone over one by one.
use Rattle.std.proofs.Common.{◌≡◌, ℕ, ◌+◌, ◌-◌, ◌^◌, ◌<◌, ◌≤◌, ◌&&◌, ◌||◌, Bool, true, false, cond, eqb, ltb, not, List, [], ◌∷◌, ◌++◌, take, length, map, get_or, Option, Some, None, refl, sym, ◌∙◌, ap, subst, inl, inr, arith, bit_and, bit_or, bit_xor}
use Rattle.std.specs.Int.{bit_at, w64, leading_zeros}
use Rattle.std.specs.List.{Contains, filter, list_any}
use Rattle.std.proofs.lemmas.Bool.{cases_Bool, cases_lt, both_ways, and_parts, and_from, false_from_ne_true, lt-ltb, ltb-true, ne_eqb}
use Rattle.std.proofs.lemmas.List.Folds.{list_any_more}
use Rattle.std.proofs.lemmas.List.Elements.{Contains-push, Contains-push_cases, Contains-append_left}
use Rattle.std.proofs.lemmas.List.{take_more}
use Rattle.std.proofs.lemmas.Nat.Bits.{bit_at-zero}
use Rattle.netlist.proofs.Lists.{any_from, any_true, contains_cases, contains_filter, contains_head, contains_map, contains_nil, contains_tail, filter_contains}
use Rattle.events.specs.declared.trails.Change.{Change}
use Rattle.events.specs.Words.{bit_of}
use Rattle.events.proofs.WordBits.{bit_of_and, bit_of_or}
use Rattle.word_sim.specs.inner.Differences.{is_seen, shown_at, shown_of, shows, shows_under, AreLastOf, AreLastSeen, AreShown, IsFirstSeen, IsFirstShown, IsLeastOf, IsSole}
use Rattle.word_sim.specs.declared.shown.Shown.{Shown}
use Rattle.word_sim.proofs.HighestBits.{highest}

none_some : {X : Type 0} (x : X) → ◌≡◌ {A = Option X} None (Some x) → ⊥
none_some x e = cc

same_pair : (v w : ℕ × ℕ) → Some v ≡ Some w → v ≡ w
same_pair v w e = cc

and_true : (b : Bool) → (b && true) ≡ b
and_true true = refl
and_true false = refl

pub map_contains : {X Y : Type 0} (f : X → Y) (xs : List X) (x : X) → Contains xs x → Contains (map f xs) (f x)
map_contains f [] x c = absurd (contains_nil x c)
map_contains f (y ∷ ys) x c = elim (contains_cases y x ys c) [
  | inl is ↦ subst (λ z. Contains (f y ∷ map f ys) (f z)) is (contains_head (f y) (map f ys))
  | inr later ↦ contains_tail (f y) (f x) (map f ys) (map_contains f ys x later)
]

-- one element more is gone over
module _ {X : Type 0} (xs : List X) (k : ℕ) (c : X) (l : k < length xs) (is : c ≡ get_or xs k c) where
  more : take (k + 1) xs ≡ take k xs ++ c ∷ []
  more = take_more xs k c l ∙ ap (λ d. take k xs ++ d ∷ []) (sym is)

  pub all_more : (test : ℕ → X → Bool) (all s : ℕ) → ((j : ℕ) → j < 64 → bit_of j all ≡ list_any (test j) (take k xs)) → ((j : ℕ) → j < 64 → bit_of j s ≡ test j c)
      → (j : ℕ) → j < 64 → bit_of j (bit_or all s) ≡ list_any (test j) (take (k + 1) xs)
  all_more test all s h here j low =
      bit_of_or all s j ∙ (ap (λ b. b || bit_of j s) (h j low) ∙ (ap (λ b. list_any (test j) (take k xs) || b) (here j low ∙ ap (test j) is)
      ∙ sym (list_any_more (test j) xs k c l)))

  -- an element passes where it has the bit, and stands low enough
  module _ (test bit : X → Bool) (place : X → ℕ) (count : ℕ) (has_bit : (x : X) → test x ≡ true → bit x ≡ true) where
    pub least_more : (least least' : ℕ) → IsLeastOf test place count (take k xs) least → (ltb (place c) least ≡ true → bit c ≡ true → test c ≡ true)
        → least' ≡ cond (ltb (place c) least && bit c) (place c) least → IsLeastOf test place count (take (k + 1) xs) least'
    least_more least least' h passes made = elim (cases_Bool (ltb (place c) least && bit c)) [
      | inl yes' ↦
          let parts = and_parts (ltb (place c) least) (bit c) yes' in
          let low = ltb-true (place c) least parts.0 in
          let e : least' ≡ place c = made ∙ ap (λ b. cond b (place c) least) yes' in
          record {
            lower = λ d m s. elim (Contains-push_cases (take k xs) c d (subst (λ cs. Contains cs d) more m)) [
              | inl was ↦ let b = h.lower d was s in omega arith
              | inr same ↦ let f : place c ≡ place d = ap place same in omega arith
            ];
            some = inr (c, subst (λ cs. Contains cs c) (sym more) (Contains-push (take k xs) c), passes parts.0 parts.1, sym e);
          }
      | inr no' ↦
          let e : least' ≡ least = made ∙ ap (λ b. cond b (place c) least) no' in
          record {
            lower = λ d m s. elim (Contains-push_cases (take k xs) c d (subst (λ cs. Contains cs d) more m)) [
              | inl was ↦ let b = h.lower d was s in omega arith
              | inr same ↦
                  let f : place c ≡ place d = ap place same in
                  elim (cases_lt (place c) least) [
                    | inl below ↦ absurd (both_ways (ltb (place c) least && bit c) no' (and_from (ltb (place c) least) (bit c) (lt-ltb (place c) least below) (has_bit c (ap test same ∙ s))))
                    | inr above ↦ omega arith
                  ]
            ];
            some = elim h.some [
              | inl none ↦ inl (e ∙ none)
              | inr w ↦ inr (w.0, subst (λ cs. Contains cs w.0) (sym more) (Contains-append_left (take k xs) (c ∷ []) w.0 w.1), w.2, w.3 ∙ sym e)
            ];
          }
    ]

-- the same of changes, which show at points alone
module _ (first : List ℕ) (count : ℕ) (values : List ℕ) (j : ℕ) where
  abbrev changed : Change ℕ → Bool
  changed c = bit_of j (bit_xor c.before (get_or values c.signal 0))

  -- the number so far is within
  within : (changes : List (Change ℕ)) (least : ℕ) → IsFirstShown first count values j changes least → least ≤ count
  within changes least h = elim h.some [
    | inl e ↦ omega arith
    | inr w ↦ let l = ltb-true (get_or first w.0.signal 0) count (and_parts (ltb (get_or first w.0.signal 0) count) (changed w.0) w.2).0 in let e = w.3 in omega arith
  ]

  pub first_more : (changes : List (Change ℕ)) (k least least' : ℕ) (c : Change ℕ) → k < length changes → c ≡ get_or changes k c → IsFirstShown first count values j (take k changes) least
      → least' ≡ cond (shows first least values j c) (get_or first c.signal 0) least → IsFirstShown first count values j (take (k + 1) changes) least'
  first_more changes k least least' c l is h made =
      least_more changes k c l is (shows first count values j) changed (λ (d : Change ℕ). get_or first d.signal 0) count (λ d s. (and_parts (ltb (get_or first d.signal 0) count) (changed d) s).1) least least' h
      (λ low bit.
      let most = within (take k changes) least h in
      let below = ltb-true (get_or first c.signal 0) least low in
      and_from (ltb (get_or first c.signal 0) count) (changed c) (lt-ltb (get_or first c.signal 0) count (omega arith)) bit) made

module _ {X : Type 0} (test : ℕ → X → Bool) (place : X → ℕ) (count : ℕ) (xs : List X) (all used : ℕ) (are : (j : ℕ) → j < 64 → bit_of j all ≡ list_any (test j) xs) where
  both_bits : (j : ℕ) → j < 64 → bit_of j used ≡ true → bit_of j (bit_and all used) ≡ list_any (test j) xs
  both_bits j l u = bit_of_and all used j ∙ (ap (λ b. bit_of j all && b) u ∙ (and_true (bit_of j all) ∙ are j l))

  pub none_last : bit_and all used ≡ 0 → AreLastOf test place count used xs None
  none_last e = record {
    none = λ _ j l u. sym (both_bits j l u) ∙ (ap (bit_of j) e ∙ ne_eqb (bit_at 0 j) 1 (λ o. let z = bit_at-zero j in omega arith));
    some = λ j c s. absurd (none_some (j, c) s);
  }

  pub some_last : (k c : ℕ) → (bit_and all used ≡ 0 → ⊥) → bit_and all used < 2 ^ 64 → k ≡ 63 - leading_zeros w64 (bit_and all used) → IsLeastOf (test k) place count xs c
      → AreLastOf test place count used xs (Some (k, c))
  some_last k c some small is h =
      let top = highest (bit_and all used) k (let w : 0 < bit_and all used = omega arith in w) small is in
      let parts = and_parts (bit_of k all) (bit_of k used) (sym (bit_of_and all used k) ∙ top.1) in
      record {
        none = λ e. absurd (none_some (k, c) (sym e));
        some = λ i d e. subst (λ (w : ℕ × ℕ). (w.0 < 64) × (bit_of w.0 used ≡ true) × (list_any (test w.0) xs ≡ true) × IsLeastOf (test w.0) place count xs w.1
            × ((i' : ℕ) → w.0 < i' → i' < 64 → bit_of i' used ≡ true → list_any (test i') xs ≡ false)) (same_pair (k, c) (i, d) e)
            (top.0, parts.1, sym (are k top.0) ∙ parts.0, h, λ i' l low u. sym (both_bits i' low u) ∙ top.2 i' l);
      }

-- what points see of changes is what shows
module _ (first : List ℕ) (count : ℕ) (values : List ℕ) where
  abbrev under : Change ℕ → ℕ
  under c = bit_xor c.before (get_or values c.signal 0)

  -- what shows is seen
  is_listed : (j : ℕ) (c : Change ℕ) → shows first count values j c ≡ true → is_seen first count values c ≡ true
  is_listed j c s =
      let parts = and_parts (ltb (get_or first c.signal 0) count) (bit_of j (under c)) s in
      and_from (ltb (get_or first c.signal 0) count) (not (eqb (under c) 0)) parts.0
      (ap not (ne_eqb (under c) 0 (λ e. both_ways (bit_of j 0) (ne_eqb (bit_at 0 j) 1 (λ o. let z = bit_at-zero j in omega arith)) (ap (bit_of j) (sym e) ∙ parts.1))))

  -- what is seen shows where it has the bit
  seen_shows : (j : ℕ) (c : Change ℕ) → is_seen first count values c ≡ true → bit_of j (under c) ≡ true → shows first count values j c ≡ true
  seen_shows j c s bit = and_from (ltb (get_or first c.signal 0) count) (bit_of j (under c)) (and_parts (ltb (get_or first c.signal 0) count) (not (eqb (under c) 0)) s).0 bit

  module _ (changes : List (Change ℕ)) where
    shown_from : (s : Shown) (j : ℕ) → Contains (shown_of first count values changes) s → shows_under j s ≡ true
        → (d : Change ℕ) × Contains changes d × (shows first count values j d ≡ true) × (get_or first d.signal 0 ≡ s.point)
    shown_from s j m bit =
        let w = contains_map (shown_at first values) (filter (is_seen first count values) changes) s m in
        let f = contains_filter (is_seen first count values) changes w.0 w.1 in
        (w.0, f.0, seen_shows j w.0 f.1 (ap (shows_under j) w.2 ∙ bit), ap (λ (t : Shown). t.point) w.2)

    shown_in : (d : Change ℕ) (j : ℕ) → Contains changes d → shows first count values j d ≡ true → Contains (shown_of first count values changes) (shown_at first values d) × (bit_of j (under d) ≡ true)
    shown_in d j m s = (
      map_contains (shown_at first values) (filter (is_seen first count values) changes) d (filter_contains (is_seen first count values) changes d m (is_listed j d s)),
      (and_parts (ltb (get_or first d.signal 0) count) (bit_of j (under d)) s).1,
    )

    none_seen : (j : ℕ) → list_any (shows_under j) (shown_of first count values changes) ≡ false → list_any (shows first count values j) changes ≡ false
    none_seen j none = false_from_ne_true (list_any (shows first count values j) changes) (λ t.
        let w = any_true (shows first count values j) changes t in
        let i = shown_in w.0 j w.1 w.2 in
        both_ways (list_any (shows_under j) (shown_of first count values changes)) none (any_from (shows_under j) (shown_of first count values changes) (shown_at first values w.0) i.0 i.1))

    some_seen : (j : ℕ) → list_any (shows_under j) (shown_of first count values changes) ≡ true → list_any (shows first count values j) changes ≡ true
    some_seen j some =
        let w = any_true (shows_under j) (shown_of first count values changes) some in
        let d = shown_from w.0 j w.1 w.2 in
        any_from (shows first count values j) changes d.0 d.1 d.2

    first_seen : (j c : ℕ) → IsFirstSeen count j (shown_of first count values changes) c → IsFirstShown first count values j changes c
    first_seen j c h = record {
      lower = λ d m s. let i = shown_in d j m s in h.lower (shown_at first values d) i.0 i.1;
      some = elim h.some [
        | inl none ↦ inl none
        | inr w ↦ let d = shown_from w.0 j w.1 w.2 in inr (d.0, d.1, d.2, d.3 ∙ w.3)
      ];
    }

    pub seen_shown : (used : ℕ) (found : Option (ℕ × ℕ)) → AreLastSeen count used (shown_of first count values changes) found → AreShown first count values used changes found
    seen_shown used found h = record {
      none = λ e j l u. none_seen j (h.none e j l u);
      some = λ j c e.
          let s = h.some j c e in
          (s.0, s.1, some_seen j s.2, first_seen j c s.3, λ i l low u. none_seen i (s.4 i l low u));
    }

-- the same of one word that differs
pub none_differing : (word used number : ℕ) → bit_and word used ≡ 0 → IsSole word used number None
none_differing word used number e = record {
  none = λ _ j l u. sym (bit_of_and word used j ∙ (ap (λ b. bit_of j word && b) u ∙ and_true (bit_of j word))) ∙ (ap (bit_of j) e ∙ ne_eqb (bit_at 0 j) 1 (λ o. let z = bit_at-zero j in omega arith));
  some = λ j c s. absurd (none_some (j, c) s);
}

pub some_differing : (word used number k : ℕ) → (bit_and word used ≡ 0 → ⊥) → bit_and word used < 2 ^ 64 → k ≡ 63 - leading_zeros w64 (bit_and word used) → IsSole word used number (Some (k, number))
some_differing word used number k some small is =
    let top = highest (bit_and word used) k (let w : 0 < bit_and word used = omega arith in w) small is in
    let parts = and_parts (bit_of k word) (bit_of k used) (sym (bit_of_and word used k) ∙ top.1) in
    record {
      none = λ e. absurd (none_some (k, number) (sym e));
      some = λ i d e. subst (λ (w : ℕ × ℕ). (w.0 < 64) × (bit_of w.0 used ≡ true) × (w.1 ≡ number) × (bit_of w.0 word ≡ true)
          × ((i' : ℕ) → w.0 < i' → i' < 64 → bit_of i' used ≡ true → bit_of i' word ≡ false)) (same_pair (k, number) (i, d) e)
          (top.0, parts.1, refl, parts.0, λ i' l low u. sym (bit_of_and word used i' ∙ (ap (λ b. bit_of i' word && b) u ∙ and_true (bit_of i' word))) ∙ top.2 i' l);
    }
