-- What is said of each machine, and the word of those of which nothing is.
use Rattle.std.proofs.Common.{◌≡◌, ℕ, suc, zero, ◌+◌, ◌<◌, ◌≤◌, Bool, true, false, not, ◌&&◌, ◌||◌, if◌then◌else◌, List, [], ◌∷◌, length, get_or, set, drop, Option, Some, None, refl, sym, ◌∙◌, ap, inl, inr, arith}
use Rattle.std.proofs.lemmas.Bool.{cases_eq, both_ways}
use Rattle.std.proofs.lemmas.List.{get_or_default, get_or-map, length-map, length-set, get_or-set_same, get_or-set_other}
use Rattle.statement.specs.declared.kinds.Tri.{Tri}
use Rattle.statement.specs.declared.kinds.Tri.TheVariants.{Zero, One, X}
use Rattle.statement.specs.Values.{known}
use Rattle.scan_play.specs.declared.played.Played.{Played}
use Rattle.scan_play.specs.Judging.{Judging, judged_in, played_or_else}
use Rattle.scan_play.proofs.PlayLemmas.{judged_more}
use Rattle.lane_play.specs.declared.bits.Bits.{Bits}
use Rattle.lane_play.specs.declared.packed.Lanes.{Lanes}
use Rattle.lane_play.specs.inner.Bits.{bit_in, bits_and, bits_not, bits_or, no_bits}
use Rattle.lane_play.specs.inner.Lanes.{lane, lanes}
use Rattle.lane_play.specs.inner.Verdicts.{AreLeft, AreSaid, found_at, is_open, said_of}
use Rattle.lane_play.proofs.BitLemmas.{bit_in_and, bit_in_none, bit_in_not, bit_in_or}

-- ---- what is said at a strobe

told_cases : (z o x : Option Played) (k b : Bool)
    → ((not (is_open z) && (k && not b)) || ((not (is_open o) && (k && b)) || (not (is_open x) && not k))) ≡ not (is_open (said_of z o x (if k then known b else X)))
told_cases None None None true true = refl
told_cases None None None true false = refl
told_cases None None None false b = refl
told_cases None None (Some x) true true = refl
told_cases None None (Some x) true false = refl
told_cases None None (Some x) false b = refl
told_cases None (Some o) None true true = refl
told_cases None (Some o) None true false = refl
told_cases None (Some o) None false b = refl
told_cases None (Some o) (Some x) true true = refl
told_cases None (Some o) (Some x) true false = refl
told_cases None (Some o) (Some x) false b = refl
told_cases (Some z) None None true true = refl
told_cases (Some z) None None true false = refl
told_cases (Some z) None None false b = refl
told_cases (Some z) None (Some x) true true = refl
told_cases (Some z) None (Some x) true false = refl
told_cases (Some z) None (Some x) false b = refl
told_cases (Some z) (Some o) None true true = refl
told_cases (Some z) (Some o) None true false = refl
told_cases (Some z) (Some o) None false b = refl
told_cases (Some z) (Some o) (Some x) true true = refl
told_cases (Some z) (Some o) (Some x) true false = refl
told_cases (Some z) (Some o) (Some x) false b = refl

-- the machines of which something is said, from those that show 0, 1 and X
pub told_bits : (k : ℕ) (low : k < 128) (z o x : Option Played) (shown : Lanes) (zs os xs : Bits)
    → bit_in k zs ≡ (not (is_open z) && bit_in k (bits_and shown.known (bits_not shown.value))) → bit_in k os ≡ (not (is_open o) && bit_in k (bits_and shown.known shown.value))
    → bit_in k xs ≡ (not (is_open x) && bit_in k (bits_not shown.known))
    → bit_in k (bits_or zs (bits_or os xs)) ≡ not (is_open (said_of z o x (lane k shown)))
told_bits k low z o x shown zs os xs a b c =
    let kb = bit_in k shown.known in
    let vb = bit_in k shown.value in
    let a' : bit_in k zs ≡ (not (is_open z) && (kb && not vb)) =
    a ∙ ap (λ y. not (is_open z) && y) (bit_in_and shown.known (bits_not shown.value) k ∙ ap (λ y. kb && y) (bit_in_not shown.value k)) in
    let b' : bit_in k os ≡ (not (is_open o) && (kb && vb)) = b ∙ ap (λ y. not (is_open o) && y) (bit_in_and shown.known shown.value k) in
    let c' : bit_in k xs ≡ (not (is_open x) && not kb) = c ∙ ap (λ y. not (is_open x) && y) (bit_in_not shown.known k) in
    bit_in_or zs (bits_or os xs) k
    ∙ (ap (λ y. bit_in k zs || y) (bit_in_or os xs k)
    ∙ (ap (λ y. y || (bit_in k os || bit_in k xs)) a'
    ∙ (ap (λ y. (not (is_open z) && (kb && not vb)) || (y || bit_in k xs)) b'
    ∙ (ap (λ y. (not (is_open z) && (kb && not vb)) || ((not (is_open o) && (kb && vb)) || y)) c'
    ∙ told_cases z o x kb vb))))

pub said_as : (z o x : Option Played) (say : Tri → Option Played) → z ≡ say Zero → o ≡ say One → x ≡ say X → (v : Tri) → said_of z o x v ≡ say v
said_as z o x say a b c Zero = a
said_as z o x say a b c One = b
said_as z o x say a b c X = c

or_none : (x : Option Played) → x ≡ played_or_else x None
or_none None = refl
or_none (Some p) = refl

-- nothing is said
pub silent : (say : Tri → Option Played) (shown : Lanes) (found : List (Option Played)) → ((v : Tri) → say v ≡ None) → AreSaid say shown found found
silent say shown found none = record { size = refl; each = λ k l. or_none (found_at found k) ∙ ap (played_or_else (found_at found k)) (sym (none (lane k shown))) }

stays : (x y : Option Played) → (not (is_open y) && is_open x) ≡ false → x ≡ played_or_else x y
stays None None e = refl
stays None (Some q) e = absurd (both_ways true e refl)
stays (Some p) y e = refl

-- nothing is said of a machine of which nothing was
pub untold : (say : Tri → Option Played) (shown : Lanes) (found : List (Option Played)) (told left : Bits) → length found ≤ 128
    → ((k : ℕ) → k < 128 → bit_in k told ≡ not (is_open (say (lane k shown)))) → AreLeft found (length found) left → bits_and told left ≡ no_bits → AreSaid say shown found found
untold say shown found told left few t h none = record {
  size = refl;
  each = λ k l.
      let low : k < 128 = omega (arith, l, few) in
      stays (found_at found k) (say (lane k shown))
      (ap (λ b. b && is_open (found_at found k)) (sym (t k low)) ∙ (ap (λ b. bit_in k told && b) (sym (h k l)) ∙ (sym (bit_in_and told left k) ∙ (ap (bit_in k) none ∙ bit_in_none k))));
}

-- so far the first m machines had it said
pub record IsTakenDown (say : Tri → Option Played) (shown : Lanes) (m : ℕ) (old new : List (Option Played)) : Type 0 where
  pub size : length new ≡ length old
  pub done : (k : ℕ) → k < m → k < length old → found_at new k ≡ played_or_else (found_at old k) (say (lane k shown))
  pub others : (k : ℕ) → m ≤ k → found_at new k ≡ found_at old k

pub one_down : (say : Tri → Option Played) (shown : Lanes) (m : ℕ) (old new : List (Option Played)) (item said put : Option Played) → m < length new → item ≡ get_or new m item
    → said ≡ say (lane m shown) → put ≡ played_or_else item said → IsTakenDown say shown m old new → IsTakenDown say shown (m + 1) old (set new m put)
one_down say shown m old new item said put l is s p h = record {
  size = length-set new m put ∙ h.size;
  done = λ k low inside. elim (cases_eq k m) [
    | inl e ↦
        ap (found_at (set new m put)) e ∙ (get_or-set_same new m put None l
        ∙ (p ∙ (ap (λ x. played_or_else x said) (is ∙ (get_or_default new m item None l ∙ (h.others m (omega arith) ∙ ap (found_at old) (sym e))))
        ∙ (ap (played_or_else (found_at old k)) (s ∙ ap (λ i. say (lane i shown)) (sym e))))))
    | inr ne ↦ get_or-set_other new m k put None ne ∙ h.done k (omega (arith, low, ne)) inside
  ];
  others = λ k high. get_or-set_other new m k put None (λ e. omega (arith, high, e)) ∙ h.others k (omega (arith, high));
}

-- ---- what is said in a cycle

or_assoc : (x y z : Option Played) → played_or_else x (played_or_else y z) ≡ played_or_else (played_or_else x y) z
or_assoc None y z = refl
or_assoc (Some p) y z = refl

-- so far the first o strobes were judged
pub record AreJudgedUpTo (says : Judging) (cycle o : ℕ) (strobes : List Tri) (shown : List Lanes) (old new : List (Option Played)) : Type 0 where
  pub size : length new ≡ length old
  pub each : (k : ℕ) → k < length old
      → played_or_else (found_at old k) (judged_in says cycle 0 strobes (lanes k shown)) ≡ played_or_else (found_at new k) (judged_in says cycle o (drop o strobes) (drop o (lanes k shown)))

pub one_judged : (says : Judging) (cycle o : ℕ) (strobes : List Tri) (shown : List Lanes) (old new new' : List (Option Played)) (d : Tri) (e : Lanes) → o < length strobes → length strobes ≡ length shown
    → AreSaid (says cycle o (get_or strobes o d)) (get_or shown o e) new new' → AreJudgedUpTo says cycle o strobes shown old new → AreJudgedUpTo says cycle (o + 1) strobes shown old new'
one_judged says cycle o strobes shown old new new' d e l same said h =
    let s = get_or strobes o d in
    let v = get_or shown o e in
    let inner : o < length shown = omega (arith, l, same) in
    record {
      size = said.size ∙ h.size;
      each = λ k inside.
          let row = lanes k shown in
          let wide : length strobes ≡ length row = same ∙ sym (length-map shown (lane k)) in
          let value : lane k v ≡ get_or row o (lane k v) = sym (get_or-map (lane k) shown o e (lane k v) inner) in
          h.each k inside
          ∙ (ap (played_or_else (found_at new k)) (judged_more says cycle o strobes row s (lane k v) l wide (get_or_default strobes o d s l) value)
          ∙ (or_assoc (found_at new k) (says cycle o s (lane k v)) (judged_in says cycle (o + 1) (drop (o + 1) strobes) (drop (o + 1) row))
          ∙ ap (λ x. played_or_else x (judged_in says cycle (o + 1) (drop (o + 1) strobes) (drop (o + 1) row))) (sym (said.each k (let z = h.size in omega (arith, inside))))));
    }

nothing_left : {Y : Type 0} (ys : List Y) (o : ℕ) → length ys ≤ o → drop o ys ≡ []
nothing_left [] zero l = refl
nothing_left [] (suc o) l = refl
nothing_left (y ∷ ys) zero l = absurd (omega (arith, l))
nothing_left (y ∷ ys) (suc o) l = nothing_left ys o (omega (arith, l))
