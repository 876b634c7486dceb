-- Detections counted place by place, from the last one on.
use Rattle.std.proofs.Common.{◌≡◌, ℕ, ◌+◌, ◌<◌, ◌≤◌, inl, inr, Bool, true, false, ◌&&◌, ltb, cond, List, [], ◌∷◌, length, get_or, set, refl, sym, ◌∙◌, ap, subst, arith}
use Rattle.std.specs.Prelude.{◌↔◌}
use Rattle.std.specs.List.{Contains}
use Rattle.std.proofs.lemmas.Bool.{both_ways, cases_Bool, cases_eq, cases_lt, and_from, false_from_ne_true, lt-ltb, ltb-true}
use Rattle.std.proofs.lemmas.List.{length-set, get_or-set_same, get_or-set_other}
use Rattle.std.proofs.lemmas.List.Elements.{All-cons, All-contains}
use Rattle.std.proofs.lemmas.List.Kept.{AllPairs-cons}
use Rattle.statement.specs.declared.lines.Fault.{Fault}
use Rattle.statement.specs.Netlists.{Netlist}
use Rattle.statement.specs.Patterns.{Pattern}
use Rattle.netlist.proofs.Lists.{contains_head, contains_tail}
use Rattle.detections.specs.Times.{IsAmongLast, IsDetectedBy, IsTimes}
use Rattle.events.specs.Words.{bit_of}
use Rattle.detections.specs.inner.Counting.{IsTimesFrom, IsCounted, AddsMarks, CountsOn, CountsWord}
use Rattle.detections.proofs.Places.{rising_fit}

module _ (n : Netlist) (patterns : List Pattern) (most : ℕ) (f : Fault) where
  pub adds_none : (marks : List Bool) → AddsMarks n patterns most f marks marks
  adds_none marks = record { size = refl; stay = λ place m. m; right = λ place m. inl m }

  pub adds_both : (old mid new : List Bool) → AddsMarks n patterns most f old mid → AddsMarks n patterns most f mid new → AddsMarks n patterns most f old new
  adds_both old mid new a b = record {
    size = b.size ∙ a.size;
    stay = λ place m. b.stay place (a.stay place m);
    right = λ place m. elim (b.right place m) [ inl was ↦ a.right place was | inr last ↦ inr last ];
  }

  -- a place at which the fault isn't detected
  pub count_none : (m times : ℕ) (marks : List Bool) → ¬ IsDetectedBy n patterns f m → CountsOn n patterns most m (m + 1) f times times marks marks
  count_none m times marks none h =
      let from = h.times_from in (
        record {
          times_from = record {
            places = from.places;
            rise = from.rise;
            from = λ k d l. let low = from.from k d l in omega arith;
            detect = from.detect;
            count = from.count;
            bounded = from.bounded;
            all = elim from.all [
              | inl e ↦ inl e
              | inr all ↦ inr (λ place low found. elim (cases_eq place m) [
                | inl e ↦ absurd (none (subst (IsDetectedBy n patterns f) e found))
                | inr ne ↦ all place (omega arith) found
              ])
            ];
          };
          marked = λ place low last. elim (cases_eq place m) [
            | inl e ↦ absurd (none (subst (IsDetectedBy n patterns f) e last.here))
            | inr ne ↦ h.marked place (omega arith) last
          ];
        },
        adds_none marks,
      )

  -- a place at which it is, where there aren't enough yet
  pub count_here : (m times : ℕ) (marks : List Bool) → IsDetectedBy n patterns f m → times < most → m < length marks → CountsOn n patterns most m (m + 1) f times (times + 1) marks (set marks m true)
  count_here m times marks found few low h =
      let from = h.times_from in
      let later : (place : ℕ) → m + 1 ≤ place → IsDetectedBy n patterns f place → Contains from.places place =
      elim from.all [ inl e ↦ absurd (omega arith) | inr all ↦ all ] in
      let last : IsAmongLast n patterns most f m = record {
        here = found;
        later = from.places;
        fewer = let c = from.count in omega arith;
        all = λ other above seen. later other (omega arith) seen;
      } in
      let here : get_or (set marks m true) m false ≡ true = get_or-set_same marks m true false low in (
        record {
          times_from = record {
            places = m ∷ from.places;
            rise = AllPairs-cons (λ i j. i < j) m from.places (λ k d l. let above = from.from k d l in omega arith) from.rise;
            from = All-cons (λ i. m ≤ i) m from.places (omega arith) (λ k d l. let above = from.from k d l in omega arith);
            detect = All-cons (IsDetectedBy n patterns f) m from.places found from.detect;
            count = let c = from.count in omega arith;
            bounded = omega arith;
            all = inr (λ place above seen. elim (cases_eq place m) [
              | inl e ↦ subst (Contains (m ∷ from.places)) (sym e) (contains_head m from.places)
              | inr ne ↦ contains_tail m place from.places (later place (omega arith) seen)
            ]);
          };
          marked = λ place above among. elim (cases_eq place m) [
            | inl e ↦ subst (λ i. get_or (set marks m true) i false ≡ true) (sym e) here
            | inr ne ↦ get_or-set_other marks m place true false ne ∙ h.marked place (omega arith) among
          ];
        },
        record {
          size = length-set marks m true;
          stay = λ place was. elim (cases_eq place m) [
            | inl e ↦ subst (λ i. get_or (set marks m true) i false ≡ true) (sym e) here
            | inr ne ↦ get_or-set_other marks m place true false ne ∙ was
          ];
          right = λ place is. elim (cases_eq place m) [
            | inl e ↦ inr (subst (IsAmongLast n patterns most f) (sym e) last)
            | inr ne ↦ inl (sym (get_or-set_other marks m place true false ne) ∙ is)
          ];
        },
      )

  -- a place before so many at which it is detected isn't among the last so many
  not_last : (m times place : ℕ) → IsTimesFrom n patterns most m f times → times ≡ most → place < m → ¬ IsAmongLast n patterns most f place
  not_last m times place from enough low last =
      let fit : length from.places ≤ length last.later = rising_fit from.places last.later from.rise (λ x is.
      let above = All-contains (λ i. m ≤ i) from.places x from.from is in
      last.all x (omega arith) (All-contains (IsDetectedBy n patterns f) from.places x from.detect is)) in
      let c = from.count in
      let few = last.fewer in
      absurd (omega arith)

  -- where there are enough, no earlier place counts
  pub count_enough : (m m' times : ℕ) (marks : List Bool) → m ≤ m' → times ≡ most → CountsOn n patterns most m m' f times times marks marks
  count_enough m m' times marks order enough h =
      let from = h.times_from in (
        record {
          times_from = record {
            places = from.places;
            rise = from.rise;
            from = λ k d l. let low = from.from k d l in omega arith;
            detect = from.detect;
            count = from.count;
            bounded = from.bounded;
            all = inl enough;
          };
          marked = λ place low last. elim (cases_lt place m') [
            | inl early ↦ absurd (not_last m' times place from enough early last)
            | inr late ↦ h.marked place late last
          ];
        },
        adds_none marks,
      )

  -- a place, by what the code makes of it
  pub count_step : (m times times' : ℕ) (b : Bool) (old new : List Bool) → (b ≡ true) ↔ IsDetectedBy n patterns f m → m < length old
      → times' ≡ cond (b && ltb times most) (times + 1) times → new ≡ cond (b && ltb times most) (set old m true) old → CountsOn n patterns most m (m + 1) f times times' old new
  count_step m times times' b old new tells low times_is new_is h =
      subst (λ t. Counted t new) (sym times_is) (subst (λ (marks : List Bool). Counted (cond (b && ltb times most) (times + 1) times) marks) (sym new_is)
      (elim (cases_Bool b) [
        | inl yes' ↦ elim (cases_lt times most) [
          | inl few ↦ at (b && ltb times most) true (and_from b (ltb times most) yes' (lt-ltb times most few)) (count_here m times old (tells.0 yes') few low h)
          | inr many ↦
              let bound = h.times_from.bounded in
              at (b && ltb times most) false (ap (λ c. c && ltb times most) yes' ∙ false_from_ne_true (ltb times most) (λ t. let few = ltb-true times most t in omega arith))
              (count_enough m (m + 1) times old (omega arith) (omega arith) h)
        ]
        | inr no' ↦ at (b && ltb times most) false (ap (λ c. c && ltb times most) no') (count_none m times old (λ found. both_ways b no' (tells.1 found)) h)
      ])) where
        Counted : ℕ → List Bool → Type 0
        Counted t marks = IsCounted n patterns most m f t marks × AddsMarks n patterns most f old marks

        at : (c d : Bool) → c ≡ d → Counted (cond d (times + 1) times) (cond d (set old m true) old) → Counted (cond c (times + 1) times) (cond c (set old m true) old)
        at c d e k = subst (λ (t : Bool). Counted (cond t (times + 1) times) (cond t (set old m true) old)) (sym e) k

  -- one stretch of places after another
  pub counts_both : (a b c times times' times'' : ℕ) (old mid new : List Bool) → CountsOn n patterns most b c f times times' old mid → CountsOn n patterns most a b f times' times'' mid new
      → CountsOn n patterns most a c f times times'' old new
  counts_both a b c times times' times'' old mid new first next h =
      let s = first h in
      let t = next s.0 in
      (t.0, adds_both old mid new s.1 t.1)

  -- what another fault has counted stays
  pub counted_stays : (m times : ℕ) (g : Fault) (old new : List Bool) → AddsMarks n patterns most g old new → IsCounted n patterns most m f times old → IsCounted n patterns most m f times new
  counted_stays m times g old new adds h = record { times_from = h.times_from; marked = λ place low last. adds.stay place (h.marked place low last) }

  -- behind the last pattern
  pub counted_none : (m : ℕ) (marks : List Bool) → ((place : ℕ) → m ≤ place → ¬ IsDetectedBy n patterns f place) → IsCounted n patterns most m f 0 marks
  counted_none m marks none = record {
    times_from = record {
      places = [];
      rise = λ i j d l k. absurd (omega arith);
      from = λ k d l. absurd (omega arith);
      detect = λ k d l. absurd (omega arith);
      count = refl;
      bounded = omega arith;
      all = inr (λ place low found. absurd (none place low found));
    };
    marked = λ place low last. absurd (none place low last.here);
  }

  -- from the first place on
  pub counted_all : (m times : ℕ) (marks : List Bool) → m ≡ 0 → IsCounted n patterns most m f times marks → IsTimes n patterns most f times
  counted_all m times marks start h =
      let from = h.times_from in
      record {
        places = from.places;
        rise = from.rise;
        detect = from.detect;
        count = from.count;
        bounded = from.bounded;
        all = elim from.all [ inl e ↦ inl e | inr all ↦ inr (λ place found. all place (omega arith) found) ];
      }

  -- there is one number
  no_more : (a b : ℕ) → IsTimes n patterns most f a → IsTimes n patterns most f b → a ≤ b
  no_more a b h k =
      let count = h.count in
      let count' = k.count in
      let bound = h.bounded in
      elim k.all [
        | inl e ↦ omega arith
        | inr all ↦
            let fit : length h.places ≤ length k.places = rising_fit h.places k.places h.rise (λ x is. all x (All-contains (IsDetectedBy n patterns f) h.places x h.detect is)) in
            omega arith
      ]

  pub times_once : (a b : ℕ) → IsTimes n patterns most f a → IsTimes n patterns most f b → a ≡ b
  times_once a b h k = let l = no_more a b h k in let m = no_more b a k h in omega arith

-- faults that the same patterns detect
pub times_alike : (n : Netlist) (patterns : List Pattern) (most : ℕ) (f g : Fault) (times : ℕ)
    → ((place : ℕ) → IsDetectedBy n patterns f place ↔ IsDetectedBy n patterns g place) → IsTimes n patterns most f times → IsTimes n patterns most g times
times_alike n patterns most f g times same h = record {
  places = h.places;
  rise = h.rise;
  detect = λ k d l. (same (get_or h.places k d)).0 (h.detect k d l);
  count = h.count;
  bounded = h.bounded;
  all = elim h.all [ inl e ↦ inl e | inr all ↦ inr (λ place found. all place ((same place).1 found)) ];
}

-- one place more of a word
pub count_word_more : (word start end most times : ℕ) (old : List Bool) (j k count count' : ℕ) (b : Bool) (mid new : List Bool) → CountsWord word start end most times old j count mid
    → j ≡ k + 1 → start + k < end → end ≤ length old → b ≡ bit_of k word → count' ≡ cond (b && ltb count most) (count + 1) count
    → new ≡ cond (b && ltb count most) (set mid (start + k) true) mid → CountsWord word start end most times old k count' new
count_word_more word start end most times old j k count count' b mid new h next inside all b_is count_is new_is =
    let size = h.size in
    let e : start + j ≡ start + k + 1 = omega arith in
    record {
      size = ap (λ (marks : List Bool). length marks) new_is ∙ (size_of (b && ltb count most) ∙ h.size);
      counts = λ n patterns f tells. counts_both n patterns most f (start + k) (start + k + 1) end times count count' old mid new
          (subst (λ i. CountsOn n patterns most i end f times count old mid) e (h.counts n patterns f tells))
          (count_step n patterns most f (start + k) count count' b mid new (subst (λ t. (t ≡ true) ↔ IsDetectedBy n patterns f (start + k)) (sym b_is) (tells k inside)) (omega arith) count_is new_is);
    } where
      size_of : (c : Bool) → length (cond c (set mid (start + k) true) mid) ≡ length mid
      size_of true = length-set mid (start + k) true
      size_of false = refl
