-- Faults last detected among some of the patterns, and among all.
use Rattle.std.proofs.Common.{◌≡◌, ℕ, zero, suc, ◌+◌, ◌-◌, ◌<◌, ◌≤◌, List, [], ◌∷◌, length, take, drop, get_or, set, replicate, Option, Some, None, refl, sym, ◌∙◌, ap, subst, inl, inr, arith}
use Rattle.std.specs.List.{AllZip, slice_get}
use Rattle.std.specs.Option.{option_map}
use Rattle.std.proofs.lemmas.Bool.{cases_lt, cases_eq}
use Rattle.std.proofs.lemmas.List.{length-set, length-replicate, length-take, get_or_default, get_or-replicate, get_or-set_same, get_or-set_other}
use Rattle.std.proofs.lemmas.Option.{slice_get-get_or}
use Rattle.statement.specs.declared.lines.Fault.{Fault}
use Rattle.statement.specs.declared.lines.Point.{Point}
use Rattle.statement.specs.Netlists.{Netlist}
use Rattle.netlist.proofs.Settling.{zip_from}
use Rattle.statement.specs.Patterns.{Pattern, IsDetectedAt}
use Rattle.word_sim.specs.Hits.{LastDetected}
use Rattle.word_sim.specs.inner.Found.{IsFrom, AreFrom, IsMoved, IsTold, AreFromUpTo}
use Rattle.word_sim.proofs.WordDetection.{some_below}

get_take : {X : Type 0} (xs : List X) (m j : ℕ) → j < m → slice_get (take m xs) j ≡ slice_get xs j
get_take xs zero j l = absurd (omega (arith, l))
get_take [] (suc m) j l = refl
get_take (x ∷ xs) (suc m) zero l = refl
get_take (x ∷ xs) (suc m) (suc j) l = get_take xs m j (omega (arith, l))

get_drop : {X : Type 0} (xs : List X) (m j : ℕ) → slice_get (drop m xs) j ≡ slice_get xs (m + j)
get_drop xs zero j = ap (slice_get xs) (let e : j ≡ zero + j = omega arith in e)
get_drop [] (suc m) j = ap (slice_get []) (let e : j ≡ j = refl in e) ∙ nothing_there j (suc m + j) where
  nothing_there : {X : Type 0} (a b : ℕ) → ◌≡◌ {A = Option X} (slice_get [] a) (slice_get [] b)
  nothing_there zero zero = refl
  nothing_there zero (suc b) = refl
  nothing_there (suc a) zero = refl
  nothing_there (suc a) (suc b) = refl
get_drop (x ∷ xs) (suc m) j = get_drop xs m j ∙ ap (slice_get (x ∷ xs)) (let e : suc (m + j) ≡ suc m + j = omega arith in e)

module _ (n : Netlist) (patterns part : List Pattern) (start end : ℕ) (order : start ≤ end) (is : part ≡ take (end - start) (drop start patterns)) (f : Fault) where
  there : (j : ℕ) → start + j < end → slice_get part j ≡ slice_get patterns (start + j)
  there j l = ap (λ (ps : List Pattern). slice_get ps j) is ∙ (get_take (drop start patterns) (end - start) j (omega arith) ∙ get_drop patterns start j)

  part_short : (j : ℕ) (p : Pattern) → slice_get part j ≡ Some p → start + j < end
  part_short j p e =
      let l = some_below part j p e in
      let c : length part ≤ end - start = (let k = ap length is in let t = length-take (end - start) (drop start patterns) in omega arith) in
      omega arith

  to_all : (j : ℕ) (q : Point) → IsDetectedAt n part f j q → IsDetectedAt n patterns f (start + j) q
  to_all j q h = record { pattern = h.pattern; at = sym (there j (part_short j h.pattern h.at)) ∙ h.at; detects = h.detects }

  to_part : (place : ℕ) (q : Point) → start ≤ place → place < end → IsDetectedAt n patterns f place q → IsDetectedAt n part f (place - start) q
  to_part place q l m h = record {
    pattern = h.pattern;
    at = there (place - start) (omega arith) ∙ (ap (slice_get patterns) (let e : start + (place - start) ≡ place = omega arith in e) ∙ h.at);
    detects = h.detects;
  }

  pub from_part : (last : Option (ℕ × Point)) → ((place : ℕ) (q : Point) → end ≤ place → ¬ IsDetectedAt n patterns f place q) → IsMoved n part start f last → IsFrom n patterns start f last
  from_part last none h = subst (IsFrom n patterns start f) (sym h.last_is) (moved_from h.found h.detected) where
    moved_from : (found : Option (ℕ × Point)) → LastDetected n part f found → IsFrom n patterns start f (option_map (λ (w : ℕ × Point). (start + w.0, w.1)) found)
    moved_from None k = λ place q l t. elim (cases_lt place end) [
      | inl early ↦ k (place - start) q (to_part place q l early t)
      | inr late ↦ none place q late t
    ]
    moved_from (Some w) k = record {
      here = to_all w.0 w.1 k.here;
      last = λ later q l t. elim (cases_lt later end) [
        | inl early ↦ k.last (later - start) q (omega arith) (to_part later q (omega arith) early t)
        | inr late ↦ none later q late t
      ];
      first = λ q before t.
          k.first q before (subst (λ i. IsDetectedAt n part f i q) (let e : start + w.0 - start ≡ w.0 = omega arith in e)
          (to_part (start + w.0) q (omega arith) (part_short w.0 k.here.pattern k.here.at) t));
    }

-- nothing is told yet
pub none_from : (n : Netlist) (patterns : List Pattern) (faults : List Fault) (m : ℕ) → m ≡ length patterns → AreFrom n patterns m faults (replicate (length faults) None)
none_from n patterns faults m e = record {
  size = length-replicate (length faults) None;
  each = λ k f at.
      subst (IsFrom n patterns m f) (sym (get_or-replicate (length faults) k None None (some_below faults k f at)))
      (λ place q l t. let b = some_below patterns place t.pattern t.at in absurd (omega arith));
}

-- all that is told
pub all_told : (n : Netlist) (patterns : List Pattern) (faults : List Fault) (told : List (Option (ℕ × Point))) (m : ℕ) → m ≡ 0 → AreFrom n patterns m faults told → AllZip (LastDetected n patterns) faults told
all_told n patterns faults told m e h =
    zip_from (LastDetected n patterns) faults told (sym h.size) (λ k f o l.
    from_start (get_or faults k f) (get_or told k o) (subst (λ t. IsFrom n patterns m (get_or faults k f) t) (get_or_default told k None o (let s = h.size in omega arith))
    (h.each k (get_or faults k f) (slice_get-get_or faults k f l)))) where
      from_start : (f : Fault) (t : Option (ℕ × Point)) → IsFrom n patterns m f t → LastDetected n patterns f t
      from_start f None g = λ place q. g place q (omega arith)
      from_start f (Some w) g = g

pub none_up : (n : Netlist) (patterns : List Pattern) (m m' : ℕ) (faults : List Fault) (told : List (Option (ℕ × Point))) → AreFrom n patterns m' faults told → AreFromUpTo n patterns m m' faults told 0
none_up n patterns m m' faults told h = record { size = h.size; before = λ i f l. absurd (omega arith); after = λ i f l at. h.each i f at }

pub all_up : (n : Netlist) (patterns : List Pattern) (m m' : ℕ) (faults : List Fault) (told : List (Option (ℕ × Point))) (k : ℕ) → length faults ≤ k → AreFromUpTo n patterns m m' faults told k → AreFrom n patterns m faults told
all_up n patterns m m' faults told k all h = record { size = h.size; each = λ i f at. let l = some_below faults i f at in h.before i f (omega arith) at }

pub one_up : (n : Netlist) (patterns part : List Pattern) (start end : ℕ) → start ≤ end → part ≡ take (end - start) (drop start patterns) → (faults : List Fault) (told : List (Option (ℕ × Point))) (k : ℕ) (f : Fault) (known last : Option (ℕ × Point))
    → AreFromUpTo n patterns start end faults told k → slice_get faults k ≡ Some f → known ≡ get_or told k None → IsTold n part start f known last → AreFromUpTo n patterns start end faults (set told k last) (k + 1)
one_up n patterns part start end order is faults told k f known last h at known_is t =
    let inside = some_below faults k f at in
    let size = h.size in
    record {
      size = length-set told k last ∙ h.size;
      before = λ i g l at_i. elim (cases_eq i k) [
        | inl e ↦
            let same : f ≡ g = some_same f g (sym at ∙ (ap (slice_get faults) (sym e) ∙ at_i)) in
            subst (λ o. IsFrom n patterns start g o) (sym (ap (λ j. get_or (set told k last) j None) e ∙ get_or-set_same told k last None (omega arith)))
            (subst (λ (b : Fault). IsFrom n patterns start b last) same
            (told_from known (subst (IsFrom n patterns end f) (sym known_is) (h.after k f (omega arith) at)) t))
        | inr ne ↦ subst (λ o. IsFrom n patterns start g o) (sym (get_or-set_other told k i last None ne)) (h.before i g (omega arith) at_i)
      ];
      after = λ i g l at_i. subst (λ o. IsFrom n patterns end g o) (sym (get_or-set_other told k i last None (λ e. omega arith))) (h.after i g (omega arith) at_i);
    } where
      some_same : (a b : Fault) → Some a ≡ Some b → a ≡ b
      some_same a b e = cc

      told_from : (known : Option (ℕ × Point)) → IsFrom n patterns end f known → IsTold n part start f known last → IsFrom n patterns start f last
      told_from None none m = from_part n patterns part start end order is f last none m
      told_from (Some w) was m = subst (IsFrom n patterns start f) (sym m) was
