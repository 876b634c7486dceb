-- What is put on the trail without a change, and the list of the signals for which that is done.
use Rattle.std.specs.Result.{OnErr, OnOk}
use Rattle.std.proofs.Common.{Result, Ok, Err, ◌≡◌, ℕ, ◌+◌, ◌<◌, ◌≤◌, List, [], ◌∷◌, ◌++◌, length, get_or, set, take, None, refl, sym, ◌∙◌, ap, subst, inl, inr, arith}
use Rattle.std.specs.List.{All, Contains}
use Rattle.std.proofs.lemmas.Bool.{cases_lt}
use Rattle.std.proofs.lemmas.List.{get_or_push, length-append, set-get_or}
use Rattle.std.proofs.lemmas.List.Elements.{All-more, All-push, All-weaker, Contains-append_left, Contains-push}
use Rattle.statement.specs.Netlists.{Definition, Netlist, signals}
use Rattle.netlist.specs.Conditions.{IsSound}
use Rattle.statement.specs.Patterns.{Holds}
use Rattle.netlist.proofs.Placed.{same_definition}
use Rattle.netlist.proofs.Settling.{above_inputs}
use Rattle.refutation.specs.declared.pairs.Pairs.{Pairs}
use Rattle.refutation_check.specs.declared.sets.Change.{Change}
use Rattle.refutation.specs.Pairs.{any_pair, meet, no_pair}
use Rattle.refutation.specs.Refutations.{told_of, held}
use Rattle.refutation_check.specs.inner.Starting.{IsNoted, IsPlain}
use Rattle.refutation_check.specs.inner.Sweeps.{AreTouched, IsTouched}
use Rattle.refutation_check.specs.inner.Trails.{Trailed, Grows, put}
use Rattle.refutation_check.proofs.LookLemmas.{touched_later, touched_then}

-- ---- on the trail

pub touched_push : (old new : Trailed) (c : Change) → new.trail ≡ old.trail ++ c ∷ [] → IsTouched new (length old.trail) c.signal
touched_push old new c e =
    let size : length new.trail ≡ length old.trail + 1 = ap length e ∙ length-append old.trail (c ∷ []) in
    (c, length old.trail, omega arith, omega arith, ap (λ cs. get_or cs (length old.trail) c) e ∙ get_or_push old.trail c c (length old.trail) refl, refl)

pub touched_put : {T E : Type 0} (r : Result T E) (t new : Trailed) (x : ℕ) (s : Pairs) → OnOk r (new ≡ put t x s) → OnOk r (IsTouched new (length t.trail) x)
touched_put (Ok v) t new x s h = touched_push t new (record { signal = x; before = told_of t.told x }) (ap (λ (u : Trailed). u.trail) h)
touched_put (Err e) t new x s h = tt

-- what it had put there
pub told_by : {T E : Type 0} (r : Result T E) (t new : Trailed) (x : ℕ) (s : Pairs) → s ≡ told_of t.told x → OnOk r (new ≡ put t x s) → OnErr r (new ≡ t) → new.told ≡ t.told
told_by (Ok v) t new x s is h k = ap (λ (u : Trailed). u.told) h ∙ (ap (set t.told x) is ∙ set-get_or t.told x no_pair)
told_by (Err e) t new x s is h k = ap (λ (u : Trailed). u.told) k

pub on_ok : {T E P : Type 0} (r : Result T E) → P → OnOk r P
on_ok (Ok v) p = p
on_ok (Err e) p = tt

pub on_ok_then : {T E P Q : Type 0} (r : Result T E) → (P → Q) → OnOk r P → OnOk r Q
on_ok_then (Ok v) f p = f p
on_ok_then (Err e) f p = tt

pub longer : (a b : Trailed) → Grows a b → length a.trail ≤ length b.trail
longer a b g = let size : length b.trail ≡ length a.trail + length g.changes = ap length g.trail ∙ length-append a.trail g.changes in omega arith

-- after the first changes, among all
pub touched_from : (a b c : Trailed) (x : ℕ) → Grows a b → IsTouched c (length b.trail) x → IsTouched c (length a.trail) x
touched_from a b c x g w = touched_later c (length a.trail) (length b.trail) x (longer a b g) w

pub are_touched_from : (a b c : Trailed) (list : List ℕ) → Grows a b → AreTouched c (length b.trail) list → AreTouched c (length a.trail) list
are_touched_from a b c list g = All-weaker (IsTouched c (length b.trail)) (IsTouched c (length a.trail)) (λ x w. touched_from a b c x g w) list

-- one signal more
pub touched_more : (t now new : Trailed) (list : List ℕ) (k x : ℕ) → k < length list → x ≡ get_or list k x → Grows now new → IsTouched new (length now.trail) x → Grows t now
    → AreTouched now (length t.trail) (take k list) → AreTouched new (length t.trail) (take (k + 1) list)
touched_more t now new list k x l is g w from before =
    All-more (IsTouched new (length t.trail)) list k x l
    (All-weaker (IsTouched now (length t.trail)) (IsTouched new (length t.trail)) (λ y h. touched_then now new (length t.trail) y g h) (take k list) before)
    (subst (IsTouched new (length t.trail)) is (touched_from t now new x from w))

-- ---- signals that are held, or gates without pins

-- what has every pair is any
pub any_within : (a h : Pairs) → a ≡ any_pair → meet a h ≡ a → h ≡ any_pair
any_within a h e w = subst (λ (s : Pairs). meet s h ≡ s) e w

pub plain_input : (n : Netlist) → IsSound n → (holds : Holds) (x : ℕ) → held (get_or holds x None) ≡ any_pair → x < length n.inputs → IsPlain n holds x
plain_input n sound holds x h l = record { held = h; pins = λ d c e. let high = above_inputs n sound.formed.numbered d c in absurd (omega arith) }

pub plain_gate : (n : Netlist) → IsSound n → (holds : Holds) (x : ℕ) (d : Definition) (pins : List ℕ) → held (get_or holds x None) ≡ any_pair → Contains n.definitions d → d.id ≡ x → pins ≡ d.pins
    → (length pins ≡ 0 → ⊥) → IsPlain n holds x
plain_gate n sound holds x d pins h c id is some = record {
  held = h;
  pins = λ e m at.
      let same_one : d ≡ e = same_definition n sound.formed.numbered d e c m (id ∙ sym at) in
      subst (λ (g : Definition). 0 < length g.pins) same_one (subst (λ (ps : List ℕ). 0 < length ps) is (omega arith));
}

module _ (n : Netlist) (holds : Holds) where
  pub noted_more : (k : ℕ) (old new : List ℕ) → k < length (signals n) → IsNoted n holds k old new → All (λ x. x < length (signals n)) old → All (λ x. x < length (signals n)) new
  noted_more k old new l noted h = elim noted [
    | inl w ↦ subst (All (λ x. x < length (signals n))) (sym w.0) h
    | inr e ↦ subst (All (λ x. x < length (signals n))) (sym e) (All-push (λ x. x < length (signals n)) old k h l)
  ]

  pub rest_more : (k : ℕ) (old new : List ℕ) → IsNoted n holds k old new → ((x : ℕ) → x < k → (Contains old x → ⊥) → IsPlain n holds x) → (x : ℕ) → x < k + 1 → (Contains new x → ⊥) → IsPlain n holds x
  rest_more k old new noted h x l none = elim (cases_lt x k) [
    | inl low ↦ h x low (λ c. none (elim noted [
      | inl w ↦ subst (λ (xs : List ℕ). Contains xs x) (sym w.0) c
      | inr e ↦ subst (λ (xs : List ℕ). Contains xs x) (sym e) (Contains-append_left old (k ∷ []) x c)
    ]))
    | inr high ↦
        let at : k ≡ x = omega arith in
        elim noted [
          | inl w ↦ subst (IsPlain n holds) at w.1
          | inr e ↦ absurd (none (subst (λ (xs : List ℕ). Contains xs x) (sym e) (subst (Contains (old ++ k ∷ [])) at (Contains-push old k))))
        ]
  ]
