-- What signals may have before any step, as it is made.
use Rattle.std.proofs.Common.{◌≡◌, ℕ, ◌+◌, ◌<◌, ◌≤◌, suc, zero, Bool, true, false, List, [], ◌∷◌, ◌++◌, map, length, get_or, set, take, Result, Ok, Err, refl, sym, ◌∙◌, ap, subst, inl, inr, arith}
use Rattle.std.specs.Option.{option_map_or}
use Rattle.std.specs.Result.{MatchResult}
use Rattle.std.specs.List.{Contains}
use Rattle.std.proofs.lemmas.Bool.{both_ways, cases_Bool, cases_eq, cases_lt}
use Rattle.std.proofs.lemmas.Grind.{take_at_read}
use Rattle.std.proofs.lemmas.List.{length-map, get_or-map, get_or_default, get_or-set_same, get_or-set_other}
use Rattle.std.proofs.lemmas.List.Elements.{All-contains}
use Rattle.statement.specs.declared.lines.Line.{Line}
use Rattle.statement.specs.declared.lines.Line.TheVariants.{Stem, Pin, Out}
use Rattle.statement.specs.declared.lines.Fault.{Fault}
use Rattle.statement.specs.Netlists.{Definition, Netlist, signals}
use Rattle.netlist.specs.Lines.{IsLineOf}
use Rattle.statement.specs.Patterns.{Holds}
use Rattle.netlist.specs.Conditions.{IsSound}
use Rattle.netlist.proofs.Found.{defined}
use Rattle.netlist.proofs.Placed.{same_definition, signal_below}
use Rattle.netlist.proofs.Settling.{pins_within}
use Rattle.refutation.specs.declared.pairs.Pairs.{Pairs}
use Rattle.refutation_check.specs.declared.faults.RefutationFault.{RefutationFault}
use Rattle.refutation_check.specs.declared.faults.RefutationFault.TheVariants.{BadStep, Unfinished, NoMemory}
use Rattle.refutation.specs.Steps.{Step}
use Rattle.refutation.specs.Pairs.{no_pair}
use Rattle.refutation.specs.Cones.{IsCone}
use Rattle.refutation.specs.Refutations.{Told, told_of, carried, may_have, start, AllHold, EndsEmpty, Refutes}
use Rattle.refutation_check.specs.Refusals.{AreRefused, IsRefutationFault}
use Rattle.refutation_check.specs.inner.Marks.{marked, is_marked, AreListed}
use Rattle.refutation_check.specs.inner.Starting.{own, idle, reaching}
use Rattle.refutation_check.proofs.MarkLemmas.{defined_place}

-- ---- the signal that comes onto a line

pub line_pin : (n : Netlist) (line : Line) (z k : ℕ) → line ≡ Pin z k → IsLineOf n line → (d : Definition) × Contains n.definitions d × (d.id ≡ z) × (k < length d.pins)
line_pin n line z k is h = subst (IsLineOf n) is h

pub stem_within : (n : Netlist) → IsSound n → (line : Line) (x : ℕ) → line ≡ Stem x → IsLineOf n line → x < length (signals n)
stem_within n sound line x is h = signal_below n sound.formed.numbered x (subst (IsLineOf n) is h)

pub out_within : (n : Netlist) → IsSound n → (line : Line) (x : ℕ) → line ≡ Out x → IsLineOf n line → x < length (signals n)
out_within n sound line x is h = signal_below n sound.formed.numbered x (All-contains (Contains (signals n)) n.outputs x sound.closed.outputs (subst (IsLineOf n) is h))

module _ (n : Netlist) (sound : IsSound n) (line : Line) (z k : ℕ) (is : line ≡ Pin z k) (h : IsLineOf n line) where
  pub pin_place : (length n.inputs ≤ z) × (z < length (signals n))
  pin_place = let d = line_pin n line z k is h in defined_place n sound d.0 z d.1 d.2

  module _ (d : Definition) (pins : List ℕ) (c : Contains n.definitions d) (id : d.id ≡ z) (e : pins ≡ d.pins) where
    pub pin_bound : k < length pins
    pin_bound =
        let w = line_pin n line z k is h in
        let same : w.0 ≡ d = same_definition n sound.formed.numbered w.0 d w.1 c (w.2 ∙ sym id) in
        let low = subst (λ (g : Definition). k < length g.pins) same w.3 in
        subst (λ (ps : List ℕ). k < length ps) (sym e) low

    pub pin_carried : (x : ℕ) → x ≡ get_or pins k x → x ≡ carried n line
    pin_carried x at =
        let found = defined n sound.formed.numbered d z c id in
        at ∙ (get_or_default pins k x z pin_bound ∙ (ap (λ ps. get_or ps k z) e
        ∙ (sym (ap (λ o. option_map_or (λ (g : Definition). get_or g.pins k z) o z) found) ∙ ap (carried n) (sym is))))

    pub pin_within : (x : ℕ) → x ≡ get_or pins k x → x < length (signals n)
    pin_within x at = let low = pins_within n sound.formed.numbered sound.closed d c pins (length (signals n)) e refl k x pin_bound in omega (arith, low)

-- ---- without a fault

map_push : {X Y : Type 0} (f : X → Y) (xs : List X) (x : X) → map f (xs ++ x ∷ []) ≡ map f xs ++ f x ∷ []
map_push f [] x = refl
map_push f (y ∷ xs) x = ap (λ ys. f y ∷ ys) (map_push f xs x)

pub idle_more : (n : Netlist) → IsSound n → (f : ℕ → Pairs) (x : ℕ) (items new : Told) (pairs : Pairs) → x < length (signals n) → items ≡ map f (take x (signals n)) → pairs ≡ f x → new ≡ items ++ pairs ∷ []
    → new ≡ map f (take (x + 1) (signals n))
idle_more n sound f x items new pairs l h is made =
    let here : get_or (signals n) x 0 ≡ x = sound.formed.numbered x l in
    let more : take (x + 1) (signals n) ≡ take x (signals n) ++ x ∷ [] = (take_at_read (signals n) x 0 l).1 ∙ ap (λ y. take x (signals n) ++ y ∷ []) here in
    made ∙ (ap (λ (ps : Told). ps ++ pairs ∷ []) h ∙ (ap (λ (p : Pairs). map f (take x (signals n)) ++ p ∷ []) is ∙ (sym (map_push f (take x (signals n)) x) ∙ ap (map f) (sym more))))

-- ---- what the fault reaches

marked_below : (marks : List Bool) (x : ℕ) → is_marked marks x ≡ true → x < length marks
marked_below [] x h = absurd (both_ways false refl h)
marked_below (b ∷ marks) zero h = omega arith
marked_below (b ∷ marks) (suc x) h = let l = marked_below marks x h in omega (arith, l)

same_lists : {X : Type 0} (xs ys : List X) (d : X) → length xs ≡ length ys → ((i : ℕ) → i < length xs → get_or xs i d ≡ get_or ys i d) → xs ≡ ys
same_lists [] [] d e h = refl
same_lists [] (y ∷ ys) d e h = absurd (omega arith)
same_lists (x ∷ xs) [] d e h = absurd (omega arith)
same_lists {X} (x ∷ xs) (y ∷ ys) d e h =
    let head : x ≡ y = h zero (omega arith) in
    ap (λ (z : X). z ∷ xs) head ∙ ap (λ zs. y ∷ zs) (same_lists xs ys d (omega arith) (λ i l. h (suc i) (omega arith)))

module _ (n : Netlist) (holds : Holds) (f : Fault) (marks : List Bool) (list : List ℕ) (listed : AreListed (marked marks list)) where
  pub listed_marked : (k x : ℕ) → k < length list → x ≡ get_or list k x → is_marked marks x ≡ true
  listed_marked k x l is = subst (λ y. is_marked marks y ≡ true) (sym is) (listed.each k x l)

  pub listed_below : (k x m : ℕ) → k < length list → x ≡ get_or list k x → m ≡ length marks → x < m
  listed_below k x m l is e = let low = marked_below marks x (listed_marked k x l is) in omega arith

  module _ (told : Told) (k id : ℕ) (pairs : Pairs) (l : k < length list) (is : id ≡ get_or list k id) (low : id < length told) (pairs_is : pairs ≡ may_have holds f true id) where
    at_id : (x : ℕ) → x ≡ id → told_of (set told id pairs) x ≡ may_have holds f true x
    at_id x e = ap (told_of (set told id pairs)) e ∙ (get_or-set_same told id pairs no_pair low ∙ (pairs_is ∙ ap (may_have holds f true) (sym e)))

    pub wide_more : ((j d : ℕ) → j < k → told_of told (get_or list j d) ≡ may_have holds f true (get_or list j d))
        → (j d : ℕ) → j < k + 1 → told_of (set told id pairs) (get_or list j d) ≡ may_have holds f true (get_or list j d)
    wide_more h j d below = elim (cases_eq (get_or list j d) id) [
      | inl e ↦ at_id (get_or list j d) e
      | inr ne ↦ elim (cases_lt j k) [
        | inl before ↦ get_or-set_other told id (get_or list j d) pairs no_pair ne ∙ h j d before
        | inr after ↦
            let at : k ≡ j = omega arith in
            absurd (ne (ap (λ i. get_or list i d) (sym at) ∙ (get_or_default list k d id l ∙ sym is)))
      ]
    ]

    pub others_more : (old : Told) → ((x : ℕ) → is_marked marks x ≡ false → told_of told x ≡ told_of old x) → (x : ℕ) → is_marked marks x ≡ false → told_of (set told id pairs) x ≡ told_of old x
    others_more old h x off = elim (cases_eq x id) [
      | inl e ↦ absurd (both_ways (is_marked marks x) off (ap (is_marked marks) e ∙ listed_marked k id l is))
      | inr ne ↦ get_or-set_other told id x pairs no_pair ne ∙ h x off
    ]

  pub all_reached : IsSound n → (old told : Told) (k : ℕ) → old ≡ idle n holds → length told ≡ length old → length list ≤ k
      → ((j d : ℕ) → j < k → told_of told (get_or list j d) ≡ may_have holds f true (get_or list j d))
      → ((x : ℕ) → is_marked marks x ≡ false → told_of told x ≡ told_of old x) → told ≡ reaching n holds f marks
  all_reached sound old told k e size end wide others =
      let may : ℕ → Pairs = λ x. may_have holds f (is_marked marks x) x in
      let all : length told ≡ length (signals n) = size ∙ (ap length e ∙ length-map (signals n) (own holds)) in
      same_lists told (reaching n holds f marks) no_pair (all ∙ sym (length-map (signals n) may))
      (λ x l.
      let low : x < length (signals n) = omega arith in
      let here : get_or (signals n) x 0 ≡ x = sound.formed.numbered x low in
      let made : told_of told x ≡ may x = elim (cases_Bool (is_marked marks x)) [
        | inl on ↦
            let c = listed.only x on in
            let within = c.1 in
            sym (ap (told_of told) c.2) ∙ (wide c.0 x (omega arith) ∙ (ap (may_have holds f true) c.2 ∙ ap (λ b. may_have holds f b x) (sym on)))
        | inr off ↦
            others x off ∙ (ap (λ (t : Told). told_of t x) e ∙ (get_or-map (own holds) (signals n) x 0 no_pair low ∙ (ap (own holds) here ∙ ap (λ b. may_have holds f b x) (sym off))))
      ] in
      made ∙ (ap may (sym here) ∙ sym (get_or-map may (signals n) x 0 no_pair low)))

-- ---- the whole answer

pub answer_from : (f : Fault) (n : Netlist) (holds : Holds) (steps : List Step) (cone : ℕ → Bool) (told : Told) (r : Result (Unit {0}) RefutationFault) → IsCone n f.line cone → told ≡ start n holds f cone
    → MatchResult r (λ _. AllHold n f told steps × EndsEmpty steps) (AreRefused n f told steps) → MatchResult r (λ _. Refutes f n holds steps) (IsRefutationFault f n holds steps)
answer_from f n holds steps cone told (Ok u) is_cone e h = record { cone = cone; is_cone = is_cone; each = subst (λ (t : Told). AllHold n f t steps) e h.0; ends = h.1 }
answer_from f n holds steps cone told (Err (BadStep k)) is_cone e h = (cone, is_cone, subst (λ (t : Told). AreRefused n f t steps (BadStep k)) e h)
answer_from f n holds steps cone told (Err Unfinished) is_cone e h = (cone, is_cone, subst (λ (t : Told). AllHold n f t steps) e h.0, h.1)
answer_from f n holds steps cone told (Err NoMemory) is_cone e h = tt
