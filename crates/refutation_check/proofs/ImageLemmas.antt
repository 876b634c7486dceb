-- What a gate makes of sets of pairs is exactly what it makes of the pairs in them.
use Rattle.std.proofs.Common.{◌≡◌, ℕ, ◌+◌, ◌<◌, suc, Bool, true, false, not, ◌||◌, cond, List, [], ◌∷◌, map, length, get_or, drop, refl, sym, ◌∙◌, ap, subst, inl, inr, arith, drop-cons}
use Rattle.std.proofs.lemmas.Bool.{both_ways, or_left, or_right, or_cases}
use Rattle.std.proofs.Math.Seq.{drop-length}
use Rattle.std.proofs.lemmas.List.{get_or-map, get_or_default}
use Rattle.statement.specs.declared.kinds.Kind.{Kind}
use Rattle.statement.specs.declared.kinds.Kind.TheVariants.{And, Nand, Or, Nor, Xor, Xnor, Not, Buff, Dff, Const0, Const1}
use Rattle.statement.specs.declared.lines.Line.{Line}
use Rattle.statement.specs.declared.lines.Line.TheVariants.{Stem, Pin}
use Rattle.statement.specs.declared.lines.Fault.{Fault}
use Rattle.statement.specs.Netlists.{Definition}
use Rattle.statement.specs.Values.{is_line, on_pins, gate_bit, conjunction, disjunction, parity, only}
use Rattle.refutation.specs.declared.pairs.Pairs.{Pairs}
use Rattle.refutation.specs.Pairs.{Pair, has, AreAmong, no_pair, paired}
use Rattle.refutation.specs.Refutations.{Told, told_of, made}
use Rattle.refutation_check.specs.inner.Images.{inverted, joined, begun, ended, gathered, image, stuck_pairs, set_rule, made_sets}
use Rattle.refutation.proofs.PairLemmas.{pair}
use Rattle.refutation_check.proofs.Products.{IsExact, and_pair, or_pair, xor_pair, first_pair, second_pair, both_exact, either_exact, odd_exact, first_exact, second_exact}

-- ---- a kind's operation, from pin to pin

pair_op : Kind → Pair → Pair → Pair
pair_op And p q = and_pair p q
pair_op Nand p q = and_pair p q
pair_op Or p q = or_pair p q
pair_op Nor p q = or_pair p q
pair_op Xor p q = xor_pair p q
pair_op Xnor p q = xor_pair p q
pair_op Not p q = first_pair p q
pair_op Buff p q = first_pair p q
pair_op Dff p q = first_pair p q
pair_op Const0 p q = second_pair p q
pair_op Const1 p q = second_pair p q

joined_exact : (kind : Kind) → IsExact (joined kind) (pair_op kind)
unfolding pair_op
joined_exact And = both_exact
joined_exact Nand = both_exact
joined_exact Or = either_exact
joined_exact Nor = either_exact
joined_exact Xor = odd_exact
joined_exact Xnor = odd_exact
joined_exact Not = first_exact
joined_exact Buff = first_exact
joined_exact Dff = first_exact
joined_exact Const0 = second_exact
joined_exact Const1 = second_exact

-- of no pins
first_bit : Kind → Bool
first_bit And = true
first_bit Nand = true
first_bit Or = false
first_bit Nor = false
first_bit Xor = false
first_bit Xnor = false
first_bit Not = false
first_bit Buff = false
first_bit Dff = false
first_bit Const0 = false
first_bit Const1 = false

begun_has : (kind : Kind) → has (begun kind) (pair (first_bit kind) (first_bit kind)) ≡ true
unfolding first_bit
begun_has And = refl
begun_has Nand = refl
begun_has Or = refl
begun_has Nor = refl
begun_has Xor = refl
begun_has Xnor = refl
begun_has Not = refl
begun_has Buff = refl
begun_has Dff = refl
begun_has Const0 = refl
begun_has Const1 = refl

only_one : (g b : Bool) → has (record { zero = false; rises = false; falls = false; one = true }) (pair g b) ≡ true → pair true true ≡ pair g b
only_one true true h = refl
only_one true false h = absurd (both_ways false refl h)
only_one false true h = absurd (both_ways false refl h)
only_one false false h = absurd (both_ways false refl h)

only_zero : (g b : Bool) → has (record { zero = true; rises = false; falls = false; one = false }) (pair g b) ≡ true → pair false false ≡ pair g b
only_zero true true h = absurd (both_ways false refl h)
only_zero true false h = absurd (both_ways false refl h)
only_zero false true h = absurd (both_ways false refl h)
only_zero false false h = refl

begun_only : (kind : Kind) (p : Pair) → has (begun kind) p ≡ true → pair (first_bit kind) (first_bit kind) ≡ p
unfolding first_bit
begun_only And p h = only_one p.good p.faulty h
begun_only Nand p h = only_one p.good p.faulty h
begun_only Or p h = only_zero p.good p.faulty h
begun_only Nor p h = only_zero p.good p.faulty h
begun_only Xor p h = only_zero p.good p.faulty h
begun_only Xnor p h = only_zero p.good p.faulty h
begun_only Not p h = only_zero p.good p.faulty h
begun_only Buff p h = only_zero p.good p.faulty h
begun_only Dff p h = only_zero p.good p.faulty h
begun_only Const0 p h = only_zero p.good p.faulty h
begun_only Const1 p h = only_zero p.good p.faulty h

-- the pairs together, from the first pin on
folded : Kind → List Pair → Pair
folded kind [] = pair (first_bit kind) (first_bit kind)
folded kind (p ∷ ps) = pair_op kind p (folded kind ps)

turned : Pair → Pair
turned p = pair (not p.good) (not p.faulty)

finished : Kind → Pair → Pair
finished And p = p
finished Nand p = turned p
finished Or p = p
finished Nor p = turned p
finished Xor p = p
finished Xnor p = turned p
finished Not p = turned p
finished Buff p = p
finished Dff p = p
finished Const0 p = p
finished Const1 p = turned p

goods : List Pair → List Bool
goods ps = map (λ (p : Pair). p.good) ps

faults : List Pair → List Bool
faults ps = map (λ (p : Pair). p.faulty) ps

pair_gate : Kind → List Pair → Pair
pair_gate kind ps = pair (gate_bit kind (map (λ (p : Pair). p.good) ps)) (gate_bit kind (map (λ (p : Pair). p.faulty) ps))

folded_and : (ps : List Pair) → folded And ps ≡ pair (conjunction (map (λ (p : Pair). p.good) ps)) (conjunction (map (λ (p : Pair). p.faulty) ps))
unfolding folded first_bit pair_op
folded_and [] = refl
folded_and (p ∷ ps) = ap (and_pair p) (folded_and ps)

folded_or : (ps : List Pair) → folded Or ps ≡ pair (disjunction (map (λ (p : Pair). p.good) ps)) (disjunction (map (λ (p : Pair). p.faulty) ps))
unfolding folded first_bit pair_op
folded_or [] = refl
folded_or (p ∷ ps) = ap (or_pair p) (folded_or ps)

folded_xor : (ps : List Pair) → folded Xor ps ≡ pair (parity (map (λ (p : Pair). p.good) ps)) (parity (map (λ (p : Pair). p.faulty) ps))
unfolding folded first_bit pair_op
folded_xor [] = refl
folded_xor (p ∷ ps) = ap (xor_pair p) (folded_xor ps)

folded_only : (ps : List Pair) → folded Buff ps ≡ pair (only (map (λ (p : Pair). p.good) ps)) (only (map (λ (p : Pair). p.faulty) ps))
unfolding folded first_bit pair_op
folded_only [] = refl
folded_only (p ∷ ps) = refl

folded_const : (ps : List Pair) → folded Const0 ps ≡ pair false false
unfolding folded first_bit pair_op
folded_const [] = refl
folded_const (p ∷ ps) = folded_const ps

-- kinds that differ by an inversion alone
folded_nand : (ps : List Pair) → folded Nand ps ≡ folded And ps
unfolding folded first_bit pair_op
folded_nand [] = refl
folded_nand (p ∷ ps) = ap (and_pair p) (folded_nand ps)

folded_nor : (ps : List Pair) → folded Nor ps ≡ folded Or ps
unfolding folded first_bit pair_op
folded_nor [] = refl
folded_nor (p ∷ ps) = ap (or_pair p) (folded_nor ps)

folded_xnor : (ps : List Pair) → folded Xnor ps ≡ folded Xor ps
unfolding folded first_bit pair_op
folded_xnor [] = refl
folded_xnor (p ∷ ps) = ap (xor_pair p) (folded_xnor ps)

folded_not : (ps : List Pair) → folded Not ps ≡ folded Buff ps
unfolding folded first_bit pair_op
folded_not [] = refl
folded_not (p ∷ ps) = refl

folded_dff : (ps : List Pair) → folded Dff ps ≡ folded Buff ps
unfolding folded first_bit pair_op
folded_dff [] = refl
folded_dff (p ∷ ps) = refl

folded_const1 : (ps : List Pair) → folded Const1 ps ≡ folded Const0 ps
unfolding folded first_bit pair_op
folded_const1 [] = refl
folded_const1 (p ∷ ps) = folded_const1 ps

gate_folds : (kind : Kind) (ps : List Pair) → finished kind (folded kind ps) ≡ pair_gate kind ps
unfolding finished pair_gate turned
gate_folds And ps = folded_and ps
gate_folds Nand ps = ap turned (folded_nand ps ∙ folded_and ps)
gate_folds Or ps = folded_or ps
gate_folds Nor ps = ap turned (folded_nor ps ∙ folded_or ps)
gate_folds Xor ps = folded_xor ps
gate_folds Xnor ps = ap turned (folded_xnor ps ∙ folded_xor ps)
gate_folds Not ps = ap turned (folded_not ps ∙ folded_only ps)
gate_folds Buff ps = folded_only ps
gate_folds Dff ps = folded_dff ps ∙ folded_only ps
gate_folds Const0 ps = folded_const ps
gate_folds Const1 ps = ap turned (folded_const1 ps ∙ folded_const ps)

-- ---- inverted sets

has_inverted_of : (s : Pairs) (g b : Bool) → has (inverted s) (pair (not g) (not b)) ≡ has s (pair g b)
has_inverted_of s true true = refl
has_inverted_of s true false = refl
has_inverted_of s false true = refl
has_inverted_of s false false = refl

not_not : (b : Bool) → not (not b) ≡ b
not_not true = refl
not_not false = refl

turned_back : (p : Pair) → turned (turned p) ≡ p
unfolding turned
turned_back p = ap (λ b. pair b (not (not p.faulty))) (not_not p.good) ∙ ap (pair p.good) (not_not p.faulty)

has_inverted : (s : Pairs) (p : Pair) → has (inverted s) (turned p) ≡ has s p
unfolding turned
has_inverted s p = has_inverted_of s p.good p.faulty

inverted_reach : (s : Pairs) (r : Pair) → has (inverted s) r ≡ true → has s (turned r) ≡ true
inverted_reach s r h = sym (has_inverted s (turned r)) ∙ (ap (has (inverted s)) (turned_back r) ∙ h)

ended_sound : (kind : Kind) (s : Pairs) (p : Pair) → has s p ≡ true → has (ended kind s) (finished kind p) ≡ true
unfolding finished
ended_sound And s p h = h
ended_sound Nand s p h = has_inverted s p ∙ h
ended_sound Or s p h = h
ended_sound Nor s p h = has_inverted s p ∙ h
ended_sound Xor s p h = h
ended_sound Xnor s p h = has_inverted s p ∙ h
ended_sound Not s p h = has_inverted s p ∙ h
ended_sound Buff s p h = h
ended_sound Dff s p h = h
ended_sound Const0 s p h = h
ended_sound Const1 s p h = has_inverted s p ∙ h

ended_reach : (kind : Kind) (s : Pairs) (r : Pair) → has (ended kind s) r ≡ true → (p : Pair) × (has s p ≡ true) × (finished kind p ≡ r)
unfolding finished
ended_reach And s r h = (r, h, refl)
ended_reach Nand s r h = (turned r, inverted_reach s r h, turned_back r)
ended_reach Or s r h = (r, h, refl)
ended_reach Nor s r h = (turned r, inverted_reach s r h, turned_back r)
ended_reach Xor s r h = (r, h, refl)
ended_reach Xnor s r h = (turned r, inverted_reach s r h, turned_back r)
ended_reach Not s r h = (turned r, inverted_reach s r h, turned_back r)
ended_reach Buff s r h = (r, h, refl)
ended_reach Dff s r h = (r, h, refl)
ended_reach Const0 s r h = (r, h, refl)
ended_reach Const1 s r h = (turned r, inverted_reach s r h, turned_back r)

-- ---- all pins

gathered_sound : (kind : Kind) (sets : List Pairs) (ps : List Pair) → AreAmong sets ps → has (gathered kind sets) (folded kind ps) ≡ true
unfolding folded
gathered_sound kind [] [] h = begun_has kind
gathered_sound kind [] (p ∷ ps) h = absurd h
gathered_sound kind (s ∷ ss) [] h = absurd h
gathered_sound kind (s ∷ ss) (p ∷ ps) h = (joined_exact kind).sound s (gathered kind ss) p (folded kind ps) h.0 (gathered_sound kind ss ps h.1)

gathered_reach : (kind : Kind) (sets : List Pairs) (r : Pair) → has (gathered kind sets) r ≡ true → (ps : List Pair) × AreAmong sets ps × (folded kind ps ≡ r)
unfolding folded
gathered_reach kind [] r h = ([], tt, begun_only kind r h)
gathered_reach kind (s ∷ ss) r h =
    let two = (joined_exact kind).reach s (gathered kind ss) r h in
    let rest = gathered_reach kind ss two.1 two.3 in
    (two.0 ∷ rest.0, (two.2, rest.1), ap (pair_op kind two.0) rest.2 ∙ two.4)

image_sound : (kind : Kind) (sets : List Pairs) (ps : List Pair) → AreAmong sets ps → has (image kind sets) (pair_gate kind ps) ≡ true
image_sound kind sets ps h = subst (λ (p : Pair). has (image kind sets) p ≡ true) (gate_folds kind ps) (ended_sound kind (gathered kind sets) (folded kind ps) (gathered_sound kind sets ps h))

image_reach : (kind : Kind) (sets : List Pairs) (r : Pair) → has (image kind sets) r ≡ true → (ps : List Pair) × AreAmong sets ps × (pair_gate kind ps ≡ r)
image_reach kind sets r h =
    let end = ended_reach kind (gathered kind sets) r h in
    let all = gathered_reach kind sets end.0 end.1 in
    (all.0, all.1, sym (gate_folds kind all.0) ∙ (ap (finished kind) all.2 ∙ end.2))

-- ---- lines

stuck_sound_of : (v : Bool) (s : Pairs) (g b : Bool) → has s (pair g b) ≡ true → has (stuck_pairs v s) (pair g v) ≡ true
stuck_sound_of true s true true h = or_right s.falls s.one h
stuck_sound_of true s true false h = or_left s.falls s.one h
stuck_sound_of true s false true h = or_right s.zero s.rises h
stuck_sound_of true s false false h = or_left s.zero s.rises h
stuck_sound_of false s true true h = or_right s.falls s.one h
stuck_sound_of false s true false h = or_left s.falls s.one h
stuck_sound_of false s false true h = or_right s.zero s.rises h
stuck_sound_of false s false false h = or_left s.zero s.rises h

some_at : (s : Pairs) (g : Bool) (a b : Bool) → (a || b) ≡ true → (a ≡ true → has s (pair g (not g)) ≡ true) → (b ≡ true → has s (pair g g) ≡ true) → (p : Pair) × (has s p ≡ true) × (p.good ≡ g)
some_at s g a b h l r = elim (or_cases a b h) [ inl e ↦ (pair g (not g), l e, refl) | inr e ↦ (pair g g, r e, refl) ]

stuck_reach_of : (v : Bool) (s : Pairs) (g b : Bool) → has (stuck_pairs v s) (pair g b) ≡ true → (p : Pair) × (has s p ≡ true) × (pair p.good v ≡ pair g b)
stuck_reach_of true s true true h = let w = some_at s true s.falls s.one h (λ e. e) (λ e. e) in (w.0, w.1, ap (λ c. pair c true) w.2)
stuck_reach_of true s true false h = absurd (both_ways false refl h)
stuck_reach_of true s false true h =
    elim (or_cases s.zero s.rises h) [ inl e ↦ (pair false false, e, refl) | inr e ↦ (pair false true, e, refl) ]
stuck_reach_of true s false false h = absurd (both_ways false refl h)
stuck_reach_of false s true true h = absurd (both_ways false refl h)
stuck_reach_of false s true false h = let w = some_at s true s.falls s.one h (λ e. e) (λ e. e) in (w.0, w.1, ap (λ c. pair c false) w.2)
stuck_reach_of false s false true h = absurd (both_ways false refl h)
stuck_reach_of false s false false h =
    elim (or_cases s.zero s.rises h) [ inl e ↦ (pair false false, e, refl) | inr e ↦ (pair false true, e, refl) ]

module _ (f : Fault) where
  pub line_sound : (line : Line) (s : Pairs) (p : Pair) → has s p ≡ true → has ((set_rule f).line line s) ((paired f).line line p) ≡ true
  line_sound line s p h =
      let step : (t : Bool) → has (cond t (stuck_pairs f.value s) s) (pair p.good (cond t f.value p.faulty)) ≡ true =
      elim [ true ↦ stuck_sound_of f.value s p.good p.faulty h | false ↦ h ] in
      step (is_line f.line line)

  pub line_reach : (line : Line) (s : Pairs) (r : Pair) → has ((set_rule f).line line s) r ≡ true → (p : Pair) × (has s p ≡ true) × ((paired f).line line p ≡ r)
  line_reach line s r =
      let step : (t : Bool) → has (cond t (stuck_pairs f.value s) s) r ≡ true → (p : Pair) × (has s p ≡ true) × (pair p.good (cond t f.value p.faulty) ≡ r) =
      elim [ true ↦ stuck_reach_of f.value s r.good r.faulty | false ↦ λ h. (r, h, refl) ] in
      step (is_line f.line line)

  pub pins_sound : (z k : ℕ) (sets : List Pairs) (ps : List Pair) → AreAmong sets ps → AreAmong (on_pins (set_rule f) z k sets) (on_pins (paired f) z k ps)
  pins_sound z k [] [] h = tt
  pins_sound z k [] (p ∷ ps) h = absurd h
  pins_sound z k (s ∷ ss) [] h = absurd h
  pins_sound z k (s ∷ ss) (p ∷ ps) h = (line_sound (Pin z k) s p h.0, pins_sound z (k + 1) ss ps h.1)

  pub pins_reach : (z k : ℕ) (sets : List Pairs) (rs : List Pair) → AreAmong (on_pins (set_rule f) z k sets) rs → (ps : List Pair) × AreAmong sets ps × (on_pins (paired f) z k ps ≡ rs)
  pins_reach z k [] [] h = ([], tt, refl)
  pins_reach z k [] (r ∷ rs) h = absurd h
  pins_reach z k (s ∷ ss) [] h = absurd h
  pins_reach z k (s ∷ ss) (r ∷ rs) h =
      let one = line_reach (Pin z k) s r h.0 in
      let rest = pins_reach z (k + 1) ss rs h.1 in
      (one.0 ∷ rest.0, (one.1, rest.1), ap (λ q. q ∷ on_pins (paired f) z (k + 1) rest.0) one.2 ∙ ap (λ qs. r ∷ qs) rest.2)

  pub made_sound : (d : Definition) (sets : List Pairs) (ps : List Pair) → AreAmong sets ps → has (made_sets f d sets) (made f d ps) ≡ true
  unfolding pair_gate
  made_sound d sets ps h =
      line_sound (Stem d.id) (image d.kind (on_pins (set_rule f) d.id 0 sets)) (pair_gate d.kind (on_pins (paired f) d.id 0 ps))
      (image_sound d.kind (on_pins (set_rule f) d.id 0 sets) (on_pins (paired f) d.id 0 ps) (pins_sound d.id 0 sets ps h))

  pub made_reach : (d : Definition) (sets : List Pairs) (r : Pair) → has (made_sets f d sets) r ≡ true → (ps : List Pair) × AreAmong sets ps × (made f d ps ≡ r)
  unfolding pair_gate
  made_reach d sets r h =
      let out = line_reach (Stem d.id) (image d.kind (on_pins (set_rule f) d.id 0 sets)) r h in
      let gate = image_reach d.kind (on_pins (set_rule f) d.id 0 sets) out.0 out.1 in
      let pins = pins_reach d.id 0 sets gate.0 gate.1 in
      (pins.0, pins.1, ap (λ qs. (paired f).line (Stem d.id) (pair_gate d.kind qs)) pins.2 ∙ (ap ((paired f).line (Stem d.id)) gate.2 ∙ out.2))

-- ---- one pin more

pub made_more : (f : Fault) (d : Definition) (sets : List Pairs) (k j : ℕ) (kind : Kind) (id : ℕ) (s pin behind result : Pairs) → kind ≡ d.kind → id ≡ d.id → k ≡ j + 1 → j < length sets
    → s ≡ get_or sets j no_pair → pin ≡ (set_rule f).line (Pin id j) s → behind ≡ gathered d.kind (on_pins (set_rule f) d.id k (drop k sets)) → result ≡ joined kind pin behind
    → result ≡ gathered d.kind (on_pins (set_rule f) d.id j (drop j sets))
made_more f d sets k j kind id s pin behind result kind_is id_is next l s_is pin_is behind_is result_is =
    let more : drop j sets ≡ get_or sets j no_pair ∷ drop (j + 1) sets =
    drop-cons sets j no_pair l ∙ ap (λ i. get_or sets j no_pair ∷ drop i sets) (let e : suc j ≡ j + 1 = omega arith in e) in
    let here : pin ≡ (set_rule f).line (Pin d.id j) (get_or sets j no_pair) =
    pin_is ∙ (ap (λ i. (set_rule f).line (Pin i j) s) id_is ∙ ap ((set_rule f).line (Pin d.id j)) s_is) in
    let rest : behind ≡ gathered d.kind (on_pins (set_rule f) d.id (j + 1) (drop (j + 1) sets)) =
    behind_is ∙ ap (λ i. gathered d.kind (on_pins (set_rule f) d.id i (drop i sets))) next in
    result_is ∙ (ap (λ w. joined w pin behind) kind_is ∙ (ap (λ (p : Pairs). joined d.kind p behind) here
    ∙ (ap (joined d.kind ((set_rule f).line (Pin d.id j) (get_or sets j no_pair))) rest
    ∙ ap (λ ss. gathered d.kind (on_pins (set_rule f) d.id j ss)) (sym more))))

pub made_all : (f : Fault) (d : Definition) (sets : List Pairs) (k : ℕ) (kind : Kind) (id : ℕ) (pairs end result : Pairs) → kind ≡ d.kind → id ≡ d.id → k ≡ 0
    → pairs ≡ gathered d.kind (on_pins (set_rule f) d.id k (drop k sets)) → end ≡ ended kind pairs → result ≡ (set_rule f).line (Stem id) end → result ≡ made_sets f d sets
made_all f d sets k kind id pairs end result kind_is id_is none pairs_are end_is result_is =
    let all : pairs ≡ gathered d.kind (on_pins (set_rule f) d.id 0 sets) = pairs_are ∙ ap (λ i. gathered d.kind (on_pins (set_rule f) d.id i (drop i sets))) none in
    result_is ∙ (ap (λ i. (set_rule f).line (Stem i) end) id_is ∙ ap ((set_rule f).line (Stem d.id)) (end_is ∙ (ap (λ w. ended w pairs) kind_is ∙ ap (ended d.kind) all)))

pub made_none : (f : Fault) (d : Definition) (sets : List Pairs) (k : ℕ) (kind : Kind) (pairs : Pairs) → kind ≡ d.kind → k ≡ length sets → pairs ≡ begun kind
    → pairs ≡ gathered d.kind (on_pins (set_rule f) d.id k (drop k sets))
made_none f d sets k kind pairs kind_is all is =
    is ∙ (ap begun kind_is ∙ ap (λ ss. gathered d.kind (on_pins (set_rule f) d.id k ss)) (sym (ap (λ i. drop i sets) all ∙ drop-length sets)))

-- the set of a pin
pub told_pin : (told : Told) (pins ids : List ℕ) (j x : ℕ) → ids ≡ pins → j < length ids → x ≡ get_or ids j x → told_of told x ≡ get_or (map (told_of told) pins) j no_pair
told_pin told pins ids j x e l is =
    ap (told_of told) (is ∙ get_or_default ids j x 0 l) ∙ (sym (get_or-map (told_of told) ids j 0 no_pair l) ∙ ap (λ xs. get_or (map (told_of told) xs) j no_pair) e)
