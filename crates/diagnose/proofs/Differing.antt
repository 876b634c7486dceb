-- How far a run is from a log, from what counts in it where the log's places are marked.
use Rattle.std.proofs.Common.{◌≡◌, ◌≢◌, ℕ, suc, zero, ◌+◌, ◌<◌, ◌≤◌, ◌&&◌, Bool, true, false, not, cond, List, [], ◌∷◌, ◌++◌, length, get_or, replicate, Option, Some, None, refl, sym, ◌∙◌, ap, subst, inl, inr, arith, length-append}
use Rattle.std.specs.List.{All, Contains}
use Rattle.std.proofs.lemmas.Bool.{and_from, and_parts, both_ways}
use Rattle.std.proofs.lemmas.List.{length-map}
use Rattle.std.proofs.lemmas.List.Elements.{All-cons, All-head, All-tail, Contains-append_cases, Contains-append_left, Contains-append_right}
use Rattle.statement.specs.declared.kinds.Tri.{Tri}
use Rattle.statement.specs.declared.kinds.Tri.TheVariants.{Zero, One, X}
use Rattle.statement.specs.declared.lines.Fault.{Fault}
use Rattle.statement.specs.Netlists.{Netlist, cells}
use Rattle.statement.specs.Values.{known}
use Rattle.statement.specs.Runs.{Cycle, Runs, shown_at, strobe_at}
use Rattle.tri.specs.Settled.{tri_table}
use Rattle.scan_insert.specs.Names.{pin_name_of}
use Rattle.scan_insert.specs.Named.{HasTesterNames}
use Rattle.scan_play.specs.declared.played.Played.{Played}
use Rattle.scan_play.specs.declared.played.Played.TheVariants.{Fails}
use Rattle.scan_play.specs.Cycles.{IsCycleOf}
use Rattle.scan_play.specs.Passing.{IsWrong}
use Rattle.scan_play.specs.Playing.{PlayRuns}
use Rattle.lane_play.specs.Counted.{Counting, counted, is_said, on_one, on_other}
use Rattle.diagnose.specs.Failures.{Failing}
use Rattle.diagnose.specs.Explaining.{IsFailingStrobe}
use Rattle.diagnose.specs.Ranking.{AreMany, MayFail}
use Rattle.diagnose.specs.inner.Against.{against}
use Rattle.diagnose.specs.inner.Marks.{AreMarks, IsStrobed, mark_at}
use Rattle.diagnose.specs.inner.Ranks.{AreDivided}
use Rattle.diagnose.proofs.Judged.{said_cases, same_failure, some_value}
use Rattle.diagnose.proofs.NamedPlaces.{named, named_at, named_many, named_once, named_there, pairs_append}
use Rattle.diagnose.proofs.Places.{one_pin_name, shown_within, strobed_shown}

-- ---- at one strobe

known_not_x : {P : Type 0} (b : Bool) → X ≡ known b → P
known_not_x true e = cc
known_not_x false e = cc

known_other : {P : Type 0} (b : Bool) → known b ≡ known (not b) → P
known_other true e = cc
known_other false e = cc

pub known_same : (a b : Bool) → known a ≡ known b → a ≡ b
known_same true true e = refl
known_same true false e = cc
known_same false true e = cc
known_same false false e = refl

said_some : (x : Option Played) → is_said x ≡ true → (p : Played) × (x ≡ Some p)
said_some None e = absurd (both_ways false refl e)
said_some (Some p) e = (p, refl)

and_false : (b : Bool) → (b && false) ≡ false
and_false true = refl
and_false false = refl

not_true : (b : Bool) → not b ≡ true → b ≡ false
not_true true e = absurd (both_ways false refl e)
not_true false e = refl

module _ (m : ℕ → ℕ → Bool) where
  pub blind_missing : (c o : ℕ) (v : Tri) → on_one (against m) m c o X v ≡ false
  blind_missing c o v = and_false (m c o)

  pub blind_extra : (c o : ℕ) (v : Tri) → on_other (against m) m c o X v ≡ false
  blind_extra c o v = and_false (not (m c o))

  -- where a marked strobe counts, and where another does
  pub missing_at : (c o : ℕ) (s v : Tri) → on_one (against m) m c o s v ≡ true → (m c o ≡ true) × ((b : Bool) × (s ≡ known b) × (v ≢ known (not b)))
  missing_at c o s v e =
      let p = and_parts (m c o) (is_said (against m c o s v)) e in
      let q = said_some (against m c o s v) p.1 in (
        p.0,
        said_cases m c o s v q.0 q.1
            (λ b is x. (b, is, λ e. known_not_x (not b) (sym x ∙ e)))
            (λ b is right marked. (b, is, λ e. known_other b (sym right ∙ e)))
            (λ b is wrong unmarked. absurd (both_ways (m c o) unmarked p.0)),
      )

  pub extra_at : (c o : ℕ) (s v : Tri) → on_other (against m) m c o s v ≡ true → (m c o ≡ false) × ((b : Bool) × (s ≡ known b) × (v ≢ known b))
  extra_at c o s v e =
      let p = and_parts (not (m c o)) (is_said (against m c o s v)) e in
      let none = not_true (m c o) p.0 in
      let q = said_some (against m c o s v) p.1 in (
        none,
        said_cases m c o s v q.0 q.1
            (λ b is x. (b, is, λ e. known_not_x b (sym x ∙ e)))
            (λ b is right marked. absurd (both_ways (m c o) none marked))
            (λ b is wrong unmarked. (b, is, λ e. known_other b (sym e ∙ wrong))),
      )

  said_marked : (c o : ℕ) (b : Bool) (v : Tri) → m c o ≡ true → v ≢ known (not b) → is_said (against m c o (known b) v) ≡ true
  said_marked c o false Zero is ne = ap (λ t. is_said (cond t (Some (Fails c o)) None)) is
  said_marked c o false One is ne = absurd (ne refl)
  said_marked c o false X is ne = refl
  said_marked c o true Zero is ne = absurd (ne refl)
  said_marked c o true One is ne = ap (λ t. is_said (cond t (Some (Fails c o)) None)) is
  said_marked c o true X is ne = refl

  said_unmarked : (c o : ℕ) (b : Bool) (v : Tri) → m c o ≡ false → v ≢ known b → is_said (against m c o (known b) v) ≡ true
  said_unmarked c o false Zero is ne = absurd (ne refl)
  said_unmarked c o false One is ne = ap (λ t. is_said (cond t None (Some (Fails c o)))) is
  said_unmarked c o false X is ne = refl
  said_unmarked c o true Zero is ne = ap (λ t. is_said (cond t None (Some (Fails c o)))) is
  said_unmarked c o true One is ne = absurd (ne refl)
  said_unmarked c o true X is ne = refl

  pub missing_from : (c o : ℕ) (s v : Tri) (b : Bool) → s ≡ known b → m c o ≡ true → v ≢ known (not b) → on_one (against m) m c o s v ≡ true
  missing_from c o s v b is marked ne =
      and_from (m c o) (is_said (against m c o s v)) marked (ap (λ t. is_said (against m c o t v)) is ∙ said_marked c o b v marked ne)

  pub extra_from : (c o : ℕ) (s v : Tri) (b : Bool) → s ≡ known b → m c o ≡ false → v ≢ known b → on_other (against m) m c o s v ≡ true
  extra_from c o s v b is none ne =
      and_from (not (m c o)) (is_said (against m c o s v)) (ap not none) (ap (λ t. is_said (against m c o t v)) is ∙ said_unmarked c o b v none ne)

-- ---- a run

rows_short : (f : Option Fault) (s : Netlist) (state : List Tri) (cycles : List Cycle) (shown : List (List Tri)) → Runs tri_table f s state cycles shown → All (λ (row : List Tri). length row ≤ length s.outputs) shown
rows_short f s state cycles [] run = λ k d l. absurd (omega (arith, l))
rows_short f s state [] (row ∷ rows) run = absurd run
rows_short f s state (x ∷ xs) (row ∷ rows) run =
    let size : length row ≡ length s.outputs = ap length run.1.shows ∙ length-map s.outputs _ in
    All-cons (λ (r : List Tri). length r ≤ length s.outputs) row rows (omega (arith, size)) (rows_short f s run.0 xs rows run.2)

strobed_below : (ss : List Tri) (o : ℕ) (b : Bool) → get_or ss o X ≡ known b → o < length ss
strobed_below [] zero b e = known_not_x b e
strobed_below [] (suc o) b e = known_not_x b e
strobed_below (s ∷ ss) zero b e = omega arith
strobed_below (s ∷ ss) (suc o) b e = omega (arith, strobed_below ss o b e)

-- a bit is strobed at an output alone
pub strobed_within : (s : Netlist) (cycles : List Cycle) → All (IsCycleOf s) cycles → (c o : ℕ) (b : Bool) → strobe_at cycles c o ≡ known b → o < length s.outputs
strobed_within s [] fits zero zero b e = known_not_x b e
strobed_within s [] fits zero (suc o) b e = known_not_x b e
strobed_within s [] fits (suc c) zero b e = known_not_x b e
strobed_within s [] fits (suc c) (suc o) b e = known_not_x b e
strobed_within s (x ∷ xs) fits zero o b e =
    let size = (All-head (IsCycleOf s) x xs fits).strobe in
    let l = strobed_below x.strobe o b e in
    omega (arith, size, l)
strobed_within s (x ∷ xs) fits (suc c) o b e = strobed_within s xs (All-tail (IsCycleOf s) x xs fits) c o b e

false_or : (b : Bool) → (b ≡ true → ⊥) → b ≡ false
false_or true h = absurd (h refl)
false_or false h = refl

module _ (s : Netlist) (names : HasTesterNames s) (g : Option Fault) (cycles : List Cycle) (fits : All (IsCycleOf s) cycles) (log strobed strangers : List Failing) (rows width : ℕ) (table : List Bool)
    (divided : AreDivided s cycles log strobed strangers) (marks : AreMarks s cycles strobed rows width table) (shown : List (List Tri)) (run : PlayRuns s g cycles shown) where
  abbrev marked : ℕ → ℕ → Bool
  marked = mark_at rows width table

  abbrev missing : Counting
  missing = on_one (against (mark_at rows width table)) (mark_at rows width table)

  abbrev extra : Counting
  extra = on_other (against (mark_at rows width table)) (mark_at rows width table)

  abbrev name : ℕ → ℕ → Failing
  name c o = record { cycle = c; signal = pin_name_of s o }

  name_cycle : (c o c' o' : ℕ) → name c o ≡ name c' o' → c ≡ c'
  name_cycle c o c' o' e = ap (λ (f : Failing). f.cycle) e

  name_signal : (c o c' o' : ℕ) → name c o ≡ name c' o' → pin_name_of s o ≡ pin_name_of s o'
  name_signal c o c' o' e = ap (λ (f : Failing). f.signal) e

  apart : (c o c' o' : ℕ) → o < length s.outputs → o' < length s.outputs → name c o ≡ name c' o' → (c ≡ c') × (o ≡ o')
  apart c o c' o' l l' e = (name_cycle c o c' o' e, one_pin_name s names o o' l l' (name_signal c o c' o' e))

  within : (c o : ℕ) (v : Tri) → shown_at shown c o ≡ Some v → o < length s.outputs
  within c o v e = shown_within g s (replicate (length (cells s)) X) cycles shown run c o v e

  -- a failure's own place
  named_here : (f : Failing) (c o : ℕ) → f ≡ name (0 + c) o → (f.cycle ≡ c) × (f.signal ≡ pin_name_of s o)
  named_here f c o e = (ap (λ (x : Failing). x.cycle) e ∙ (let z : 0 + c ≡ c = omega arith in z), ap (λ (x : Failing). x.signal) e)

  is_logged : (f : Failing) (c o : ℕ) → f ≡ name (0 + c) o → o < length s.outputs → marked (0 + c) o ≡ true → Contains strobed f
  is_logged f c o e l is = subst (Contains strobed) (sym e) (marks.logged (0 + c) o l is)

  same_output : (f : Failing) (o o' : ℕ) → o < length s.outputs → o' < length s.outputs → f.signal ≡ pin_name_of s o → f.signal ≡ pin_name_of s o' → o ≡ o'
  same_output f o o' l l' e e' = one_pin_name s names o o' l l' (sym e ∙ e')

  -- what is wrong or strobed where the failure is
  wrong_at : (f : Failing) (c o : ℕ) → f ≡ name (0 + c) o → o < length s.outputs → (h : IsFailingStrobe known s cycles shown f) → IsWrong known cycles shown c o
  wrong_at f c o e l h =
      let n = named_here f c o e in
      let l' = within f.cycle h.output (known (not h.wrong.0)) h.wrong.2 in
      subst (λ i. IsWrong known cycles shown i o) n.0 (subst (λ j. IsWrong known cycles shown f.cycle j) (same_output f h.output o l' l h.named n.1) h.wrong)

  strobed_at : (f : Failing) (c o : ℕ) (b : Bool) → f ≡ name (0 + c) o → o < length s.outputs → strobe_at cycles c o ≡ known b → IsStrobed s cycles f o
  strobed_at f c o b e l is =
      let n = named_here f c o e in
      record { within = l; named = n.1; bit = b; strobed = subst (λ i. strobe_at cycles i o ≡ known b) (sym n.0) is }

  wrong_strobed : (f : Failing) → IsFailingStrobe known s cycles shown f → (o : ℕ) × IsStrobed s cycles f o
  wrong_strobed f h = (h.output, record { within = within f.cycle h.output (known (not h.wrong.0)) h.wrong.2; named = h.named; bit = h.wrong.0; strobed = h.wrong.1 })

  -- a place in the row of names
  there : (counts : Counting) (blind : (c o : ℕ) (v : Tri) → counts c o X v ≡ false) (f : Failing) (o : ℕ) (v : Tri) → f.signal ≡ pin_name_of s o → shown_at shown f.cycle o ≡ Some v
      → counts f.cycle o (strobe_at cycles f.cycle o) v ≡ true → Contains (named counts blind name 0 cycles shown) f
  there counts blind f o v is e count =
      let at : 0 + f.cycle ≡ f.cycle = omega arith in
      subst (Contains (named counts blind name 0 cycles shown)) (same_failure f (0 + f.cycle) (pin_name_of s o) (sym at) is)
      (named_there counts blind name 0 cycles shown f.cycle o v e (subst (λ i. counts i o (strobe_at cycles f.cycle o) v ≡ true) (sym at) count))

  pub many_missing : (number : ℕ) → number ≡ counted missing 0 cycles shown + length strangers → AreMany (λ f. Contains log f × ¬ IsFailingStrobe known s cycles shown f) number
  many_missing number is =
      let blind = blind_missing (mark_at rows width table) in
      let own = named missing blind name 0 cycles shown in
      record {
        all = own ++ strangers;
        exactly = λ f. (
          λ c. elim (Contains-append_cases own strangers f c) [
            | inl here ↦
                let r = named_at missing blind name 0 cycles shown f here in
                let l = within r.cycle r.output r.value r.shown in
                let t = missing_at (mark_at rows width table) (0 + r.cycle) r.output (strobe_at cycles r.cycle r.output) r.value r.count in (
                  (divided.strobed_are f (is_logged f r.cycle r.output r.is l t.0)).0,
                  λ h.
                      let q = wrong_at f r.cycle r.output r.is l h in
                      let same : t.1.0 ≡ q.0 = known_same t.1.0 q.0 (sym t.1.1 ∙ q.1) in
                      t.1.2 (some_value r.value (known (not t.1.0)) (sym r.shown ∙ (q.2 ∙ ap (λ b. Some (known (not b))) (sym same)))),
                )
            | inr other ↦
                let t = divided.strangers_are f other in
                (t.0, λ h. let q = wrong_strobed f h in t.1 q.0 q.1)
          ],
          λ h. elim (divided.all f h.0) [
            | inl at ↦
                let q = marks.strobed f at in
                let o = q.0 in
                let v = strobed_shown g s (replicate (length (cells s)) X) cycles shown run f.cycle o q.1.bit q.1.within q.1.strobed in
                let mark = marks.marked f o at q.1.within q.1.named in
                let count = missing_from (mark_at rows width table) f.cycle o (strobe_at cycles f.cycle o) v.0 q.1.bit q.1.strobed mark
                (λ e. h.1 (record { output = o; wrong = (q.1.bit, q.1.strobed, v.1 ∙ ap (λ x. Some x) e); named = q.1.named })) in
                Contains-append_left own strangers f (there missing blind f o v.0 q.1.named v.1 count)
            | inr stranger ↦ Contains-append_right own strangers f stranger
          ],
        );
        once = pairs_append own strangers (named_once missing blind name (length s.outputs) apart 0 cycles shown (rows_short g s (replicate (length (cells s)) X) cycles shown run)) divided.once
            (λ f here other.
            let r = named_at missing blind name 0 cycles shown f here in
            let l = within r.cycle r.output r.value r.shown in
            let t = missing_at (mark_at rows width table) (0 + r.cycle) r.output (strobe_at cycles r.cycle r.output) r.value r.count in
            (divided.strangers_are f other).1 r.output (strobed_at f r.cycle r.output t.1.0 r.is l t.1.1));
        number_is = (let a = named_many missing blind name 0 cycles shown in let b = length-append own strangers in omega (arith, is, a, b));
      }

  pub many_extra : (number : ℕ) → number ≡ counted extra 0 cycles shown → AreMany (λ f. MayFail s cycles shown f × ¬ Contains log f) number
  unfolding extra_at strobed_at
  many_extra number is =
      let blind = blind_extra (mark_at rows width table) in
      let own = named extra blind name 0 cycles shown in
      record {
        all = own;
        exactly = λ f. (
          λ here.
              let r = named_at extra blind name 0 cycles shown f here in
              let l = within r.cycle r.output r.value r.shown in
              let t = extra_at (mark_at rows width table) (0 + r.cycle) r.output (strobe_at cycles r.cycle r.output) r.value r.count in
              let n = named_here f r.cycle r.output r.is in
              let at = strobed_at f r.cycle r.output t.1.0 r.is l t.1.1 in (
                record {
                  output = r.output;
                  bit = t.1.0;
                  strobed = at.strobed;
                  unmet = λ e. t.1.2 (some_value r.value (known t.1.0) (sym r.shown ∙ (ap (λ i. shown_at shown i r.output) (sym n.0) ∙ e)));
                  named = n.1;
                },
                λ c. elim (divided.all f c) [
                  | inl st ↦
                      let mark : marked f.cycle r.output ≡ true = marks.marked f r.output st l n.1 in
                      let back : 0 + r.cycle ≡ f.cycle = (let a = n.0 in omega (arith, a)) in
                      both_ways (marked (0 + r.cycle) r.output) t.0 (subst (λ i. marked i r.output ≡ true) (sym back) mark)
                  | inr stranger ↦ (divided.strangers_are f stranger).1 r.output at
                ],
              ),
          λ h.
              let o = h.0.output in
              let b = h.0.bit in
              let l = strobed_within s cycles fits f.cycle o b h.0.strobed in
              let v = strobed_shown g s (replicate (length (cells s)) X) cycles shown run f.cycle o b l h.0.strobed in
              let none : marked f.cycle o ≡ false = false_or (marked f.cycle o) (λ mark. h.1 ((divided.strobed_are f (subst (Contains strobed) (same_failure f f.cycle (pin_name_of s o) refl h.0.named) (marks.logged f.cycle o l mark))).0)) in
              there extra blind f o v.0 h.0.named v.1
              (extra_from (mark_at rows width table) f.cycle o (strobe_at cycles f.cycle o) v.0 b h.0.strobed none (λ e. h.0.unmet (v.1 ∙ ap (λ x. Some x) e))),
        );
        once = named_once extra blind name (length s.outputs) apart 0 cycles shown (rows_short g s (replicate (length (cells s)) X) cycles shown run);
        number_is = is ∙ named_many extra blind name 0 cycles shown;
      }
