-- Counts of machines that are played side by side are those of their own runs.
use Rattle.std.proofs.Common.{◌≡◌, ℕ, suc, zero, ◌+◌, ◌<◌, ◌≤◌, Bool, true, false, not, ◌&&◌, if◌then◌else◌, List, [], ◌∷◌, ◌++◌, length, get_or, set, drop, replicate, Option, Some, None, refl, sym, ◌∙◌, ap, subst, inl, inr, arith, length-append, eqb}
use Rattle.std.specs.List.{All, slice_get}
use Rattle.std.proofs.lemmas.Bool.{cases_eq, eq-eqb, ne_eqb}
use Rattle.std.proofs.lemmas.List.{length-map, length-replicate, get_or-map, get_or_default, length-set, get_or-set_same, get_or-set_other, drop_more, append_assoc, append-nil}
use Rattle.statement.specs.declared.kinds.Tri.{Tri}
use Rattle.statement.specs.declared.kinds.Tri.TheVariants.{X}
use Rattle.statement.specs.declared.lines.Fault.{Fault}
use Rattle.statement.specs.Netlists.{Netlist, cells}
use Rattle.statement.specs.Runs.{Cycle, Runs, Ticks}
use Rattle.netlist.specs.Conditions.{IsSound}
use Rattle.netlist.proofs.Settling.{zip_from}
use Rattle.tri.specs.Settled.{tri_table}
use Rattle.scan_play.specs.declared.played.Played.{Played}
use Rattle.scan_play.specs.declared.played.Played.TheVariants.{Passes}
use Rattle.scan_play.specs.Cycles.{IsCycleOf}
use Rattle.scan_play.specs.Judging.{IsOpen, Judging, judged_in, played_or_else}
use Rattle.scan_play.proofs.RunLaws.{some_run}
use Rattle.lane_play.specs.Counted.{AreCounted, Counting, IsCounted, counted, counted_in, is_said, on_one, on_other, one_if}
use Rattle.lane_play.specs.declared.bits.Bits.{Bits}
use Rattle.lane_play.specs.declared.packed.Lanes.{Lanes}
use Rattle.lane_play.specs.inner.Bits.{bit_in, no_bits}
use Rattle.lane_play.specs.inner.Counts.{AreMore, AreMoreIn, number_at}
use Rattle.lane_play.specs.inner.Lanes.{lane, lanes, unknown}
use Rattle.lane_play.specs.inner.Steps.{AreCountedOn, AreSteps, CountsOn, KeepsOn}
use Rattle.lane_play.specs.inner.Verdicts.{is_open}
use Rattle.lane_play.proofs.BitLemmas.{bit_in_none}
use Rattle.lane_play.proofs.PlayedLemmas.{lanes_unknown}

-- nothing counts that isn't strobed
abbrev pub IsBlind : Counting → Type 0
IsBlind counts = (c o : ℕ) (v : Tri) → counts c o X v ≡ false

said_false : (b : Bool) (p : Option Played) → p ≡ None → (b && is_said p) ≡ false
said_false true p e = ap is_said e
said_false false p e = refl

pub blind_one : (J : Judging) (side : ℕ → ℕ → Bool) → IsOpen J → IsBlind (on_one J side)
blind_one J side opens c o v = said_false (side c o) (J c o X v) (opens c o v)

pub blind_other : (J : Judging) (side : ℕ → ℕ → Bool) → IsOpen J → IsBlind (on_other J side)
blind_other J side opens c o v = said_false (not (side c o)) (J c o X v) (opens c o v)

-- ---- what no judge tells apart has one count

abbrev some_if : Bool → Option Played
some_if b = if b then Some Passes else None

-- who speaks of what counts at one output alone
abbrev only : Counting → ℕ → Judging
only counts at c o s v = some_if (eqb o at && counts c o s v)

if_false : (b : Bool) → some_if (b && false) ≡ None
if_false true = refl
if_false false = refl

only_open : (counts : Counting) → IsBlind counts → (at : ℕ) → IsOpen (only counts at)
only_open counts blind at c o v = ap (λ b. some_if (eqb o at && b)) (blind c o v) ∙ if_false (eqb o at)

other_none : (counts : Counting) (at c o : ℕ) (s v : Tri) → (o ≡ at → ⊥) → only counts at c o s v ≡ None
other_none counts at c o s v ne = ap (λ b. some_if (b && counts c o s v)) (ne_eqb o at ne)

only_here : (counts : Counting) (at c : ℕ) (s v : Tri) → only counts at c at s v ≡ some_if (counts c at s v)
only_here counts at c s v = ap (λ b. some_if (b && counts c at s v)) (eq-eqb at at refl)

none_behind : (counts : Counting) (at c o : ℕ) (ss vs : List Tri) → at < o → judged_in (only counts at) c o ss vs ≡ None
none_behind counts at c o [] vs l = refl
none_behind counts at c o (s ∷ ss) [] l = refl
none_behind counts at c o (s ∷ ss) (v ∷ vs) l =
    ap (λ x. played_or_else x (judged_in (only counts at) c (o + 1) ss vs)) (other_none counts at c o s v (λ e. omega (arith, l, e)))
    ∙ none_behind counts at c (o + 1) ss vs (omega (arith, l))

or_nothing : (x : Option Played) → played_or_else x None ≡ x
or_nothing None = refl
or_nothing (Some p) = refl

if_same : (a b : Bool) → some_if a ≡ some_if b → a ≡ b
if_same true true e = refl
if_same false false e = refl
if_same true false e = cc
if_same false true e = cc

head_same : (counts : Counting) (c o : ℕ) (s v w : Tri) (ss vs ws : List Tri) → judged_in (only counts o) c o (s ∷ ss) (v ∷ vs) ≡ judged_in (only counts o) c o (s ∷ ss) (w ∷ ws) → counts c o s v ≡ counts c o s w
head_same counts c o s v w ss vs ws e =
    let one : (u : Tri) (us : List Tri) → judged_in (only counts o) c o (s ∷ ss) (u ∷ us) ≡ some_if (counts c o s u) =
    λ u us. ap (λ x. played_or_else (only counts o c o s u) x) (none_behind counts o c (o + 1) ss us (omega arith)) ∙ (or_nothing (only counts o c o s u) ∙ only_here counts o c s u) in
    if_same (counts c o s v) (counts c o s w) (sym (one v vs) ∙ (e ∙ one w ws))

tail_same : (counts : Counting) (at c o : ℕ) (s v w : Tri) (ss vs ws : List Tri) → o < at → judged_in (only counts at) c o (s ∷ ss) (v ∷ vs) ≡ judged_in (only counts at) c o (s ∷ ss) (w ∷ ws)
    → judged_in (only counts at) c (o + 1) ss vs ≡ judged_in (only counts at) c (o + 1) ss ws
tail_same counts at c o s v w ss vs ws l e =
    let one : (u : Tri) (us : List Tri) → judged_in (only counts at) c o (s ∷ ss) (u ∷ us) ≡ judged_in (only counts at) c (o + 1) ss us =
    λ u us. ap (λ x. played_or_else x (judged_in (only counts at) c (o + 1) ss us)) (other_none counts at c o s u (λ e. omega (arith, l, e))) in
    sym (one v vs) ∙ (e ∙ one w ws)

if_none : (b : Bool) → some_if b ≡ None → b ≡ false
if_none false e = refl
if_none true e = cc

-- nothing counts where nothing is said
alike_nothing : (counts : Counting) (c o : ℕ) (ss vs : List Tri) → ((at : ℕ) → o ≤ at → judged_in (only counts at) c o ss vs ≡ None) → counted_in counts c o ss vs ≡ 0
alike_nothing counts c o [] vs h = refl
alike_nothing counts c o (s ∷ ss) [] h = refl
alike_nothing counts c o (s ∷ ss) (v ∷ vs) h =
    let none : some_if (counts c o s v) ≡ None =
    sym (ap (λ x. played_or_else (only counts o c o s v) x) (none_behind counts o c (o + 1) ss vs (omega arith)) ∙ (or_nothing (only counts o c o s v) ∙ only_here counts o c s v)) ∙ h o (omega arith) in
    let rest : counted_in counts c (o + 1) ss vs ≡ 0 =
    alike_nothing counts c (o + 1) ss vs (λ at l.
    sym (ap (λ x. played_or_else x (judged_in (only counts at) c (o + 1) ss vs)) (other_none counts at c o s v (λ e. omega (arith, l, e)))) ∙ h at (omega (arith, l))) in
    let here : one_if (counts c o s v) ≡ 0 = ap one_if (if_none (counts c o s v) none) in
    omega (arith, here, rest)

pub counted_alike : (counts : Counting) (c o : ℕ) (ss vs ws : List Tri) → ((at : ℕ) → o ≤ at → judged_in (only counts at) c o ss vs ≡ judged_in (only counts at) c o ss ws)
    → counted_in counts c o ss vs ≡ counted_in counts c o ss ws
counted_alike counts c o [] vs ws h = refl
counted_alike counts c o (s ∷ ss) [] ws h = sym (alike_nothing counts c o (s ∷ ss) ws (λ at l. sym (h at l)))
counted_alike counts c o (s ∷ ss) (v ∷ vs) [] h = alike_nothing counts c o (s ∷ ss) (v ∷ vs) h
counted_alike counts c o (s ∷ ss) (v ∷ vs) (w ∷ ws) h =
    let here = head_same counts c o s v w ss vs ws (h o (omega arith)) in
    let rest : counted_in counts c (o + 1) ss vs ≡ counted_in counts c (o + 1) ss ws =
    counted_alike counts c (o + 1) ss vs ws (λ at l. tail_same counts at c o s v w ss vs ws (omega (arith, l)) (h at (omega (arith, l)))) in
    ap (λ b. one_if b + counted_in counts c (o + 1) ss vs) here ∙ ap (λ k. one_if (counts c o s w) + k) rest

-- ---- cycles, one behind the other

module _ (counts : Counting) (f : Option Fault) (n : Netlist) where
  pub counts_nothing : (start : List Tri) → CountsOn counts f n [] start start 0
  counts_nothing start rest shown run = (shown, run, omega arith)

  step_counted : (cycle : Cycle) (number many : ℕ) (state after : List Tri) → ((shown next : List Tri) → Ticks tri_table f n state cycle shown next → (counted_in counts number 0 cycle.strobe shown ≡ many) × (next ≡ after))
      → (rest : List Cycle) (shown : List (List Tri)) → Runs tri_table f n state (cycle ∷ rest) shown
      → (later : List (List Tri)) × Runs tri_table f n after rest later × (counted counts number (cycle ∷ rest) shown ≡ many + counted counts (number + 1) rest later)
  step_counted cycle number many state after step rest [] run = absurd run
  step_counted cycle number many state after step rest (row ∷ rows) run =
      let t = step row run.0 run.1 in
      (rows, subst (λ (s : List Tri). Runs tri_table f n s rest rows) t.1 run.2, ap (λ x. x + counted counts (number + 1) rest rows) t.0)

  pub counts_more : (before : List Cycle) (cycle : Cycle) (number many old : ℕ) (start state after : List Tri) → length before ≡ number
      → ((shown next : List Tri) → Ticks tri_table f n state cycle shown next → (counted_in counts number 0 cycle.strobe shown ≡ many) × (next ≡ after))
      → CountsOn counts f n before start state old → CountsOn counts f n (before ++ cycle ∷ []) start after (old + many)
  counts_more before cycle number many old start state after at step h rest shown run =
      let same = append_assoc before (cycle ∷ []) rest in
      let one = h (cycle ∷ rest) shown (subst (λ (x : List Cycle). Runs tri_table f n start x shown) same run) in
      let two = step_counted cycle number many state after step rest one.0 one.1 in
      let size = length-append before (cycle ∷ []) in
      let e : counted counts 0 (before ++ (cycle ∷ rest)) shown ≡ old + counted counts (length before) (cycle ∷ rest) one.0 = one.2 in
      let a : counted counts (length before) (cycle ∷ rest) one.0 ≡ counted counts number (cycle ∷ rest) one.0 = ap (λ k. counted counts k (cycle ∷ rest) one.0) at in
      let b : counted counts (number + 1) rest two.0 ≡ counted counts (length (before ++ cycle ∷ [])) rest two.0 = ap (λ k. counted counts k rest two.0) (omega arith) in
      let d = two.2 in
      (two.0, two.1, ap (λ x. counted counts 0 x shown) same ∙ omega (arith, e, a, b, d))

-- ---- machines

-- a machine's step shows what counts as much as its own player does
own_step : (counts : Counting) → IsBlind counts → (faults : List Fault) (n : Netlist) (state after row : List Lanes) (cycle : Cycle) (number k : ℕ) → k < 128 → AreSteps faults n state after cycle number row
    → (shown next : List Tri) → Ticks tri_table (slice_get faults k) n (lanes k state) cycle shown next
    → (counted_in counts number 0 cycle.strobe shown ≡ counted_in counts number 0 cycle.strobe (lanes k row)) × (next ≡ lanes k after)
own_step counts blind faults n state after row cycle number k low steps shown next tick = (
  counted_alike counts number 0 cycle.strobe shown (lanes k row) (λ at l. ((steps k (only counts at) low (only_open counts blind at)).outcome shown next tick).0),
  ((steps k (only counts 0) low (only_open counts blind 0)).outcome shown next tick).1,
)

pub counts_keep : (counts : Counting) → IsBlind counts → (number : ℕ) (strobes : List Tri) (row : List Lanes) (old new : List ℕ) → length new ≤ 128 → AreMoreIn counts number strobes row old new
    → KeepsOn (λ faults n cycles state. AreCountedOn counts faults n cycles state old) (λ faults n cycles state. AreCountedOn counts faults n cycles state new) number strobes row
counts_keep counts blind number strobes row old new few more = λ faults n before state after cycle at same steps h. record {
  size = more.size ∙ h.size;
  each = λ k l.
      let inside : k < length old = (let e = h.size in omega (arith, l)) in
      let low : k < 128 = (let e = more.size in omega (arith, inside, few)) in
      let many : ℕ = counted_in counts number 0 cycle.strobe (lanes k row) in
      let is : number_at new k ≡ number_at old k + many = more.each k inside ∙ ap (λ ss. number_at old k + counted_in counts number 0 ss (lanes k row)) (sym same) in
      let start : List Tri = replicate (length (cells n)) X in
      subst (λ m. CountsOn counts (slice_get faults k) n (before ++ cycle ∷ []) start (lanes k after) m) (sym is)
      (counts_more counts (slice_get faults k) n before cycle number many (number_at old k) start (lanes k state) (lanes k after) at
      (own_step counts blind faults n state after row cycle number k low steps) (h.each k l));
}

zero_at : (count k : ℕ) → number_at (replicate count 0) k ≡ 0
zero_at zero k = refl
zero_at (suc count) zero = refl
zero_at (suc count) (suc k) = zero_at count k

pub counts_begin : (counts : Counting) (faults : List Fault) (n : Netlist) (state : List Lanes) (numbers : List ℕ) → length faults ≤ 128 → state ≡ replicate (length (cells n)) unknown
    → numbers ≡ replicate (length faults) 0 → AreCountedOn counts faults n [] state numbers
counts_begin counts faults n state numbers few s e = record {
  size = ap length e ∙ length-replicate (length faults) 0;
  each = λ k l.
      let low : k < 128 = omega (arith, l, few) in
      let start : List Tri = replicate (length (cells n)) X in
      let is : lanes k state ≡ start = ap (lanes k) s ∙ lanes_unknown k low (length (cells n)) in
      subst (λ m. CountsOn counts (slice_get faults k) n [] start (lanes k state) m) (sym (ap (λ xs. number_at xs k) e ∙ zero_at (length faults) k))
      (subst (λ x. CountsOn counts (slice_get faults k) n [] start x 0) (sym is) (counts_nothing counts (slice_get faults k) n start));
}

slice_at : (fs : List Fault) (k : ℕ) (d : Fault) → k < length fs → slice_get fs k ≡ Some (get_or fs k d)
slice_at [] k d l = absurd (omega (arith, l))
slice_at (f ∷ fs) zero d l = refl
slice_at (f ∷ fs) (suc k) d l = slice_at fs k d (omega (arith, l))

pub counted_all : (counts : Counting) (faults : List Fault) (n : Netlist) (cycles : List Cycle) (state : List Lanes) (numbers : List ℕ) → IsSound n → All (IsCycleOf n) cycles
    → AreCountedOn counts faults n cycles state numbers → AreCounted counts n faults cycles numbers
counted_all counts faults n cycles state numbers sound fits h =
    zip_from (λ f number. IsCounted counts n (Some f) cycles number) faults numbers (sym h.size)
    (λ k f d l.
    let start : List Tri = replicate (length (cells n)) X in
    let g : Option Fault = Some (get_or faults k f) in
    let own : CountsOn counts g n cycles start (lanes k state) (number_at numbers k) =
    subst (λ x. CountsOn counts x n cycles start (lanes k state) (number_at numbers k)) (slice_at faults k f l) (h.each k l) in
    let r = some_run X tri_table g n start cycles sound.formed.numbered sound.closed sound.acyclic (length-replicate (length (cells n)) X) fits in
    let t = own [] r.0 (subst (λ (x : List Cycle). Runs tri_table g n start x r.0) (sym (append-nil cycles)) r.1) in
    let inside : k < length numbers = (let e = h.size in omega (arith, l)) in
    let e : counted counts 0 (cycles ++ []) r.0 ≡ number_at numbers k + 0 = t.2 in
    let same : counted counts 0 (cycles ++ []) r.0 ≡ counted counts 0 cycles r.0 = ap (λ x. counted counts 0 x r.0) (append-nil cycles) in
    let is : get_or numbers k d ≡ number_at numbers k = get_or_default numbers k d 0 inside in
    record { shown = r.0; runs = r.1; is = omega (arith, e, same, is) })

-- ---- a strobe

-- what is added where nothing counts
pub none_more : (counts : Tri → Bool) (shown : Lanes) (numbers : List ℕ) → length numbers ≤ 128 → ((k : ℕ) → k < 128 → counts (lane k shown) ≡ false) → AreMore counts shown numbers numbers
none_more counts shown numbers few h = record { size = refl; each = λ k l. let e : one_if (counts (lane k shown)) ≡ 0 = ap one_if (h k (omega (arith, l, few))) in omega (arith, e) }

pub word_more : (counts : Tri → Bool) (shown : Lanes) (word : Bits) (old new : List ℕ) → length old ≤ 128 → ((k : ℕ) → k < 128 → bit_in k word ≡ counts (lane k shown)) → length new ≡ length old
    → ((k : ℕ) → k < length old → number_at new k ≡ number_at old k + one_if (bit_in k word)) → AreMore counts shown old new
word_more counts shown word old new few h size each = record { size = size; each = λ k l. each k l ∙ ap (λ b. number_at old k + one_if b) (h k (omega (arith, l, few))) }

said_open : (p : Option Played) → not (is_open p) ≡ is_said p
said_open None = refl
said_open (Some p) = refl

-- the machines of which something is said at a place of this side
pub told_side : (say : Tri → Option Played) (b : Bool) (shown : Lanes) (told : Bits) → b ≡ true → ((k : ℕ) → k < 128 → bit_in k told ≡ not (is_open (say (lane k shown))))
    → (k : ℕ) → k < 128 → bit_in k told ≡ (b && is_said (say (lane k shown)))
told_side say b shown told is h k low = h k low ∙ (said_open (say (lane k shown)) ∙ sym (ap (λ x. x && is_said (say (lane k shown))) is))

pub off_side : (say : Tri → Option Played) (b : Bool) (shown : Lanes) → b ≡ false → (k : ℕ) → k < 128 → (b && is_said (say (lane k shown))) ≡ false
off_side say b shown is k low = ap (λ x. x && is_said (say (lane k shown))) is

pub untold_side : (say : Tri → Option Played) (b : Bool) (shown : Lanes) (told : Bits) → told ≡ no_bits → ((k : ℕ) → k < 128 → bit_in k told ≡ not (is_open (say (lane k shown))))
    → (k : ℕ) → k < 128 → (b && is_said (say (lane k shown))) ≡ false
untold_side say b shown told none h k low =
    let said : is_said (say (lane k shown)) ≡ false = sym (said_open (say (lane k shown))) ∙ (sym (h k low) ∙ (ap (bit_in k) none ∙ bit_in_none k)) in
    ap (λ x. b && x) said ∙ and_false b
  where
    and_false : (b : Bool) → (b && false) ≡ false
    and_false true = refl
    and_false false = refl

-- ---- a row

-- so far the first o strobes were counted
pub record AreMoreUpTo (counts : Counting) (cycle o : ℕ) (strobes : List Tri) (shown : List Lanes) (old new : List ℕ) : Type 0 where
  pub size : length new ≡ length old
  pub each : (k : ℕ) → k < length old
      → number_at old k + counted_in counts cycle 0 strobes (lanes k shown) ≡ number_at new k + counted_in counts cycle o (drop o strobes) (drop o (lanes k shown))

pub nothing_more : (counts : Counting) (cycle : ℕ) (strobes : List Tri) (shown : List Lanes) (numbers : List ℕ) → AreMoreUpTo counts cycle 0 strobes shown numbers numbers
nothing_more counts cycle strobes shown numbers = record { size = refl; each = λ k l. refl }

counted_more : (counts : Counting) (c o : ℕ) (ss vs : List Tri) (s v : Tri) → o < length ss → length ss ≡ length vs → s ≡ get_or ss o s → v ≡ get_or vs o v
    → counted_in counts c o (drop o ss) (drop o vs) ≡ one_if (counts c o s v) + counted_in counts c (o + 1) (drop (o + 1) ss) (drop (o + 1) vs)
counted_more counts c o ss vs s v l e is is' =
    let one : drop o ss ≡ s ∷ drop (o + 1) ss = drop_more ss o s l ∙ ap (λ x. x ∷ drop (o + 1) ss) (sym is) in
    let two : drop o vs ≡ v ∷ drop (o + 1) vs = drop_more vs o v (omega (arith, l, e)) ∙ ap (λ x. x ∷ drop (o + 1) vs) (sym is') in
    ap (λ x. counted_in counts c o x (drop o vs)) one ∙ ap (λ x. counted_in counts c o (s ∷ drop (o + 1) ss) x) two

pub one_more : (counts : Counting) (cycle o : ℕ) (strobes : List Tri) (shown : List Lanes) (old new new' : List ℕ) (d : Tri) (e : Lanes) → o < length strobes → length strobes ≡ length shown
    → AreMore (counts cycle o (get_or strobes o d)) (get_or shown o e) new new' → AreMoreUpTo counts cycle o strobes shown old new → AreMoreUpTo counts cycle (o + 1) strobes shown old new'
one_more counts cycle o strobes shown old new new' d e l same more h =
    let s = get_or strobes o d in
    let v = get_or shown o e in
    let inner : o < length shown = omega (arith, l, same) in
    record {
      size = more.size ∙ h.size;
      each = λ k inside.
          let row = lanes k shown in
          let wide : length strobes ≡ length row = same ∙ sym (length-map shown (lane k)) in
          let value : lane k v ≡ get_or row o (lane k v) = sym (get_or-map (lane k) shown o e (lane k v) inner) in
          let a = h.each k inside in
          let b = counted_more counts cycle o strobes row s (lane k v) l wide (get_or_default strobes o d s l) value in
          let c = more.each k (let z = h.size in omega (arith, inside)) in
          omega (arith, a, b, c);
    }

nothing_left : (ss vs : List Tri) (counts : Counting) (c o : ℕ) → length ss ≤ o → counted_in counts c o (drop o ss) vs ≡ 0
nothing_left ss vs counts c o l = ap (λ x. counted_in counts c o x vs) (drop_whole ss o l)
  where
    drop_whole : (ys : List Tri) (o : ℕ) → length ys ≤ o → drop o ys ≡ []
    drop_whole [] zero l = refl
    drop_whole [] (suc o) l = refl
    drop_whole (y ∷ ys) zero l = absurd (omega (arith, l))
    drop_whole (y ∷ ys) (suc o) l = drop_whole ys o (omega (arith, l))

pub all_more : (counts : Counting) (cycle o : ℕ) (strobes : List Tri) (shown : List Lanes) (old new : List ℕ) → length strobes ≤ o → AreMoreUpTo counts cycle o strobes shown old new
    → AreMoreIn counts cycle strobes shown old new
all_more counts cycle o strobes shown old new l h = record {
  size = h.size;
  each = λ k inside.
      let a = h.each k inside in
      let b = nothing_left strobes (drop o (lanes k shown)) counts cycle o l in
      omega (arith, a, b);
}

-- ---- a machine more

-- so far the first m machines had the word's bit added
pub record AreAdded (word : Bits) (m : ℕ) (old new : List ℕ) : Type 0 where
  pub size : length new ≡ length old
  pub done : (k : ℕ) → k < m → k < length old → number_at new k ≡ number_at old k + one_if (bit_in k word)
  pub others : (k : ℕ) → m ≤ k → number_at new k ≡ number_at old k

pub added_more : (word : Bits) (m : ℕ) (old new : List ℕ) (item put : ℕ) → m < length new → item ≡ get_or new m item → put ≡ item + one_if (bit_in m word)
    → AreAdded word m old new → AreAdded word (m + 1) old (set new m put)
added_more word m old new item put l is p h = record {
  size = length-set new m put ∙ h.size;
  done = λ k low inside. elim (cases_eq k m) [
    | inl e ↦
        ap (number_at (set new m put)) e ∙ (get_or-set_same new m put 0 l
        ∙ (p ∙ (ap (λ x. x + one_if (bit_in m word)) (is ∙ (get_or_default new m item 0 l ∙ (h.others m (omega arith) ∙ ap (number_at old) (sym e))))
        ∙ ap (λ i. number_at old k + one_if (bit_in i word)) (sym e))))
    | inr ne ↦ get_or-set_other new m k put 0 ne ∙ h.done k (omega (arith, low, ne)) inside
  ];
  others = λ k high. get_or-set_other new m k put 0 (λ e. omega (arith, high, e)) ∙ h.others k (omega (arith, high));
}
