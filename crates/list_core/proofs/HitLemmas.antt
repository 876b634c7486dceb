-- A batch of hits.
use Rattle.std.proofs.Common.{suc, ◌≡◌, ◌≢◌, ℕ, ◌+◌, ◌<◌, ◌≤◌, ◌^◌, Bool, true, false, ◌||◌, List, [], ◌∷◌, ◌++◌, length, map, set, drop, get_or, refl, sym, ap, ◌∙◌, arith, sum_by}
use Rattle.std.specs.Prelude.{Option, Some, option_and_then, if◌then◌else◌, replicate}
use Rattle.std.specs.List.{All, AllPairs}
use Rattle.std.proofs.lemmas.Bool.{lt-ltb, le-leb}
use Rattle.std.proofs.Math.ListN.{get_or-map}
use Rattle.std.proofs.lemmas.List.{length-map, length-replicate, get_or-set_other, map-set, length-set, length-append, drop_more, map_push, append_assoc}
use Rattle.std.proofs.lemmas.List.Elements.{All-append}
use Rattle.std.proofs.lemmas.List.Sums.{sum_by-set, sum_by-append, sum_by_push, sum_by-cons}
use Rattle.std.proofs.lemmas.Option.{slice_get_within}
use Rattle.statement.specs.declared.lines.Fault.{Fault}
use Rattle.statement.specs.declared.lines.Point.{Point}
use Rattle.statement.specs.Patterns.{Pattern}
use Rattle.word_sim.specs.declared.batches.Hit.{Hit as HitOf}
use Rattle.list_core.specs.declared.verdicts.Entry.{Entry}
use Rattle.list_core.specs.declared.verdicts.Entry.TheVariants.{Publish, Hit}
use Rattle.list_core.specs.declared.verdicts.Verdict.{Verdict}
use Rattle.list_core.specs.declared.verdicts.Verdict.TheVariants.{Open, Detected, Redundant, Aborted}
use Rattle.cubes.specs.Cubes.{IsPatternOf}
use Rattle.list_core.specs.Subjects.{Subject, class_count, DetectsClass}
use Rattle.word_sim.specs.Hits.{Batch}
use Rattle.list_core.specs.Batches.{IsTrueHit, IsTrueBatch}
use Rattle.list_core.specs.Verdicts.{verdict_at, one_if_class_open, VerdictHolds, AllHold, is_undetected}
use Rattle.list_core.specs.Journal.{one_if_take, one_if_publish, is_taken, Kind, verdict_kind, kind_at, can_be_hit, Replay, step, replay_from, replay}
use Rattle.list_core.specs.States.{State, IsTrueList, published, replayed, hit_one, entry_of, hit_verdicts, hit_entries, undetected_from, one_if_free, mark_at}
use Rattle.list_core.proofs.ListLemmas.{frees-one_less, if_true, both, get_more, get_behind, is_taken-append, untaken-push}
use Rattle.list_core.proofs.EventLemmas.{legal_more, hold_set, none_marked, all_free}

-- a verdict still holds with more patterns
detects_more : (j : Subject) (ps more : List Pattern) (c p : ℕ) (o : Point) → DetectsClass j ps c p o → DetectsClass j (ps ++ more) c p o
detects_more j ps more c p o t = record { fault = t.fault; represents = t.represents; pattern = t.pattern; at = get_more ps more p t.pattern t.at; detects = t.detects }

pub holds_more : (j : Subject) (ps more : List Pattern) (c : ℕ) (v : Verdict) → VerdictHolds j ps c v → VerdictHolds j (ps ++ more) c v
holds_more j ps more c Open h = tt
holds_more j ps more c (Detected p o) h = detects_more j ps more c p o h
holds_more j ps more c (Redundant e) h = h
holds_more j ps more c (Aborted t) h = h

-- what a hit of a batch says stands at its place behind the older patterns
detects_behind : (j : Subject) (ps batch : List Pattern) (h : HitOf) → IsTrueHit j batch h → DetectsClass j (ps ++ batch) h.class (length ps + h.pattern) h.point
detects_behind j ps batch h t = record { fault = t.fault; represents = t.represents; pattern = t.pattern; at = get_behind ps batch h.pattern ∙ t.at; detects = t.detects }

pub hit_class : (j : Subject) (batch : List Pattern) (h : HitOf) → IsTrueHit j batch h → h.class < class_count j
hit_class j batch h t = slice_get_within j.faults h.class t.fault t.represents

pub hit_place : (j : Subject) (batch : List Pattern) (h : HitOf) → IsTrueHit j batch h → h.pattern < length batch
hit_place j batch h t = slice_get_within batch h.pattern t.pattern t.at

pub all_head : {A : Type 0} (P : A → Type 0) (x : A) (xs : List A) → All P (x ∷ xs) → P x
all_head P x xs all = all 0 x (omega arith)

pub all_tail : {A : Type 0} (P : A → Type 0) (x : A) (xs : List A) → All P (x ∷ xs) → All P xs
all_tail P x xs all = λ k d lt. all (suc k) d (omega arith)

one_holds : (j : Subject) (ps batch : List Pattern) (h : HitOf) (vs : List Verdict) (b : Bool) → h.class < length vs → IsTrueHit j batch h → AllHold j (ps ++ batch) vs
    → AllHold j (ps ++ batch) (if b then set vs h.class (Detected (length ps + h.pattern) h.point) else vs)
one_holds j ps batch h vs true lt is all = hold_set j (ps ++ batch) vs h.class (Detected (length ps + h.pattern) h.point) lt (detects_behind j ps batch h is) all
one_holds j ps batch h vs false lt is all = all

one_length : (old : ℕ) (h : HitOf) (vs : List Verdict) (b : Bool) → length (if b then set vs h.class (Detected (old + h.pattern) h.point) else vs) ≡ length vs
one_length old h vs true = length-set vs h.class (Detected (old + h.pattern) h.point)
one_length old h vs false = refl

pub length-hit_one : (old : ℕ) (h : HitOf) (vs : List Verdict) → length (hit_one old h vs) ≡ length vs
length-hit_one old h vs = one_length old h vs (is_undetected (verdict_at vs h.class))

pub length-hit_verdicts : (old : ℕ) (hs : List HitOf) (vs : List Verdict) → length (hit_verdicts old hs vs) ≡ length vs
length-hit_verdicts old [] vs = refl
length-hit_verdicts old (h ∷ hs) vs = length-hit_verdicts old hs (hit_one old h vs) ∙ length-hit_one old h vs

pub hits_hold : (j : Subject) (ps batch : List Pattern) (hs : List HitOf) (vs : List Verdict) → length vs ≡ class_count j → All (IsTrueHit j batch) hs → AllHold j (ps ++ batch) vs → AllHold j (ps ++ batch) (hit_verdicts (length ps) hs vs)
hits_hold j ps batch [] vs n are all = all
hits_hold j ps batch (h ∷ hs) vs n are all =
    let here = all_head (IsTrueHit j batch) h hs are in
    hits_hold j ps batch hs (hit_one (length ps) h vs) (length-hit_one (length ps) h vs ∙ n) (all_tail (IsTrueHit j batch) h hs are)
    (one_holds j ps batch h vs (is_undetected (verdict_at vs h.class)) (omega (arith, hit_class j batch h here, n)) here all)

-- the replay of the entries
abbrev after : List Verdict → ℕ → ℕ → Replay
after vs all old = record { kinds = map verdict_kind vs; patterns = all; fresh = old }

kinds_agree : (v : Verdict) → can_be_hit (verdict_kind v) ≡ is_undetected v
kinds_agree Open = refl
kinds_agree (Detected p o) = refl
kinds_agree (Redundant e) = refl
kinds_agree (Aborted t) = refl

hit_step : (vs : List Verdict) (all old c p : ℕ) (o : Point) → c < length vs → is_undetected (verdict_at vs c) ≡ true → old ≤ p → p < all → step (after vs all old) (Hit c p o) ≡ Some (after (set vs c (Detected p o)) all old)
hit_step vs all old c p o lt may low high =
    let len : c < length (map verdict_kind vs) = omega (arith, length-map vs verdict_kind) in
    let can : can_be_hit (kind_at (map verdict_kind vs) c) ≡ true = ap can_be_hit (get_or-map verdict_kind vs c Open) ∙ (kinds_agree (verdict_at vs c) ∙ may) in
    if_true _ _ _ (both _ _ (both _ _ (both _ _ (lt-ltb c (length (map verdict_kind vs)) len) can) (le-leb old p low)) (lt-ltb p all high))
    ∙ ap (λ (k : List Kind). Some (record { kinds = k; patterns = all; fresh = old })) (sym (map-set verdict_kind vs c (Detected p o)))

pub replay_from-append : (r : Option Replay) (es fs : List Entry) → replay_from r (es ++ fs) ≡ replay_from (replay_from r es) fs
replay_from-append r [] fs = refl
replay_from-append r (e ∷ es) fs = replay_from-append (option_and_then (λ s. step s e) r) es fs

one_replays : (old all : ℕ) (h : HitOf) (vs : List Verdict) (b : Bool) → is_undetected (verdict_at vs h.class) ≡ b → h.class < length vs → old + h.pattern < all
    → replay_from (Some (after vs all old)) (if b then Hit h.class (old + h.pattern) h.point ∷ [] else []) ≡ Some (after (if b then set vs h.class (Detected (old + h.pattern) h.point) else vs) all old)
one_replays old all h vs true may lt high = hit_step vs all old h.class (old + h.pattern) h.point lt may (omega arith) high
one_replays old all h vs false may lt high = refl

pub hits_replay : (j : Subject) (batch : List Pattern) (old all : ℕ) (hs : List HitOf) (vs : List Verdict) → length vs ≡ class_count j → All (IsTrueHit j batch) hs → old + length batch ≤ all
    → replay_from (Some (after vs all old)) (hit_entries old hs vs) ≡ Some (after (hit_verdicts old hs vs) all old)
hits_replay j batch old all [] vs n are fits = refl
hits_replay j batch old all (h ∷ hs) vs n are fits =
    let here = all_head (IsTrueHit j batch) h hs are in
    let lt : h.class < length vs = omega (arith, hit_class j batch h here, n) in
    replay_from-append (Some (after vs all old)) (entry_of old h vs) (hit_entries old hs (hit_one old h vs))
    ∙ (ap (λ (r : Option Replay). replay_from r (hit_entries old hs (hit_one old h vs))) (one_replays old all h vs (is_undetected (verdict_at vs h.class)) refl lt (omega (arith, hit_place j batch h here)))
    ∙ hits_replay j batch old all hs (hit_one old h vs) (length-hit_one old h vs ∙ n) (all_tail (IsTrueHit j batch) h hs are) fits)

one_opens : (old : ℕ) (h : HitOf) (vs : List Verdict) (b : Bool) → h.class < length vs → sum_by one_if_class_open (if b then set vs h.class (Detected (old + h.pattern) h.point) else vs) ≤ sum_by one_if_class_open vs
one_opens old h vs true lt = omega (arith, sum_by-set one_if_class_open vs h.class (Detected (old + h.pattern) h.point) Open lt)
one_opens old h vs false lt = omega arith

pub hits_opens : (j : Subject) (batch : List Pattern) (old : ℕ) (hs : List HitOf) (vs : List Verdict) → length vs ≡ class_count j → All (IsTrueHit j batch) hs → sum_by one_if_class_open (hit_verdicts old hs vs) ≤ sum_by one_if_class_open vs
hits_opens j batch old [] vs n are = omega arith
hits_opens j batch old (h ∷ hs) vs n are =
    let here = all_head (IsTrueHit j batch) h hs are in
    let lt : h.class < length vs = omega (arith, hit_class j batch h here, n) in
    omega (arith, hits_opens j batch old hs (hit_one old h vs) (length-hit_one old h vs ∙ n) (all_tail (IsTrueHit j batch) h hs are), one_opens old h vs (is_undetected (verdict_at vs h.class)) lt)

-- what is 0 at each Hit
one_none : (f : Entry → ℕ) (old : ℕ) (h : HitOf) (vs : List Verdict) (b : Bool) → ((c p : ℕ) (o : Point) → f (Hit c p o) ≡ 0) → sum_by f (if b then Hit h.class (old + h.pattern) h.point ∷ [] else []) ≡ 0
one_none f old h vs true zero_at = omega (arith, sum_by-cons f (Hit h.class (old + h.pattern) h.point) [], zero_at h.class (old + h.pattern) h.point)
one_none f old h vs false zero_at = refl

pub entries_none : (f : Entry → ℕ) (old : ℕ) (hs : List HitOf) (vs : List Verdict) → ((c p : ℕ) (o : Point) → f (Hit c p o) ≡ 0) → sum_by f (hit_entries old hs vs) ≡ 0
entries_none f old [] vs zero_at = refl
entries_none f old (h ∷ hs) vs zero_at =
    omega (arith, sum_by-append f (entry_of old h vs) (hit_entries old hs (hit_one old h vs)), one_none f old h vs (is_undetected (verdict_at vs h.class)) zero_at, entries_none f old hs (hit_one old h vs) zero_at)

-- and of the entries of a publish
pub entries_of : (f : Entry → ℕ) (w n old : ℕ) (hs : List HitOf) (es : List Entry) (vs : List Verdict) → ((c p : ℕ) (o : Point) → f (Hit c p o) ≡ 0) → f (Publish w n) ≡ 0 → sum_by f ((es ++ Publish w n ∷ []) ++ hit_entries old hs vs) ≡ sum_by f es
entries_of f w n old hs es vs zero_at none =
    omega (arith, sum_by-append f (es ++ Publish w n ∷ []) (hit_entries old hs vs), sum_by_push f es (Publish w n), none, entries_none f old hs vs zero_at)

-- the publishes are one more
pub publishes_of : (w n old : ℕ) (hs : List HitOf) (es : List Entry) (vs : List Verdict) → sum_by one_if_publish ((es ++ Publish w n ∷ []) ++ hit_entries old hs vs) ≡ sum_by one_if_publish es + 1
publishes_of w n old hs es vs =
    omega (arith, sum_by-append one_if_publish (es ++ Publish w n ∷ []) (hit_entries old hs vs), sum_by_push one_if_publish es (Publish w n), entries_none one_if_publish old hs vs (λ c p o. refl))

-- no class is taken by it
one_untaken : (old : ℕ) (h : HitOf) (c : ℕ) (b : Bool) → is_taken (if b then Hit h.class (old + h.pattern) h.point ∷ [] else []) c ≡ false
one_untaken old h c true = refl
one_untaken old h c false = refl

or_none : (a b : Bool) → a ≡ false → b ≡ false → (a || b) ≡ false
or_none a b p q = ap (λ x. x || b) p ∙ q

pub hits_untaken : (old : ℕ) (hs : List HitOf) (vs : List Verdict) (c : ℕ) → is_taken (hit_entries old hs vs) c ≡ false
hits_untaken old [] vs c = refl
hits_untaken old (h ∷ hs) vs c =
    is_taken-append (entry_of old h vs) (hit_entries old hs (hit_one old h vs)) c
    ∙ or_none (is_taken (hit_entries old hs (hit_one old h vs)) c) (is_taken (entry_of old h vs) c) (hits_untaken old hs (hit_one old h vs) c) (one_untaken old h c (is_undetected (verdict_at vs h.class)))

pub untaken-publish : (w n old : ℕ) (hs : List HitOf) (es : List Entry) (vs : List Verdict) (c : ℕ) → is_taken ((es ++ Publish w n ∷ []) ++ hit_entries old hs vs) c ≡ is_taken es c
untaken-publish w n old hs es vs c =
    is_taken-append (es ++ Publish w n ∷ []) (hit_entries old hs vs) c
    ∙ (ap (λ (b : Bool). b || is_taken (es ++ Publish w n ∷ []) c) (hits_untaken old hs vs c) ∙ untaken-push es (Publish w n) c refl)

-- a true batch keeps what every event keeps
pub true_published : (j : Subject) (s : State) (w : ℕ) (b : Batch) → IsTrueList j s → IsTrueBatch j b → IsTrueList j (published s w b)
true_published j s w b h are =
    let old = length s.patterns in
    let n = length b.patterns in
    let grown : AllHold j (s.patterns ++ b.patterns) s.verdicts = λ (c : ℕ). holds_more j s.patterns b.patterns c (verdict_at s.verdicts c) (h.hold c) in
    let all = length s.patterns + length b.patterns in
    let same_takes = entries_of one_if_take w n old b.hits s.journal s.verdicts (λ c p o. refl) refl in
    let legal : replay (class_count j) ((s.journal ++ Publish w n ∷ []) ++ hit_entries old b.hits s.verdicts) ≡ Some (after (hit_verdicts old b.hits s.verdicts) all old) =
    replay_from-append _ (s.journal ++ Publish w n ∷ []) (hit_entries old b.hits s.verdicts)
    ∙ (ap (λ (r : Option Replay). replay_from r (hit_entries old b.hits s.verdicts)) (legal_more (class_count j) s.journal (Publish w n) (replayed s h.fresh) (after s.verdicts all old) h.legal refl)
    ∙ hits_replay j b.patterns old all b.hits s.verdicts h.count are.hits (omega arith)) in
    record {
      count = length-hit_verdicts old b.hits s.verdicts ∙ h.count;
      hold = hits_hold j s.patterns b.patterns b.hits s.verdicts h.count are.hits grown;
      patterns = All-append (IsPatternOf j.netlist j.holds) s.patterns b.patterns h.patterns are.patterns;
      fresh = old;
      legal = legal ∙ ap (λ (k : ℕ). Some (after (hit_verdicts old b.hits s.verdicts) k old)) (sym (length-append s.patterns b.patterns));
      marks = h.marks;
      marked = λ (c : ℕ) less. h.marked c less ∙ sym (untaken-publish w n old b.hits s.journal s.verdicts c);
      claims = h.claims;
      takes = omega (arith, same_takes, h.takes);
      by_claim = omega (arith, same_takes, h.by_claim);
    }

-- what `record_hits` asks of a true batch
pub hits_within : (j : Subject) (batch : List Pattern) (hs : List HitOf) (classes old : ℕ) → All (IsTrueHit j batch) hs → classes ≡ class_count j → old + length batch < 2 ^ 32 → All (λ (h : HitOf). (h.class < classes) × (old + h.pattern < 2 ^ 32)) hs
hits_within j batch hs classes old are n few = λ k d lt. let t = are k d lt in (omega (arith, hit_class j batch (get_or hs k d) t, n), omega (arith, hit_place j batch (get_or hs k d) t, few))

-- the next class that is looked at
if_at : (k : ℕ) (rest : List ℕ) (b c : Bool) → b ≡ c → (if b then k ∷ rest else rest) ≡ (if c then k ∷ rest else rest)
if_at k rest b c e = ap (λ (x : Bool). if x then k ∷ rest else rest) e

pub undetected_more : (k : ℕ) (vs : List Verdict) (b : Bool) → k < length vs → is_undetected (verdict_at vs k) ≡ b → undetected_from k (drop k vs) ≡ (if b then k ∷ undetected_from (k + 1) (drop (k + 1) vs) else undetected_from (k + 1) (drop (k + 1) vs))
undetected_more k vs b lt is = ap (undetected_from k) (drop_more vs k Open lt) ∙ if_at k (undetected_from (k + 1) (drop (k + 1) vs)) (is_undetected (verdict_at vs k)) b is

abbrev pub class_of : ℕ × Fault → ℕ
class_of p = p.0

-- it is undetected, or it isn't
pub one_left : (xs : List (ℕ × Fault)) (k : ℕ) (f : Fault) (vs : List Verdict) → k < length vs → is_undetected (verdict_at vs k) ≡ true → map class_of xs ++ undetected_from k (drop k vs) ≡ undetected_from 0 vs
    → map class_of (xs ++ (k, f) ∷ []) ++ undetected_from (k + 1) (drop (k + 1) vs) ≡ undetected_from 0 vs
one_left xs k f vs lt is so_far =
    let rest = undetected_from (k + 1) (drop (k + 1) vs) in
    ap (λ (ks : List ℕ). ks ++ rest) (map_push class_of xs (k, f))
    ∙ (append_assoc (map class_of xs) (k ∷ []) rest ∙ (ap (λ (ks : List ℕ). map class_of xs ++ ks) (sym (undetected_more k vs true lt is)) ∙ so_far))

pub none_left : (xs : List (ℕ × Fault)) (k : ℕ) (vs : List Verdict) → k < length vs → is_undetected (verdict_at vs k) ≡ false → map class_of xs ++ undetected_from k (drop k vs) ≡ undetected_from 0 vs
    → map class_of xs ++ undetected_from (k + 1) (drop (k + 1) vs) ≡ undetected_from 0 vs
none_left xs k vs lt is so_far = ap (λ (ks : List ℕ). map class_of xs ++ ks) (sym (undetected_more k vs false lt is)) ∙ so_far

-- Where no class is hit twice, there are no more hits than classes.
hits_fit : (hs : List HitOf) (taken : List Bool) → All (λ (h : HitOf). h.class < length taken) hs → All (λ (h : HitOf). mark_at taken h.class ≡ false) hs → AllPairs (λ (g h : HitOf). g.class ≢ h.class) hs
    → length hs ≤ sum_by one_if_free taken
hits_fit [] taken within free once = omega arith
hits_fit (h ∷ hs) taken within free once =
    let lt : h.class < length taken = all_head (λ (g : HitOf). g.class < length taken) h hs within in
    let more = set taken h.class true in
    let rest : length hs ≤ sum_by one_if_free more =
    hits_fit hs more
    (λ k d less. omega (arith, all_tail (λ (g : HitOf). g.class < length taken) h hs within k d less, length-set taken h.class true))
    (λ k d less. get_or-set_other taken h.class (get_or hs k d).class true false (λ e. once 0 (suc k) d (omega arith) (omega arith) (sym e)) ∙ all_tail (λ (g : HitOf). mark_at taken g.class ≡ false) h hs free k d less)
    (λ i k d less within_k. once (suc i) (suc k) d (omega arith) (omega arith)) in
    omega (arith, rest, frees-one_less taken h.class lt (all_head (λ (g : HitOf). mark_at taken g.class ≡ false) h hs free))

pub few_hits : (j : Subject) (b : Batch) → IsTrueBatch j b → length b.hits ≤ class_count j
few_hits j b are =
    let n = class_count j in
    let fit = hits_fit b.hits (replicate n false)
    (λ k d less. omega (arith, hit_class j b.patterns (get_or b.hits k d) (are.hits k d less), length-replicate n false))
    (λ k d less. none_marked n (get_or b.hits k d).class)
    are.once in
    omega (arith, fit, all_free n)

pub all_below : (n : ℕ) (xs : List (ℕ × Fault)) → All (λ (p : ℕ × Fault). p.0 < n) xs → All (λ (p : ℕ × Fault). p.0 < n + 1) xs
all_below n xs all = λ k d lt. omega (arith, all k d lt)
