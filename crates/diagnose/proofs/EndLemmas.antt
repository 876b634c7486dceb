-- The end of a log, and whole logs.
use Rattle.std.proofs.Common.{◌≡◌, ◌≢◌, ℕ, zero, suc, ◌+◌, ◌%◌, ◌<◌, ◌≤◌, ◌^◌, List, [], ◌∷◌, ◌++◌, append_assoc, length, get_or, drop, Option, Some, None, slice_get, refl, sym, ◌∙◌, ap, subst, inl, inr, codes, decimal, arith}
use Rattle.std.specs.List.{All, flat_map}
use Rattle.std.proofs.lemmas.Bool.{cases_lt}
use Rattle.std.proofs.lemmas.Fmt.{decimal_by_steps, decimal_injective}
use Rattle.std.proofs.lemmas.List.{append_cancel_left}
use Rattle.std.proofs.lemmas.List.Elements.{All-append, All-cons, All-head, All-nil, All-tail}
use Rattle.std.proofs.lemmas.Option.{slice_get-get_or}
use Rattle.plain_text.proofs.Parts.{byte_inside, same_parts}
use Rattle.report.specs.Beginnings.{NoneBegins}
use Rattle.report.proofs.ByteLemmas.{above_by_test, above_lacks, number_above}
use Rattle.report.proofs.LineLemmas.{nothing_begins, same_lines}
use Rattle.diagnose.specs.Failures.{Failing, IsBefore, IsEnd, IsFailing}
use Rattle.diagnose.specs.Reading.{IsLog, IsLogOf}
use Rattle.diagnose.specs.Texts.{end_line, failing_line}
use Rattle.diagnose.specs.declared.failures.FailLog.{FailLog}
use Rattle.diagnose.specs.inner.Words.{failure_words}
use Rattle.diagnose.proofs.FailureLemmas.{failure_lined, failure_told, number_whole}

-- ---- the last line

line_whole : (n : ℕ) → n < 2 ^ 64 → All (λ b. b ≢ 10) (decimal n)
line_whole n l = above_lacks 47 10 (decimal n) (omega arith) (number_above n l)

module _ (text words : List ℕ) (is : text ≡ codes "end " ++ words) where
  words_are : (n : ℕ) → text ≡ end_line (Some n) → words ≡ decimal n ++ 10 ∷ []
  words_are n e = append_cancel_left (codes "end ") words (decimal n ++ 10 ∷ []) (sym is ∙ e)

  pub no_line : All (λ b. b ≢ 10) words → (n : ℕ) → n < 2 ^ 64 → text ≢ end_line (Some n)
  no_line none n l e = byte_inside 10 (decimal n) [] (subst (All (λ b. b ≢ 10)) (words_are n e) none)

  module _ (digits rest : List ℕ) (whole : All (λ b. b ≢ 10) digits) (parts : words ≡ digits ++ 10 ∷ rest) where
    end_parts : (n : ℕ) → n < 2 ^ 64 → text ≡ end_line (Some n) → (digits ≡ decimal n) × (rest ≡ [])
    end_parts n l e = same_parts 10 digits (decimal n) rest [] whole (line_whole n l) (sym parts ∙ words_are n e)

    pub no_number_there : ((k : ℕ) → k < 2 ^ 64 → digits ≢ decimal k) → (n : ℕ) → n < 2 ^ 64 → text ≢ end_line (Some n)
    no_number_there none n l e = none n l (end_parts n l e).0

    pub more_behind : (rest ≢ []) → (n : ℕ) → n < 2 ^ 64 → text ≢ end_line (Some n)
    more_behind some n l e = some (end_parts n l e).1

    pub is_last : (n : ℕ) → digits ≡ decimal n → rest ≡ [] → text ≡ end_line (Some n)
    is_last n d r = is ∙ ap (λ t. codes "end " ++ t) (parts ∙ (ap (λ ds. ds ++ 10 ∷ rest) d ∙ ap (λ t. decimal n ++ 10 ∷ t) r))

-- ---- lines of failures, and then the end

digits_below : (n : ℕ) → n < 2 ^ 64 → All (λ b. b < 58) (decimal n)
digits_below n l =
    decimal_by_steps (λ m ds. All (λ b. b < 58) ds) (λ m s. All-cons (λ b. b < 58) (48 + m) [] (omega arith) (All-nil (λ b. b < 58)))
    (λ m ds t h. All-append (λ b. b < 58) ds ((48 + m % 10) ∷ []) h (All-cons (λ b. b < 58) (48 + m % 10) [] (omega arith) (All-nil (λ b. b < 58)))) n l

-- no number is written `end`
no_end_number : (n : ℕ) → n < 2 ^ 64 → codes "end" ≡ decimal n → ⊥
no_end_number n l e =
    let first : 101 < 58 = All-head (λ b. b < 58) 101 (codes "nd") (subst (All (λ b. b < 58)) (sym e) (digits_below n l)) in
    absurd (omega (arith, first))

end_whole : All (λ b. b ≢ 32) (codes "end")
end_whole = above_lacks 32 32 (codes "end") (omega arith) (above_by_test 32 (codes "end") refl)

failing_parts : (f : Failing) (rest : List ℕ) → failing_line f ++ rest ≡ decimal f.cycle ++ 32 ∷ (f.signal ++ 10 ∷ rest)
failing_parts f rest =
    append_assoc (decimal f.cycle) (codes " " ++ (f.signal ++ codes "\n")) rest ∙ ap (λ t. decimal f.cycle ++ 32 ∷ t) (append_assoc f.signal (codes "\n") rest)

pub end_begins_none : (end : Option ℕ) → NoneBegins IsFailing failing_line (end_line end)
end_begins_none None f rest v e = nothing_begins IsFailing failure_words failing_line failure_lined f rest v e
end_begins_none (Some n) f rest v e =
    let behind : failing_line f ++ rest ≡ decimal f.cycle ++ 32 ∷ (f.signal ++ 10 ∷ rest) = failing_parts f rest in
    let parts = same_parts 32 (codes "end") (decimal f.cycle) (decimal n ++ codes "\n") (f.signal ++ 10 ∷ rest) end_whole (number_whole f.cycle v.small) (e ∙ behind) in
    no_end_number f.cycle v.small parts.0

same_ends : (d e : Option ℕ) → IsEnd d → IsEnd e → end_line d ≡ end_line e → d ≡ e
same_ends None None v w is = refl
same_ends None (Some n) v w is = absurd (omega (arith, ap length is))
same_ends (Some n) None v w is = absurd (omega (arith, ap length is))
same_ends (Some m) (Some n) v w is =
    let numbers = append_cancel_left (codes "end ") (decimal m ++ 10 ∷ []) (decimal n ++ 10 ∷ []) is in
    let parts = same_parts 10 (decimal m) (decimal n) [] [] (line_whole m v) (line_whole n w) numbers in
    ap (λ (k : ℕ). Some k) (decimal_injective m n v w parts.0)

-- failures, with what is left of them, and those of a log with its end
pub failures_told : (xs ys : List Failing) (rest : List ℕ) (end : Option ℕ) → All IsFailing xs → All IsFailing ys → NoneBegins IsFailing failing_line rest
    → flat_map failing_line xs ++ rest ≡ flat_map failing_line ys ++ end_line end → (xs ≡ ys) × (rest ≡ end_line end)
failures_told xs ys rest end v w none e = same_lines IsFailing failing_line failure_told xs ys rest (end_line end) v w none (end_begins_none end) e

-- behind the 16 bytes of its first line a text is the lines of one log
pub one_log : (bytes : List ℕ) (log other : FailLog) → IsLogOf bytes log → IsLogOf bytes other → log ≡ other
one_log bytes log other p q =
    let same : flat_map failing_line log.failures ++ end_line log.end ≡ flat_map failing_line other.failures ++ end_line other.end = ap (drop 16) (sym p.1 ∙ q.1) in
    let told = failures_told log.failures other.failures (end_line log.end) other.end p.0.failures q.0.failures (end_begins_none log.end) same in
    let end : log.end ≡ other.end = same_ends log.end other.end p.0.end q.0.end told.1 in
    ap (λ (fs : List Failing). record { failures = fs; end = log.end }) told.0 ∙ ap (λ (e : Option ℕ). record { failures = other.failures; end = e }) end

-- the parts of a text that is read are those of the log
pub log_parts : (bytes text rest : List ℕ) (failures : List Failing) (log : FailLog) → bytes ≡ codes "atpg fail log 1\n" ++ text → All IsFailing failures
    → text ≡ flat_map failing_line failures ++ rest → NoneBegins IsFailing failing_line rest → IsLogOf bytes log → (failures ≡ log.failures) × (rest ≡ end_line log.end)
log_parts bytes text rest failures log is valid read none of =
    let lines = flat_map failing_line log.failures ++ end_line log.end in
    let same : text ≡ lines = append_cancel_left (codes "atpg fail log 1\n") text lines (sym is ∙ of.1) in
    failures_told failures log.failures rest log.end valid of.0.failures none (sym read ∙ same)

pub logged_before : (end : Option ℕ) (failures : List Failing) (rest : List ℕ) (log : FailLog) → IsEnd end → rest ≡ end_line end → (failures ≡ log.failures) × (rest ≡ end_line log.end)
    → IsLog log → All (λ (f : Failing). IsBefore end f.cycle) failures
logged_before end failures rest log v is parts l =
    let same : log.end ≡ end = same_ends log.end end l.end v (sym parts.1 ∙ is) in
    subst (λ (e : Option ℕ). All (λ (f : Failing). IsBefore e f.cycle) failures) same
    (subst (All (λ (f : Failing). IsBefore log.end f.cycle)) (sym parts.0) l.before)

-- ---- failures before the end

-- those at the first places
abbrev pub FirstBefore : Option ℕ → List Failing → ℕ → Type 0
FirstBefore end failures place = (k : ℕ) (f : Failing) → k < place → slice_get failures k ≡ Some f → IsBefore end f.cycle

some_same : (f g : Failing) → Some f ≡ Some g → f ≡ g
some_same f g e = cc

pub next_before : (end : Option ℕ) (failures : List Failing) (place : ℕ) (f : Failing) → FirstBefore end failures place → slice_get failures place ≡ Some f → IsBefore end f.cycle
    → FirstBefore end failures (place + 1)
next_before end failures place f old at here k g l e = elim (cases_lt k place) [
  | inl less ↦ old k g less e
  | inr past ↦
      let same : place ≡ k = omega arith in
      subst (λ (x : Failing). IsBefore end x.cycle) (some_same f g (sym at ∙ (ap (λ i. slice_get failures i) same ∙ e))) here
]

pub all_before : (end : Option ℕ) (failures : List Failing) (place : ℕ) → length failures ≤ place → FirstBefore end failures place
    → All (λ (f : Failing). IsBefore end f.cycle) failures
all_before end failures place whole h k d l = h k (get_or failures k d) (omega arith) (slice_get-get_or failures k d l)

pub before_at : (end : Option ℕ) (failures : List Failing) (k : ℕ) (f : Failing) → All (λ (f : Failing). IsBefore end f.cycle) failures → slice_get failures k ≡ Some f → IsBefore end f.cycle
before_at end [] k f all e = cc
before_at end (g ∷ gs) zero f all e = subst (λ (x : Failing). IsBefore end x.cycle) (some_same g f e) (All-head (λ (f : Failing). IsBefore end f.cycle) g gs all)
before_at end (g ∷ gs) (suc k) f all e = before_at end gs k f (All-tail (λ (f : Failing). IsBefore end f.cycle) g gs all) e
