-- Which calls of a shelf or a sink in memory are to fail.
use Rattle.std.specs.Prelude.{◌==◌, ◌+◌, ℕ, List, Option, min, find, refl}
use Rattle.std.specs.Coded.{Coded, code_by, coded×, coded_ℕ, coded_list}
use Rattle.outside.specs.Causes.{last_count}
use Rattle.outside.specs.declared.failing.FailingCall.{FailingCall}

-- the calls that are to fail, and how many calls have been made
pub record Plan : Type 0 where
  pub failing : List FailingCall
  pub made : ℕ

-- by which a proof tells two of them apart
abbrev pub failing_call_code : Coded FailingCall
failing_call_code =
    code_by (ℕ × ℕ) (coded× coded_ℕ coded_ℕ) (λ f. (f.number, f.kept)) (λ p. record { number = p.0; kept = p.1 }) (λ _. refl)

abbrev pub plan_code : Coded Plan
plan_code =
    code_by (List FailingCall × ℕ) (coded× (coded_list failing_call_code) coded_ℕ) (λ p. (p.failing, p.made)) (λ p. record { failing = p.0; made = p.1 }) (λ _. refl)

-- before the first call
abbrev pub begun : List FailingCall → Plan
begun failing = record { failing = failing; made = 0 }

-- the number of the next call, which stands at a count's last value
abbrev pub next_number : Plan → ℕ
next_number plan = min (plan.made + 1) last_count

abbrev pub after_call : Plan → Plan
after_call plan = record plan { made = next_number plan }

-- how the next call fails, if it is to
abbrev pub next_failure : Plan → Option FailingCall
next_failure plan = find (λ call. call.number == next_number plan) plan.failing
