-- A read of a told file answers exactly one thing, but where it failed or memory was short.
use Rattle.std.proofs.Common.{◌≡◌, ◌≤◌, ◌<◌, ◌+◌, ℕ, List, Some, None, Result, Ok, Err, Vec, Global, length, sym, refl, ap, arith, rules, inl, inr}
use Rattle.std.specs.Prelude.{⊤, ◌⊎◌, unwrap_or}
use Rattle.outside.specs.Shelf.{Tells, IsWithin}
use Rattle.outside.specs.declared.refusal.ReadRefusal.{ReadRefusal}
use Rattle.outside.specs.declared.refusal.ReadRefusal.TheVariants as read

same_Some : (x y : List ℕ) → Some x ≡ Some y → x ≡ y
same_Some x y e = ap (λ o. unwrap_or o x) e

not_None : (x : List ℕ) → Some x ≡ None → ⊥
not_None x e = search rules

-- the read failed, or memory was short
abbrev pub IsFree : Result (Vec ℕ Global) ReadRefusal → Type 0
IsFree (Err read.Failed) = ⊤
IsFree (Err read.NoMemory) = ⊤
IsFree _ = ⊥

-- where there is no such file, the answer is Missing
pub missing_exactly : (max : ℕ) (result : Result (Vec ℕ Global) ReadRefusal)
    → Tells None max result → (result ≡ Err read.Missing) ⊎ IsFree result
missing_exactly max (Ok bytes) h = absurd (not_None _ (sym h))
missing_exactly max (Err (read.TooLong n)) h = absurd h
missing_exactly max (Err read.Missing) h = inl refl
missing_exactly max (Err read.Failed) h = inr tt
missing_exactly max (Err read.NoMemory) h = inr tt

-- where the file is longer than `max`, the answer is TooLong, with one more
pub too_long_exactly : (bytes : List ℕ) (max : ℕ) (result : Result (Vec ℕ Global) ReadRefusal)
    → Tells (Some bytes) max result → IsWithin max result → max < length bytes → (result ≡ Err (read.TooLong (max + 1))) ⊎ IsFree result
too_long_exactly bytes max (Ok found) h k longer = absurd (omega (arith, ap length (same_Some _ _ h)))
too_long_exactly bytes max (Err (read.TooLong n)) h k longer = inl (ap (λ seen. Err (read.TooLong seen)) k)
too_long_exactly bytes max (Err read.Missing) h k longer = absurd (not_None _ h)
too_long_exactly bytes max (Err read.Failed) h k longer = inr tt
too_long_exactly bytes max (Err read.NoMemory) h k longer = inr tt
