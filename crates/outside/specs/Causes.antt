-- When a failure may be answered.
use Rattle.std.specs.Prelude.{◌≡◌, ◌+◌, ◌-◌, ◌^◌, ℕ, min, Result, Err}
use Rattle.outside.specs.declared.refusal.ReadRefusal.{ReadRefusal}
use Rattle.outside.specs.declared.refusal.ReadRefusal.TheVariants.{Failed as ReadFailed}
use Rattle.outside.specs.declared.refusal.WriteRefusal.{WriteRefusal}
use Rattle.outside.specs.declared.refusal.WriteRefusal.TheVariants.{Failed as WriteFailed}

-- the last value of a count, a `u64`, at which it stands
abbrev pub last_count : ℕ
last_count = 2 ^ 64 - 1

-- the count of failures rose by one, or stands at its last value
abbrev pub Rose : ℕ → ℕ → Type 0
Rose before now = now ≡ min (before + 1) last_count

-- the count rises where a read failed, and nowhere else
abbrev pub HasReadCause : {T : Type 0} → ℕ → ℕ → Result T ReadRefusal → Type 0
HasReadCause before now (Err ReadFailed) = Rose before now
HasReadCause before now _ = now ≡ before

-- the count rises where a write failed, and nowhere else
abbrev pub HasWriteCause : {T : Type 0} → ℕ → ℕ → Result T WriteRefusal → Type 0
HasWriteCause before now (Err WriteFailed) = Rose before now
HasWriteCause before now _ = now ≡ before
