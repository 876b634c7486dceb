-- How roles follow the signals that a fault binds, one after the other (private to this crate).
use Rattle.std.specs.Prelude.{ℕ, ◌≡◌, ◌≢◌, ◌+◌, ◌⊎◌, List, [], ◌∷◌, Option, Some, length, is_some, if◌then◌else◌}
use Rattle.std.specs.Bool.{Decides}
use Rattle.std.specs.List.{Contains}
use Rattle.statement.specs.declared.lines.Line.{Line}
use Rattle.statement.specs.declared.lines.Fault.{Fault}
use Rattle.statement.specs.Patterns.{Holds}
use Rattle.statement.specs.Netlists.{Netlist, signals}
use Rattle.netlist.specs.Netlist.{Reads}
use Rattle.head_lines.specs.declared.roles.Role.{Role}
use Rattle.head_lines.specs.declared.roles.Role.TheVariants.{Bound, Head, Inner}
use Rattle.head_lines.specs.HeadLines.{IsSiteOf, IsOrigin, IsConstant, IsBound, IsEdgeOf, IsFanoutStem, is_head_role, role_at}
use Rattle.head_lines.specs.Rooms.{AreBeside}

-- what differed before still does so, and what changed is named too
abbrev pub IsKeptBeside : List Role → List ℕ → List Role → List ℕ → Type 0
IsKeptBeside old old_changed new new_changed = (base : List Role) → AreBeside base old old_changed → AreBeside base new new_changed

-- the signal has this role now, and all others have theirs
pub record IsPut (old new : List Role) (x : ℕ) (role : Role) : Type 0 where
  pub size : length new ≡ length old
  pub here : role_at new x ≡ role
  pub others : (y : ℕ) → y ≢ x → role_at new y ≡ role_at old y

-- a free signal is a head line now
pub record IsFlipped (old new : Role) : Type 0 where
  pub was : old ≡ Inner
  pub is : new ≡ Head

-- of these signals those that were free are head lines now
pub record AreHeads (old new : List Role) (xs : List ℕ) : Type 0 where
  pub size : length new ≡ length old
  pub none_inner : (x : ℕ) → Contains xs x → role_at new x ≢ Inner
  pub turned : (x : ℕ) → (role_at new x ≡ role_at old x) ⊎ (Contains xs x × IsFlipped (role_at old x) (role_at new x))

-- a signal is bound now, and what its gate reads is bound or a head line
pub record IsBoundNow (n : Netlist) (z : ℕ) (old new : List Role) : Type 0 where
  pub size : length new ≡ length old
  pub here : role_at new z ≡ Bound
  pub none_inner : (x : ℕ) → Reads n z x → role_at new x ≢ Inner
  pub turned : (x : ℕ) → x ≢ z → (role_at new x ≡ role_at old x) ⊎ (Reads n z x × IsFlipped (role_at old x) (role_at new x))

-- the only gate that reads a signal, unless the signal is a fanout stem
pub record IsOnlyReader (n : Netlist) (x : ℕ) (next : Option ℕ) : Type 0 where
  pub reads : (z : ℕ) → next ≡ Some z → Reads n z x
  pub all : (z : ℕ) → Reads n z x → IsFanoutStem n x ⊎ (next ≡ Some z)

-- the signal of which the line is, if there is one
pub record IsSite (n : Netlist) (line : Line) (site : Option ℕ) : Type 0 where
  pub is : (x : ℕ) → site ≡ Some x → Contains (signals n) x × IsSiteOf n line x
  pub all : (x : ℕ) → Contains (signals n) x → IsSiteOf n line x → site ≡ Some x

-- the roles, but for one signal that is to be bound next
pub record AreRolesBut (f : Fault) (n : Netlist) (holds : Holds) (roles : List Role) (next : Option ℕ) : Type 0 where
  pub size : length roles ≡ length (signals n)
  pub next_is : (z : ℕ) → next ≡ Some z → Contains (signals n) z × IsBound f n holds z
  pub sound : (x : ℕ) → Contains (signals n) x → role_at roles x ≡ Bound → IsBound f n holds x
  pub begun : (x : ℕ) → Contains (signals n) x → IsOrigin f n x ⊎ IsConstant n holds x → (role_at roles x ≡ Bound) ⊎ (next ≡ Some x)
  pub closed : (z x : ℕ) → Reads n z x → role_at roles x ≡ Bound → (role_at roles z ≡ Bound) ⊎ (next ≡ Some z)
  pub heads : (x : ℕ) → Contains (signals n) x → Decides (is_head_role (role_at roles x)) (IsEdgeOf n (λ z. role_at roles z ≡ Bound) x)

-- how many aren't bound
abbrev pub is_unbound : Role → ℕ
is_unbound Bound = 0
is_unbound Head = 1
is_unbound Inner = 1

abbrev pub unbound : List Role → ℕ
unbound [] = 0
unbound (role ∷ rest) = is_unbound role + unbound rest

-- how many signals wait
abbrev pub waiting : Option ℕ → ℕ
waiting next = if is_some next then 1 else 0
