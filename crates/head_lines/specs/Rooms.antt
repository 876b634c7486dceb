-- What is kept from fault to fault: roles, and the bits that are wanted of signals.
use Rattle.std.specs.Prelude.{ℕ, ◌≡◌, ◌⊎◌, Bool, false, List, [], length, Option, None, slice_index_or}
use Rattle.std.specs.List.{Contains}
use Rattle.statement.specs.declared.lines.Line.TheVariants.{Out}
use Rattle.statement.specs.declared.lines.Fault.{Fault}
use Rattle.statement.specs.Patterns.{Holds}
use Rattle.statement.specs.Netlists.{Netlist, signals}
use Rattle.head_lines.specs.declared.roles.Role.{Role}
use Rattle.head_lines.specs.declared.room.RoleRoom.{RoleRoom}
use Rattle.head_lines.specs.declared.wants.WantRoom.{WantRoom}
use Rattle.head_lines.specs.HeadLines.{role_at, AreRoles}

-- a fault at no signal's line: what is bound for it is bound for each fault
abbrev pub nowhere : Fault
nowhere = record { line = Out 0; value = false }

-- roles that differ from others at these signals alone
abbrev pub AreBeside : List Role → List Role → List ℕ → Type 0
AreBeside base roles changed = (x : ℕ) → (role_at roles x ≡ role_at base x) ⊎ Contains changed x

-- the room has what is bound whatever the fault, and names where the roles of the last fault differ
pub record IsReusableRoleRoom (n : Netlist) (holds : Holds) (r : RoleRoom) : Type 0 where
  pub base_are : AreRoles nowhere n holds r.base.items
  pub size : length r.roles.items ≡ length r.base.items
  pub beside : AreBeside r.base.items r.roles.items r.changed.items

-- no bit is wanted of any signal, and none waits
pub record AreNoWants (n : Netlist) (row : List (Option Bool)) (queue : List ℕ) : Type 0 where
  pub size : length row ≡ length (signals n)
  pub none : (x : ℕ) → slice_index_or row x None ≡ None
  pub empty : queue ≡ []

abbrev pub IsReusableWantRoom : Netlist → WantRoom → Type 0
IsReusableWantRoom n r = AreNoWants n r.wants.items r.queue.items
