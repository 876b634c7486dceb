-- When a refutation is accepted.
use Rattle.std.specs.Prelude.{ℕ, ◌≡◌, ◌<◌, ◌||◌, ◌⊎◌, Bool, not, List, [], ◌∷◌, ◌++◌, map, length, take, slice_index_or, slice_set, Option, Some, None, IsTrue, IsFalse, if◌then◌else◌}
use Rattle.std.specs.List.{All, Contains, slice_get}
use Rattle.std.specs.Option.{option_map_or}
use Rattle.statement.specs.declared.lines.Line.{Line}
use Rattle.statement.specs.declared.lines.Line.TheVariants.{Stem, Pin, Out}
use Rattle.statement.specs.declared.lines.Fault.{Fault}
use Rattle.statement.specs.Netlists.{Definition, Netlist, cells, gates, signals}
use Rattle.netlist.specs.Netlist.{definition_of, Reads}
use Rattle.statement.specs.Patterns.{Holds}
use Rattle.statement.specs.Values.{on_pins, is_line}
use Rattle.netlist.specs.Settled.{at}
use Rattle.refutation.specs.declared.pairs.Pairs.{Pairs}
use Rattle.refutation.specs.declared.steps.Literal.{Literal}
use Rattle.refutation.specs.declared.steps.Implied.{Implied}
use Rattle.refutation.specs.declared.steps.Reason.{Reason}
use Rattle.refutation.specs.declared.steps.Reason.TheVariants.{Gate, Lemma, Way, Gates}
use Rattle.refutation.specs.declared.steps.Move.{Move}
use Rattle.refutation.specs.declared.steps.Move.TheVariants.{Imply, Sweep}
use Rattle.refutation.specs.Steps.{Step}
use Rattle.refutation.specs.Pairs.{Pair, has, AreAmong, AreApart, meet, others, no_pair, any_pair, only_pair, same, good_is, faulty_is, paired}
use Rattle.refutation.specs.Cones.{Enters, IsCone}

-- ---- what signals may have

-- a set for each signal
abbrev pub Told : Type 0
Told = List Pairs

abbrev pub told_of : Told → ℕ → Pairs
told_of told = at told no_pair

-- where the literal is so
abbrev pub narrowed : Told → Literal → Told
narrowed told l = slice_set told l.signal (meet (told_of told l.signal) l.pairs)

-- the signal has another pair
abbrev pub denied : Literal → Literal
denied l = record { signal = l.signal; pairs = others l.pairs }

-- where no literal of the clause is so
abbrev pub denying : Told → List Literal → Told
denying told [] = told
denying told (l ∷ ls) = denying (narrowed told (denied l)) ls

-- a clause of one literal is so for good
abbrev pub learned : Told → List Literal → Told
learned told [] = told
learned told (l ∷ []) = narrowed told l
learned told (l ∷ m ∷ ls) = told

-- after these clauses
abbrev pub knowing : Told → List (List Literal) → Told
knowing told [] = told
knowing told (c ∷ cs) = knowing (learned told c) cs

-- ---- before any step

-- the signal that comes onto the line
abbrev pub carried : Netlist → Line → ℕ
carried n (Stem x) = x
carried n (Pin z k) = option_map_or (λ (d : Definition). slice_index_or d.pins k z) (definition_of n z) z
carried n (Out x) = x

-- A test excites the fault: without it the line has the other bit.
abbrev pub excitation : Netlist → Fault → Literal
excitation n f = record { signal = carried n f.line; pairs = good_is (not f.value) }

-- a stuck stem has its bit with the fault
abbrev pub at_stem : Fault → ℕ → Pairs
at_stem f x = if is_line f.line (Stem x) then faulty_is f.value else any_pair

abbrev pub held : Option Bool → Pairs
held None = any_pair
held (Some b) = good_is b

-- what the fault doesn't reach is the same with it, and a held input has its bit
abbrev pub may_have : Holds → Fault → Bool → ℕ → Pairs
may_have holds f reached x = meet (if reached then at_stem f x else same) (held (slice_index_or holds x None))

-- what each signal may have under a pattern that detects the fault, as far as it is seen at once
abbrev pub start : Netlist → Holds → Fault → (ℕ → Bool) → Told
start n holds f cone = narrowed (map (λ x. may_have holds f (cone x) x) (signals n)) (excitation n f)

-- ---- reasons

-- what the gate makes of pairs that come onto its pins
abbrev pub made : Fault → Definition → List Pair → Pair
made f d pairs = (paired f).line (Stem d.id) ((paired f).gate d (on_pins (paired f) d.id 0 pairs))

-- the gate of the signal makes of no pairs that its pins may have one that the signal may have
pub record IsBlocked (n : Netlist) (f : Fault) (told : Told) (x : ℕ) : Type 0 where
  pub gate : Definition
  pub member : Contains (gates n) gate
  pub id : gate.id ≡ x
  pub none : (pairs : List Pair) → AreAmong (map (told_of told) gate.pins) pairs → IsFalse (has (told_of told x) (made f gate pairs))

-- the literal can't be, and no literal of the clause can
abbrev pub IsNever : Told → Literal → Type 0
IsNever told l = AreApart (told_of told l.signal) l.pairs

abbrev pub IsNoneSo : Told → List Literal → Type 0
IsNoneSo told clause = All (IsNever told) clause

-- of an earlier clause
pub record IsLemmaBlocked (lemmas : List (List Literal)) (told : Told) (k : ℕ) : Type 0 where
  pub clause : List Literal
  pub there : slice_get lemmas k ≡ Some clause
  pub none : IsNoneSo told clause

-- the signal may have different bits
abbrev pub may_differ : Told → ℕ → Bool
may_differ told x = (told_of told x).rises || (told_of told x).falls

-- The set shuts the fault off: it has where the fault enters, and each gate that reads a signal of it, if these may differ; no signal of it is
-- observed; and the fault's line is none of an output or a cell. (The path along which a fault is seen, and its X-path check: Goel, An implicit
-- enumeration algorithm to generate tests for combinational logic circuits, 1981.)
pub record IsShutOff (n : Netlist) (f : Fault) (told : Told) (set : ℕ → Bool) : Type 0 where
  pub entered : (x : ℕ) → Enters n f.line x → IsTrue (may_differ told x) → IsTrue (set x)
  pub passed : (x z : ℕ) → IsTrue (set x) → Reads n z x → IsTrue (may_differ told z) → IsTrue (set z)
  pub outputs : All (λ x. IsFalse (set x) × IsFalse (is_line f.line (Out x))) n.outputs
  pub cells : All (λ (d : Definition). All (λ x. IsFalse (set x)) d.pins × ((k : ℕ) → IsFalse (is_line f.line (Pin d.id k)))) (cells n)

-- a set does
abbrev pub IsNoWay : Netlist → Fault → Told → Type 0
IsNoWay n f told = (set : ℕ → Bool) × IsShutOff n f told set

-- ---- what gates allow

-- with any pair of the signal alone the gate isn't blocked
abbrev pub IsKept : Netlist → Fault → Told → ℕ → ℕ → Type 0
IsKept n f told z x = (p : Pair) → IsTrue (has (told_of told x) p) → ¬ IsBlocked n f (narrowed told (record { signal = x; pairs = only_pair p })) z

-- nor with any pair of its own signal or of one of its pins
pub record IsKeeping (n : Netlist) (f : Fault) (told : Told) (gate : Definition) : Type 0 where
  pub own : IsKept n f told gate.id gate.id
  pub pins : All (IsKept n f told gate.id) gate.pins

-- each signal has a pair, and each gate keeps those of its signals (arc consistency: Mackworth, Consistency in networks of relations, 1977)
pub record IsAllowed (n : Netlist) (f : Fault) (told : Told) : Type 0 where
  pub size : length told ≡ length (signals n)
  pub some : (x : ℕ) → Contains (signals n) x → (p : Pair) × IsTrue (has (told_of told x) p)
  pub gates : All (IsKeeping n f told) (gates n)

abbrev pub IsWithin : Told → Told → Type 0
IsWithin told wider = (x : ℕ) (p : Pair) → IsTrue (has (told_of told x) p) → IsTrue (has (told_of wider x) p)

-- the gates allow nothing of what signals may have
abbrev pub LeavesNothing : Netlist → Fault → Told → Type 0
LeavesNothing n f told = (some : Told) → IsWithin some told → ¬ IsAllowed n f some

-- the most that the gates allow of what signals may have
pub record IsSwept (n : Netlist) (f : Fault) (told swept : Told) : Type 0 where
  pub allowed : IsAllowed n f swept
  pub within : IsWithin swept told
  pub most : (some : Told) → IsWithin some told → IsAllowed n f some → IsWithin some swept

-- ---- contradictions

-- the reason can't be
abbrev pub IsContradicted : Netlist → Fault → List (List Literal) → Told → Reason → Type 0
IsContradicted n f lemmas told (Gate x) = IsBlocked n f told x
IsContradicted n f lemmas told (Lemma k) = IsLemmaBlocked lemmas told k
IsContradicted n f lemmas told Way = IsNoWay n f told
IsContradicted n f lemmas told Gates = LeavesNothing n f told

-- ---- steps

-- the literal names a signal, and its opposite can't be, by its reason
pub record IsImplied (n : Netlist) (f : Fault) (lemmas : List (List Literal)) (told : Told) (i : Implied) : Type 0 where
  pub within : Contains (signals n) i.literal.signal
  pub only : IsContradicted n f lemmas (narrowed told (denied i.literal)) i.reason

-- Each literal is implied where those before it are so, and then the last reason can't be; or a sweep before leaves nothing.
abbrev pub Leads : Netlist → Fault → List (List Literal) → Told → List Move → Reason → Type 0
Leads n f lemmas told [] last = IsContradicted n f lemmas told last
Leads n f lemmas told (Imply i ∷ moves) last = IsImplied n f lemmas told i × Leads n f lemmas (narrowed told i.literal) moves last
Leads n f lemmas told (Sweep ∷ moves) last = LeavesNothing n f told ⊎ ((swept : Told) × IsSwept n f told swept × Leads n f lemmas swept moves last)

-- the clause follows from those before it, which leave the signals these pairs
pub record StepHolds (n : Netlist) (f : Fault) (lemmas : List (List Literal)) (known : Told) (step : Step) : Type 0 where
  pub within : All (λ (l : Literal). Contains (signals n) l.signal) step.clause
  pub leads : Leads n f lemmas (denying known step.clause) step.moves step.last

abbrev pub clauses : List Step → List (List Literal)
clauses steps = map (λ (s : Step). s.clause) steps

-- step k holds after those before it, where the signals may have these pairs before any
abbrev pub HoldsAt : Netlist → Fault → Told → List Step → ℕ → Type 0
HoldsAt n f told steps k =
    (step : Step) × (slice_get steps k ≡ Some step) × StepHolds n f (clauses (take k steps)) (knowing told (clauses (take k steps))) step

-- its last clause is empty: none of its literals is so
abbrev pub EndsEmpty : List Step → Type 0
EndsEmpty steps = (front : List Step) × (last : Step) × (steps ≡ front ++ last ∷ []) × (last.clause ≡ [])

-- each step holds
abbrev pub AllHold : Netlist → Fault → Told → List Step → Type 0
AllHold n f told steps = (k : ℕ) → k < length steps → HoldsAt n f told steps k

-- each step holds, and the last clause is empty
pub record Refutes (f : Fault) (n : Netlist) (holds : Holds) (steps : List Step) : Type 0 where
  pub cone : ℕ → Bool
  pub is_cone : IsCone n f.line cone
  pub each : AllHold n f (start n holds f cone) steps
  pub ends : EndsEmpty steps
