-- Where more is known, the rank of a label is no less, and greater for another label.
use Rattle.std.proofs.Common.{◌≡◌, ◌≢◌, ◌≤◌, ◌+◌, Bool, true, false, cond, refl, inl, inr, arith}
use Rattle.std.proofs.lemmas.Bool.{cases_lt}
use Rattle.statement.specs.declared.kinds.Tri.{Tri}
use Rattle.statement.specs.declared.kinds.Tri.TheVariants.{Zero, One, X}
use Rattle.tri.specs.declared.labels.Label.{Label}
use Rattle.tri.specs.Known.{allows_tri}
use Rattle.tri.specs.Labels.{AllowsLabel}
use Rattle.pair_sim.specs.inner.Levels.{known_rank, rank}

tri_rank : (v w : Tri) → allows_tri v w ≡ true → known_rank v ≤ known_rank w
tri_rank Zero Zero h = omega arith
tri_rank Zero One h = absurd cc
tri_rank Zero X h = absurd cc
tri_rank One Zero h = absurd cc
tri_rank One One h = omega arith
tri_rank One X h = absurd cc
tri_rank X Zero h = omega arith
tri_rank X One h = omega arith
tri_rank X X h = omega arith

tri_same : (v w : Tri) → allows_tri v w ≡ true → known_rank w ≤ known_rank v → v ≡ w
tri_same Zero Zero h r = refl
tri_same Zero One h r = absurd cc
tri_same Zero X h r = absurd cc
tri_same One Zero h r = absurd cc
tri_same One One h r = refl
tri_same One X h r = absurd cc
tri_same X Zero h r = absurd (omega arith)
tri_same X One h r = absurd (omega arith)
tri_same X X h r = refl

differs_rank : (a b : Bool) → (a ≡ false → b ≡ false) → cond a 0 1 ≤ cond b 0 1
differs_rank true true h = omega arith
differs_rank true false h = omega arith
differs_rank false true h = absurd (let e = h refl in cc)
differs_rank false false h = omega arith

differs_same : (a b : Bool) → (a ≡ false → b ≡ false) → cond b 0 1 ≤ cond a 0 1 → a ≡ b
differs_same true true h r = refl
differs_same true false h r = absurd (omega arith)
differs_same false true h r = absurd (let e = h refl in cc)
differs_same false false h r = refl

pub label_from : (l m : Label) → l.own ≡ m.own → l.good ≡ m.good → l.faulty ≡ m.faulty → l.may_differ ≡ m.may_differ → l ≡ m
label_from l m a b c d = λ i. record { own = a i; good = b i; faulty = c i; may_differ = d i }

tri_few : (v : Tri) → known_rank v ≤ 1
tri_few Zero = omega arith
tri_few One = omega arith
tri_few X = omega arith

differs_few : (a : Bool) → cond a 0 1 ≤ 1
differs_few true = omega arith
differs_few false = omega arith

pub rank_few : (l : Label) → rank l ≤ 4
rank_few l = omega (arith, tri_few l.own, tri_few l.good, tri_few l.faulty, differs_few l.may_differ)

pub rank_more : (l m : Label) → AllowsLabel l m → rank l ≤ rank m
rank_more l m h =
    omega (arith, tri_rank l.own m.own h.own, tri_rank l.good m.good h.good, tri_rank l.faulty m.faulty h.faulty, differs_rank l.may_differ m.may_differ h.may_differ)

pub rank_other : (l m : Label) → AllowsLabel l m → l ≢ m → rank l + 1 ≤ rank m
rank_other l m h other =
    let a = tri_rank l.own m.own h.own in
    let b = tri_rank l.good m.good h.good in
    let c = tri_rank l.faulty m.faulty h.faulty in
    let d = differs_rank l.may_differ m.may_differ h.may_differ in
    elim (cases_lt (rank l) (rank m)) [
      | inl less ↦ omega arith
      | inr least ↦ absurd (other (label_from l m (tri_same l.own m.own h.own (omega arith)) (tri_same l.good m.good h.good (omega arith))
          (tri_same l.faulty m.faulty h.faulty (omega arith)) (differs_same l.may_differ m.may_differ h.may_differ (omega arith))))
    ]
