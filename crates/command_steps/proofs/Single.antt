-- Steps that answer one thing alone.
use Rattle.std.proofs.Common.{◌≡◌, ◌∙◌, inl, inr, Option, Some, None, Ok, Err, refl, sym, subst, ap, [], ◌∷◌}
use Rattle.std.specs.Prelude.{Result}
use Rattle.std.proofs.lemmas.List.Elements.{All-contains}
use Rattle.statement.specs.Benches.{Text}
use Rattle.netlist.specs.Conditions.{IsSound}
use Rattle.statement.specs.Netlists.{Netlist}
use Rattle.statement.specs.declared.lines.Fault.{Fault}
use Rattle.bench_text.specs.declared.refusal.Names.{Names}
use Rattle.statement.specs.Faults.{fault_text, universe_of}
use Rattle.fault_universe.proofs.LineTexts.{same_fault}
use Rattle.fault_universe.proofs.Members.{line_written, member_line}
use Rattle.commands.specs.Due.{Due, Refuse}
use Rattle.commands.specs.Laws.{AreAlike, IsExclusive}
use Rattle.command_steps.specs.Steps.{◌>>=◌, named_fault, netlist, test, value, design_due}
use Rattle.command_steps.specs.declared.refusal.Refusal.{Refusal}
use Rattle.command_steps.specs.declared.refusal.Refusal.TheVariants as refusal
use Rattle.good_files.proofs.FirstOnLoop.{read_once, refusals_alike}
use Rattle.bench_text.specs.declared.refusal.Names.TheVariants.{Design}

-- a step answers at most one value, or one refusal, and not both
pub record IsSingle {A : Type 0} (step : Result A Refusal → Type 0) : Type 0 where
  pub value : (x y : A) → step (Ok x) → step (Ok y) → x ≡ y
  pub refusal : (r s : Refusal) → step (Err r) → step (Err s) → r ≡ s
  pub apart : (x : A) (r : Refusal) → step (Ok x) → step (Err r) → ⊥

abbrev pub IsOneKind : (Due Refusal → Type 0) → Type 0
IsOneKind due = (c d : Due Refusal) → due c → due d → AreAlike c d

alike_at : (c d e : Due Refusal) → e ≡ d → AreAlike c d → AreAlike c e
alike_at c d e same h = subst (λ x. AreAlike c x) (sym same) h

alike_front : (c d e : Due Refusal) → e ≡ c → AreAlike c d → AreAlike e d
alike_front c d e same h = subst (λ x. AreAlike x d) (sym same) h

-- what is due is given whole
pub given : (c d x y : Due Refusal) → c ≡ x → d ≡ y → AreAlike x y → AreAlike c d
given c d x y is also h = alike_front x d c is (alike_at x y d also h)

-- Single steps, joined, owe one kind of thing. What a value is known for may be used of it.
pub then_one_where : {A : Type 0} (step : Result A Refusal → Type 0) (rest : A → Due Refusal → Type 0) → IsSingle step → ((x : A) → step (Ok x) → IsOneKind (rest x)) → IsOneKind (step >>= rest)
then_one_where step rest single each c d p q = elim p as (λ _. AreAlike c d) [
  | inl x ↦ elim q as (λ _. AreAlike c d) [
    | inl y ↦ each x.0 x.1 c d x.2 (subst (λ z. rest z d) (single.value y.0 x.0 y.1 x.1) y.2)
    | inr s ↦ absurd (single.apart x.0 s.0 x.1 s.1)
  ]
  | inr r ↦ elim q as (λ _. AreAlike c d) [
    | inl y ↦ absurd (single.apart y.0 r.0 y.1 r.1)
    | inr s ↦ given c d (Refuse r.0) (Refuse s.0) r.2 s.2 (single.refusal r.0 s.0 r.1 s.1)
  ]
]

pub then_one : {A : Type 0} (step : Result A Refusal → Type 0) (rest : A → Due Refusal → Type 0) → IsSingle step → ((x : A) → IsOneKind (rest x)) → IsOneKind (step >>= rest)
then_one step rest single each = then_one_where step rest single (λ x is. each x)

-- ---- the netlist

netlist_refusals : (reading : Names) (bytes : Text) (r s : Refusal) → netlist reading bytes (Err r) → netlist reading bytes (Err s) → r ≡ s
netlist_refusals reading bytes (refusal.Netlist r) (refusal.Netlist s) a b = ap (λ x. refusal.Netlist x) (refusals_alike reading bytes r s a b)
netlist_refusals reading bytes (refusal.Netlist r) (refusal.Order s) a b = absurd b
netlist_refusals reading bytes (refusal.Netlist r) refusal.NoSuchFault a b = absurd b
netlist_refusals reading bytes (refusal.Netlist r) (refusal.NoSuchInput place) a b = absurd b
netlist_refusals reading bytes (refusal.Netlist r) refusal.NotStil a b = absurd b
netlist_refusals reading bytes (refusal.Netlist r) refusal.NotCertificate a b = absurd b
netlist_refusals reading bytes (refusal.Netlist r) refusal.NotReport a b = absurd b
netlist_refusals reading bytes (refusal.Netlist r) refusal.NotLog a b = absurd b
netlist_refusals reading bytes (refusal.Netlist r) (refusal.NoFaultAt number) a b = absurd b
netlist_refusals reading bytes (refusal.Netlist r) refusal.StilDoesNotFit a b = absurd b
netlist_refusals reading bytes (refusal.Order r) s a b = absurd a
netlist_refusals reading bytes refusal.NoSuchFault s a b = absurd a
netlist_refusals reading bytes (refusal.NoSuchInput place) s a b = absurd a
netlist_refusals reading bytes refusal.NotStil s a b = absurd a
netlist_refusals reading bytes refusal.NotCertificate s a b = absurd a
netlist_refusals reading bytes refusal.NotReport s a b = absurd a
netlist_refusals reading bytes refusal.NotLog s a b = absurd a
netlist_refusals reading bytes (refusal.NoFaultAt number) s a b = absurd a
netlist_refusals reading bytes refusal.StilDoesNotFit s a b = absurd a

netlist_apart : (reading : Names) (bytes : Text) (n : Netlist) (r : Refusal) → netlist reading bytes (Ok n) → netlist reading bytes (Err r) → ⊥
netlist_apart reading bytes n (refusal.Netlist r) a b = read_once reading bytes n r a.0 b
netlist_apart reading bytes n (refusal.Order r) a b = b
netlist_apart reading bytes n refusal.NoSuchFault a b = b
netlist_apart reading bytes n (refusal.NoSuchInput place) a b = b
netlist_apart reading bytes n refusal.NotStil a b = b
netlist_apart reading bytes n refusal.NotCertificate a b = b
netlist_apart reading bytes n refusal.NotReport a b = b
netlist_apart reading bytes n refusal.NotLog a b = b
netlist_apart reading bytes n (refusal.NoFaultAt number) a b = b
netlist_apart reading bytes n refusal.StilDoesNotFit a b = b

pub netlist_single : (reading : Names) (bytes : Text) → IsSingle (netlist reading bytes)
netlist_single reading bytes = record {
  value = λ m n a b. a.0.0 ∙ sym b.0.0;
  refusal = netlist_refusals reading bytes;
  apart = netlist_apart reading bytes;
}

-- what is due of a design that stands in one text
pub design_exclusive : (rest : Netlist → Due Refusal → Type 0) → ((n : Netlist) → IsSound n → IsOneKind (rest n)) → IsExclusive (design_due rest)
design_exclusive rest each [] c d p q = absurd p
design_exclusive rest each (bytes ∷ []) c d p q = then_one_where (netlist Design bytes) rest (netlist_single Design bytes) (λ n is. each n is.1) c d p q
design_exclusive rest each (bytes ∷ more ∷ others) c d p q = absurd p

-- ---- the other steps

module _ (n : Netlist) (sound : IsSound n) where
  fault_once : (text : Text) (f g : Option Fault) → named_fault n (Some text) (Ok f) → named_fault n (Some text) (Ok g) → f ≡ g
  fault_once text None g p q = absurd p
  fault_once text (Some f) None p q = absurd q
  fault_once text (Some f) (Some g) p q =
      ap Some (same_fault n sound f g (line_written n sound f.line (member_line n f p.0)) (line_written n sound g.line (member_line n g q.0)) (p.1 ∙ sym q.1))

  fault_apart : (text : Text) (f : Option Fault) (r : Refusal) → named_fault n (Some text) (Ok f) → named_fault n (Some text) (Err r) → ⊥
  fault_apart text None r p q = p
  fault_apart text (Some f) r p q = All-contains (λ (g : Fault). fault_text n g ≡ text → ⊥) (universe_of n) f q.1 p.0 p.1

  pub fault_single : (text : Option Text) → IsSingle (named_fault n text)
  fault_single None = record {
    value = λ f g p q. p ∙ sym q;
    refusal = λ r s p q. absurd p;
    apart = λ f r p q. q;
  }
  fault_single (Some text) = record {
    value = fault_once text;
    refusal = λ r s p q. p.0 ∙ sym q.0;
    apart = fault_apart text;
  }

pub value_single : {V : Type 0} (StandsFor : Text → V → Type 0) (why : Refusal) (bytes : Text) → ((v w : V) → StandsFor bytes v → StandsFor bytes w → v ≡ w)
    → IsSingle (value StandsFor why bytes)
value_single StandsFor why bytes once = record {
  value = once;
  refusal = λ r s p q. p.0 ∙ sym q.0;
  apart = λ v r p q. q.1 v p;
}

pub test_single : (P : Type 0) (why : Refusal) → IsSingle (test P why)
test_single P why = record {
  value = λ u v p q. refl;
  refusal = λ r s p q. p.0 ∙ sym q.0;
  apart = λ u r p q. q.1 p;
}
