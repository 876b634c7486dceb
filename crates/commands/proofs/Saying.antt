-- The line of a status, as it is put in pieces.
use Rattle.std.proofs.Common.{◌≡◌, inl, inr, ℕ, Bool, List, [], ◌∷◌, ◌++◌, Option, Result, Ok, Err, refl, ap, sym, subst, append_assoc}
use Rattle.std.specs.Prelude.{IsTrue}
use Rattle.statement.specs.Benches.{Text}
use denote.Ref.{Bor}
use Rattle.outside.specs.declared.refusal.WriteRefusal.{WriteRefusal}
use Rattle.outside.specs.declared.refusal.WriteRefusal.TheVariants as write
use Rattle.commands.specs.Pieces.{PutsText, join}
use Rattle.commands.specs.Lines.{IsSaid}

pub said : (takes_memory : Bool) (line : Text) (a b : Option Text) (f g : ℕ) (r : Result Unit WriteRefusal) → PutsText a f b g line r → (r ≡ Err write.NoMemory → IsTrue takes_memory)
    → IsSaid takes_memory line a f b g
said takes_memory line a b f g (Ok u) put memory = inl put
said takes_memory line a b f g (Err write.Failed) put memory = inr (put.0, inl put.1)
said takes_memory line a b f g (Err write.NoMemory) put memory = inr (put.0, inr (memory refl, put.1))

pub said_so : (takes_memory : Bool) (line other : Text) (a b : Option Text) (f g : ℕ) → line ≡ other → IsSaid takes_memory line a f b g → IsSaid takes_memory other a f b g
said_so takes_memory line other a b f g same h = subst (λ (t : Text). IsSaid takes_memory t a f b g) same h

pub of_three : (ps : List (Bor Text)) (p q r : Bor Text) (a b c : Text) → ps ≡ p ∷ q ∷ r ∷ [] → p.now ≡ a → q.now ≡ b → r.now ≡ c
    → join ps ≡ a ++ (b ++ (c ++ []))
of_three ps p q r a b c is is-a is-b is-c = rw (is, is-a, is-b, is-c) refl

pub of_four : (ps : List (Bor Text)) (p q r s : Bor Text) (a b c d : Text) → ps ≡ p ∷ q ∷ r ∷ s ∷ [] → p.now ≡ a → q.now ≡ b → r.now ≡ c → s.now ≡ d
    → join ps ≡ a ++ (b ++ (c ++ (d ++ [])))
of_four ps p q r s a b c d is is-a is-b is-c is-d = rw (is, is-a, is-b, is-c, is-d) refl

pub of_five : (ps : List (Bor Text)) (p q r s t : Bor Text) (a b c d e : Text) → ps ≡ p ∷ q ∷ r ∷ s ∷ t ∷ [] → p.now ≡ a → q.now ≡ b → r.now ≡ c → s.now ≡ d → t.now ≡ e
    → join ps ≡ a ++ (b ++ (c ++ (d ++ (e ++ []))))
of_five ps p q r s t a b c d e is is-a is-b is-c is-d is-e = rw (is, is-a, is-b, is-c, is-d, is-e) refl

-- a name in two parts, behind a text and in front of one
pub name_whole : (what given ending end : Text) → what ++ (given ++ (ending ++ end)) ≡ what ++ ((given ++ ending) ++ end)
name_whole what given ending end = ap (λ t. what ++ t) (sym (append_assoc given ending end))
