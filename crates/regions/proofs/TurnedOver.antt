-- One signal's word turned over: what settled without a fault settles anew.
use Rattle.std.proofs.Common.{◌≡◌, ◌≢◌, ℕ, ◌+◌, List, [], ◌∷◌, map, None, refl, sym, ◌∙◌, ap, eqb, cond, bit_xor}
use Rattle.std.proofs.lemmas.Bool.{eqb-false, ne_eqb}
use Rattle.statement.specs.declared.lines.Line.TheVariants.{Stem}
use Rattle.statement.specs.Netlists.{Definition, Netlist, cells}
use Rattle.statement.specs.Values.{Settles, on_pins}
use Rattle.netlist.specs.Settled.{at}
use Rattle.netlist.proofs.Settling.{zip_kept}
use Rattle.events.specs.Standing.{SettlesAnew, SettlesOver}
use Rattle.regions.specs.Turned.{turned_words}
use Rattle.events.specs.Waiting.{AgreeAt, IsDrivenTo}
use Rattle.events.specs.Words.{gate_word, words}
use Rattle.events.proofs.Steps.{rule_changes}

pub free_pins : (z k : ℕ) (vs : List ℕ) → on_pins (words None) z k vs ≡ vs
free_pins z k [] = refl
free_pins z k (v ∷ vs) = ap (λ ws. v ∷ ws) (free_pins z (k + 1) vs)

pub turned_pins : (h mask z k : ℕ) (vs : List ℕ) → on_pins (turned_words h mask) z k vs ≡ vs
turned_pins h mask z k [] = refl
turned_pins h mask z k (v ∷ vs) = ap (λ ws. v ∷ ws) (turned_pins h mask z (k + 1) vs)

module _ (n : Netlist) (h mask : ℕ) where
  turned_agrees : (x : ℕ) → x ≢ h → AgreeAt (words None) (turned_words h mask) n x
  turned_agrees x ne = record {
    stems = λ v. ap (λ b. cond b (bit_xor v mask) v) (sym (ne_eqb h x (λ e. ne (sym e))));
    gates_do = λ d c e a. ap (gate_word d.kind) (free_pins d.id 0 (map a d.pins) ∙ sym (turned_pins h mask d.id 0 (map a d.pins)));
  }

  driven_to : (inputs state : List ℕ) (a : ℕ → ℕ) (v : ℕ) → v ≡ a h → Settles (words None) n inputs state a
      → IsDrivenTo (turned_words h mask) n inputs state h ((turned_words h mask).line (Stem h) v)
  driven_to inputs state a v is s = record {
    from_inputs = zip_kept (λ x w. a x ≡ (words None).line (Stem x) w) (λ y w. y ≡ h → (turned_words h mask).line (Stem h) v ≡ (turned_words h mask).line (Stem h) w) n.inputs inputs
        (λ y w c r e. ap ((turned_words h mask).line (Stem h)) (is ∙ (ap a (sym e) ∙ r))) s.0;
    from_state = zip_kept (λ (d : Definition) w. a d.id ≡ (words None).line (Stem d.id) w) (λ (d : Definition) w. d.id ≡ h → (turned_words h mask).line (Stem h) v ≡ (turned_words h mask).line (Stem h) w) (cells n) state
        (λ d w c r e. ap ((turned_words h mask).line (Stem h)) (is ∙ (ap a (sym e) ∙ r))) s.1;
  }

  pub turned_over : (v : ℕ) (old new : List ℕ) → ((d : ℕ) → v ≡ at old d h) → SettlesAnew (turned_words h mask) n h v old new → SettlesOver (words None) (turned_words h mask) n old new
  turned_over v old new is anew = record {
    each = λ inputs state d s. anew.each inputs state d (driven_to inputs state (at old d) v (is d) s)
        (rule_changes (words None) (turned_words h mask) n inputs state (at old d) (λ x. eqb x h) (λ x w. turned_agrees x (eqb-false x h w)) s);
  }
