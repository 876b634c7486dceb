-- The words on the pins of a gate where a line may be stuck, and where none is.
use Rattle.std.proofs.Common.{◌≡◌, ℕ, zero, suc, ◌+◌, ◌<◌, false, List, [], ◌∷◌, map, length, get_or, Option, Some, None, refl, sym, ◌∙◌, ap, arith}
use Rattle.std.specs.List.{All}
use Rattle.std.proofs.lemmas.List.{get_or_default}
use Rattle.statement.specs.declared.kinds.Kind.{Kind}
use Rattle.statement.specs.declared.lines.Line.TheVariants.{Stem, Pin}
use Rattle.statement.specs.declared.lines.Fault.{Fault}
use Rattle.statement.specs.Netlists.{Definition}
use Rattle.statement.specs.Values.{Rule, on_pins}
use Rattle.netlist.specs.Settled.{at}
use Rattle.netlist.proofs.Lists.{map_agree}
use Rattle.events.specs.Waiting.{given}
use Rattle.events.specs.Words.{words, word_table, gate_word, is_stuck_at}
use Rattle.events.proofs.Sources.{same_stem, same_pins}

pub length-on_pins : {V : Type 0} (rule : Rule V) (z k : ℕ) (vs : List V) → length (on_pins rule z k vs) ≡ length vs
length-on_pins rule z k [] = refl
length-on_pins rule z k (v ∷ vs) = ap suc (length-on_pins rule z (k + 1) vs)

pub get_or-on_pins : {V : Type 0} (rule : Rule V) (z k j : ℕ) (vs : List V) (d e : V) → j < length vs → get_or (on_pins rule z k vs) j d ≡ rule.line (Pin z (k + j)) (get_or vs j e)
get_or-on_pins rule z k j [] d e l = absurd (omega (arith, l))
get_or-on_pins rule z k zero (v ∷ vs) d e l = ap (λ i. rule.line (Pin z i) v) (let s : k ≡ k + 0 = omega arith in s)
get_or-on_pins rule z k (suc j) (v ∷ vs) d e l =
    get_or-on_pins rule z (k + 1) j vs d e (omega arith) ∙ ap (λ i. rule.line (Pin z i) (get_or vs j e)) (let s : k + 1 + j ≡ k + suc j = omega arith in s)

-- a value that is there is read whatever stands for those that are not
same_reads : (values ids : List ℕ) (d : ℕ) → All (λ x. x < length values) ids → map (at values 0) ids ≡ map (at values d) ids
same_reads values ids d below = map_agree (at values 0) (at values d) ids (λ k e l. get_or_default values (get_or ids k e) 0 d (below k e l))

definition : ℕ → Kind → List ℕ → Definition
definition id kind pins = record { id = id; kind = kind; pins = pins }

pub read_any : (f : Option Fault) (id : ℕ) (kind : Kind) (pins values : List ℕ) (d : ℕ) → All (λ x. x < length values) pins
    → (words f).line (Stem id) (gate_word kind (on_pins (words f) id 0 (map (at values 0) pins))) ≡ given (words f) (at values d) (record { id = id; kind = kind; pins = pins })
read_any f id kind pins values d below = ap (λ vs. (words f).line (Stem id) (gate_word kind (on_pins (words f) id 0 vs))) (same_reads values pins d below)

free_pins : (id k : ℕ) (vs : List ℕ) → on_pins (words None) id k vs ≡ vs
free_pins id k [] = refl
free_pins id k (v ∷ vs) = ap (λ ws. v ∷ ws) (free_pins id (k + 1) vs)

unstuck : (f : Option Fault) (id : ℕ) (kind : Kind) (vs : List ℕ) → is_stuck_at f id ≡ false → gate_word kind vs ≡ (words f).line (Stem id) (gate_word kind (on_pins (words f) id 0 vs))
unstuck None id kind vs h = ap (gate_word kind) (sym (free_pins id 0 vs))
unstuck (Some f) id kind vs h =
    ap (gate_word kind) (sym (free_pins id 0 vs) ∙ same_pins word_table f id h 0 vs) ∙ same_stem word_table f id h (gate_word kind (on_pins (words (Some f)) id 0 vs))

pub free_made : (f : Option Fault) (id : ℕ) (kind : Kind) (pins values : List ℕ) (d : ℕ) → All (λ x. x < length values) pins → is_stuck_at f id ≡ false
    → gate_word kind (map (at values 0) pins) ≡ given (words f) (at values d) (record { id = id; kind = kind; pins = pins })
free_made f id kind pins values d below h = unstuck f id kind (map (at values 0) pins) h ∙ read_any f id kind pins values d below
