-- The words of a frame, as others are driven in their place.
use Rattle.std.proofs.Common.{◌≡◌, ℕ, None, [], List, drop, sym, ◌∙◌, subst, take}
use Rattle.std.specs.List.{All}
use Rattle.std.proofs.lemmas.List.Elements.{All-take, All-drop}
use Rattle.statement.specs.Netlists.{Netlist}
use Rattle.statement.specs.Values.{Settles}
use Rattle.statement.specs.Patterns.{Pattern}
use Rattle.netlist.specs.Settled.{at}
use Rattle.events.specs.Standing.{Standing, SettlesFor}
use Rattle.events.specs.Words.{words}
use Rattle.word_sim.specs.Words.{HasWidthsOf}
use Rattle.word_sim.specs.inner.Packed.{AreGoodFor, AreSettledWords}
use Rattle.transition_sim.specs.inner.Launches.{IsBehind, inputs_again, state_after}
use Rattle.transition_sim.specs.inner.Tasks.{IsFrame}

-- a part of patterns of a netlist has its widths too
pub part_wide : (n m : Netlist) (patterns : List Pattern) (start count : ℕ) → m ≡ n → All (HasWidthsOf n) patterns → All (HasWidthsOf m) (take count (drop start patterns))
part_wide n m patterns start count same wide =
    subst (λ (k : Netlist). All (HasWidthsOf k) (take count (drop start patterns))) (sym same)
    (All-take (HasWidthsOf n) count (drop start patterns) (All-drop (HasWidthsOf n) start patterns wide))

pub frame_good : (n : Netlist) (patterns : List Pattern) (e : Standing ℕ) → e.netlist ≡ n → AreGoodFor n patterns e.values → IsFrame n e
frame_good n patterns e same good = record { netlist = same; settled = record { inputs = good.inputs; state = good.state; settles = good.settles } }

pub frame_kept : (n : Netlist) (old new : Standing ℕ) → IsFrame n old → new.netlist ≡ old.netlist → AreSettledWords old.netlist new.values → IsFrame n new
frame_kept n old new is same settled = record {
  netlist = same ∙ is.netlist;
  settled = subst (λ (m : Netlist). AreSettledWords m new.values) is.netlist settled;
}

settled_before : (n : Netlist) (old : Standing ℕ) → IsFrame n old → AreSettledWords old.netlist old.values
settled_before n old is = subst (λ (m : Netlist). AreSettledWords m old.values) (sym is.netlist) is.settled

pub driven_frame : (n : Netlist) (old new : Standing ℕ) (inputs state : List ℕ) → IsFrame n old → SettlesFor (words None) old.netlist inputs state old.values new.values
    → new.netlist ≡ old.netlist → IsFrame n new
driven_frame n old new inputs state is settles same =
    let was = settled_before n old is in
    frame_kept n old new is same (record { inputs = inputs; state = state; settles = λ d. settles.each was.inputs was.state d (was.settles d) })

-- words that are driven for the second frame stand behind those of the first
pub driven_behind : (n : Netlist) (first : List ℕ) (old new : Standing ℕ) (inputs state : List ℕ) → IsFrame n old → SettlesFor (words None) old.netlist inputs state old.values new.values
    → new.netlist ≡ old.netlist → new.trail ≡ [] → inputs ≡ inputs_again n first → state ≡ state_after n first → IsBehind n first new
driven_behind n first old new inputs state is settles same trail i s =
    let was = settled_before n old is in
    record {
      netlist = same ∙ is.netlist;
      settles = record {
        settles = λ d.
            subst (λ (x : List ℕ). Settles (words None) n (inputs_again n first) x (at new.values d)) s
            (subst (λ (x : List ℕ). Settles (words None) n x state (at new.values d)) i
            (subst (λ (m : Netlist). Settles (words None) m inputs state (at new.values d)) is.netlist (settles.each was.inputs was.state d (was.settles d))));
      };
      trail = trail;
    }
