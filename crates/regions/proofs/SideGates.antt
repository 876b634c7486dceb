-- What a gate makes of four words side by side, read from the values of all signals.
use Rattle.std.proofs.Common.{◌≡◌, ℕ, ◌+◌, ◌<◌, List, [], ◌∷◌, map, length, get_or, refl, sym, ◌∙◌, ap}
use Rattle.std.specs.List.{All}
use Rattle.std.proofs.lemmas.List.{get_or_default}
use Rattle.statement.specs.declared.kinds.Kind.{Kind}
use Rattle.statement.specs.declared.lines.Line.TheVariants.{Stem}
use Rattle.statement.specs.Netlists.{Netlist}
use Rattle.statement.specs.Values.{Settles, on_pins}
use Rattle.netlist.specs.Settled.{at}
use Rattle.netlist.proofs.Lists.{map_agree}
use Rattle.events.specs.Waiting.{given}
use Rattle.events.specs.Words.{gate_word}
use Rattle.events.proofs.WordBits.{image_settles}
use Rattle.regions.specs.declared.fours.Four.{Four}
use Rattle.regions.specs.declared.fours.Lane.{Lane}
use Rattle.regions.specs.declared.fours.Lane.TheVariants.{A, B, C, D}
use Rattle.regions.specs.declared.side.TurnedFour.{TurnedFour}
use Rattle.regions.specs.Side.{lane_by_lane, lane_of, lane_words, side_words}

-- no pin of a gate turns a word over
pub side_pins : (t : TurnedFour) (z k : ℕ) (vs : List Four) → on_pins (side_words t) z k vs ≡ vs
side_pins t z k [] = refl
side_pins t z k (v ∷ vs) = ap (λ ws. v ∷ ws) (side_pins t z (k + 1) vs)

same_reads : (values : List Four) (ids : List ℕ) (d e : Four) → All (λ x. x < length values) ids → map (at values d) ids ≡ map (at values e) ids
same_reads values ids d e below = map_agree (at values d) (at values e) ids (λ k o l. get_or_default values (get_or ids k o) d e (below k o l))

pub side_made : (t : TurnedFour) (id : ℕ) (kind : Kind) (pins : List ℕ) (values : List Four) (d e : Four) → All (λ x. x < length values) pins
    → (side_words t).line (Stem id) (lane_by_lane (gate_word kind) (map (at values d) pins)) ≡ given (side_words t) (at values e) (record { id = id; kind = kind; pins = pins })
side_made t id kind pins values d e below =
    ap (λ vs. (side_words t).line (Stem id) (lane_by_lane (gate_word kind) vs)) (same_reads values pins d e below ∙ sym (side_pins t id 0 (map (at values e) pins)))

pub side_settles : (t : TurnedFour) (lane : Lane) (n : Netlist) (inputs state : List Four) (v : ℕ → Four) → Settles (side_words t) n inputs state v
    → Settles (lane_words lane t) n (map (lane_of lane) inputs) (map (lane_of lane) state) (λ x. lane_of lane (v x))
side_settles t A = image_settles (lane_of A) (side_words t) (lane_words A t) (λ l w. refl) (λ d ws. refl)
side_settles t B = image_settles (lane_of B) (side_words t) (lane_words B t) (λ l w. refl) (λ d ws. refl)
side_settles t C = image_settles (lane_of C) (side_words t) (lane_words C t) (λ l w. refl) (λ d ws. refl)
side_settles t D = image_settles (lane_of D) (side_words t) (lane_words D t) (λ l w. refl) (λ d ws. refl)
