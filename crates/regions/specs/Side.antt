-- Four words side by side, where in each lane the stem of one signal turns its word over.
use Rattle.std.specs.Prelude.{ℕ, ◌≡◌, List, [], ◌∷◌, None, map}
use Rattle.statement.specs.Netlists.{Netlist}
use Rattle.statement.specs.Values.{Rule, Settles}
use Rattle.events.specs.Standing.{SettlesOver}
use Rattle.events.specs.Words.{gate_word, words}
use Rattle.regions.specs.Turned.{turned_words}
use Rattle.regions.specs.declared.fours.Four.{Four}
use Rattle.regions.specs.declared.fours.Lane.{Lane}
use Rattle.regions.specs.declared.fours.Lane.TheVariants.{A, B, C, D}
use Rattle.regions.specs.declared.side.TurnedFour.{TurnedFour}
use Rattle.regions.specs.declared.turned.TurnedWords.{TurnedWords}

-- the word of a lane
abbrev pub lane_of : Lane → Four → ℕ
lane_of A v = v.a
lane_of B v = v.b
lane_of C v = v.c
lane_of D v = v.d

-- the same word in each lane
abbrev pub spread : ℕ → Four
spread w = record { a = w; b = w; c = w; d = w }

-- what is turned over in a lane
abbrev pub turned_in : Lane → TurnedFour → TurnedWords
turned_in A t = t.a
turned_in B t = t.b
turned_in C t = t.c
turned_in D t = t.d

-- the signals that are turned over
abbrev pub turned_signals : TurnedFour → List ℕ
turned_signals t = t.a.signal ∷ t.b.signal ∷ t.c.signal ∷ t.d.signal ∷ []

-- words, where the stem of a lane's signal turns its word over
abbrev pub lane_words : Lane → TurnedFour → Rule ℕ
lane_words lane t = turned_words (turned_in lane t).signal (turned_in lane t).mask

-- one word for each lane
abbrev pub lane_by_lane : (List ℕ → ℕ) → List Four → Four
lane_by_lane f vs = record { a = f (map (lane_of A) vs); b = f (map (lane_of B) vs); c = f (map (lane_of C) vs); d = f (map (lane_of D) vs) }

-- in each lane words, where the stem of a signal of its own turns its word over
abbrev pub side_words : TurnedFour → Rule Four
side_words t = record {
  line = λ l v. record { a = (lane_words A t).line l v.a; b = (lane_words B t).line l v.b; c = (lane_words C t).line l v.c; d = (lane_words D t).line l v.d };
  gate = λ d. lane_by_lane (gate_word d.kind);
}

-- What settles side by side settles in each lane as if it were alone.
abbrev pub SideWordsSettleByLanes : Type 0
SideWordsSettleByLanes =
    (t : TurnedFour) (lane : Lane) (n : Netlist) (inputs state : List Four) (v : ℕ → Four) → Settles (side_words t) n inputs state v
    → Settles (lane_words lane t) n (map (lane_of lane) inputs) (map (lane_of lane) state) (λ x. lane_of lane (v x))

-- These words stood in each lane, and in each what settled before settles where the stem of its own signal turns its word over.
abbrev pub SettlesInLanes : TurnedFour → Netlist → List ℕ → List Four → Type 0
SettlesInLanes t n values new = (lane : Lane) → SettlesOver (words None) (lane_words lane t) n values (map (lane_of lane) new)
