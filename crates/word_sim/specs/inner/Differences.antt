-- Where words with a fault differ from those without, at observed points.
use Rattle.std.specs.Prelude.{ℕ, ◌≡◌, ◌<◌, ◌≤◌, ◌⊎◌, ◌&&◌, ◌==◌, not, nat_lt, Bool, true, false, List, map, Option, Some, None, slice_index, bit_xor}
use Rattle.std.specs.List.{Contains, filter, list_any}
use Rattle.events.specs.declared.trails.Change.{Change}
use Rattle.events.specs.Words.{bit_of}
use Rattle.regions.specs.declared.fours.Four.{Four}
use Rattle.regions.specs.declared.fours.Lane.{Lane}
use Rattle.regions.specs.Side.{lane_of}
use Rattle.word_sim.specs.declared.shown.Shown.{Shown}

-- the change shows at a point, under pattern j
abbrev pub shows : List ℕ → ℕ → List ℕ → ℕ → Change ℕ → Bool
shows first count values j c = nat_lt (slice_index first c.signal) count && bit_of j (bit_xor c.before (slice_index values c.signal))

-- the change as a point sees it
abbrev pub shown_at : List ℕ → List ℕ → Change ℕ → Shown
shown_at first values c = record { point = slice_index first c.signal; under = bit_xor c.before (slice_index values c.signal) }

-- a point reads the signal, and the change is one
abbrev pub is_seen : List ℕ → ℕ → List ℕ → Change ℕ → Bool
is_seen first count values c = nat_lt (slice_index first c.signal) count && not (bit_xor c.before (slice_index values c.signal) == 0)

-- the changes as points see them
abbrev pub shown_of : List ℕ → ℕ → List ℕ → List (Change ℕ) → List Shown
shown_of first count values changes = map (shown_at first values) (filter (is_seen first count values) changes)

-- it shows under pattern j
abbrev pub shows_under : ℕ → Shown → Bool
shows_under j s = bit_of j s.under

-- of those that pass the first place, or the count
pub record IsLeastOf {X : Type 0} (test : X → Bool) (place : X → ℕ) (count : ℕ) (xs : List X) (c : ℕ) : Type 0 where
  pub lower : (x : X) → Contains xs x → test x ≡ true → c ≤ place x
  pub some : (c ≡ count) ⊎ ((x : X) × Contains xs x × (test x ≡ true) × (place x ≡ c))

-- the last pattern under which one of them passes, and of those that do the first place
pub record AreLastOf {X : Type 0} (test : ℕ → X → Bool) (place : X → ℕ) (count used : ℕ) (xs : List X) (found : Option (ℕ × ℕ)) : Type 0 where
  pub none : found ≡ None → (j : ℕ) → j < 64 → bit_of j used ≡ true → list_any (test j) xs ≡ false
  pub some : (j c : ℕ) → found ≡ Some (j, c) → (j < 64) × (bit_of j used ≡ true) × (list_any (test j) xs ≡ true) × IsLeastOf (test j) place count xs c
      × ((i : ℕ) → j < i → i < 64 → bit_of i used ≡ true → list_any (test i) xs ≡ false)

-- the first point at which one of these changes shows, or the count
abbrev pub IsFirstShown : List ℕ → ℕ → List ℕ → ℕ → List (Change ℕ) → ℕ → Type 0
IsFirstShown first count values j changes c = IsLeastOf (shows first count values j) (λ (d : Change ℕ). slice_index first d.signal) count changes c

-- the last pattern under which some change shows, and the first point at which one does
abbrev pub AreShown : List ℕ → ℕ → List ℕ → ℕ → List (Change ℕ) → Option (ℕ × ℕ) → Type 0
AreShown first count values used changes found = AreLastOf (shows first count values) (λ (d : Change ℕ). slice_index first d.signal) count used changes found

-- the same of changes as points see them
abbrev pub IsFirstSeen : ℕ → ℕ → List Shown → ℕ → Type 0
IsFirstSeen count j shown c = IsLeastOf (shows_under j) (λ (s : Shown). s.point) count shown c

abbrev pub AreLastSeen : ℕ → ℕ → List Shown → Option (ℕ × ℕ) → Type 0
AreLastSeen count used shown found = AreLastOf shows_under (λ (s : Shown). s.point) count used shown found

-- what changed in a lane
abbrev pub in_lane : Lane → Change Four → Change ℕ
in_lane lane c = record { signal = c.signal; before = lane_of lane c.before }

-- which patterns tell a point apart: bits of words
pub record AreDifferences (count : ℕ) (differs : ℕ → ℕ → Bool) (used : ℕ) (found : Option (ℕ × ℕ)) : Type 0 where
  pub none : found ≡ None → (j c : ℕ) → j < 64 → bit_of j used ≡ true → c < count → differs c j ≡ false
  pub some : (j c : ℕ) → found ≡ Some (j, c) → (j < 64) × (bit_of j used ≡ true) × (c < count) × (differs c j ≡ true)
      × ((d : ℕ) → d < c → differs d j ≡ false) × ((i d : ℕ) → j < i → i < 64 → bit_of i used ≡ true → d < count → differs d i ≡ false)

-- the last pattern under which a point that alone reads the stuck line has the other bit
pub record IsSole (differ used number : ℕ) (found : Option (ℕ × ℕ)) : Type 0 where
  pub none : found ≡ None → (j : ℕ) → j < 64 → bit_of j used ≡ true → bit_of j differ ≡ false
  pub some : (j c : ℕ) → found ≡ Some (j, c) → (j < 64) × (bit_of j used ≡ true) × (c ≡ number) × (bit_of j differ ≡ true)
      × ((i : ℕ) → j < i → i < 64 → bit_of i used ≡ true → bit_of i differ ≡ false)
