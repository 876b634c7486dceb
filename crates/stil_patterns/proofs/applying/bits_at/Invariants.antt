use Rattle.std.proofs.Common.{◌≡◌, map, take}
use Rattle.events.specs.Words.{bit_of}
use Rattle.stil_patterns.proofs.applying.bits_at.Given as goal

abbrev pub invariant-loop-word : goal.invariant-loop-word
invariant-loop-word l = l.bits.items ≡ map (bit_of l.place) (take l.word-index l.words)
