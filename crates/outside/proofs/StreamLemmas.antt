-- What several writes make of the bytes that a writer holds, where those are known.
use Rattle.std.proofs.Common.{ℕ, ◌+◌, List, ◌++◌, Option, Some, None, ap, ◌∙◌, append_assoc, take, drop, take-add}
use Rattle.std.specs.Io.KnownBytes.{Appends}

-- a writer that took some bytes and then more holds them all, one after another
appends_both : (old mid new : Option (List ℕ)) (first more : List ℕ)
    → Appends old mid first → Appends mid new more → Appends old new (first ++ more)
appends_both None mid new first more h k = tt
appends_both (Some xs) None new first more h k = absurd h
appends_both (Some xs) (Some ys) None first more h k = absurd k
appends_both (Some xs) (Some ys) (Some zs) first more h k =
    k ∙ ap (λ held. held ++ more) h ∙ append_assoc xs first more

-- a writer that took `taken` of the bytes, and then `count` of what was left, took `taken + count` of them
pub appends_next : (old mid new : Option (List ℕ)) (bytes : List ℕ) (taken count : ℕ)
    → Appends old mid (take taken bytes) → Appends mid new (take count (drop taken bytes)) → Appends old new (take (taken + count) bytes)
appends_next old mid new bytes taken count h k =
    rw (take-add taken count bytes) (appends_both old mid new (take taken bytes) (take count (drop taken bytes)) h k)
