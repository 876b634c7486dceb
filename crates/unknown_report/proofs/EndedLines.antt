-- Lines, each with its end.
use Rattle.std.proofs.Common.{◌≡◌, ◌≢◌, ℕ, List, [], ◌∷◌, ◌++◌, refl, sym, ◌∙◌, append_assoc}
use Rattle.std.specs.List.{All, flat_map}
use Rattle.std.proofs.lemmas.List.{append-nil}
use Rattle.report.specs.Beginnings.{NoneBegins}
use Rattle.report.proofs.LineLemmas.{IsLined, IsTold, line_told, no_end, nothing_begins, same_lines}
use Rattle.unknown_report.specs.Reports.{IsLine, ended}

-- a line is its own words
abbrev itself : List ℕ → List ℕ
itself line = line

ended_lined : IsLined IsLine itself ended
ended_lined = record { end = λ line. refl; whole = λ line v. v }

pub ended_told : IsTold IsLine ended
ended_told = line_told IsLine itself ended ended_lined (λ x y v w e. e)

none_ended : NoneBegins IsLine ended []
none_ended = nothing_begins IsLine itself ended ended_lined

-- lines, with what is left of them
lines_told : (xs ys : List (List ℕ)) (rest : List ℕ) → All IsLine xs → All IsLine ys → NoneBegins IsLine ended rest
    → flat_map ended xs ++ rest ≡ flat_map ended ys → (xs ≡ ys) × (rest ≡ [])
lines_told xs ys rest v w none e =
    same_lines IsLine ended ended_told xs ys rest [] v w none none_ended (e ∙ sym (append-nil (flat_map ended ys)))

pub same_texts : (xs ys : List (List ℕ)) → All IsLine xs → All IsLine ys → flat_map ended xs ≡ flat_map ended ys → xs ≡ ys
same_texts xs ys v w e = (lines_told xs ys [] v w none_ended (append-nil (flat_map ended xs) ∙ e)).0

-- where something without an end is left, the text is that of no lines
pub without_end : (text rest : List ℕ) (xs : List (List ℕ)) → text ≡ flat_map ended xs ++ rest → All IsLine xs → rest ≢ [] → All (λ b. b ≢ 10) rest
    → (ys : List (List ℕ)) → All IsLine ys → text ≢ flat_map ended ys
without_end text rest xs read v some lacks ys w e =
    some (lines_told xs ys rest v w (no_end IsLine itself ended ended_lined rest lacks) (sym read ∙ e)).1

pub ended_parts : (line rest : List ℕ) → ended line ++ rest ≡ line ++ 10 ∷ rest
ended_parts line rest = append_assoc line (10 ∷ []) rest
