-- Texts one behind the other.
use Rattle.std.proofs.Common.{◌≡◌, ◌∙◌, ℕ, List, [], ◌∷◌, ◌++◌, ap, sym, refl, append_assoc, append-nil}
use Rattle.stil_read.specs.Tokens.{LexState, Token, Between, turn, tokens, tokens_from}
use Rattle.stil_read.specs.inner.Whole.{IsWhole, WholeThenRest, place_after}
use Rattle.stil_read.proofs.TokenLemmas.{step_from, at_end}

-- what a text ends, without what is open at its end
unfoldable ends_of : LexState → List ℕ → List Token
ends_of place [] = []
ends_of place (b ∷ bs) = (turn place b).ends ++ ends_of (turn place b).place bs

then_rest : (text rest : List ℕ) (place : LexState) → tokens_from place (text ++ rest) ≡ ends_of place text ++ tokens_from (place_after place text) rest
unfolding ends_of place_after
then_rest [] rest place = refl
then_rest (b ∷ bs) rest place =
    step_from place b (bs ++ rest) ∙ ap (λ ts. (turn place b).ends ++ ts) (then_rest bs rest (turn place b).place)
    ∙ sym (append_assoc (turn place b).ends (ends_of (turn place b).place bs) (tokens_from (place_after (turn place b).place bs) rest))

whole_ends : (text : List ℕ) → IsWhole text → tokens text ≡ ends_of Between text
whole_ends text whole =
    ap tokens (sym (append-nil text)) ∙ then_rest text [] Between ∙ ap (λ place. ends_of Between text ++ tokens_from place []) whole
    ∙ ap (λ ts. ends_of Between text ++ ts) (at_end Between) ∙ append-nil (ends_of Between text)

pub whole_then_rest : WholeThenRest
whole_then_rest text rest whole =
    then_rest text rest Between ∙ ap (λ place. ends_of Between text ++ tokens_from place rest) whole ∙ ap (λ ts. ts ++ tokens rest) (sym (whole_ends text whole))
