-- Reading as a whole.
use Rattle.std.proofs.Common.{◌≡◌, ◌∙◌, ap, sym, refl, subst}
use Rattle.statement.specs.Benches.{Text}
use Rattle.stil_write.specs.StilFiles.{IsStilFile}
use Rattle.statement.specs.Stils.{StilFile, stil_text}
use Rattle.stil_read.specs.Laws.{AtMostOne, WrittenStands}
use Rattle.stil_read.specs.Reading.{StandsFor}
use Rattle.stil_read.specs.Tokens.{tokens}
use Rattle.stil_read.specs.inner.Grammar.{IsSpelt}
use Rattle.stil_read.proofs.OnceLemmas.{spelt_once}
use Rattle.stil_read.proofs.SpeltLemmas.{written_spelt}

pub spelt_by : (bytes : Text) (f : StilFile) → StandsFor bytes f → IsSpelt f (tokens bytes)
spelt_by bytes f h = subst (IsSpelt f) (sym h.tokens_are) (written_spelt f h.is_file)

pub found : (bytes : Text) (g f : StilFile) → IsSpelt g (tokens bytes) → StandsFor bytes f → g ≡ f
found bytes g f a h = spelt_once g f (tokens bytes) a (spelt_by bytes f h)

pub not_found : (bytes : Text) → ((f : StilFile) → IsSpelt f (tokens bytes) → ⊥) → (f : StilFile) → ¬ StandsFor bytes f
not_found bytes none f h = none f (spelt_by bytes f h)

pub no_file : (bytes : Text) (g : StilFile) → IsSpelt g (tokens bytes) → (IsStilFile g → ⊥) → (f : StilFile) → ¬ StandsFor bytes f
no_file bytes g a none f h = none (subst IsStilFile (sym (found bytes g f a h)) h.is_file)

pub differs : (bytes text : Text) (g : StilFile) → IsSpelt g (tokens bytes) → text ≡ stil_text g → (tokens bytes ≡ tokens text → ⊥) → (f : StilFile) → ¬ StandsFor bytes f
differs bytes text g a e none f h = none (h.tokens_are ∙ ap (λ k. tokens (stil_text k)) (sym (found bytes g f a h)) ∙ ap tokens (sym e))

pub stands : (bytes text : Text) (g : StilFile) → IsStilFile g → text ≡ stil_text g → tokens bytes ≡ tokens text → StandsFor bytes g
stands bytes text g h e same = record { is_file = h; tokens_are = same ∙ ap tokens e }

pub at_most_one : AtMostOne
at_most_one bytes f g a b = found bytes f g (spelt_by bytes f a) b

pub written_stands : WrittenStands
written_stands f h = record { is_file = h; tokens_are = refl }
