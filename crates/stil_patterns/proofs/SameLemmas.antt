-- Files are the same where their texts are.
use Rattle.std.proofs.Common.{◌≡◌, ◌∙◌, Bool, true, false, MatchBool, refl, ap, sym, subst}
use Rattle.std.specs.Str.{bytes_eq}
use Rattle.std.proofs.lemmas.Slice.Eq.{bytes_eq-Decides}
use Rattle.statement.specs.Benches.{Text}
use Rattle.stil_write.specs.StilFiles.{IsStilFile}
use Rattle.statement.specs.Stils.{StilFile, stil_text}
use Rattle.stil_read.specs.Laws.{AtMostOne, WrittenStands}
use Rattle.stil_read.specs.Reading.{StandsFor}

same_by : (f g : StilFile) (b : Bool) → (b ≡ true → f ≡ g) → (f ≡ g → b ≡ true) → MatchBool b (f ≡ g) (f ≡ g → ⊥)
same_by f g true forth back = forth refl
same_by f g false forth back = λ e. (let t : false ≡ true = back e in cc)

pub same_files : WrittenStands → AtMostOne → (f g : StilFile) (x y : Text) (b : Bool) → IsStilFile f → IsStilFile g → x ≡ stil_text f → y ≡ stil_text g → b ≡ bytes_eq x y → MatchBool b (f ≡ g) (f ≡ g → ⊥)
same_files stands once f g x y b is also ex ey eb =
    same_by f g b
    (λ t.
    let same : stil_text g ≡ stil_text f = sym ey ∙ (sym ((bytes_eq-Decides x y).0 (sym eb ∙ t)) ∙ ex) in
    once (stil_text f) f g (stands f is) (subst (λ (text : Text). StandsFor text g) same (stands g also)))
    (λ e. eb ∙ (bytes_eq-Decides x y).1 (ex ∙ (ap stil_text e ∙ sym ey)))
