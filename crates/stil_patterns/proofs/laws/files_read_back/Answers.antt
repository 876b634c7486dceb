use Rattle.statement.specs.Stils.{stil_text}
use Rattle.stil_patterns.proofs.FileLemmas.{test_is_file}
use Rattle.stil_patterns.proofs.laws.files_read_back.Goals as goal

pub returns : goal.returns
returns c n holds chains patterns f sound design are obey h =
    let stands = c.written_stands.ensures f (test_is_file n holds chains patterns f sound design are obey h) in
    record { stands = stands; once = λ g s. c.at_most_one.ensures (stil_text f) g f s stands }
