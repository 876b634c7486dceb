use Rattle.known_tests.proofs.SiteLines.{site_line}
use Rattle.known_tests.proofs.laws.sites_are_lines.Goals as goal

pub returns : goal.returns
returns c = λ n chains line sound are here. site_line n sound chains are line here
