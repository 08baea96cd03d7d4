use Rattle.tr_picture.proofs.EscapeLemmas.{all_parts}
use Rattle.tr_picture.proofs.page.an_escaped_name_stays_in_its_text.Goals as goal

pub returns : goal.returns
returns c name = all_parts name
