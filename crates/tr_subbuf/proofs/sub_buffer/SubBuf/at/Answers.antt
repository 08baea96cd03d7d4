use Rattle.std.proofs.Common.{◌≡◌, List, Option, None, Some, refl, sym, ◌∙◌}
use Rattle.std.proofs.lemmas.Iterator.Consumers.{nth_from_yields_List, YieldsList-from_first}
use Rattle.std.specs.Option.{option_map}
use Rattle.tr_record.specs.Records.{Entry}
use Rattle.tr_subbuf.proofs.sub_buffer.SubBuf.at.Goals as goal

same : (o : Option Entry) → option_map (λ e. e) o ≡ o
same None = refl
same (Some e) = refl

pub returns : goal.returns
returns g c =
    let rest : List Entry → List Entry = λ es. es in
    let view : Entry → Entry = λ e. e in
    sym (same c.nth.result) ∙ nth_from_yields_List c.nth.result c.nth.new.self c.args.i c.nth.ensures.ran
    (YieldsList-from_first view rest c.args.self.now.records c.records.ensures)
