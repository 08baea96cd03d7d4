use Rattle.std.proofs.Common.{◌==◌, List, rules, tests}
use Rattle.std.proofs.lemmas.Iterator.Consumers.{YieldsList-from_first}
use Rattle.std.proofs.lemmas.Iterator.Search.{any_from_yields_List}
use Rattle.tr_record.specs.Records.{Entry}
use Rattle.tr_subbuf.proofs.sub_buffer.SubBuf.has.Goals as goal

pub returns : goal.returns
returns g c =
    let rest : List Entry → List Entry = λ es. es in
    let view : Entry → Entry = λ e. e in
    any_from_yields_List (λ (e : Entry). e.serial == c.args.serial) _ _ _ c.any.ensures.ran
    (YieldsList-from_first view rest c.args.self.now.records c.records.ensures) (λ x b q k. search (rules, tests))
