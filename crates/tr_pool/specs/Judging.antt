-- Records that are judged one after another.
use Rattle.std.specs.Prelude.{ℕ, ◌++◌, List, Option}
use Rattle.tr_pool.specs.Logs.{IsLeastWrong}
use Rattle.tr_threads.specs.declared.items.Item.{Item}
use Rattle.tr_record.specs.Records.{Entry}

-- the least wrong serial after these records too, if it was that of the records before them
abbrev pub Judges : List Item → List Entry → Option ℕ → Option ℕ → Type 0
Judges items es before after = (seen : List Entry) → IsLeastWrong items seen before → IsLeastWrong items (seen ++ es) after
