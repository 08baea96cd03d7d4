-- What the feeders of a load are to offer.
use Rattle.std.specs.Prelude.{ℕ, List, ◌++◌, map}
use Rattle.std.specs.Int.{w32, to_le_bytes}
use Rattle.std.specs.List.{range_with_len}
use Rattle.tr_threads.specs.declared.items.Item.{Item}

-- the item of number k of the feeder of number t: both numbers are its payload, lowest byte first
abbrev pub item_of : ℕ → ℕ → Item
item_of t k = record { moment = k; id = k; payload = to_le_bytes w32 t ++ to_le_bytes w32 k }

-- the first `records` items of the feeder of number `t`
abbrev pub work_of : ℕ → ℕ → List Item
work_of records t = map (item_of t) (range_with_len 0 records)
