-- What the threads of a load do.
use Rattle.std.specs.Prelude.{Vec, ℕ, ◌<◌, List, length, slice_index_or}
use Rattle.std.specs.declared.alloc.Global.{Global}
use Rattle.tr_seats.specs.Slots.{ProducerState}
use Rattle.tr_shared.specs.Calls.{IsOffered}
use Rattle.tr_threads.specs.Feeding.{IsFed}
use Rattle.tr_threads.specs.declared.feeding.LoggedProducer.{LoggedProducer}
use Rattle.tr_threads.specs.declared.items.Item.{Item}

-- each producer was fed the work at its place, and has logged what was accepted
abbrev pub HasFed : List ProducerState → List (Vec Item Global) → List (LoggedProducer ProducerState) → Type 0
HasFed producers works fed =
    (i : ℕ) (p : ProducerState) (w : Vec Item Global) (b : LoggedProducer ProducerState) → i < length producers
    → IsFed IsOffered (slice_index_or producers i p) (slice_index_or works i w).items (slice_index_or fed i b).producer
    (slice_index_or fed i b).log.items
