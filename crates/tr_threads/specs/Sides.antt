-- Feeders and workers in one pool.
use Rattle.std.specs.Prelude.{List, [], ◌∷◌}
use Rattle.tr_threads.specs.declared.sides.Side.{Side}
use Rattle.tr_threads.specs.declared.sides.Side.TheVariants.{Producer, Drainer}

-- a feeder's seat is still one, and the feeders' work was done with it; a worker's is still one, and the workers' was
abbrev pub DidAside : {S U : Type 0} → (S → S → Type 0) → (U → U → Type 0) → Side S U → Side S U → Type 0
DidAside fed drained (Producer before) (Producer after) = fed before after
DidAside fed drained (Producer before) (Drainer after) = ⊥
DidAside fed drained (Drainer before) (Producer after) = ⊥
DidAside fed drained (Drainer before) (Drainer after) = drained before after

-- a feeder's seat
abbrev pub as_producer : {S U : Type 0} → Side S U → List S
as_producer (Producer seat) = seat ∷ []
as_producer (Drainer seat) = []

-- a worker's seat
abbrev pub as_drainer : {S U : Type 0} → Side S U → List U
as_drainer (Producer seat) = []
as_drainer (Drainer seat) = seat ∷ []
