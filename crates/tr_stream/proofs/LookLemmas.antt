-- When a peek at a stream takes memory.
use Rattle.std.proofs.Common.{◌≡◌, ◌≢◌, ℕ, List, [], ◌∷◌, map, max, Result, Ok, Err, refl, ◌∙◌, ap, subst}
use Rattle.std.specs.Prelude.{OnErr}
use Rattle.tr_ring.specs.ClosedBuffer.{ClosedBuffer}
use Rattle.tr_stream.specs.Chunks.{packet_of, ring_buffers}
use Rattle.tr_stream.specs.State.{StreamState}
use Rattle.tr_stream.specs.StateSteps.{state_snap}
use Rattle.tr_stream.specs.declared.config.StreamConfig.{StreamConfig}

none-packed : (c : StreamConfig) (bs : List ClosedBuffer) → map (packet_of c) bs ≡ [] → bs ≡ []
none-packed c [] e = refl
none-packed c (b ∷ bs) e = cc

-- a peek at a ring that holds a record shows a packet
pub look-some : (s t : StreamState) (moment end : ℕ) → s ≡ t → end ≡ max moment s.counters.last
    → ring_buffers end s.ring ≢ [] → (state_snap moment t).packets ≢ []
look-some s t moment end same at some =
    subst (λ (t : StreamState). (state_snap moment t).packets ≢ []) same
    (λ e. some (ap (λ (m : ℕ). ring_buffers m s.ring) at ∙ none-packed s.config (ring_buffers (max moment s.counters.last) s.ring) e))

-- what holds whatever the answer
pub on-err : {T E P : Type 0} (r : Result T E) → P → OnErr r P
on-err (Ok t) p = tt
on-err (Err e) p = p
