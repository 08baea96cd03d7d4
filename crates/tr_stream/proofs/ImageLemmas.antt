-- What stands in the memory of a stream's ring.
use Rattle.std.proofs.Common.{◌≡◌, ◌≢◌, ℕ, ◌≤◌, zero, suc, true, leb, List, [], ◌∷◌, ◌++◌, length, map, slice_get, Some, refl, sym, ap, subst, ◌∙◌, arith, ◌⊎◌, inl, inr}
use Rattle.std.proofs.lemmas.Grind.{common_steps}
use Rattle.tr_packet.specs.Decoding.{content_bits_in}
use Rattle.tr_packet.specs.Order.{in_order}
use Rattle.tr_packet.specs.Packets.{Contents, IsPacket, MakePacket, packet_text}
use Rattle.tr_packet.proofs.OrderLemmas.{both, first_holds, moments_hold_from, moments_hold_says, second_holds}
use Rattle.std.proofs.lemmas.Bool.{leb-true, le-leb}
use Rattle.tr_record.specs.Records.{Entry}
use Rattle.tr_ring.specs.ClosedBuffer.{ClosedBuffer, closed_buffer}
use Rattle.tr_ring.specs.Heads.{begin_of, last_after, packet_from}
use Rattle.tr_ring.specs.Ring.{RingState, current_buffer, current_head}
use Rattle.tr_ring.specs.declared.origin.Origin.{Origin}
use Rattle.tr_subbuf.specs.SubBuffer.{IsShownBy}
use Rattle.tr_stream.specs.Chunks.{closed_if_any, packet_of}
use Rattle.tr_stream.specs.Images.{packets_standing}
use Rattle.tr_stream.specs.Sound.{ArePackets, IsSound}
use Rattle.tr_stream.specs.State.{StreamState}
use Rattle.tr_stream.specs.declared.config.StreamConfig.{StreamConfig}

-- the place of one of the packets: of a sub-buffer that waits, or of what comes after these
pub record Waits (c : StreamConfig) (ws : List ClosedBuffer) (i : ℕ) (p : Contents) : Type 0 where
  pub buffer : ClosedBuffer
  pub there : slice_get ws i ≡ Some buffer
  pub is : p ≡ packet_of c buffer

place : (c : StreamConfig) (ws tail : List ClosedBuffer) (i : ℕ) (p : Contents) → slice_get (map (packet_of c) (ws ++ tail)) i ≡ Some p
    → Waits c ws i p ⊎ (length ws ≤ i × ((j : ℕ) × (slice_get (map (packet_of c) tail) j ≡ Some p)))
place c [] tail i p is = inr (omega arith, (i, is))
place c (w ∷ ws) tail zero p is = inl (record { buffer = w; there = refl; is = from_some is })
  where
    from_some : {q : Contents} → Some q ≡ Some p → p ≡ q
    from_some e = cc
place c (w ∷ ws) tail (suc i) p is = step (place c ws tail i p is)
  where
    step : Waits c ws i p ⊎ (length ws ≤ i × ((j : ℕ) × (slice_get (map (packet_of c) tail) j ≡ Some p)))
        → Waits c (w ∷ ws) (suc i) p ⊎ (length (w ∷ ws) ≤ suc i × ((j : ℕ) × (slice_get (map (packet_of c) tail) j ≡ Some p)))
    step (inl x) = inl (record { buffer = x.buffer; there = x.there; is = x.is })
    step (inr x) = inr (grind (arith, common_steps), x.1)

are-at : (c : StreamConfig) (ws : List ClosedBuffer) (i : ℕ) (b : ClosedBuffer) → ArePackets c ws → slice_get ws i ≡ Some b → IsPacket (packet_of c b)
are-at c [] i b are at = absurd (grind (arith, common_steps, at))
are-at c (w ∷ ws) zero b are at = let same : w ≡ b = cc in subst (λ (x : ClosedBuffer). IsPacket (packet_of c x)) same are.0
are-at c (w ∷ ws) (suc i) b are at = are-at c ws i b are.1 at

-- moments that don't fall up to a bound don't fall up to the last one, which isn't above it
tight : (from to : ℕ) (es : List Entry) → in_order from to es ≡ true → (in_order from (last_after from es) es ≡ true) × (last_after from es ≤ to)
tight from to [] holds = (le-leb from from (omega arith), leb-true from to holds)
tight from to (e ∷ es) holds =
    let first = first_holds (leb from e.moment) (in_order e.moment to es) holds in
    let rest = tight e.moment to es (second_holds (leb from e.moment) (in_order e.moment to es) holds) in
    (both (leb from e.moment) (in_order e.moment (last_after e.moment es) es) first rest.0, rest.1)

-- so records that make a packet make one that ends with the last of them
pub makes-tight : (last : ℕ) (es : List Entry) → es ≢ [] → MakePacket (begin_of es) last es → MakePacket (begin_of es) (last_after 0 es) es
makes-tight last [] some make = absurd (some refl)
makes-tight last (e ∷ es) some make =
    let h = moments_hold_says e.moment last (e ∷ es) make.moments in
    let t = tight e.moment last (e ∷ es) h.order in
    record {
      fits = make.fits;
      serials = make.serials;
      moments = moments_hold_from e.moment (last_after e.moment es) (e ∷ es) (record { starts = h.starts; order = t.0; limit = omega (arith, t.1, h.limit) });
      small = make.small;
    }

-- what is found at a place
pub standing : (s : StreamState) (i : ℕ) (p : Contents) (image : List ℕ) → IsSound s → slice_get (packets_standing s) i ≡ Some p
    → ((b : ClosedBuffer) → slice_get s.ring.waiting i ≡ Some b → image ≡ packet_text (packet_from s.ring.origin b))
    → (length s.ring.waiting ≤ i → IsShownBy (current_buffer s.ring).head s.ring.current image)
    → IsPacket p × (image ≡ packet_text p)
standing s i p image is at waiting current =
    by_place (place s.config s.ring.waiting (closed_if_any s.ring.seq (last_after 0 s.ring.current) s.ring.discarded s.ring.current) i p at)
  where
    by_current : (es : List Entry) (j : ℕ) → (es ≢ [] → MakePacket (begin_of es) s.counters.last es)
        → IsShownBy (current_head s.ring.origin s.ring.seq s.ring.discarded es) es image
        → slice_get (map (packet_of s.config) (closed_if_any s.ring.seq (last_after 0 es) s.ring.discarded es)) j ≡ Some p
        → IsPacket p × (image ≡ packet_text p)
    by_current [] j makes shown at = absurd (grind (arith, common_steps, at))
    by_current (e ∷ es) (suc j) makes shown at = absurd (grind (arith, common_steps, at))
    by_current (e ∷ es) zero makes shown at =
        let b : ClosedBuffer = closed_buffer s.ring.seq (last_after 0 (e ∷ es)) s.ring.discarded (e ∷ es) in
        let same : packet_of s.config b ≡ p = cc in (
          subst IsPacket same (record {
            uuid = is.config.uuid;
            stream = is.config.number;
            seq = omega (arith, is.numbers, is.few);
            lost = omega (arith, is.total, is.few);
            records = makes-tight s.counters.last (e ∷ es) (λ none. cc) (makes (λ none. cc));
          }),
          shown ∙ ap (λ (o : Origin). packet_text (packet_from o b)) is.made.origin ∙ ap packet_text same,
        )

    by_place : Waits s.config s.ring.waiting i p
        ⊎ (length s.ring.waiting ≤ i × ((j : ℕ) × (slice_get (map (packet_of s.config)
        (closed_if_any s.ring.seq (last_after 0 s.ring.current) s.ring.discarded s.ring.current)) j ≡ Some p)))
        → IsPacket p × (image ≡ packet_text p)
    by_place (inl x) = (
      subst IsPacket (sym x.is) (are-at s.config s.ring.waiting i x.buffer is.packets x.there),
      waiting x.buffer x.there ∙ ap (λ (o : Origin). packet_text (packet_from o x.buffer)) is.made.origin ∙ ap packet_text (sym x.is),
    )
    by_place (inr x) = by_current s.ring.current x.1.0 is.filling.makes (current x.0) x.1.1

-- and behind them, as long as the current sub-buffer has no record
pub none-standing : (r : RingState) (i : ℕ) (image : List ℕ) → length r.waiting ≤ i → r.current ≡ []
    → (length r.waiting ≤ i → IsShownBy (current_buffer r).head r.current image) → content_bits_in image ≡ 0
none-standing r i image far none current =
    subst (λ (es : List Entry). IsShownBy (current_head r.origin r.seq r.discarded es) es image) none (current far)
