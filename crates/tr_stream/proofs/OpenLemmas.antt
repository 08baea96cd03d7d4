-- Records of a sub-buffer: one more joins them, and they can be closed as a packet.
use Rattle.std.proofs.Common.{◌≡◌, ◌≢◌, ℕ, ◌+◌, ◌≤◌, ◌<◌, List, [], ◌∷◌, ◌++◌, refl, sym, subst, arith}
use Rattle.std.proofs.lemmas.Grind.{common_steps}
use Rattle.std.specs.List.{AllByRecursion}
use Rattle.tr_packet.proofs.OrderLemmas.{below_more, MakePacket-one, MakePacket-push, MakePacket-later}
use Rattle.tr_packet.specs.Order.{IsBelow}
use Rattle.tr_packet.specs.Packets.{MakePacket}
use Rattle.tr_record.specs.Records.{Entry, Fits}
use Rattle.tr_record.specs.Weight.{weight_of, record_weight}
use Rattle.tr_ring.specs.Heads.{begin_of}
use Rattle.tr_stream.specs.Sound.{IsOpen}
use Rattle.tr_terms.specs.declared.limits.TheConstants.{LARGEST_PACKET, LAST_MOMENT}

below-push : (serial : ℕ) (es : List Entry) (e : Entry) → e.serial ≡ serial → AllByRecursion (IsBelow serial) es
    → AllByRecursion (IsBelow (serial + 1)) (es ++ e ∷ [])
below-push serial [] e next old = (omega arith, tt)
below-push serial (x ∷ es) e next old = (let h : x.serial < serial = old.0 in omega arith, below-push serial es e next old.1)

makes-joined : (serial last : ℕ) (es : List Entry) (e : Entry) → Fits e → AllByRecursion (IsBelow e.serial) es
    → last ≤ e.moment → weight_of es + record_weight e ≤ LARGEST_PACKET → (es ≢ [] → MakePacket (begin_of es) last es)
    → MakePacket (begin_of (es ++ e ∷ [])) e.moment (es ++ e ∷ [])
makes-joined serial last [] e fits below le small old = MakePacket-one e fits (grind (arith, common_steps, small))
makes-joined serial last (x ∷ es) e fits below le small old = MakePacket-push x.moment last (x ∷ es) e (old (λ none. cc)) fits below le small

-- one more record
pub open-joined : (serial last : ℕ) (es : List Entry) (e : Entry) → Fits e → e.serial ≡ serial → last ≤ e.moment
    → weight_of es + record_weight e ≤ LARGEST_PACKET → IsOpen serial last es → IsOpen (serial + 1) e.moment (es ++ e ∷ [])
open-joined serial last es e fits next le small old = record {
  below = below-push serial es e next old.below;
  makes = λ used. makes-joined serial last es e fits (subst (λ (n : ℕ). AllByRecursion (IsBelow n) es) (sym next) old.below) le small old.makes;
}

-- a first record
pub open-one : (serial : ℕ) (e : Entry) → Fits e → e.serial ≡ serial → weight_of (e ∷ []) ≤ LARGEST_PACKET → IsOpen (serial + 1) e.moment (e ∷ [])
open-one serial e fits next small = record { below = (omega arith, tt); makes = λ used. MakePacket-one e fits small }

-- a serial is spent, and the moment may have risen
pub open-discarded : (serial last moment : ℕ) (es : List Entry) → last ≤ moment → moment ≤ LAST_MOMENT
    → IsOpen serial last es → IsOpen (serial + 1) moment es
open-discarded serial last moment es le in_time old = record {
  below = below_more serial (serial + 1) es (omega arith) old.below;
  makes = λ used. MakePacket-later (begin_of es) last moment es (old.makes used) le in_time;
}

pub open-none : (serial last : ℕ) → IsOpen serial last []
open-none serial last = record { below = tt; makes = λ used. absurd (used refl) }
