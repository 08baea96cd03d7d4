-- The first record that is shown is the first packet's.
use Rattle.std.proofs.Common.{◌≡◌, ◌∙◌, ℕ, IsTrue, List, [], ◌∷◌, ◌++◌, Option, Some, None, refl, ap, subst}
use Rattle.std.specs.List.{flat_map}
use Rattle.std.specs.Option.{option_map}
use Rattle.std.specs.Prelude.{slice_get}
use Rattle.tr_record.specs.Records.{Entry}
use Rattle.tr_packet.specs.Order.{moments_hold}
use Rattle.tr_packet.specs.Packets.{Contents, IsPacket}
use Rattle.tr_book.specs.Snaps.{SnapState}
use Rattle.tr_snapshot.specs.Snapshots.{oldest_in}

abbrev records_all : List Contents → List Entry
records_all packets = flat_map (λ (p : Contents). p.records) packets

abbrev serial_of : Option Entry → Option ℕ
serial_of first = option_map (λ (e : Entry). e.serial) first

first_of_two : (es others : List Entry) (begin end : ℕ) → IsTrue (moments_hold begin end es) → slice_get (es ++ others) 0 ≡ slice_get es 0
first_of_two [] others begin end holds = absurd cc
first_of_two (e ∷ es) others begin end holds = refl

first_of_none : (packets : List Contents) → slice_get packets 0 ≡ None → serial_of (slice_get (records_all packets) 0) ≡ None
first_of_none [] none = refl
first_of_none (p ∷ ps) none = cc

first_of_some : (packets : List Contents) (p : Contents) → slice_get packets 0 ≡ Some p → IsPacket p
    → slice_get (records_all packets) 0 ≡ slice_get p.records 0
first_of_some [] p first is = cc
first_of_some (q ∷ qs) p first is =
    let same : p ≡ q = cc in
    let is_q : IsPacket q = subst IsPacket same is in
    let back : q ≡ p = cc in
    first_of_two q.records (records_all qs) q.head.begin q.head.end is_q.records.moments ∙ ap (λ (r : Contents). slice_get r.records 0) back

-- without a packet there is none
pub oldest_none : (s : SnapState) → slice_get s.packets 0 ≡ None → oldest_in s ≡ None
oldest_none s none = first_of_none s.packets none

pub oldest_some : (s : SnapState) (p : Contents) → slice_get s.packets 0 ≡ Some p → IsPacket p
    → oldest_in s ≡ option_map (λ (e : Entry). e.serial) (slice_get p.records 0)
oldest_some s p first is = ap serial_of (first_of_some s.packets p first is)
