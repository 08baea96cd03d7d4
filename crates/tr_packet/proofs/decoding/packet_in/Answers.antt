use Rattle.std.proofs.Common.{ℕ, ap, arith}
use Rattle.tr_record.specs.Whole.{entries_of}
use Rattle.tr_packet.proofs.DecodingLemmas.{front_passes, body_is, sound_records, late_records, packet_decoded, last_is, packet_of, whole_of, contents_are}
use Rattle.tr_packet.proofs.decoding.packet_in.Goals as goal

pub split_at-requires : goal.split_at-requires
split_at-requires c = omega (arith, (front_passes c.args.bytes.now c.in_ok-size.ensures.size.0).there, c.in_ok-size.ensures.size.1)

pub split_at-requires-2 : goal.split_at-requires-2
split_at-requires-2 c =
    omega (arith, (front_passes c.args.bytes.now c.in_ok-size.ensures.size.0).low, c.in_ok-size.ensures.size.1, c.split_at.ensures.front_len)

pub judge_records-requires : goal.judge_records-requires
judge_records-requires c =
    omega (
      arith,
      (front_passes c.args.bytes.now c.in_ok-size.ensures.size.0).low,
      c.in_ok-size.ensures.size.1,
      c.split_at.ensures.front_len,
      c.split_at-2.ensures.back_len,
    )

pub returns-in_default-clause-fault : goal.returns-in_default-clause-fault
returns-in_default-clause-fault c =
    let bytes = c.args.bytes.now in
    let is = body_is bytes c.split_at.result.0.now c.split_at-2.result.1.now c.in_ok-size.size c.in_ok-size.ensures.size.1
    c.split_at.ensures.front c.split_at-2.ensures.back in
    late_records bytes c.split_at-2.result.1.now c.u64_from.result c.u64_from-2.result
    (c.in_ok-count.count, c.in_ok-count.last_serial) c.in_ok-size.ensures.size.0 is c.u64_from.ensures
    c.u64_from-2.ensures
    c.in_ok-count.ensures c.in_default.ensures.none

pub new-requires : goal.new-requires
new-requires c =
    let bytes = c.args.bytes.now in
    let body = c.split_at-2.result.1.now in
    let is = body_is bytes c.split_at.result.0.now body c.in_ok-size.size c.in_ok-size.ensures.size.1
    c.split_at.ensures.front c.split_at-2.ensures.back in
    let sound =
    sound_records bytes body c.u64_from.result c.u64_from-2.result (c.in_ok-count.count, c.in_ok-count.last_serial)
    c.in_ok-size.ensures.size.0 is c.u64_from.ensures c.u64_from-2.ensures
    c.in_ok-count.ensures c.in-Some.ensures.limits.1 in
    let decoded = packet_decoded bytes (λ i. omega (arith, c.type_inv.bytes i)) sound.0 in
    let packet = packet_of bytes body c.in-Some.head decoded.packet c.in-Some.ensures.some is in
    record {
      packet = packet;
      whole = whole_of bytes body decoded.whole is;
      count = ap (λ (n : ℕ × ℕ). n.0) sound.1;
      last_serial = last_is c.in-Some.head (entries_of body) c.in_ok-count.last_serial packet (ap (λ (n : ℕ × ℕ). n.1) sound.1);
    }

pub returns-clause-sound : goal.returns-clause-sound
returns-clause-sound c =
    let bytes = c.args.bytes.now in
    let is = body_is bytes c.split_at.result.0.now c.split_at-2.result.1.now c.in_ok-size.size c.in_ok-size.ensures.size.1
    c.split_at.ensures.front c.split_at-2.ensures.back in
    (sound_records bytes c.split_at-2.result.1.now c.u64_from.result c.u64_from-2.result
    (c.in_ok-count.count, c.in_ok-count.last_serial) c.in_ok-size.ensures.size.0 is c.u64_from.ensures
    c.u64_from-2.ensures
    c.in_ok-count.ensures c.in-Some.ensures.limits.1).0

pub returns-clause-packet : goal.returns-clause-packet
returns-clause-packet c =
    let bytes = c.args.bytes.now in
    let is = body_is bytes c.split_at.result.0.now c.split_at-2.result.1.now c.in_ok-size.size c.in_ok-size.ensures.size.1
    c.split_at.ensures.front c.split_at-2.ensures.back in
    contents_are bytes c.split_at-2.result.1.now c.in-Some.head c.new.result c.new.ensures c.in-Some.ensures.some is
