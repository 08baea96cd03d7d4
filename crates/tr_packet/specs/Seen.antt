-- The records of a packet, one after another.
use Rattle.std.specs.Prelude.{ℕ, ◌+◌, Bool, true, ◌&&◌, not, nat_eq, nat_le, nat_lt, List, length, Option, Some, None, unwrap_or, Result, Ok, Err, if◌then◌else◌}
use Rattle.tr_record.specs.Records.{Entry}
use Rattle.tr_packet.specs.Order.{serials_rise, serials_rise_after, last_serial_after, starts_at, in_order}
use Rattle.tr_packet.specs.declared.faults.PacketFault.{PacketFault}
use Rattle.tr_packet.specs.declared.faults.PacketFault.TheVariants.{BadRecord, SerialOrder, MomentOrder}
use Rattle.tr_packet.specs.declared.seen.Seen.{Seen}

-- what is known of a first record, in a packet that begins at this moment
abbrev pub seen_first : ℕ → Entry → Seen
seen_first begin e = record {
  count = 1;
  serial = e.serial;
  serials_rise = true;
  moment = e.moment;
  moments_hold = nat_eq e.moment begin;
}

-- after one more
abbrev pub seen_next : Seen → Entry → Seen
seen_next s e = record {
  count = s.count + 1;
  serial = e.serial;
  serials_rise = s.serials_rise && nat_lt s.serial e.serial;
  moment = e.moment;
  moments_hold = s.moments_hold && nat_le s.moment e.moment;
}

-- how many records there are and the last one's serial, or the first fault of their order
abbrev pub verdict : Bool → Bool → ℕ → Option ℕ → Result (ℕ × ℕ) PacketFault
verdict serials_rise moments_hold count last =
    if not serials_rise then Err SerialOrder else if not moments_hold then Err MomentOrder
    else Ok (count, unwrap_or last 0)

-- when some records were seen and these are left, up to the moment `end`; None: what is left isn't whole records
abbrev pub verdict_after : Seen → ℕ → Option (List Entry) → Result (ℕ × ℕ) PacketFault
verdict_after s end None = Err BadRecord
verdict_after s end (Some es) =
    verdict (s.serials_rise && serials_rise_after (Some s.serial) es) (s.moments_hold && in_order s.moment end es)
    (s.count + length es) (last_serial_after (Some s.serial) es)

-- for all records of a packet that begins and ends at these moments
abbrev pub verdict_on : ℕ → ℕ → Option (List Entry) → Result (ℕ × ℕ) PacketFault
verdict_on begin end None = Err BadRecord
verdict_on begin end (Some es) =
    verdict (serials_rise es) (starts_at begin es && in_order begin end es) (length es) (last_serial_after None es)
