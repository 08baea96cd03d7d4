-- What a snapshot shows of one stream.
use Rattle.std.specs.Prelude.{ℕ, List}
use Rattle.tr_packet.specs.Packets.{Contents}

-- the stream's number, its offers, how many records it had discarded, and the packets of its ring
pub record SnapState : Type 0 where
  pub stream : ℕ
  pub offered : ℕ
  pub lost : ℕ
  pub packets : List Contents

abbrev pub snap_state : ℕ → ℕ → ℕ → List Contents → SnapState
snap_state stream offered lost packets =
    record { stream = stream; offered = offered; lost = lost; packets = packets }
