-- The seats of a producer.
use Rattle.std.specs.Prelude.{◌≡◌, ◌≤◌, ℕ}
use Rattle.tr_ledger.specs.Ledgers.{SeatState, seat_state}
use Rattle.tr_seats.specs.Books.{Books}
use Rattle.tr_tally.specs.Tallies.{TallyState, TellerState}

-- each is the one seat of its book
pub record AreSeatsOfProducer (books : Books) (offered discarded overwritten overwritten_packets : SeatState) : Type 0 where
  pub offered_is : offered ≡ seat_state books.offered offered.amount 1
  pub discarded_is : discarded ≡ seat_state books.discarded discarded.amount 1
  pub overwritten_is : overwritten ≡ seat_state books.overwritten overwritten.amount 1
  pub packets_is : overwritten_packets ≡ seat_state books.overwritten_packets overwritten_packets.amount 1

-- its teller is that of its stream, and has published no more than was offered
pub record IsTellerOf (tally : TallyState) (number offered : ℕ) (teller : TellerState) : Type 0 where
  pub table_is : teller.table ≡ tally.table
  pub stream_is : teller.stream ≡ number
  pub within : teller.count ≤ offered
