-- A session whose seats were settled has its streams.
use Rattle.std.proofs.Common.{◌≡◌, ℕ, ◌<◌, zero, suc, length, get_or, List, [], ◌∷◌, Some, ap, ◌∙◌, subst, sym, arith}
use Rattle.std.specs.List.{AllByRecursion}
use Rattle.std.specs.Prelude.{slice_get}
use Rattle.std.proofs.lemmas.List.{length-map}
use Rattle.std.proofs.lemmas.Option.{get_or_from_slice_get, slice_get-map, slice_get_within}
use Rattle.tr_ledger.specs.Ledgers.{SeatState, seat_state}
use Rattle.tr_seats.proofs.PlannedLemmas.{mapped}
use Rattle.tr_seats.proofs.Rows.{amount-at, length-seats}
use Rattle.tr_seats.specs.Books.{Books, IsPlanned, PlanState, cut_books, no_table}
use Rattle.tr_seats.specs.Desks.{IsDesk}
use Rattle.tr_seats.specs.Settling.{IsSessionOf, streams_of}
use Rattle.tr_seats.specs.Slots.{SlotState}
use Rattle.tr_seats.specs.Sums.{totals_in}
use Rattle.tr_session.specs.Session.{HasItsStreams, IsStreamOf, session_of}
use Rattle.tr_session.specs.Sizes.{HoldsItsParts}
use Rattle.tr_session_book.specs.Book.{SessionBookState}
use Rattle.tr_session_book.specs.BookSteps.{chunks_closed}
use Rattle.tr_stream.specs.State.{StreamState}

holds-at : (streams : List StreamState) (i : ℕ) (t : StreamState) → AllByRecursion HoldsItsParts streams → slice_get streams i ≡ Some t
    → HoldsItsParts t
holds-at [] i t held at = absurd cc
holds-at (s ∷ ss) zero t held at = let same : s ≡ t = cc in subst HoldsItsParts same held.0
holds-at (s ∷ ss) (suc i) t held at = holds-at ss i t held.1 at

abbrev stream_in : SlotState → StreamState
stream_in s = s.stream

module _ (plan : PlanState) (book : SessionBookState) (consumed cuts cleared : List SeatState) (slots : List SlotState)
    (desk : IsDesk plan book consumed cuts cleared) (len : length slots ≡ length plan.books)
    (planned : (k : ℕ) (s : SlotState) → k < length slots → IsPlanned plan k (get_or slots k s).stream.config)
    (cut : (k : ℕ) (d : SeatState) (s : SlotState) → k < length slots
    → (get_or cuts k d).amount ≡ (totals_in (get_or slots k s).stream).cuts) where
  of-plan : (i : ℕ) (s : SlotState) → slice_get slots i ≡ Some s → i < length slots → HoldsItsParts s.stream → IsStreamOf book i s.stream
  of-plan i s at lt held =
      let there : get_or slots i s ≡ s = get_or_from_slice_get slots i s s at in
      let kept = desk.book_is in
      let was = mapped (λ (t : StreamState). t.config) (slice_get plan.session.streams i) s.stream.config
      (subst (λ (x : SlotState). IsPlanned plan i x.stream.config) there (planned i s lt)) in
      let of = desk.planned.session.are i was.0 was.1 in
      let closed : length s.stream.parts.closed ≡ chunks_closed i book = closed-of i s there lt in
      record {
        place = of.place;
        channel = of.channel;
        has_place = ap (λ (l : List ℕ). slice_get l i) kept.threads ∙ of.has_place;
        has_channel = ap (λ l. slice_get l of.place) kept.channels ∙ of.has_channel;
        config = sym was.2 ∙ of.config ∙ (λ k. record {
          uuid = sym kept.uuid k;
          number = i;
          geometry = of.channel.1.geometry;
          mode = of.channel.1.mode;
          session = sym kept.mode k;
        });
        closed = closed;
        known = held.known;
      }
    where
      closed-of : (i : ℕ) (s : SlotState) → get_or slots i s ≡ s → i < length slots → length s.stream.parts.closed ≡ chunks_closed i book
      closed-of i s there lt =
          let below : i < length plan.books = omega (arith, lt, len) in
          let seats = length-seats (cut_books plan.books) cuts desk.cuts_are in
          let wide : i < length cuts = omega (arith, below, seats, length-map plan.books (λ (b : Books). b.cuts)) in
          let none = seat_state no_table 0 0 in
          sym (ap (λ (x : SlotState). length x.stream.parts.closed) there) ∙ sym (cut i none s lt)
          ∙ sym (amount-at cuts i none wide) ∙ desk.operator i below

  -- what was planned is as it was
  pub settled-planned : AllByRecursion HoldsItsParts (streams_of slots) → IsSessionOf plan (session_of book (streams_of slots))
  settled-planned held = record {
    book = desk.book_is;
    many = length-map slots stream_in ∙ len;
    streams = λ i t at.
        let was = mapped stream_in (slice_get slots i) t (sym (slice_get-map stream_in slots i) ∙ at) in
        let there : get_or slots i was.0 ≡ was.0 = get_or_from_slice_get slots i was.0 was.0 was.1 in
        let own = planned i was.0 (slice_get_within slots i was.0 was.1) in
        subst (λ (x : StreamState). IsPlanned plan i x.config) was.2
        (subst (λ (x : SlotState). IsPlanned plan i x.stream.config) there own);
    held = held;
  }

  -- each stream is that of its thread, and the book says how many parts it closed
  pub settled-streams : AllByRecursion HoldsItsParts (streams_of slots) → HasItsStreams (session_of book (streams_of slots))
  settled-streams held = record {
    as_many = length-map slots stream_in ∙ len ∙ desk.planned.books ∙ desk.planned.session.as_many ∙ sym (ap length desk.book_is.threads);
    are = λ i t at.
        let was = mapped stream_in (slice_get slots i) t (sym (slice_get-map stream_in slots i) ∙ at) in
        let own : HoldsItsParts was.0.stream = subst HoldsItsParts (sym was.2) (holds-at (streams_of slots) i t held at) in
        subst (λ (x : StreamState). IsStreamOf book i x) was.2 (of-plan i was.0 was.1 (slice_get_within slots i was.0 was.1) own);
  }
