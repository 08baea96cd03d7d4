-- Sums over streams, one by one.
use Rattle.std.proofs.Common.{◌≡◌, ℕ, ◌+◌, ◌<◌, List, [], ◌∷◌, ◌++◌, length, get_or, take, ap, ◌∙◌, sym}
use Rattle.std.proofs.lemmas.List.{map-append, take_more}
use Rattle.std.proofs.lemmas.List.Sums.{sum_by_push}
use Rattle.std.specs.List.{sum_by}
use Rattle.tr_seats.specs.Settling.{streams_of}
use Rattle.tr_seats.specs.Slots.{SlotState}
use Rattle.tr_seats.specs.Sums.{totals_in, totals_of}
use Rattle.tr_seats.specs.declared.totals.Totals.{Totals}
use Rattle.tr_stream.specs.State.{StreamState}

pub streams-more : (slots : List SlotState) (i : ℕ) (s : SlotState) → i < length slots → s ≡ get_or slots i s
    → streams_of (take (i + 1) slots) ≡ streams_of (take i slots) ++ s.stream ∷ []
streams-more slots i s lt is =
    ap streams_of (take_more slots i s lt) ∙ map-append (λ (s : SlotState). s.stream) (take i slots) (get_or slots i s ∷ [])
    ∙ (λ k. streams_of (take i slots) ++ (sym is k).stream ∷ [])

-- a sum over one stream more
pub sum-more : (f : StreamState → ℕ) (slots : List SlotState) (i : ℕ) (s : SlotState) → i < length slots → s ≡ get_or slots i s
    → sum_by f (streams_of (take (i + 1) slots)) ≡ sum_by f (streams_of (take i slots)) + f s.stream
sum-more f slots i s lt is = ap (sum_by f) (streams-more slots i s lt is) ∙ sum_by_push f (streams_of (take i slots)) s.stream

abbrev pub totals_with : Totals → StreamState → Totals
totals_with t s = record {
  offered = t.offered + (totals_in s).offered;
  discarded = t.discarded + (totals_in s).discarded;
  overwritten = t.overwritten + (totals_in s).overwritten;
  overwritten_packets = t.overwritten_packets + (totals_in s).overwritten_packets;
  consumed = t.consumed + (totals_in s).consumed;
  cuts = t.cuts + (totals_in s).cuts;
  cleared = t.cleared + (totals_in s).cleared;
}

pub totals-more : (t : Totals) (streams : List StreamState) (s : StreamState) → t ≡ totals_of streams
    → totals_with t s ≡ totals_of (streams ++ s ∷ [])
totals-more t streams s is = ap (λ (x : Totals). totals_with x s) is ∙ (λ k. record {
  offered = sym (sum_by_push (λ (s : StreamState). (totals_in s).offered) streams s) k;
  discarded = sym (sum_by_push (λ (s : StreamState). (totals_in s).discarded) streams s) k;
  overwritten = sym (sum_by_push (λ (s : StreamState). (totals_in s).overwritten) streams s) k;
  overwritten_packets = sym (sum_by_push (λ (s : StreamState). (totals_in s).overwritten_packets) streams s) k;
  consumed = sym (sum_by_push (λ (s : StreamState). (totals_in s).consumed) streams s) k;
  cuts = sym (sum_by_push (λ (s : StreamState). (totals_in s).cuts) streams s) k;
  cleared = sym (sum_by_push (λ (s : StreamState). (totals_in s).cleared) streams s) k;
})
