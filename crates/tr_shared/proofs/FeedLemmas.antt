-- What a feeder's log says of its producer.
use Rattle.std.proofs.Common.{◌≡◌, ◌∙◌, ℕ, ◌+◌, List, [], ◌∷◌, ◌++◌, Result, Ok, Err, ap, arith, if◌then◌else◌, length, refl, subst, sym}
use Rattle.std.proofs.lemmas.List.{length-append}
use Rattle.std.specs.List.{FoldsTo}
use Rattle.std.specs.Prelude.{is_ok}
use Rattle.tr_accounts.proofs.LogLemmas.{logs-offer}
use Rattle.tr_accounts.specs.Logs.{items_of}
use Rattle.tr_accounts.specs.StreamSteps.{accepted_in}
use Rattle.tr_accounts.specs.declared.step.StreamStep.{StreamStep}
use Rattle.tr_threads.specs.Feeding.{IsFed, OffersOne}
use Rattle.tr_threads.specs.declared.items.Item.{Item}
use Rattle.tr_seats.specs.Slots.{ProducerState, producer_after}
use Rattle.tr_shared.specs.Calls.{HasOffered, IsOffered}
use Rattle.tr_shared.specs.Feeds.{IsLogOf, offered_item}
use Rattle.tr_stream.specs.declared.answers.OfferFault.{OfferFault}
use Rattle.tr_stream.specs.declared.answers.OfferFault.TheVariants.{Inactive, TooBig, Spent, Misplaced, OtherLayout}
use Rattle.tr_stream.specs.declared.answers.Offered.{Offered}
use Rattle.tr_stream.specs.declared.answers.Offered.TheVariants.{Stored, StoredOver, Discarded}

-- an answer raises what was offered as it lengthens the log
raised : (moment id : ℕ) (payload : List ℕ) (answer : Result Offered OfferFault) (p : ProducerState) (log : List Item) (item : Item)
    → (producer_after moment id payload answer p).offered + length log ≡ p.offered + length (if is_ok answer then log ++ item ∷ [] else log)
raised moment id payload (Ok (Stored serial seq)) p log item = omega (arith, length-append log (item ∷ []))
raised moment id payload (Ok (StoredOver serial seq gone_seq gone_count)) p log item = omega (arith, length-append log (item ∷ []))
raised moment id payload (Ok (Discarded serial)) p log item = omega (arith, length-append log (item ∷ []))
raised moment id payload (Err Inactive) p log item = refl
raised moment id payload (Err TooBig) p log item = refl
raised moment id payload (Err Spent) p log item = refl
raised moment id payload (Err Misplaced) p log item = refl
raised moment id payload (Err OtherLayout) p log item = refl

-- it leaves the producer's stream
same-number : (moment id : ℕ) (payload : List ℕ) (answer : Result Offered OfferFault) (p : ProducerState)
    → (producer_after moment id payload answer p).number ≡ p.number
same-number moment id payload (Ok (Stored serial seq)) p = refl
same-number moment id payload (Ok (StoredOver serial seq gone_seq gone_count)) p = refl
same-number moment id payload (Ok (Discarded serial)) p = refl
same-number moment id payload (Err Inactive) p = refl
same-number moment id payload (Err TooBig) p = refl
same-number moment id payload (Err Spent) p = refl
same-number moment id payload (Err Misplaced) p = refl
same-number moment id payload (Err OtherLayout) p = refl

goes : (before after : ProducerState × List Item) (work : List Item) → FoldsTo (OffersOne IsOffered) before work after
    → (after.0.offered + length before.1 ≡ before.0.offered + length after.1) × (after.0.number ≡ before.0.number)
goes before after [] did = (
  omega (arith, ap (λ s. s.0.offered) did, ap (λ s. length s.1) did),
  ap (λ s. s.0.number) (sym did),
)
goes before after (item ∷ work) did =
    let rest = goes did.0 after work did.2 in
    let moved : did.0.0.offered ≡ (producer_after item.moment item.id item.payload did.1.0 before.0).offered =
    ap (λ (p : ProducerState). p.offered) did.1.1.0 in
    let logged : length did.0.1 ≡ length (if is_ok did.1.0 then before.1 ++ item ∷ [] else before.1) = ap length did.1.2 in (
      omega (arith, rest.0, moved, logged, raised item.moment item.id item.payload did.1.0 before.0 before.1 item),
      rest.1 ∙ ap (λ (p : ProducerState). p.number) did.1.1.0 ∙ same-number item.moment item.id item.payload did.1.0 before.0,
    )

-- what was offered is published after each offer
publishes : (before after : ProducerState × List Item) (work : List Item) → FoldsTo (OffersOne IsOffered) before work after
    → before.0.published ≡ before.0.offered → after.0.published ≡ after.0.offered
publishes before after [] did is = subst (λ s. s.0.published ≡ s.0.offered) did is
publishes before after (item ∷ work) did is =
    publishes did.0 after work did.2
    (ap (λ (p : ProducerState). p.published) did.1.1.0 ∙ sym (ap (λ (p : ProducerState). p.offered) did.1.1.0))

pub fed-offers : (p q : ProducerState) (work log : List Item) → IsFed IsOffered p work q log → HasOffered (length log) p q
fed-offers p q work log fed =
    let all = goes (p, []) (q, log) work fed in record {
      offered = omega (arith, all.0);
      number = all.1;
      published = publishes (p, []) (q, log) work fed;
    }

-- an item is logged if its offer is accepted, and then it is one of the producer's accepted offers
as-logged : (moment id : ℕ) (payload : List ℕ) (answer : Result Offered OfferFault) (p : ProducerState) (log : List Item) → IsLogOf p log
    → IsLogOf (producer_after moment id payload answer p) (if is_ok answer then log ++ offered_item moment id payload ∷ [] else log)
as-logged moment id payload (Ok (Stored serial seq)) p log was =
    logs-offer offered_item p.steps log moment id payload (Ok (Stored serial seq)) was
as-logged moment id payload (Ok (StoredOver serial seq gone_seq gone_count)) p log was =
    logs-offer offered_item p.steps log moment id payload (Ok (StoredOver serial seq gone_seq gone_count)) was
as-logged moment id payload (Ok (Discarded serial)) p log was =
    logs-offer offered_item p.steps log moment id payload (Ok (Discarded serial)) was
as-logged moment id payload (Err Inactive) p log was = logs-offer offered_item p.steps log moment id payload (Err Inactive) was
as-logged moment id payload (Err TooBig) p log was = logs-offer offered_item p.steps log moment id payload (Err TooBig) was
as-logged moment id payload (Err Spent) p log was = logs-offer offered_item p.steps log moment id payload (Err Spent) was
as-logged moment id payload (Err Misplaced) p log was = was
as-logged moment id payload (Err OtherLayout) p log was = was

logs : (before after : ProducerState × List Item) (work : List Item) → FoldsTo (OffersOne IsOffered) before work after
    → IsLogOf before.0 before.1 → IsLogOf after.0 after.1
logs before after [] did was = subst (λ (s : ProducerState × List Item). IsLogOf s.0 s.1) did was
logs before after (item ∷ work) did was =
    logs did.0 after work did.2
    (did.1.2 ∙ as-logged item.moment item.id item.payload did.1.0 before.0 before.1 was
    ∙ ap (λ (p : ProducerState). items_of offered_item (accepted_in p.steps)) (sym did.1.1.0))

pub fed-logs : (p q : ProducerState) (work log : List Item) → IsFed IsOffered p work q log → p.steps ≡ [] → IsLogOf q log
fed-logs p q work log fed new =
    logs (p, []) (q, log) work fed (ap (λ (steps : List StreamStep). items_of offered_item (accepted_in steps)) (sym new))
