-- What was logged of accepted offers, beside what the stream holds.
use Rattle.std.proofs.Common.{◌≡◌, ℕ, zero, suc, List, [], ◌∷◌, ◌++◌, length, map, Some, Result, Ok, Err, refl, sym, ap, ◌∙◌, if◌then◌else◌}
use Rattle.std.proofs.lemmas.List.{length-map, map-append}
use Rattle.std.specs.Prelude.{is_ok, slice_get}
use Rattle.std.specs.List.{AllByRecursion}
use Rattle.tr_record.specs.Records.{Entry}
use Rattle.tr_stream.specs.State.{StreamState}
use Rattle.tr_stream.specs.declared.answers.OfferFault.{OfferFault}
use Rattle.tr_stream.specs.declared.answers.Offered.{Offered}
use Rattle.tr_accounts.proofs.Lists.{all-more}
use Rattle.tr_accounts.proofs.OfferedLemmas.{accepted-push, accepted-same}
use Rattle.tr_accounts.specs.Holds.{HoldsOffers, IsOffered, IsRecordOf, held_records}
use Rattle.tr_accounts.specs.Logs.{items_of}
use Rattle.tr_accounts.specs.StreamSteps.{AcceptedOffer, accepted_in, offer_step}
use Rattle.tr_accounts.specs.declared.step.StreamStep.{StreamStep}

get-map : {X Y : Type 0} → (f : X → Y) (xs : List X) (k : ℕ) (x : X) → slice_get xs k ≡ Some x → slice_get (map f xs) k ≡ Some (f x)
get-map f [] k x e = absurd cc
get-map f (y ∷ ys) zero x e = let same : y ≡ x = cc in ap (λ z. Some (f z)) same
get-map f (y ∷ ys) (suc k) x e = get-map f ys k x e

module _ {X : Type 0} (item : ℕ → ℕ → List ℕ → X) where
  -- as many items as the stream counts offers, and each record that it holds is of the item at its serial
  pub logged : (IsRecord : X → Entry → Type 0)
      → ((o : AcceptedOffer) (e : Entry) → IsRecordOf o e → IsRecord (item o.moment o.id o.payload) e)
      → (os : List AcceptedOffer) (s : StreamState) → HoldsOffers os s
      → (length (items_of item os) ≡ s.counters.offered)
      × AllByRecursion (λ e. (x : X) × (slice_get (items_of item os) e.serial ≡ Some x) × IsRecord x e) (held_records s)
  logged IsRecord reads os s h =
      let f : AcceptedOffer → X = λ o. item o.moment o.id o.payload in (
        length-map os f ∙ sym h.many,
        all-more (IsOffered os) (λ e. (x : X) × (slice_get (items_of item os) e.serial ≡ Some x) × IsRecord x e)
            (λ e is. (f is.0, get-map f os e.serial is.0 is.1, reads is.0 e is.2)) (held_records s) h.held,
      )

  pub agrees : (os : List AcceptedOffer) (s : StreamState) → HoldsOffers os s
      → (length (items_of item os) ≡ s.counters.offered)
      × AllByRecursion (λ e. (o : AcceptedOffer) × (slice_get (items_of item os) e.serial ≡ Some (item o.moment o.id o.payload)) × IsRecordOf o e) (held_records s)
  agrees os s h =
      let f : AcceptedOffer → X = λ o. item o.moment o.id o.payload in (
        length-map os f ∙ sym h.many,
        all-more (IsOffered os) (λ e. (o : AcceptedOffer) × (slice_get (items_of item os) e.serial ≡ Some (item o.moment o.id o.payload)) × IsRecordOf o e)
            (λ e is. (is.0, get-map f os e.serial is.0 is.1, is.2)) (held_records s) h.held,
      )

  -- an item is logged if its offer is accepted
  pub logs-offer : (steps : List StreamStep) (log : List X) (moment id : ℕ) (payload : List ℕ) (told : Result Offered OfferFault)
      → log ≡ items_of item (accepted_in steps)
      → (if is_ok told then log ++ item moment id payload ∷ [] else log)
      ≡ items_of item (accepted_in (steps ++ offer_step moment id payload told ∷ []))
  logs-offer steps log moment id payload (Ok offered) was =
      let f : AcceptedOffer → X = λ o. item o.moment o.id o.payload in
      ap (λ xs. xs ++ item moment id payload ∷ []) was
      ∙ sym (map-append f (accepted_in steps) (record { moment = moment; id = id; payload = payload; answer = offered } ∷ []))
      ∙ sym (ap (items_of item) (accepted-push steps (offer_step moment id payload (Ok offered))))
  logs-offer steps log moment id payload (Err fault) was =
      was ∙ sym (ap (items_of item) (accepted-same steps (offer_step moment id payload (Err fault)) refl))
