-- No call of a slot releases a part of its stream, or forgets one.
use Rattle.std.proofs.Common.{◌≡◌, ℕ, List, [], ◌∷◌, ◌++◌, Option, Some, None, refl, subst, sym}
use Rattle.std.specs.List.{AllByRecursion}
use Rattle.tr_book.specs.Parts.{PartState}
use Rattle.tr_record.proofs.RecordLemmas.{all_push}
use Rattle.tr_record.specs.Records.{Entry}
use Rattle.tr_ring.specs.ClosedBuffer.{ClosedBuffer}
use Rattle.tr_seats.specs.Plans.{IsUnused}
use Rattle.tr_session.specs.Sizes.{HoldsItsParts}
use Rattle.tr_stream.specs.State.{StreamState}
use Rattle.tr_stream.specs.StateSteps.{move_oldest, refusal_of, state_after_clear, state_after_cut, state_after_offer, state_after_take, state_clear_ring, state_cut_ring, state_entry, state_unless}
use Rattle.tr_stream.specs.declared.answers.OfferFault.{OfferFault}
use Rattle.tr_terms.specs.SessionModes.{by_session_mode}
use Rattle.tr_terms.specs.declared.session_mode.SessionMode.{SessionMode}
use Rattle.tr_terms.specs.declared.session_mode.SessionMode.TheVariants.{Local, Snapshot}

abbrev IsHeld : PartState → Type 0
IsHeld p = p.released ≡ None

closed-held : (closed : List PartState) (current : PartState) → AllByRecursion (λ (p : PartState). p.released ≡ None) (closed ++ current ∷ [])
    → AllByRecursion IsHeld closed × IsHeld current
closed-held [] current held = (tt, held.0)
closed-held (p ∷ ps) current held = let others = closed-held ps current held.1 in ((held.0, others.0), others.1)

-- a stream that nothing was done with
pub held-new : (s : StreamState) → IsUnused s → HoldsItsParts s
held-new s unused = subst HoldsItsParts (sym unused) (record { held = (refl, tt); known = refl })

module _ (s : StreamState) (held : HoldsItsParts s) where
  was : AllByRecursion IsHeld s.parts.closed × IsHeld s.parts.current
  was = closed-held s.parts.closed s.parts.current held.held

  by_mode : (after : StreamState) → HoldsItsParts after → (mode : SessionMode) → HoldsItsParts (by_session_mode mode after s)
  by_mode after is Local = is
  by_mode after is Snapshot = held

  unless : (why : Option OfferFault) (e : Entry) → HoldsItsParts (state_unless why e s)
  unless (Some fault) e = held
  unless None e = record { held = held.held; known = held.known }

  pub held-offer : (moment id : ℕ) (payload : List ℕ) → HoldsItsParts (state_after_offer moment id payload s)
  held-offer moment id payload = unless (refusal_of _ s) (state_entry moment id payload s)

  moved : (waiting : List ClosedBuffer) → HoldsItsParts (move_oldest waiting s)
  moved [] = held
  moved (b ∷ bs) = record { held = all_push IsHeld s.parts.closed _ was.0 was.1; known = held.known }

  pub held-take : HoldsItsParts (state_after_take s)
  held-take = by_mode (move_oldest s.ring.waiting s) (moved s.ring.waiting) s.config.session

  pub held-cut : (moment : ℕ) → HoldsItsParts (state_after_cut moment s)
  held-cut moment =
      by_mode (state_cut_ring _ s)
      (record { held = all_push IsHeld _ _ (all_push IsHeld s.parts.closed _ was.0 was.1) refl; known = held.known }) s.config.session

  pub held-clear : HoldsItsParts (state_after_clear s)
  held-clear =
      by_mode (state_clear_ring s) (record { held = all_push IsHeld s.parts.closed _ was.0 refl; known = held.known }) s.config.session
