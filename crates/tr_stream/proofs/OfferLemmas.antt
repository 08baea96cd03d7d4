-- An offer to a stream is the history's offer.
use Rattle.std.proofs.Common.{◌≡◌, ◌≢◌, ℕ, ◌+◌, ◌-◌, ◌^◌, ◌≤◌, ◌<◌, Bool, true, false, cond, List, [], ◌∷◌, length, zero-add, Option, Some, None, Result, Ok, Err, refl, sym, ◌∙◌, ap, subst, arith}
use Rattle.std.proofs.lemmas.Bool.Decides.{nat_tests}
use Rattle.std.proofs.lemmas.Grind.{common_steps}
use Rattle.std.specs.Prelude.{nat_lt}
use Rattle.tr_terms.specs.declared.mode.Mode.{Mode}
use Rattle.tr_terms.specs.declared.mode.Mode.TheVariants.{Discard, Overwrite}
use Rattle.tr_record.specs.Records.{Entry}
use Rattle.tr_record.specs.Weight.{weight_of}
use Rattle.tr_ring.specs.Ring.{current_buffer}
use Rattle.tr_ring.specs.ClosedBuffer.{ClosedBuffer}
use Rattle.tr_stream.proofs.ChunkLemmas.{sum-settle_first}
use Rattle.tr_stream.proofs.Refinement.{with_joined, with_followed, with_discarded, without_oldest, settled, stands-joined, stands-discarded, stands-followed, stands-without_oldest}
use Rattle.tr_stream.specs.Chunks.{waiting_of}
use Rattle.tr_stream.specs.History.{Dropped, History, offers_in, offered_of}
use Rattle.tr_stream.specs.Sound.{IsMade}
use Rattle.tr_stream.specs.StandsFor.{StandsFor}
use Rattle.tr_stream.specs.State.{StreamState}
use Rattle.tr_stream.specs.StateSteps.{state_entry, refusal_of, state_answer_unless, state_unless, state_with_offer, offered_as, state_offer_answer, state_after_offer, overwrites}
use Rattle.tr_stream.specs.Steps.{Course, Refuse, Join, Follow, DiscardNewest, Replace, course_of, course_when_full, course_answer, after_course, history_entry, history_offer_answer, history_after_offer}
use Rattle.tr_stream.specs.declared.answers.OfferFault.{OfferFault}
use Rattle.tr_stream.specs.declared.answers.Offered.{Offered}
use Rattle.tr_subbuf.specs.SubBuffer.{has_room}
use Rattle.tr_ring.specs.Ring.{push_answer}
use Rattle.tr_terms.specs.declared.limits.TheConstants.{PACKET_HEADER, SMALLEST_PACKET}

-- an offer of `len` bytes that is accepted
pub record IsAccepted (s : StreamState) (len : ℕ) : Type 0 where
  pub active : s.active ≡ true
  pub small : len ≤ s.config.geometry.size - SMALLEST_PACKET
  pub left : s.counters.offered < 2 ^ 62

pub accepted : (s : StreamState) (len : ℕ) → refusal_of len s ≡ None → IsAccepted s len
accepted s len is = record { active = grind (arith, nat_tests, is); small = grind (arith, nat_tests, is); left = grind (arith, nat_tests, is) }

refuses : (s : StreamState) (h : History) (len : ℕ) (fault : OfferFault) → StandsFor s h → refusal_of len s ≡ Some fault
    → course_of s.config h len ≡ Refuse fault
refuses s h len fault is told = grind (arith, nat_tests, is.active, is.offered, told)

-- the cases of a push
pub joins : (e : Entry) (s : StreamState) → has_room (current_buffer s.ring) (length e.payload) ≡ true → state_with_offer e s ≡ with_joined e s
joins e s room = rw room

pub follows : (e : Entry) (s : StreamState) → has_room (current_buffer s.ring) (length e.payload) ≡ false
    → nat_lt (length s.ring.waiting + 1) s.ring.count ≡ true → state_with_offer e s ≡ with_followed e s
follows e s room free = rw (room, free)

pub discards : (e : Entry) (s : StreamState) → has_room (current_buffer s.ring) (length e.payload) ≡ false
    → nat_lt (length s.ring.waiting + 1) s.ring.count ≡ false → s.ring.overwrite ≡ false
    → state_with_offer e s ≡ with_discarded e.moment s
discards e s room free mode = rw (room, free, mode)

pub replaces : (e : Entry) (s : StreamState) → has_room (current_buffer s.ring) (length e.payload) ≡ false
    → nat_lt (length s.ring.waiting + 1) s.ring.count ≡ false → s.ring.overwrite ≡ true
    → (b : ClosedBuffer) (bs : List ClosedBuffer) → s.ring.waiting ≡ b ∷ bs
    → state_with_offer e s ≡ with_followed e (without_oldest s)
replaces e s room free mode b bs oldest = rw (room, free, mode, oldest, zero-add)

-- an offer that finds no room finds a record in the sub-buffer
pub not_empty : (s : StreamState) (len : ℕ) → IsMade s.config s.ring → len ≤ s.config.geometry.size - SMALLEST_PACKET
    → has_room (current_buffer s.ring) len ≡ false → s.ring.current ≢ []
not_empty s len is small room empty =
    let light : weight_of s.ring.current ≡ PACKET_HEADER = ap weight_of empty in
    absurd (grind (arith, nat_tests, light, small, room, is.size_low, is.size))

-- for a stream that represents the history, this is the history's step
abbrev IsStep : StreamState → History → ℕ → ℕ → List ℕ → Result Offered OfferFault → StreamState → Type 0
IsStep s h moment id payload answer new =
    (answer ≡ history_offer_answer s.config payload h) × StandsFor new (history_after_offer s.config moment id payload h)

by_course : (s : StreamState) (h : History) (moment id : ℕ) (payload : List ℕ) (answer : Result Offered OfferFault)
    (new : StreamState) (k : Course) → course_of s.config h (length payload) ≡ k → answer ≡ course_answer k h
    → StandsFor new (after_course k (history_entry h moment id payload) h) → IsStep s h moment id payload answer new
by_course s h moment id payload answer new k e told stands =
    let P = λ (k : Course). (answer ≡ course_answer k h) × StandsFor new (after_course k (history_entry h moment id payload) h) in
    subst P (sym e) (told, stands)

entered-is : (s : StreamState) (h : History) (moment id : ℕ) (payload : List ℕ) → StandsFor s h
    → state_entry moment id payload s ≡ history_entry h moment id payload
entered-is s h moment id payload is = let a = is.offered in let b = is.last in cc

offered_of-dropped : (h : History) → offered_of (settled Dropped h) ≡ offered_of h
offered_of-dropped h = omega (arith, sum-settle_first offers_in Dropped h.closed)

overwrites-discard : (m : Mode) → overwrites m ≡ false → course_when_full m ≡ DiscardNewest
overwrites-discard Discard e = refl
overwrites-discard Overwrite e = cc

overwrites-overwrite : (m : Mode) → overwrites m ≡ true → course_when_full m ≡ Replace
overwrites-overwrite Discard e = cc
overwrites-overwrite Overwrite e = refl

-- an accepted offer goes by the room in the sub-buffer and in the ring
accepted-course : (s : StreamState) (h : History) (len : ℕ) (room free : Bool) → IsMade s.config s.ring → StandsFor s h
    → IsAccepted s len → has_room (current_buffer s.ring) len ≡ room → nat_lt (length s.ring.waiting + 1) s.ring.count ≡ free
    → course_of s.config h len ≡ cond room Join (cond free Follow (course_when_full s.config.mode))
accepted-course s h len room free is stands ok room_is free_is =
    grind (
      arith,
      nat_tests,
      stands.active,
      stands.offered,
      stands.filling,
      stands.waiting,
      ok.active,
      ok.small,
      ok.left,
      room_is,
      free_is,
      is.size,
      is.count,
    )

-- an accepted offer, by the cases of the push
stepped : (s : StreamState) (h : History) (moment id : ℕ) (payload : List ℕ) → IsMade s.config s.ring → StandsFor s h
    → IsAccepted s (length payload)
    → (let e = state_entry moment id payload s
    in IsStep s h moment id payload (Ok (offered_as s.counters.offered (push_answer e s.ring))) (state_with_offer e s))
stepped s h moment id payload is stands ok = go fits spare s.ring.overwrite s.ring.waiting refl refl refl refl
    (accepted-course s h (length payload) fits spare is stands ok refl refl)
  where
    e : Entry
    e = state_entry moment id payload s

    answer : Result Offered OfferFault
    answer = Ok (offered_as s.counters.offered (push_answer e s.ring))

    fits : Bool
    fits = has_room (current_buffer s.ring) (length payload)

    spare : Bool
    spare = nat_lt (length s.ring.waiting + 1) s.ring.count

    used : fits ≡ false → s.ring.current ≢ []
    used full = not_empty s (length payload) is ok.small full

    -- the offer takes this course, and makes this of the stream
    takes : (k : Course) (new : StreamState) → course_of s.config h (length payload) ≡ k → answer ≡ course_answer k h
        → state_with_offer e s ≡ new → StandsFor new (after_course k e h)
        → IsStep s h moment id payload answer (state_with_offer e s)
    takes k new course told made there =
        by_course s h moment id payload answer (state_with_offer e s) k course told
        (subst (λ (t : StreamState). StandsFor t (after_course k (history_entry h moment id payload) h)) (sym made)
        (subst (λ (e' : Entry). StandsFor new (after_course k e' h)) (entered-is s h moment id payload stands) there))

    go : (room free over : Bool) (waiting : List ClosedBuffer) → fits ≡ room → spare ≡ free → s.ring.overwrite ≡ over
        → s.ring.waiting ≡ waiting
        → course_of s.config h (length payload) ≡ cond room Join (cond free Follow (course_when_full s.config.mode))
        → IsStep s h moment id payload answer (state_with_offer e s)
    go true free over waiting room_is free_is over_is waiting_is course =
        takes Join (with_joined e s) course
        (let a = stands.offered in let b = stands.number in rw room_is (cc))
        (joins e s room_is) (stands-joined s h e stands.offered stands)
    go false true over waiting full free_is over_is waiting_is course =
        takes Follow (with_followed e s) course
        (let a = stands.offered in let b = stands.number in rw (full, free_is) (cc))
        (follows e s full free_is)
        (stands-followed s h e (λ none. used full (stands.filling ∙ none)) stands.offered stands)
    go false false false waiting full free_is over_is waiting_is course =
        takes DiscardNewest (with_discarded e.moment s)
        (course ∙ overwrites-discard s.config.mode (sym is.mode ∙ over_is))
        (let a = stands.offered in rw (full, free_is, over_is) (cc))
        (discards e s full free_is over_is) (stands-discarded s h e (used full) stands.offered stands)
    go false false true [] full free_is over_is waiting_is course =
        let none : length s.ring.waiting ≡ 0 = ap length waiting_is in
        absurd (grind (arith, nat_tests, none, free_is, is.count, is.count_low))
    go false false true (b ∷ bs) full free_is over_is waiting_is course =
        let some : 0 < length s.ring.waiting = rw waiting_is (grind (arith, common_steps)) in
        takes Replace (with_followed e (without_oldest s))
        (course ∙ overwrites-overwrite s.config.mode (sym is.mode ∙ over_is))
        (let a = stands.offered in let n = stands.number in let w : waiting_of h ≡ b ∷ bs =
        sym stands.waiting ∙ waiting_is in rw (full, free_is, over_is, waiting_is, w) (cc))
        (replaces e s full free_is over_is b bs waiting_is)
        (stands-followed (without_oldest s) (settled Dropped h) e (λ none. used full (stands.filling ∙ none))
        (stands.offered ∙ sym (offered_of-dropped h)) (stands-without_oldest s h (used full) stands some))

unless : (s : StreamState) (h : History) (moment id : ℕ) (payload : List ℕ) (refusal : Option OfferFault)
    → refusal_of (length payload) s ≡ refusal → IsMade s.config s.ring → StandsFor s h
    → (let e = state_entry moment id payload s in IsStep s h moment id payload (state_answer_unless refusal e s) (state_unless refusal e s))
unless s h moment id payload (Some fault) told is stands =
    by_course s h moment id payload (Err fault) s (Refuse fault) (refuses s h (length payload) fault stands told) refl stands
unless s h moment id payload None told is stands =
    stepped s h moment id payload is stands (accepted s (length payload) told)

-- an offer to a stream is the history's offer
pub offers : (s : StreamState) (h : History) (moment id : ℕ) (payload : List ℕ) → IsMade s.config s.ring → StandsFor s h
    → (state_offer_answer moment id payload s ≡ history_offer_answer s.config payload h)
    × StandsFor (state_after_offer moment id payload s) (history_after_offer s.config moment id payload h)
offers s h moment id payload is stands = unless s h moment id payload (refusal_of (length payload) s) refl is stands
