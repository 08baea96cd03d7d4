-- What the mode of a planned session says of its operators' answers.
use Rattle.std.proofs.Common.{◌≡◌, ◌≢◌, ◌∙◌, ℕ, ◌==◌, Bool, true, false, List, [], ◌∷◌, Option, Some, Result, Ok, Err, cond, eqb, if◌then◌else◌, inl, inr, ⊎_elim, ap, refl, subst, sym}
use Rattle.std.proofs.lemmas.Bool.Decides.{eqb_tells}
use Rattle.std.specs.Prelude.{◌↔◌, IsOk}
use Rattle.tr_ring.specs.ClosedBuffer.{ClosedBuffer}
use Rattle.tr_seats.specs.Books.{IsPlanned, PlanState}
use Rattle.tr_seats.specs.Slots.{SlotState, slot_take_answer}
use Rattle.tr_session_book.specs.Book.{SessionBookState}
use Rattle.tr_session_book.specs.BookSteps.{book_rotate_begin_answer, book_snapshot_begin_answer, local_rotation, moment_stored}
use Rattle.tr_session_book.specs.declared.faults.SessionFault.{SessionFault}
use Rattle.tr_session_book.specs.declared.faults.SessionFault.TheVariants.{AlreadyRotated, NeverStarted, NoMemory, NotSnapshotMode, RotationPending, SnapshotMode}
use Rattle.tr_shared.specs.Calls.{IsTakeOf}
use Rattle.tr_stream.specs.Steps.{taken_from}
use Rattle.tr_stream.specs.declared.answers.TakeFault.{TakeFault}
use Rattle.tr_stream.specs.declared.answers.TakeFault.TheVariants as take_fault
use Rattle.tr_stream.specs.declared.answers.Taken.{Taken}
use Rattle.tr_stream.specs.declared.config.StreamConfig.{StreamConfig}
use Rattle.tr_terms.specs.SessionModes.{by_session_mode}
use Rattle.tr_terms.specs.declared.session_mode.SessionMode.{SessionMode}
use Rattle.tr_terms.specs.declared.session_mode.SessionMode.TheVariants.{Local, Snapshot}

-- ---- rotations

abbrev rotation : (fresh pending done : Bool) → ℕ → Result ℕ SessionFault
rotation fresh pending done n = cond fresh (Err NeverStarted) (cond pending (Err RotationPending) (cond done (Err AlreadyRotated) (Ok n)))

never-mode : (fresh pending done : Bool) (n : ℕ) → rotation fresh pending done n ≢ Err SnapshotMode
never-mode true pending done n same = cc
never-mode false true done n same = cc
never-mode false false true n same = cc
never-mode false false false n same = cc

rotates-by : (m : SessionMode) (r : Result ℕ SessionFault) → r ≢ Err SnapshotMode
    → by_session_mode m r (Err SnapshotMode) ≡ Err SnapshotMode → m ≡ Snapshot
rotates-by Local r not same = absurd (not same)
rotates-by Snapshot r not same = refl

abbrev refused : Result ℕ SessionFault
refused = Err SnapshotMode

-- unless an allocation fails, a rotation is refused for the mode if and only if that is the session's
pub begin-mode : (m : SessionMode) (b : SessionBookState) (r : Result ℕ SessionFault) → b.mode ≡ m
    → (r ≢ Err NoMemory → r ≡ book_rotate_begin_answer b) → (r ≡ Err NoMemory → IsOk (book_rotate_begin_answer b))
    → (r ≡ Err SnapshotMode) ↔ (m ≡ Snapshot)
begin-mode m b r mode told memory = (
  λ same.
      let answer : book_rotate_begin_answer b ≡ Err SnapshotMode = sym (told (λ none. let a = same in cc)) ∙ same in
      sym mode ∙ rotates-by b.mode (local_rotation b) (never-mode _ _ _ _) answer,
  λ snapshot.
      let answer : book_rotate_begin_answer b ≡ Err SnapshotMode =
      ap (λ (x : SessionMode). by_session_mode x (local_rotation b) (Err SnapshotMode)) (mode ∙ snapshot) in
      told (λ none. let ok : IsOk refused = subst IsOk answer (memory none) in cc) ∙ answer,
)

-- ---- snapshots

snaps-by : (m : SessionMode) (fresh : Bool) (moment : ℕ) (b : SessionBookState)
    → (moment_stored (by_session_mode m (Err NotSnapshotMode) (cond fresh (Err NeverStarted) (Ok tt))) moment b ≡ Err NotSnapshotMode)
    ↔ (m ≡ Local)
snaps-by Local fresh moment b = (λ same. refl, λ local. refl)
snaps-by Snapshot true moment b = (λ same. absurd cc, λ local. absurd cc)
snaps-by Snapshot false moment b = (λ same. absurd cc, λ local. absurd cc)

-- a snapshot is refused for the mode if and only if that is the session's
pub snap-mode : (m : SessionMode) (b : SessionBookState) (moment : ℕ) (r : Result ℕ SessionFault) → b.mode ≡ m
    → r ≡ book_snapshot_begin_answer moment b → (r ≡ Err NotSnapshotMode) ↔ (m ≡ Local)
snap-mode m b moment r mode told =
    let by = snaps-by b.mode _ moment b in
    (λ same. sym mode ∙ by.0 (sym told ∙ same), λ local. told ∙ by.1 (mode ∙ local))

-- ---- takes

never-for-mode : (part : ℕ) (waiting : List ClosedBuffer) → taken_from part waiting ≢ Err take_fault.SnapshotMode
never-for-mode part [] same = cc
never-for-mode part (b ∷ bs) same = cc

abbrev not_taken : Result Taken TakeFault
not_taken = Err take_fault.SnapshotMode

abbrev by_number : Bool → Result Taken TakeFault → Result Taken TakeFault
by_number here own = if here then own else Err take_fault.Misplaced

by-mode : (m : SessionMode) (local r : Result Taken TakeFault) → local ≢ Err take_fault.SnapshotMode
    → (r ≢ Err take_fault.NoMemory → r ≡ by_session_mode m local (Err take_fault.SnapshotMode))
    → (r ≡ Err take_fault.NoMemory → IsOk (by_session_mode m local (Err take_fault.SnapshotMode)))
    → IsTakeOf m r
by-mode Local local r never told memory = λ same. never (sym (told (λ none. let a = same in cc)) ∙ same)
by-mode Snapshot local (Ok taken) never told memory = inl (told (λ none. cc))
by-mode Snapshot local (Err take_fault.NoMemory) never told memory = let ok : IsOk not_taken = memory refl in absurd cc
by-mode Snapshot local (Err take_fault.SnapshotMode) never told memory = inl refl
by-mode Snapshot local (Err take_fault.Nothing) never told memory = inl (told (λ none. cc))
by-mode Snapshot local (Err take_fault.Misplaced) never told memory = inr refl

elsewhere : (m : SessionMode) → IsTakeOf m (Err take_fault.Misplaced)
elsewhere Local = λ same. cc
elsewhere Snapshot = inr refl

other-place : (m : SessionMode) (r : Result Taken TakeFault) → (r ≢ Err take_fault.NoMemory → r ≡ Err take_fault.Misplaced)
    → (r ≡ Err take_fault.NoMemory → IsOk (by_number false (Err take_fault.Nothing))) → IsTakeOf m r
other-place m r told memory =
    subst (λ x. IsTakeOf m x) (sym (told (λ none. let ok : IsOk (by_number false (Err take_fault.Nothing)) = memory none in cc))) (elsewhere m)

by-place : (here : Bool) (m : SessionMode) (local r : Result Taken TakeFault) → local ≢ Err take_fault.SnapshotMode
    → (r ≢ Err take_fault.NoMemory → r ≡ by_number here (by_session_mode m local (Err take_fault.SnapshotMode)))
    → (r ≡ Err take_fault.NoMemory → IsOk (by_number here (by_session_mode m local (Err take_fault.SnapshotMode))))
    → (planned : SessionMode) → (here ≡ true → m ≡ planned) → IsTakeOf planned r
by-place true m local r never told memory planned same = subst (λ x. IsTakeOf x r) (same refl) (by-mode m local r never told memory)
by-place false m local r never told memory planned same = other-place planned r told memory

same-number : (i n : ℕ) → (i == n) ≡ true → i ≡ n
same-number i n same =
    ⊎_elim (λ (t : (eqb i n ≡ true) × (i ≡ n)). t.1)
    (λ (t : (eqb i n ≡ false) × (i ≢ n)). let both : true ≡ false = sym same ∙ t.0 in absurd cc) (eqb_tells i n)

same-config : (found : Option StreamConfig) (a b : StreamConfig) → found ≡ Some a → found ≡ Some b → a ≡ b
same-config found a b is too = let both : Some a ≡ Some b = sym is ∙ too in cc

-- what a take answers is of the mode of the stream that was planned for the number
pub take-mode : (plan : PlanState) (i : ℕ) (slot : SlotState) (r : Result Taken TakeFault) → IsPlanned plan slot.number slot.stream.config
    → (r ≢ Err take_fault.NoMemory → r ≡ slot_take_answer i slot) → (r ≡ Err take_fault.NoMemory → IsOk (slot_take_answer i slot))
    → (config : StreamConfig) → IsPlanned plan i config → IsTakeOf config.session r
take-mode plan i slot r own told memory config planned =
    by-place (i == slot.number) slot.stream.config.session (taken_from slot.stream.parts.current.id slot.stream.ring.waiting) r
    (never-for-mode _ _) told memory config.session
    (λ here. ap (λ (c : StreamConfig). c.session) (same-config _ slot.stream.config config own
    (subst (λ k. IsPlanned plan k config) (same-number i slot.number here) planned)))
