-- What `create` answers, case by case.
use Rattle.std.proofs.Common.{◌≡◌, ℕ, true, false, List, [], ◌∷◌, ◌++◌, length, Option, Some, None, is_some, codes, refl, sym, subst, true≢false, arith, to_z, of_z, w32}
use Rattle.std.proofs.lemmas.Int.{ints}
use Rattle.std.specs.Borrow.{Bor}
use Rattle.std.specs.Prelude.{ℤ, nat_le, option_copied}
use Rattle.tr_console.specs.Steps.{reply_step, refusal_step}
use Rattle.tr_replies.specs.Text.{Text}
use Rattle.tr_console.specs.World.{World, session_named}
use Rattle.tr_console.specs.commands.Create.{create_step, with_new}
use Rattle.tr_replies.specs.declared.line_fault.LineFault.TheVariants as fault
use Rattle.tr_session.specs.Session.{declaring, new_session}
use Rattle.tr_session_book.specs.declared.faults.SessionFault.TheVariants.{TooMany, NameTaken}
use Rattle.tr_terms.specs.Names.{is_name}
use Rattle.tr_terms.specs.Offsets.{IsOffset}
use Rattle.tr_terms.specs.declared.limits.TheConstants.{MOST_SESSIONS}
use Rattle.tr_terms.specs.declared.session_mode.SessionMode.{SessionMode}
use Rattle.uuid.specs.Text.{parsed}

module _ {S : Type 0} where
  pub create-bad_uuid : (w : World S) (name uuid : Text) (offset : ℤ) (mode : SessionMode) → is_name name ≡ true
      → parsed uuid ≡ None → create_step w name uuid offset mode ≡ refusal_step w fault.BadUuid
  create-bad_uuid w name uuid offset mode named none = rw (named, none) refl

  pub create-taken : (w : World S) (name uuid : Text) (offset : ℤ) (mode : SessionMode) (u : List ℕ) → is_name name ≡ true
      → parsed uuid ≡ Some u → is_some (session_named name w) ≡ true
      → create_step w name uuid offset mode ≡ refusal_step w (fault.Session NameTaken)
  create-taken w name uuid offset mode u named good taken = rw (named, good, taken) refl

  pub create-full : (w : World S) (name uuid : Text) (offset : ℤ) (mode : SessionMode) (u : List ℕ) → is_name name ≡ true
      → parsed uuid ≡ Some u → is_some (session_named name w) ≡ false → nat_le MOST_SESSIONS (length w.sessions) ≡ true
      → create_step w name uuid offset mode ≡ refusal_step w (fault.Session TooMany)
  create-full w name uuid offset mode u named good free full = rw (named, good, free, full) refl

  pub create-new : (w : World S) (name uuid : Text) (offset : ℤ) (mode : SessionMode) (u : List ℕ) → is_name name ≡ true
      → parsed uuid ≡ Some u → is_some (session_named name w) ≡ false → nat_le MOST_SESSIONS (length w.sessions) ≡ false
      → create_step w name uuid offset mode
      ≡ reply_step (with_new name (declaring w.events (new_session u offset mode)) w) (codes "created " ++ name)
  create-new w name uuid offset mode u named good free few = rw (named, good, free, few) refl

-- what isn't there is none, seen through the reference
pub none_copied : {X : Type 0} → (o : Option (Bor X)) (p : Option X) → option_copied o ≡ p → is_some o ≡ false → p ≡ None
none_copied None p same free = sym same
none_copied (Some x) p same free = absurd (true≢false free)

pub none_from : {X : Type 0} → (o : Option X) → (((x : X) × (o ≡ Some x)) → ⊥) → o ≡ None
none_from None h = refl
none_from (Some x) h = absurd (h (x, refl))

-- an offset is the same as it is passed
pub as_passed : (P : ℤ → Type 0) (z : ℤ) → IsOffset z → P (to_z w32 (of_z w32 z)) → P z
as_passed P z within h = let back : to_z w32 (of_z w32 z) ≡ z = omega (arith, ints, within.0, within.1) in subst P back h
