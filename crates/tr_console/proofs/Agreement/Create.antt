-- `create` by what streams hold, and by their histories.
use Rattle.std.proofs.Common.{Bool, List, None, Option, Some, ap, false, is_some, length, refl, sym, true, ℕ, ℤ, ◌∙◌, ◌≡◌}
use Rattle.std.specs.Prelude.{nat_le}
use Rattle.tr_console.proofs.WorldAgreement.{StepsAgree, found-agree, same-found, worlds-length, worlds-push}
use Rattle.tr_console.specs.Agreement.{WorldsAgree}
use Rattle.tr_replies.specs.Text.{Text}
use Rattle.tr_console.specs.World.{World, session_named}
use Rattle.tr_console.specs.commands.Create.{create_named_step, create_step}
use Rattle.tr_session.specs.Agreement.{SessionsAgree}
use Rattle.tr_session.specs.Session.{declaring, new_session}
use Rattle.tr_stream.specs.Rules.{Traced}
use Rattle.tr_stream.specs.State.{StreamState}
use Rattle.tr_terms.specs.Names.{is_name}
use Rattle.tr_terms.specs.declared.limits.TheConstants.{MOST_SESSIONS}
use Rattle.tr_terms.specs.declared.session_mode.SessionMode.{SessionMode}
use Rattle.uuid.specs.Text.{parsed}

created-agree : (v : World StreamState) (w : World Traced) (name : Text) (offset : ℤ) (mode : SessionMode) (uuid : List ℕ)
    → WorldsAgree v w → StepsAgree (create_named_step v name offset mode uuid) (create_named_step w name offset mode uuid)
created-agree v w name offset mode uuid is = go (is_some (session_named name v)) (nat_le MOST_SESSIONS (length v.sessions)) refl refl
  where
    go : (taken full : Bool) → is_some (session_named name v) ≡ taken → nat_le MOST_SESSIONS (length v.sessions) ≡ full
        → StepsAgree (create_named_step v name offset mode uuid) (create_named_step w name offset mode uuid)
    go true full x y =
        let u : is_some (session_named name w) ≡ true =
        sym (same-found (session_named name v) (session_named name w) (found-agree name v w is)) ∙ x in
        rw (x, u) (record { world = is; text = refl; is_refused = refl })
    go false true x y =
        let u : is_some (session_named name w) ≡ false =
        sym (same-found (session_named name v) (session_named name w) (found-agree name v w is)) ∙ x in
        let z : nat_le MOST_SESSIONS (length w.sessions) ≡ true = ap (nat_le MOST_SESSIONS) (sym (worlds-length v w is)) ∙ y in
        rw (x, u, y, z) (record { world = is; text = refl; is_refused = refl })
    go false false x y =
        let u : is_some (session_named name w) ≡ false =
        sym (same-found (session_named name v) (session_named name w) (found-agree name v w is)) ∙ x in
        let z : nat_le MOST_SESSIONS (length w.sessions) ≡ false = ap (nat_le MOST_SESSIONS) (sym (worlds-length v w is)) ∙ y in
        let new : SessionsAgree (declaring v.events (new_session uuid offset mode)) (declaring w.events (new_session uuid offset mode)) =
        record { book = ap (λ events. (declaring {S = Traced} events (new_session uuid offset mode)).book) is.events; streams = tt; made = tt } in
        rw (x, u, y, z) (record {
          world = worlds-push v w name (declaring v.events (new_session uuid offset mode)) (declaring w.events (new_session uuid offset mode))
              is new;
          text = refl;
          is_refused = refl;
        })

pub create-agree : (v : World StreamState) (w : World Traced) (name uuid : Text) (offset : ℤ) (mode : SessionMode)
    → WorldsAgree v w → StepsAgree (create_step v name uuid offset mode) (create_step w name uuid offset mode)
create-agree v w name uuid offset mode is = go (is_name name) (parsed uuid) refl refl
  where
    go : (is_named : Bool) (id : Option (List ℕ)) → is_name name ≡ is_named → parsed uuid ≡ id
        → StepsAgree (create_step v name uuid offset mode) (create_step w name uuid offset mode)
    go false id x y = rw x (record { world = is; text = refl; is_refused = refl })
    go true None x y = rw (x, y) (record { world = is; text = refl; is_refused = refl })
    go true (Some u) x y = rw (x, y) (created-agree v w name offset mode u is)
