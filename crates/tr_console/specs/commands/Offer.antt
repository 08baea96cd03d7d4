-- `offer`: a record for a stream.
use Rattle.std.specs.Fmt.{decimal}
use Rattle.std.specs.Prelude.{List, codes, replicate, ℕ, ◌++◌, ◌∷◌}
use Rattle.tr_replies.specs.LineFaults.{from_step}
use Rattle.tr_console.specs.Steps.{Step, call_step, session_step}
use Rattle.tr_replies.specs.Text.{Text}
use Rattle.tr_console.specs.World.{World}
use Rattle.tr_session.specs.Steps.{session_after_offer, session_offer_answer}
use Rattle.tr_stream.specs.Rules.{StreamRules}
use Rattle.tr_stream.specs.declared.answers.Offered.TheVariants.{Discarded, Stored, StoredOver}
use Rattle.tr_stream.specs.declared.answers.Offered.{Offered}

-- the text, and this number of bytes `a` after it
abbrev pub payload_of : Text → ℕ → List ℕ
payload_of text fill = text ++ replicate fill 97

-- what an offer did
abbrev pub offered_text : Offered → Text
offered_text (Stored serial seq) = codes "stored " ++ (decimal serial ++ (codes " in " ++ decimal seq))
offered_text (StoredOver serial seq gone_seq gone_count) =
    codes "stored " ++ (decimal serial ++ (codes " in " ++ (decimal seq
    ++ (codes " over " ++ (decimal gone_seq ++ (32 ∷ decimal gone_count))))))
offered_text (Discarded serial) = codes "discarded " ++ decimal serial

abbrev pub offer_step : {S : Type 0} → StreamRules S → World S → Text → (stream moment id : ℕ) → Text → ℕ → Step S
offer_step rules w name stream moment id text fill =
    session_step w name (λ s.
    let payload = payload_of text fill in
    call_step w name offered_text (from_step (session_offer_answer rules stream moment id payload s))
    (session_after_offer rules stream moment id payload s))
