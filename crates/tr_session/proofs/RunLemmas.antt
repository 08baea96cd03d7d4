-- Configurations and lists of events, one more at the end.
use Rattle.std.proofs.Common.{◌≡◌, ◌∙◌, ℕ, ◌+◌, ◌≤◌, ◌<◌, ◌-◌, zero, suc, List, [], ◌∷◌, ◌++◌, length, drop, get_or, Result, Ok, Err, ap, arith, sym}
use Rattle.std.proofs.lemmas.List.{append_assoc, append-nil, drop_all, drop_more}
use Rattle.tr_session.specs.Events.{session_after_event, session_after_events, session_answer, session_answers}
use Rattle.tr_session.specs.Runs.{and_then, configure_channel, configure_channels, add_threads}
use Rattle.tr_session.specs.Session.{SessionOf, declaring, new_session}
use Rattle.tr_events.specs.Events.{Declarations}
use Rattle.std.specs.Prelude.{ℤ}
use Rattle.tr_terms.specs.declared.session_mode.SessionMode.{SessionMode}
use Rattle.tr_session.specs.Steps.{session_add_thread, session_declare}
use Rattle.tr_session.specs.declared.config.ChannelConfig.{ChannelConfig}
use Rattle.tr_session.specs.declared.events.Answer.{Answer}
use Rattle.tr_session.specs.declared.events.Event.{Event}
use Rattle.tr_session_book.specs.declared.faults.SessionFault.{SessionFault}
use Rattle.tr_stream.specs.Rules.{StreamRules}

-- the events of a new session
pub declared-new : {S : Type 0} (uuid : List ℕ) (offset : ℤ) (mode : SessionMode) (events : Declarations) (s now : SessionOf S)
    → s ≡ new_session uuid offset mode → session_declare events s ≡ Ok now → now ≡ declaring events (new_session uuid offset mode)
declared-new {S = S} uuid offset mode events s now new did =
    let made : (let r : Result (SessionOf S) SessionFault = Ok (declaring events (new_session uuid offset mode)) in r) ≡ Ok now =
    ap (session_declare events) (sym new) ∙ did in
    let same : declaring events (new_session uuid offset mode) ≡ now = cc in
    sym same

-- only a failed allocation refuses them
pub declares-new : {S : Type 0} (uuid : List ℕ) (offset : ℤ) (mode : SessionMode) (events : Declarations) (s : SessionOf S)
    (fault : SessionFault) → s ≡ new_session uuid offset mode → session_declare events s ≡ Err fault → ⊥
declares-new {S = S} uuid offset mode events s fault new did =
    let made : (let r : Result (SessionOf S) SessionFault = Ok (declaring events (new_session uuid offset mode)) in r) ≡ Err fault =
    ap (session_declare events) (sym new) ∙ did in
    cc

module _ {S : Type 0} (rules : StreamRules S) (channel : List ℕ) where
  abbrev Added : Type 0
  Added = Result (SessionOf S) SessionFault

  one-more : (n : ℕ) (s : SessionOf S) (r : Added) → add_threads rules channel n s ≡ r
      → add_threads rules channel (n + 1) s ≡ and_then r (session_add_thread rules channel)
  one-more n s r is =
      let one : n + 1 ≡ suc n = omega arith in
      ap (λ (m : ℕ). add_threads rules channel m s) one ∙ ap (λ (q : Added). and_then q (session_add_thread rules channel)) is

  -- one more thread
  pub threads-more : (n : ℕ) (s now next : SessionOf S) → add_threads rules channel n s ≡ Ok now
      → session_add_thread rules channel now ≡ Ok next → add_threads rules channel (n + 1) s ≡ Ok next
  threads-more n s now next so is = one-more n s (Ok now) so ∙ is

  -- a refusal stays
  refused-on : (fault : SessionFault) (s : SessionOf S) (n more : ℕ) → add_threads rules channel n s ≡ Err fault
      → add_threads rules channel (n + more) s ≡ Err fault
  refused-on fault s n zero is = let none : n + 0 ≡ n = omega arith in ap (λ (m : ℕ). add_threads rules channel m s) none ∙ is
  refused-on fault s n (suc more) is =
      let next : n + suc more ≡ (n + more) + 1 = omega arith in
      ap (λ (m : ℕ). add_threads rules channel m s) next ∙ one-more (n + more) s (Err fault) (refused-on fault s n more is)

  pub threads-refused : (fault : SessionFault) (k n : ℕ) (s now : SessionOf S) → add_threads rules channel k s ≡ Ok now
      → session_add_thread rules channel now ≡ Err fault → k < n → add_threads rules channel n s ≡ Err fault
  threads-refused fault k n s now so is within =
      let rest : (k + 1) + (n - (k + 1)) ≡ n = omega (arith, within) in
      sym (ap (λ (m : ℕ). add_threads rules channel m s) rest) ∙ refused-on fault s (k + 1) (n - (k + 1)) (one-more k s (Ok now) so ∙ is)

module _ {X : Type 0} where
  -- the element that comes next
  front : (xs : List X) (i : ℕ) (x : X) → i < length xs → x ≡ get_or xs i x → drop i xs ≡ x ∷ drop (i + 1) xs
  front xs i x within item = drop_more xs i x within ∙ ap (λ (y : X). y ∷ drop (i + 1) xs) (sym item)

module _ {S : Type 0} (rules : StreamRules S) where
  -- one more channel, of those that are left
  pub channels-more : (cs : List ChannelConfig) (i : ℕ) (c : ChannelConfig) (now : SessionOf S)
      (r all : Result (SessionOf S) SessionFault) → i < length cs → c ≡ get_or cs i c
      → configure_channels rules (drop i cs) now ≡ all → configure_channel rules c now ≡ r
      → and_then r (configure_channels rules (drop (i + 1) cs)) ≡ all
  channels-more cs i c now r all within item so is =
      ap (λ (q : Result (SessionOf S) SessionFault). and_then q (configure_channels rules (drop (i + 1) cs))) (sym is)
      ∙ ap (λ (ds : List ChannelConfig). configure_channels rules ds now) (sym (front cs i c within item)) ∙ so

  pub channels-end : (cs : List ChannelConfig) (i : ℕ) (now : SessionOf S) (all : Result (SessionOf S) SessionFault)
      → length cs ≤ i → configure_channels rules (drop i cs) now ≡ all → all ≡ Ok now
  channels-end cs i now all past so = sym so ∙ ap (λ (ds : List ChannelConfig). configure_channels rules ds now) (drop_all i cs past)

module _ {S A : Type 0} (rules : StreamRules S) where
  -- a run over the first events: the others lead from here to where all lead from the start
  pub record RunsSo (events : List (Event A)) (start : SessionOf S) (i : ℕ) (now : SessionOf S) (answers : List (Answer A)) : Type 0 where
    pub told : answers ++ session_answers rules (drop i events) now ≡ session_answers rules events start
    pub leads : session_after_events rules (drop i events) now ≡ session_after_events rules events start

  pub runs-more : (events : List (Event A)) (start : SessionOf S) (i : ℕ) (now next : SessionOf S)
      (before answers : List (Answer A)) (e : Event A) (a : Answer A) → i < length events → e ≡ get_or events i e
      → RunsSo events start i now before → a ≡ session_answer rules e now → next ≡ session_after_event rules e now
      → answers ≡ before ++ a ∷ [] → RunsSo events start (i + 1) next answers
  runs-more events start i now next before answers e a within item so told after pushed = record {
    told =
        ap (λ (bs : List (Answer A)). bs ++ session_answers rules (drop (i + 1) events) next) pushed
        ∙ append_assoc before (a ∷ []) (session_answers rules (drop (i + 1) events) next)
        ∙ ap (λ (t : SessionOf S). before ++ a ∷ session_answers rules (drop (i + 1) events) t) after
        ∙ ap (λ (b : Answer A). before ++ b ∷ session_answers rules (drop (i + 1) events) (session_after_event rules e now)) told
        ∙ ap (λ (es : List (Event A)). before ++ session_answers rules es now) (sym (front events i e within item)) ∙ so.told;
    leads = ap (session_after_events rules (drop (i + 1) events)) after
        ∙ ap (λ (es : List (Event A)). session_after_events rules es now) (sym (front events i e within item)) ∙ so.leads;
  }

  pub runs-end : (events : List (Event A)) (start : SessionOf S) (i : ℕ) (now : SessionOf S) (answers : List (Answer A))
      → length events ≤ i → RunsSo events start i now answers
      → (answers ≡ session_answers rules events start) × (now ≡ session_after_events rules events start)
  runs-end events start i now answers past so =
      let none = drop_all i events past in (
        sym (append-nil answers) ∙ ap (λ (es : List (Event A)). answers ++ session_answers rules es now) (sym none) ∙ so.told,
        ap (λ (es : List (Event A)). session_after_events rules es now) (sym none) ∙ so.leads,
      )
