-- A run of a session, by what its streams hold and by their histories.
use Rattle.std.proofs.Common.{◌≡◌, ◌∙◌, ℕ, zero, suc, true, false, List, [], ◌∷◌, ◌++◌, Option, Some, None, Result, Ok, Err, ap, refl, subst, sym}
use Rattle.std.specs.Prelude.{option_map, slice_get}
use Rattle.tr_session.proofs.Agreement.{ResultsAgree, agree-alone_started, agree-alone_stopped, agree-begun, agree-channel, agree-cut_step, agree-finished, agree-offer, agree-switch, agree-take, agree-thread, same-cut_step, same-offer, same-snap, same-take}
use Rattle.tr_session.proofs.ClearAgreement.{agree-clear, same-clear}
use Rattle.tr_session.proofs.ReleaseAgreement.{agree-release, same-release}
use Rattle.tr_session.proofs.OwnSteps.{moved, own-events}
use Rattle.tr_session.specs.Agreement.{AllAgree, SessionsAgree}
use Rattle.tr_session_book.specs.Book.{SessionBookState}
use Rattle.tr_session_book.specs.BookSteps.{book_start_answer, book_stop_answer, book_switch_answer, book_rotate_begin_answer, book_rotate_finish_answer}
use Rattle.tr_session.specs.Events.{session_after_event, session_after_events, session_answer, session_answers, own_steps}
use Rattle.tr_session.specs.Runs.{and_then, configure_channel, configure_channels, session_of_config, add_threads, HasRun}
use Rattle.tr_session.specs.Session.{SessionOf, declaring, new_session}
use Rattle.tr_session.specs.Steps.{session_add_channel, session_add_stream, session_add_thread, with_book}
use Rattle.tr_session_book.specs.declared.channel.Channel.{Channel}
use Rattle.tr_session.specs.declared.config.ChannelConfig.{ChannelConfig}
use Rattle.tr_session.specs.declared.config.Config.{Config}
use Rattle.tr_session.specs.declared.events.Answer.{Answer}
use Rattle.tr_session.specs.declared.events.Answer.TheVariants as answer
use Rattle.tr_session.specs.declared.events.Event.{Event}
use Rattle.tr_session.specs.declared.events.Event.TheVariants.{Offer, Take, Cut, Clear, Release, Snap, Start, Stop, SessionStart, SessionStop, RotateBegin, RotateFinish}
use Rattle.tr_session_book.specs.declared.faults.SessionFault.{SessionFault}
use Rattle.tr_stream.specs.Rules.{Traced, Agrees, by_state, by_history}
use Rattle.tr_stream.specs.Runs.{history_after_events}
use Rattle.tr_stream.specs.StandsFor.{StandsFor}
use Rattle.tr_stream.specs.State.{StreamState}
use Rattle.tr_stream.specs.Steps.{new_history}
use Rattle.tr_stream.specs.declared.events.StreamEvent.{StreamEvent}

-- ---- events

module _ {A : Type 0} (a : SessionOf StreamState) (b : SessionOf Traced) (is : SessionsAgree a b) where
  same-event : (e : Event A) → session_answer by_state e a ≡ session_answer by_history e b
  same-event (Offer i moment id payload) = ap (λ r. answer.Offer r) (same-offer a b is i moment id payload)
  same-event (Take i) = ap (λ r. answer.Take r) (same-take a b is i)
  same-event (Cut i) = ap (λ r. answer.Cut r) (same-cut_step a b is i)
  same-event (Clear i) = ap (λ r. answer.Clear r) (same-clear a b is i)
  same-event (Release i k) = ap (λ r. answer.Release r) (same-release a b is i k)
  same-event (Snap i moment) = ap (λ r. answer.Snap r) (same-snap a b is i moment)
  same-event (Start i) = ap (λ (c : SessionBookState). answer.Start (book_switch_answer true i c)) is.book
  same-event (Stop i) = ap (λ (c : SessionBookState). answer.Stop (book_switch_answer false i c)) is.book
  same-event (SessionStart moment) = ap (λ (c : SessionBookState). answer.SessionStart (book_start_answer c)) is.book
  same-event SessionStop = ap (λ (c : SessionBookState). answer.SessionStop (book_stop_answer c)) is.book
  same-event (RotateBegin moment) = ap (λ (c : SessionBookState). answer.RotateBegin (book_rotate_begin_answer c)) is.book
  same-event RotateFinish = ap (λ (c : SessionBookState). answer.RotateFinish (book_rotate_finish_answer c)) is.book

  agree-event : (e : Event A) → SessionsAgree (session_after_event by_state e a) (session_after_event by_history e b)
  agree-event (Offer i moment id payload) = agree-offer a b is i moment id payload
  agree-event (Take i) = agree-take a b is i
  agree-event (Cut i) = agree-cut_step a b is i
  agree-event (Clear i) = agree-clear a b is i
  agree-event (Release i k) = agree-release a b is i k
  agree-event (Snap i moment) = is
  agree-event (Start i) = agree-switch a b is true i
  agree-event (Stop i) = agree-switch a b is false i
  agree-event (SessionStart moment) = agree-alone_started a b is moment
  agree-event SessionStop = agree-alone_stopped a b is
  agree-event (RotateBegin moment) = agree-begun a b is moment
  agree-event RotateFinish = agree-finished a b is

same-answers : {A : Type 0} (es : List (Event A)) (a : SessionOf StreamState) (b : SessionOf Traced) → SessionsAgree a b
    → session_answers by_state es a ≡ session_answers by_history es b
same-answers [] a b is = refl
same-answers (e ∷ es) a b is =
    ap (λ (x : Answer _). x ∷ session_answers by_state es (session_after_event by_state e a)) (same-event a b is e)
    ∙ ap (λ (xs : List (Answer _)). session_answer by_history e b ∷ xs)
    (same-answers es (session_after_event by_state e a) (session_after_event by_history e b) (agree-event a b is e))

agree-events : {A : Type 0} (es : List (Event A)) (a : SessionOf StreamState) (b : SessionOf Traced) → SessionsAgree a b
    → SessionsAgree (session_after_events by_state es a) (session_after_events by_history es b)
agree-events [] a b is = is
agree-events (e ∷ es) a b is = agree-events es (session_after_event by_state e a) (session_after_event by_history e b) (agree-event a b is e)

-- ---- configurations

agree-then : (r : Result (SessionOf StreamState) SessionFault) (q : Result (SessionOf Traced) SessionFault)
    (f : SessionOf StreamState → Result (SessionOf StreamState) SessionFault)
    (g : SessionOf Traced → Result (SessionOf Traced) SessionFault)
    → ResultsAgree r q → ((a : SessionOf StreamState) (b : SessionOf Traced) → SessionsAgree a b → ResultsAgree (f a) (g b))
    → ResultsAgree (and_then r f) (and_then q g)
agree-then (Ok a) (Ok b) f g is step = step a b is
agree-then (Ok a) (Err y) f g is step = absurd is
agree-then (Err x) (Ok b) f g is step = absurd is
agree-then (Err x) (Err y) f g is step = is

agree-threads : (channel : List ℕ) (n : ℕ) (a : SessionOf StreamState) (b : SessionOf Traced) → SessionsAgree a b
    → ResultsAgree (add_threads by_state channel n a) (add_threads by_history channel n b)
agree-threads channel zero a b is = is
agree-threads channel (suc n) a b is =
    agree-then (add_threads by_state channel n a) (add_threads by_history channel n b) (session_add_thread by_state channel)
    (session_add_thread by_history channel) (agree-threads channel n a b is)
    (λ c d agree. agree-thread c d agree channel)

agree-channels : (cs : List ChannelConfig) (a : SessionOf StreamState) (b : SessionOf Traced) → SessionsAgree a b
    → ResultsAgree (configure_channels by_state cs a) (configure_channels by_history cs b)
agree-channels [] a b is = is
agree-channels (c ∷ cs) a b is =
    agree-then (configure_channel by_state c a) (configure_channel by_history c b) (configure_channels by_state cs) (configure_channels by_history cs)
    (agree-then (session_add_channel c.name c.size c.count c.mode a) (session_add_channel c.name c.size c.count c.mode b)
    (add_threads by_state c.name c.threads) (add_threads by_history c.name c.threads)
    (agree-channel a b is c.name c.size c.count c.mode) (λ d e agree. agree-threads c.name c.threads d e agree))
    (λ d e agree. agree-channels cs d e agree)

agree-configured : {A : Type 0} (config : Config A) → ResultsAgree (session_of_config by_state config) (session_of_config by_history config)
agree-configured config = agree-channels config.channels.items
    (declaring config.events (new_session config.uuid config.offset config.mode))
    (declaring config.events (new_session config.uuid config.offset config.mode)) (record { book = refl; streams = tt; made = tt })

-- a configuration is refused alike
pub refused-alike : {A : Type 0} (config : Config A) (fault : SessionFault) → session_of_config by_state config ≡ Err fault
    → session_of_config by_history config ≡ Err fault
refused-alike config fault is =
    go (session_of_config by_history config) refl
    (subst (λ (r : Result (SessionOf StreamState) SessionFault). ResultsAgree r (session_of_config by_history config)) is
    (agree-configured config))
  where
    go : (q : Result (SessionOf Traced) SessionFault) → session_of_config by_history config ≡ q → ResultsAgree (Err fault) q
        → session_of_config by_history config ≡ Err fault
    go (Ok b) e agree = absurd agree
    go (Err other) e agree = e ∙ ap (λ (f : SessionFault). Err f) (sym agree)

-- ---- nothing was done to the streams of a configuration

abbrev AllBegin : List Traced → Type 0
AllBegin [] = Unit {0}
AllBegin (t ∷ ts) = (t.history ≡ new_history) × AllBegin ts

abbrev BeginsSo : Result (SessionOf Traced) SessionFault → Type 0
BeginsSo (Ok s) = AllBegin s.streams
BeginsSo (Err fault) = Unit {0}

begin-push : (ts : List Traced) (t : Traced) → AllBegin ts → t.history ≡ new_history → AllBegin (ts ++ t ∷ [])
begin-push [] t all is = (is, tt)
begin-push (u ∷ us) t all is = (all.0, begin-push us t all.1 is)

begin-then : (r : Result (SessionOf Traced) SessionFault) (f : SessionOf Traced → Result (SessionOf Traced) SessionFault)
    → BeginsSo r → ((s : SessionOf Traced) → AllBegin s.streams → BeginsSo (f s)) → BeginsSo (and_then r f)
begin-then (Ok s) f is step = step s is
begin-then (Err fault) f is step = tt

begin-book : (ts : List Traced) (r : Result SessionBookState SessionFault) → AllBegin ts → BeginsSo (with_book ts r)
begin-book ts (Ok b) is = is
begin-book ts (Err fault) is = tt

begin-stream : (channel : Option Channel) (place : Result ℕ SessionFault) (s : SessionOf Traced) → AllBegin s.streams
    → BeginsSo (session_add_stream by_history channel place s)
begin-stream channel (Err fault) s is = tt
begin-stream None (Ok place) s is = tt
begin-stream (Some c) (Ok place) s is = begin-push s.streams _ is refl

begin-threads : (channel : List ℕ) (n : ℕ) (s : SessionOf Traced) → AllBegin s.streams → BeginsSo (add_threads by_history channel n s)
begin-threads channel zero s is = is
begin-threads channel (suc n) s is =
    begin-then (add_threads by_history channel n s) (session_add_thread by_history channel) (begin-threads channel n s is)
    (λ t all. begin-stream _ _ t all)

begin-channels : (cs : List ChannelConfig) (s : SessionOf Traced) → AllBegin s.streams → BeginsSo (configure_channels by_history cs s)
begin-channels [] s is = is
begin-channels (c ∷ cs) s is =
    begin-then (configure_channel by_history c s) (configure_channels by_history cs)
    (begin-then (session_add_channel c.name c.size c.count c.mode s) (add_threads by_history c.name c.threads)
    (begin-book s.streams _ is) (λ t all. begin-threads c.name c.threads t all))
    (λ t all. begin-channels cs t all)

-- ---- the whole run

found-agree : (i : ℕ) (ss : List StreamState) (ts : List Traced) (s : StreamState) → AllAgree ss ts
    → slice_get ss i ≡ Some s → (t : Traced) × (slice_get ts i ≡ Some t) × Agrees s t
found-agree i [] [] s is at = absurd cc
found-agree i [] (t ∷ ts) s is at = absurd is
found-agree i (x ∷ xs) [] s is at = absurd is
found-agree zero (x ∷ xs) (t ∷ ts) s is at = let same : x ≡ s = cc in (t, refl, subst (λ (y : StreamState). Agrees y t) same is.0)
found-agree (suc i) (x ∷ xs) (t ∷ ts) s is at = found-agree i xs ts s is.1 at

found-begin : (i : ℕ) (ts : List Traced) (t : Traced) → AllBegin ts → slice_get ts i ≡ Some t → t.history ≡ new_history
found-begin i [] t is at = absurd cc
found-begin zero (u ∷ us) t is at = let same : u ≡ t = cc in subst (λ (v : Traced). v.history ≡ new_history) same is.0
found-begin (suc i) (u ∷ us) t is at = found-begin i us t is.1 at

module _ {A : Type 0} where
  -- a stream that stands for its history stands for the run of its own steps
  stands-own : (steps : List (StreamEvent A)) (s : StreamState) (t : Traced) (o : Option Traced) → Agrees s t
      → option_map (moved A steps) o ≡ Some t → ((u : Traced) → o ≡ Some u → u.history ≡ new_history)
      → StandsFor s (history_after_events s.config steps new_history)
  stands-own steps s t None is at begins = absurd cc
  stands-own steps s t (Some u) is at begins =
      let same : moved A steps u ≡ t = cc in
      let history : history_after_events u.config steps u.history ≡ t.history = ap (λ (v : Traced). v.history) same in
      let config : u.config ≡ s.config = ap (λ (v : Traced). v.config) same ∙ sym is.config in
      subst (λ h. StandsFor s h)
      (sym history ∙ ap (λ h. history_after_events u.config steps h) (begins u refl)
      ∙ ap (λ c. history_after_events c steps new_history) config) is.stands

  pub has-run : (config : Config A) (events : List (Event A)) (begin now : SessionOf StreamState)
      (answers : List (Answer A)) → session_of_config by_state config ≡ Ok begin
      → (answers ≡ session_answers by_state events begin) × (now ≡ session_after_events by_state events begin) → HasRun config events now answers
  has-run config events begin now answers is ran =
      go (session_of_config by_history config) refl
      (subst (λ (r : Result (SessionOf StreamState) SessionFault). ResultsAgree r (session_of_config by_history config))
      is (agree-configured config))
      (begin-channels config.channels.items (declaring config.events (new_session config.uuid config.offset config.mode)) tt)
    where
      go : (q : Result (SessionOf Traced) SessionFault) → session_of_config by_history config ≡ q
          → ResultsAgree (Ok begin) q → BeginsSo (session_of_config by_history config) → HasRun config events now answers
      go (Err fault) e agree all = absurd agree
      go (Ok b) e agree all =
          let after = subst (λ (s : SessionOf StreamState). SessionsAgree s (session_after_events by_history events b))
          (sym ran.1) (agree-events events begin b agree) in
          let starts : AllBegin b.streams = subst BeginsSo e all in
          record {
            begin = b;
            begins = e;
            answers_are = ran.0 ∙ same-answers events begin b agree;
            agrees = after;
            streams = λ i t at.
                let found = found-agree i now.streams (session_after_events by_history events b).streams t after.streams at in
                stands-own (own_steps i events b.book) t found.0 (slice_get b.streams i) found.2
                (sym (own-events A i events b) ∙ found.1) (λ u here. found-begin i b.streams u starts here);
          }
