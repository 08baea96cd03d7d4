-- One more call at the end of a run.
use Rattle.std.proofs.Common.{◌≡◌, ℕ, ◌+◌, ◌<◌, List, [], ◌∷◌, ◌++◌, length, get_or, take, Result, Ok, Err, IsOk, refl, ap, sym, subst, ◌∙◌}
use Rattle.std.proofs.lemmas.List.{take_more}
use Rattle.tr_stream.specs.History.{History}
use Rattle.tr_stream.specs.Runs.{history_after_event, history_answer, history_after_events, history_answers}
use Rattle.tr_stream.specs.StandsFor.{StandsFor}
use Rattle.tr_stream.specs.State.{StreamState}
use Rattle.tr_terms.specs.SessionModes.{by_session_mode}
use Rattle.tr_stream.specs.declared.answers.ClearFault.{ClearFault}
use Rattle.tr_stream.specs.declared.answers.Cleared.{Cleared}
use Rattle.tr_stream.specs.declared.answers.CutDone.{CutDone}
use Rattle.tr_stream.specs.declared.answers.CutFault.{CutFault}
use Rattle.tr_terms.specs.declared.session_mode.SessionMode.{SessionMode}
use Rattle.tr_terms.specs.declared.session_mode.SessionMode.TheVariants.{Local, Snapshot}
use Rattle.tr_stream.specs.declared.config.StreamConfig.{StreamConfig}
use Rattle.tr_stream.specs.declared.events.StreamAnswer.{StreamAnswer}
use Rattle.tr_stream.specs.declared.events.StreamAnswer.TheVariants as answer
use Rattle.tr_stream.specs.declared.events.StreamEvent.{StreamEvent}
use Rattle.tr_stream.specs.declared.answers.Released.{Released}
use Rattle.tr_stream.specs.declared.answers.ReleaseFault.{ReleaseFault}

-- the session lets one cut through as it does another
pub cut-let : (session : SessionMode) (a b : CutDone) (fault : CutFault)
    → (let r : Result CutDone CutFault = by_session_mode session (Ok a) (Err fault) in IsOk r)
    → (let r : Result CutDone CutFault = by_session_mode session (Ok b) (Err fault) in IsOk r)
cut-let Local a b fault is = is
cut-let Snapshot a b fault is = is

module _ {A : Type 0} where
  pub clear-answered : (a b : Result Cleared ClearFault) → a ≡ b → (let r : StreamAnswer A = answer.Clear a in r) ≡ answer.Clear b
  clear-answered a b e = ap (λ (x : Result Cleared ClearFault). (let r : StreamAnswer A = answer.Clear x in r)) e

  pub release-answered : (a b : Result Released ReleaseFault) → a ≡ b → (let r : StreamAnswer A = answer.Release a in r) ≡ answer.Release b
  release-answered a b e = ap (λ (x : Result Released ReleaseFault). (let r : StreamAnswer A = answer.Release x in r)) e

  pub cut-answered : (a b : Result CutDone CutFault) → a ≡ b → (let r : StreamAnswer A = answer.Cut a in r) ≡ answer.Cut b
  cut-answered a b e = ap (λ (x : Result CutDone CutFault). (let r : StreamAnswer A = answer.Cut x in r)) e

  after_events-push : (c : StreamConfig) (es : List (StreamEvent A)) (e : StreamEvent A) (h : History)
      → history_after_events c (es ++ e ∷ []) h ≡ history_after_event c e (history_after_events c es h)
  after_events-push c [] e h = refl
  after_events-push c (x ∷ es) e h = after_events-push c es e (history_after_event c x h)

  answers_to-push : (c : StreamConfig) (es : List (StreamEvent A)) (e : StreamEvent A) (h : History)
      → history_answers c (es ++ e ∷ []) h ≡ history_answers c es h ++ history_answer c e (history_after_events c es h) ∷ []
  answers_to-push c [] e h = refl
  answers_to-push c (x ∷ es) e h =
      ap (λ (more : List (StreamAnswer A)). history_answer c x h ∷ more)
      (answers_to-push c es e (history_after_event c x h))

  -- the run over the first calls
  pub record RunsSo (config : StreamConfig) (events : List (StreamEvent A)) (start : History) (stream : StreamState)
      (answers : List (StreamAnswer A)) : Type 0 where
    pub with_config : stream.config ≡ config
    pub stands : StandsFor stream (history_after_events config events start)
    pub told : answers ≡ history_answers config events start

  pub runs-more : (c : StreamConfig) (events : List (StreamEvent A)) (i : ℕ) (e : StreamEvent A) (h : History)
      (old new : StreamState) (before answers : List (StreamAnswer A)) (a : StreamAnswer A) → i < length events
      → e ≡ get_or events i e → RunsSo c (take i events) h old before → new.config ≡ old.config
      → ((g : History) → StandsFor old g
      → (a ≡ history_answer old.config e g) × StandsFor new (history_after_event old.config e g))
      → answers ≡ before ++ a ∷ [] → RunsSo c (take (i + 1) events) h new answers
  runs-more c events i e h old new before answers a within item so kept step pushed =
      let more : take (i + 1) events ≡ take i events ++ e ∷ [] =
      take_more events i e within ∙ ap (λ (x : StreamEvent A). take i events ++ x ∷ []) (sym item) in
      let g = history_after_events c (take i events) h in
      let stepped = subst (λ (c' : StreamConfig). (a ≡ history_answer c' e g) × StandsFor new (history_after_event c' e g))
      so.with_config (step g so.stands) in
      subst (λ (es : List (StreamEvent A)). RunsSo c es h new answers) (sym more) record {
        with_config = kept ∙ so.with_config;
        stands = subst (λ (g : History). StandsFor new g) (sym (after_events-push c (take i events) e h)) stepped.1;
        told = let p = answers_to-push c (take i events) e h in let q = stepped.0 in let r = so.told in cc;
      }
