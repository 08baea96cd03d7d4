-- What a load comes to.
use Rattle.std.specs.Prelude.{◌≡◌, ℕ, ◌<◌, ◌*◌, List, [], ◌∷◌, length, slice_index_or, Option, Result, Ok, Err, IfOk, IsOk, IfSome, All}
use Rattle.tr_load.specs.Plans.{load_session}
use Rattle.tr_load.specs.Works.{work_of}
use Rattle.tr_threads.specs.Feeding.{IsFed}
use Rattle.tr_shared.specs.Calls.{IsOffered}
use Rattle.tr_pool.specs.Logs.{AgreeBelow, IsFirstWrong, report_of}
use Rattle.tr_threads.specs.declared.items.Item.{Item}
use Rattle.tr_pool.specs.declared.log.Log.{Log}
use Rattle.tr_pool.specs.declared.report.Mismatch.{Mismatch}
use Rattle.tr_pool.specs.declared.report.Report.{Report}
use Rattle.tr_seats.specs.Books.{PlanState}
use Rattle.tr_seats.specs.Settling.{IsSessionOf}
use Rattle.tr_seats.specs.Slots.{ProducerState, new_producer}
use Rattle.tr_session.specs.Session.{SessionOf}
use Rattle.tr_session_book.specs.Book.{SessionBookState}
use Rattle.tr_session_book.specs.declared.state.State.TheVariants.{Inactive}
use Rattle.tr_stream.specs.State.{StreamState}

abbrev pub log_in : ℕ → List Item → Log
log_in stream items = record { stream = stream; items = items }

-- what a feeder logged: its whole work, since its stream accepted each offer
abbrev pub IsLogOf : ℕ → ℕ → Log → Type 0
IsLogOf records t log = (log.items ≡ work_of records t)
    × ((p : ProducerState) × (log.stream ≡ p.number) × IsFed IsOffered (new_producer t) (work_of records t) p log.items)

-- a log of each feeder, in order of number
abbrev pub AreLogs : (threads records : ℕ) → List Log → Type 0
AreLogs threads records logs = (length logs ≡ threads)
    × ((t : ℕ) (log : Log) → t < threads → IsLogOf records t (slice_index_or logs t log))

-- each log has as many items
abbrev pub AllHave : ℕ → List Log → Type 0
AllHave records logs = All (λ (log : Log). length log.items ≡ records) logs

-- a session was stopped, and rotated once: its one archive begins at 0 and ends at this moment
abbrev pub IsEnded : ℕ → SessionBookState → Type 0
IsEnded moment book = (book.state ≡ Inactive) × (book.archives ≡ record { id = 0; begin = 0; end = moment } ∷ [])

-- the streams and the logs agree, and these are the sums; or this is what is wrong first
abbrev pub IsJudged : List Log → List StreamState → Result Report Mismatch → Type 0
IsJudged logs streams (Ok report) = AgreeBelow logs streams (length streams) × (report ≡ report_of streams)
IsJudged logs streams (Err mismatch) = IsFirstWrong logs streams mismatch

-- a session is a load's: it is that of a load's plan, and has a stream for each thread
pub record IsOfLoad (threads : ℕ) (session : SessionOf StreamState) : Type 0 where
  pub plan : PlanState
  pub made : load_session threads ≡ Ok plan.session
  pub planned : IsSessionOf plan session
  pub many : length session.streams ≡ threads

-- nothing was cleared
abbrev pub IsUncleared : Result Report Mismatch → Type 0
IsUncleared outcome = IfOk outcome (λ (report : Report). report.cleared ≡ 0)

-- a load's session was ended at the moment that is the number of records, its streams are judged by what its feeders logged and
-- agree with it, nothing of it was cleared, and a watcher, if there was one, learned of as many records as were offered
pub record IsLoaded (threads records : ℕ) (session : SessionOf StreamState) (outcome : Result Report Mismatch) (watched : Option ℕ) : Type 0 where
  pub own : IsOfLoad threads session
  pub ended : IsEnded records session.book
  pub logs : List Log
  pub are_logs : AreLogs threads records logs
  pub judged : IsJudged logs session.streams outcome
  pub agree : IsOk outcome
  pub offered : IfOk outcome (λ (report : Report). report.offered ≡ threads * records)
  pub uncleared : IsUncleared outcome
  pub learned : IfSome watched (λ (n : ℕ). n ≡ threads * records)
