-- What feeders logged beside what a settled session holds.
use Rattle.std.specs.Prelude.{◌≡◌, ℕ, ◌<◌, ◌≤◌, ◌==◌, ◌++◌, List, [], ◌∷◌, ◌⊎◌, length, Option, Some, None, find, slice_get}
use Rattle.std.specs.List.{AllByRecursion, flat_map, sum_by}
use Rattle.tr_book.specs.Parts.{PartState}
use Rattle.tr_packet.specs.Packets.{Contents}
use Rattle.tr_threads.specs.declared.items.Item.{Item}
use Rattle.tr_pool.specs.declared.log.Log.{Log}
use Rattle.tr_pool.specs.declared.report.Mismatch.{Mismatch}
use Rattle.tr_pool.specs.declared.report.Mismatch.TheVariants.{WrongRecord, LogLength}
use Rattle.tr_pool.specs.declared.report.Report.{Report}
use Rattle.tr_record.specs.Records.{Entry}
use Rattle.tr_stream.specs.Calls.{ring_records}
use Rattle.tr_stream.specs.Fates.{all_parts}
use Rattle.tr_stream.specs.State.{StreamState, in_parts, in_ring}

-- the records of packets, and of parts
abbrev pub packet_records : List Contents → List Entry
packet_records packets = flat_map (λ (p : Contents). p.records) packets

abbrev pub parts_records : List PartState → List Entry
parts_records parts = flat_map (λ (p : PartState). packet_records p.packets) parts

-- the records that a stream holds: its parts', and its ring's
abbrev pub held_records : StreamState → List Entry
held_records s = parts_records (all_parts s.parts) ++ ring_records s.ring

-- a record is that of an item: the same id and payload, and no lesser moment
abbrev pub IsRecordOf : Item → Entry → Type 0
IsRecordOf item e = (item.id ≡ e.id) × (item.payload ≡ e.payload) × (item.moment ≤ e.moment)

-- a record is that of the item at its serial
abbrev pub IsLogged : List Item → Entry → Type 0
IsLogged items e = (item : Item) × (slice_get items e.serial ≡ Some item) × IsRecordOf item e

-- one of the records has this serial and is not logged
abbrev pub HasWrong : List Item → ℕ → List Entry → Type 0
HasWrong items n [] = ⊥
HasWrong items n (e ∷ es) = ((e.serial ≡ n) × (¬ IsLogged items e)) ⊎ HasWrong items n es

-- the least serial of the records that are not logged, if any
abbrev pub IsLeastWrong : List Item → List Entry → Option ℕ → Type 0
IsLeastWrong items es None = AllByRecursion (IsLogged items) es
IsLeastWrong items es (Some n) = HasWrong items n es × AllByRecursion (λ (e : Entry). e.serial < n → IsLogged items e) es

-- the first log of a stream
abbrev pub log_of : List Log → ℕ → Option Log
log_of logs i = find (λ (l : Log). l.stream == i) logs

-- it has as many items as the stream has offers
abbrev pub HasLog : List Log → ℕ → StreamState → Log → Type 0
HasLog logs i s log = (log_of logs i ≡ Some log) × (length log.items ≡ s.counters.offered)

-- a stream's log has an item for each offer, and each record that the stream holds is logged
abbrev pub Agrees : List Log → ℕ → StreamState → Type 0
Agrees logs i s = (log : Log) × HasLog logs i s log × AllByRecursion (IsLogged log.items) (held_records s)

-- all streams below a number agree with their logs
abbrev pub AgreeBelow : List Log → List StreamState → ℕ → Type 0
AgreeBelow logs streams n = (i : ℕ) (s : StreamState) → i < n → slice_get streams i ≡ Some s → Agrees logs i s

-- what is wrong with a stream: its log's length, or else a record of which no lesser serial is wrong
abbrev pub IsWrong : List Log → StreamState → Mismatch → Type 0
IsWrong logs s (LogLength i) = ¬ ((log : Log) × HasLog logs i s log)
IsWrong logs s (WrongRecord i n) = (log : Log) × HasLog logs i s log × IsLeastWrong log.items (held_records s) (Some n)

abbrev pub stream_of_mismatch : Mismatch → ℕ
stream_of_mismatch (LogLength i) = i
stream_of_mismatch (WrongRecord i n) = i

-- the first stream at fault, and what is wrong with it
abbrev pub IsFirstWrong : List Log → List StreamState → Mismatch → Type 0
IsFirstWrong logs streams m = (s : StreamState) × (slice_get streams (stream_of_mismatch m) ≡ Some s)
    × AgreeBelow logs streams (stream_of_mismatch m) × IsWrong logs s m

-- the sums over streams
abbrev pub report_of : List StreamState → Report
report_of streams = record {
  offered = sum_by (λ (s : StreamState). s.counters.offered) streams;
  discarded = sum_by (λ (s : StreamState). s.ring.discarded) streams;
  overwritten = sum_by (λ (s : StreamState). s.counters.overwritten) streams;
  in_ring = sum_by (λ (s : StreamState). in_ring s.ring) streams;
  in_chunks = sum_by (λ (s : StreamState). in_parts s.parts) streams;
  cleared = sum_by (λ (s : StreamState). s.counters.cleared) streams;
}
