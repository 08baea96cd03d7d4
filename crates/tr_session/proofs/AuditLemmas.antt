-- An audit of a stream's files finds what its history says.
use Rattle.std.proofs.Common.{◌≡◌, ◌⊎◌, ℕ, ◌+◌, ◌≤◌, zero, suc, Bool, true, false, cond, List, [], ◌∷◌, ◌++◌, map, Option, Some, None, refl, sym, ◌∙◌, ap, ap₂, subst, inl, inr, arith}
use Rattle.std.proofs.lemmas.Bool.Decides.{nat_tests}
use Rattle.std.proofs.lemmas.Grind.{common_steps, flat_map-append}
use Rattle.std.proofs.lemmas.List.{append-nil, map-append}
use Rattle.std.specs.List.{AllByRecursion, flat_map, last_or}
use Rattle.std.specs.Cmp.Lexicographic.{pointwise}
use Rattle.std.specs.Prelude.{IsTrue, ◌&&◌, nat_eq, unwrap_or}
use Rattle.tr_book.specs.Parts.{PartState}
use Rattle.tr_chunk.specs.Audit.{numbers_of, serials_of, records_of_packets, belongs, BelongsTo, numbers_rise_after, all_of, AreAudited, audit_of, is_in_runs}
use Rattle.tr_packet.specs.Order.{follows, serials_rise_after}
use Rattle.tr_packet.specs.Packets.{Contents, IsPacket}
use Rattle.tr_record.proofs.RecordLemmas.{all_append}
use Rattle.tr_record.specs.Records.{Entry}
use Rattle.tr_ring.specs.ClosedBuffer.{ClosedBuffer}
use Rattle.tr_session.proofs.GapLemmas.{low, gaps-are, numbers-packets}
use Rattle.tr_session.specs.Audits.{NoneReleased, left_below, left_of, packets_by_part, packets_in, files_of, LastIs, was_removed, kept_above}
use Rattle.tr_stream.proofs.Consistency.{RecordsRise-lower, next_serial-lower, rising-where}
use Rattle.tr_stream.proofs.FateLemmas.{parts-are}
use Rattle.tr_stream.proofs.ModelLemmas.{well_run}
use Rattle.tr_stream.proofs.ReleaseForms.{unreleased}
use Rattle.tr_stream.specs.Chunks.{chunk_of, closed_part, kept_of, packet_of, part_if, parts_below}
use Rattle.tr_stream.specs.Consistent.{Rising}
use Rattle.tr_stream.specs.Fates.{all_parts}
use Rattle.tr_stream.specs.History.{History, is_kept, is_released, offered_of}
use Rattle.tr_stream.specs.Runs.{history_after_events}
use Rattle.tr_stream.specs.Sound.{IsSound, IsUsable, CanBeSent}
use Rattle.tr_stream.specs.StandsFor.{StandsFor}
use Rattle.tr_stream.specs.State.{StreamState}
use Rattle.tr_stream.specs.Steps.{new_history}
use Rattle.tr_stream.specs.WellFormed.{IsWellFormed, RecordsRise, next_serial, chunks_below}
use Rattle.tr_stream.specs.declared.config.StreamConfig.{StreamConfig}
use Rattle.tr_stream.specs.declared.events.StreamEvent.{StreamEvent}

abbrev pub records_behind : List ClosedBuffer → List Entry
records_behind bs = flat_map (λ (b : ClosedBuffer). b.records) bs

-- what packets say, by their sub-buffers
discarded-packets : (c : StreamConfig) (bs : List ClosedBuffer)
    → map (λ (p : Contents). p.head.lost) (map (packet_of c) bs) ≡ map (λ (b : ClosedBuffer). b.discarded) bs
discarded-packets c [] = refl
discarded-packets c (b ∷ bs) = ap (λ (ns : List ℕ). b.discarded ∷ ns) (discarded-packets c bs)

pub records-packets : (c : StreamConfig) (bs : List ClosedBuffer) → records_of_packets (map (packet_of c) bs) ≡ records_behind bs
records-packets c [] = refl
records-packets c (b ∷ bs) = ap (λ (es : List Entry). b.records ++ es) (records-packets c bs)

pub last-is : (A : Type 0) (c : StreamConfig) (bs : List ClosedBuffer) → LastIs (audit_of {A = A} (map (packet_of c) bs)) bs
last-is A c bs = record {
  seq = ap (last_or None) (numbers-packets c bs);
  serial = ap (λ (es : List Entry). last_or None (serials_of es)) (records-packets c bs);
  discarded = ap (λ (ns : List ℕ). unwrap_or (last_or None ns) 0) (discarded-packets c bs);
}

-- the packets of all parts are those of the kept blocks whose chunks weren't released
pub packets-below : (c : StreamConfig) (k : ℕ) (h : History)
    → all_of (map (λ (p : PartState). p.packets) (parts_below c k h)) ≡ map (packet_of c) (left_below k h)
packets-below c zero h = refl
packets-below c (suc k) h =
    let part = closed_part c k h in
    ap all_of (map-append (λ (p : PartState). p.packets) (parts_below c k h) (part ∷ []))
    ∙ flat_map-append (λ (ps : List Contents). ps) (map (λ (p : PartState). p.packets) (parts_below c k h)) (part.packets ∷ [])
    ∙ both (packets-below c k h) (append-nil part.packets ∙ of-part (is_released k h))
    ∙ sym (map-append (packet_of c) (left_below k h) (cond (is_released k h) [] (chunk_of k h)))
  where
    both : {xs ys zs ws : List Contents} → xs ≡ ys → zs ≡ ws → xs ++ zs ≡ ys ++ ws
    both e f = cc

    of-part : (b : Bool) → (part_if b k (map (packet_of c) (chunk_of k h))).packets ≡ map (packet_of c) (cond b [] (chunk_of k h))
    of-part true = refl
    of-part false = refl

pub packets-left : (s : StreamState) (h : History) → StandsFor s h → packets_in s ≡ map (packet_of s.config) (left_of h)
packets-left s h is =
    ap (λ (parts : List PartState). all_of (map (λ (p : PartState). p.packets) parts)) (parts-are s h is)
    ∙ packets-below s.config (suc h.cuts) h

-- if no chunk was released, all is left
pub all-left : (k : ℕ) (h : History) → NoneReleased k h → left_below k h ≡ chunks_below k h
all-left zero h none = refl
all-left (suc k) h none =
    let here : is_released k h ≡ false = none k (omega arith) in
    ap₂ (λ (bs ds : List ClosedBuffer). bs ++ ds) (all-left k h (λ j l. none j (omega (arith, l))))
    (ap (λ (b : Bool). cond b [] (chunk_of k h)) here)

pub packets-are : (s : StreamState) (h : History) → StandsFor s h → NoneReleased h.cuts h
    → packets_in s ≡ map (packet_of s.config) (kept_of h)
packets-are s h is none =
    let current : is_released h.cuts h ≡ false = unreleased h.cuts h.cuts h.released (omega arith) is.model.released in
    packets-left s h is
    ∙ ap (map (packet_of s.config))
    (ap₂ (λ (bs ds : List ClosedBuffer). bs ++ ds) (all-left h.cuts h none)
    (ap (λ (b : Bool). cond b [] (chunk_of h.cuts h)) current) ∙ is.model.chunks)

-- some of these, in order
abbrev pub IsAmong : List ClosedBuffer → List ClosedBuffer → Type 0
IsAmong [] ds = Unit {0}
IsAmong (b ∷ bs) [] = ⊥
IsAmong (b ∷ bs) (d ∷ ds) = ((b ≡ d) × IsAmong bs ds) ⊎ IsAmong (b ∷ bs) ds

may-follow : (before : Option ℕ) (least n : ℕ) → low before ≤ least → least ≤ n → follows before n ≡ true
may-follow None least n le more = refl
may-follow (Some b) least n le more = grind (arith, nat_tests, le, more)

-- numbers that rise
pub rise-numbers : (before : Option ℕ) (seq serial : ℕ) (bs : List ClosedBuffer) (next_seq next : ℕ) → low before ≤ seq
    → Rising seq serial bs next_seq next → numbers_rise_after before (map (λ (b : ClosedBuffer). b.seq) bs) ≡ true
rise-numbers before seq serial [] next_seq next le rise = refl
rise-numbers before seq serial (b ∷ bs) next_seq next le rise =
    let here = may-follow before seq b.seq le rise.0 in
    let rest = rise-numbers (Some b.seq) (b.seq + 1) (next_serial serial b.records) bs next_seq next (omega arith) rise.2 in
    rw (here, rest)

-- serials that rise, in a packet and after it
rise-entries : (before : Option ℕ) (serial : ℕ) (es rest : List Entry) → low before ≤ serial → RecordsRise serial es
    → ((after : Option ℕ) → low after ≤ next_serial serial es → serials_rise_after after rest ≡ true)
    → serials_rise_after before (es ++ rest) ≡ true
rise-entries before serial [] rest le rise then = then before le
rise-entries before serial (e ∷ es) rest le rise then =
    let here = may-follow before serial e.serial le rise.0 in
    let more = rise-entries (Some e.serial) (e.serial + 1) es rest (omega arith) rise.1 then in
    rw (here, more)

pub rise-records : (before : Option ℕ) (seq serial : ℕ) (bs : List ClosedBuffer) (next_seq next : ℕ) → low before ≤ serial
    → Rising seq serial bs next_seq next → serials_rise_after before (records_behind bs) ≡ true
rise-records before seq serial [] next_seq next le rise = refl
rise-records before seq serial (b ∷ bs) next_seq next le rise =
    rise-entries before serial b.records (records_behind bs) le rise.1
    (λ after more. rise-records after (b.seq + 1) (next_serial serial b.records) bs next_seq next more rise.2)

pub kept-rise : (h : History) → IsWellFormed h → Rising 0 0 (kept_of h) h.filling.number (offered_of h)
kept-rise h well = rising-where is_kept 0 0 0 0 0 h.closed h.filling.number (offered_of h) well.numbers well.covers
    (omega arith) (omega arith) (omega (arith, well.filling)) (omega arith)

-- lower bounds may fall
rising-lower : (seq low serial least : ℕ) (bs : List ClosedBuffer) (next_seq next : ℕ) → low ≤ seq → least ≤ serial
    → Rising seq serial bs next_seq next → Rising low least bs next_seq next
rising-lower seq low serial least [] next_seq next le le' rise = (omega (arith, le, rise.0), omega (arith, le', rise.1))
rising-lower seq low serial least (b ∷ bs) next_seq next le le' rise = (
  omega (arith, le, rise.0),
  RecordsRise-lower serial least b.records le' rise.1,
  rising-lower (b.seq + 1) (b.seq + 1) (next_serial serial b.records) (next_serial least b.records) bs next_seq next (omega arith)
      (next_serial-lower serial least b.records le') rise.2,
)

next-above : (serial : ℕ) (es : List Entry) → RecordsRise serial es → serial ≤ next_serial serial es
next-above serial [] rise = omega arith
next-above serial (e ∷ es) rise = let more = next-above (e.serial + 1) es rise.1 in omega (arith, more, rise.0)

-- some of those that rise, rise
pub rising-among : (bs ds : List ClosedBuffer) (seq serial next_seq next : ℕ) → IsAmong bs ds → Rising seq serial ds next_seq next
    → Rising seq serial bs next_seq next
rising-among [] [] seq serial next_seq next among rise = rise
rising-among [] (d ∷ ds) seq serial next_seq next among rise =
    let rest = rising-among [] ds (d.seq + 1) (next_serial serial d.records) next_seq next tt rise.2 in
    let above = next-above serial d.records rise.1 in
    (omega (arith, rise.0, rest.0), omega (arith, above, rest.1))
rising-among (b ∷ bs) [] seq serial next_seq next among rise = absurd among
rising-among (b ∷ bs) (d ∷ ds) seq serial next_seq next (inl here) rise =
    let rest = rising-among bs ds (d.seq + 1) (next_serial serial d.records) next_seq next here.1 rise.2 in
    subst (λ (x : ClosedBuffer). Rising seq serial (x ∷ bs) next_seq next) (sym here.0) (rise.0, rise.1, rest)
rising-among (b ∷ bs) (d ∷ ds) seq serial next_seq next (inr later) rise =
    rising-lower (d.seq + 1) seq (next_serial serial d.records) serial (b ∷ bs) next_seq next (omega (arith, rise.0))
    (next-above serial d.records rise.1)
    (rising-among (b ∷ bs) ds (d.seq + 1) (next_serial serial d.records) next_seq next later rise.2)

among-none : (ds : List ClosedBuffer) → IsAmong [] ds
among-none ds = tt

pub among-all : (bs : List ClosedBuffer) → IsAmong bs bs
among-all [] = tt
among-all (b ∷ bs) = inl (refl, among-all bs)

among-append : (bs ds cs es : List ClosedBuffer) → IsAmong bs ds → IsAmong cs es → IsAmong (bs ++ cs) (ds ++ es)
among-append [] [] cs es one two = two
among-append [] (d ∷ ds) [] es one two = tt
among-append [] (d ∷ ds) (c ∷ cs) es one two = inr (among-append [] ds (c ∷ cs) es tt two)
among-append (b ∷ bs) [] cs es one two = absurd one
among-append (b ∷ bs) (d ∷ ds) cs es (inl here) two = inl (here.0, among-append bs ds cs es here.1 two)
among-append (b ∷ bs) (d ∷ ds) cs es (inr later) two = inr (among-append (b ∷ bs) ds cs es later two)

left-among : (k : ℕ) (h : History) → IsAmong (left_below k h) (chunks_below k h)
left-among zero h = tt
left-among (suc k) h =
    among-append (left_below k h) (chunks_below k h) (cond (is_released k h) [] (chunk_of k h)) (chunk_of k h) (left-among k h)
    (either (is_released k h))
  where
    either : (b : Bool) → IsAmong (cond b [] (chunk_of k h)) (chunk_of k h)
    either true = among-none (chunk_of k h)
    either false = among-all (chunk_of k h)

left-rise : (h : History) → IsWellFormed h → Rising 0 0 (left_of h) h.filling.number (offered_of h)
left-rise h well =
    rising-among (left_of h) (chunks_below (suc h.cuts) h) 0 0 h.filling.number (offered_of h) (left-among (suc h.cuts) h)
    (subst (λ (bs : List ClosedBuffer). Rising 0 0 bs h.filling.number (offered_of h)) (sym well.chunks) (kept-rise h well))

-- a packet belongs to its own stream
same-bytes : (xs : List ℕ) → pointwise nat_eq xs xs ≡ true
same-bytes [] = refl
same-bytes (x ∷ xs) = grind (arith, nat_tests, common_steps, same-bytes xs)

own : (c : StreamConfig) (b : ClosedBuffer) → belongs c.uuid c.number (packet_of c b) ≡ true
own c b = let same = same-bytes c.uuid in grind (arith, nat_tests, same)

pub all-own : (c : StreamConfig) (bs : List ClosedBuffer) → AllByRecursion (BelongsTo c.uuid c.number) (map (packet_of c) bs)
all-own c [] = tt
all-own c (b ∷ bs) = (own c b, all-own c bs)

-- what was consumed can be sent
all-sent : (parts : List PartState) → AllByRecursion CanBeSent parts → AllByRecursion IsPacket (all_of (map (λ (p : PartState). p.packets) parts))
all-sent [] sent = tt
all-sent (p ∷ parts) sent = all_append IsPacket p.packets (all_of (map (λ (p : PartState). p.packets) parts)) sent.0 (all-sent parts sent.1)

pub passes : (s : StreamState) (h : History) → IsSound s → StandsFor s h → AreAudited s.config.uuid s.config.number (files_of s) (packets_by_part s)
passes s h sound is =
    let same = packets-left s h is in
    let rise = left-rise h is.model in
    record {
      texts = refl;
      sound = record {
        packets = all-sent (all_parts s.parts)
            (all_append CanBeSent s.parts.closed (s.parts.current ∷ []) sound.closed_sent (sound.current_sent, tt));
        belong = subst (λ (ps : List Contents). AllByRecursion (BelongsTo s.config.uuid s.config.number) ps) (sym same)
            (all-own s.config (left_of h));
        numbers = subst (λ (ps : List Contents). IsTrue (numbers_rise_after None (numbers_of ps))) (sym same)
            (subst (λ (ns : List ℕ). IsTrue (numbers_rise_after None ns)) (sym (numbers-packets s.config (left_of h)))
            (rise-numbers None 0 0 (left_of h) h.filling.number (offered_of h) (omega arith) rise));
        serials = subst (λ (ps : List Contents). IsTrue (serials_rise_after None (records_of_packets ps))) (sym same)
            (subst (λ (es : List Entry). IsTrue (serials_rise_after None es))
            (sym (records-packets s.config (left_of h)))
            (rise-records None 0 0 (left_of h) h.filling.number (offered_of h) (omega arith) rise));
      };
    }

-- the gaps are what was dropped or cleared below the last kept block
pub gaps-within : (A : Type 0) (c : StreamConfig) (h : History) (n : ℕ) → IsWellFormed h
    → is_in_runs n (audit_of {A = A} (map (packet_of c) (kept_of h))).gaps
    ≡ (was_removed n h.closed && kept_above n h.closed)
gaps-within A c h n well = gaps-are c n h.closed well.numbers well.order

module _ {A : Type 0} where
  -- in every run
  pub gaps-removed : (c : StreamConfig) (events : List (StreamEvent A)) (n : ℕ) → IsUsable c
      → (let h = history_after_events c events new_history
      in is_in_runs n (audit_of {A = A} (map (packet_of c) (kept_of h))).gaps
      ≡ (was_removed n h.closed && kept_above n h.closed))
  gaps-removed c events n usable =
      let h = history_after_events c events new_history in
      gaps-within A c h n (well_run c events usable)
