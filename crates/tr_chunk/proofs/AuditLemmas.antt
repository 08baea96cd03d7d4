-- What an audit says after one more packet.
use Rattle.std.proofs.Common.{◌≡◌, ℕ, ◌+◌, ◌<◌, ◌≤◌, Bool, true, false, not, cond, List, [], ◌∷◌, ◌++◌, length, get_or, map, take, drop, Option, Some, None, refl, sym, ap, subst, ◌∙◌, append-nil, append_assoc, length-append, arith, Bor}
use Rattle.std.specs.Prelude.{IsTrue, unwrap_or}
use Rattle.std.specs.List.{last_or}
use Rattle.std.proofs.lemmas.List.Concat.{flat_map-append}
use Rattle.std.proofs.lemmas.List.{map-append, get_or-map, length-map, take_at, take_all, take_more}
use Rattle.std.proofs.lemmas.Option.{slice_get-get_or}
use Rattle.std.proofs.Math.Seq.{take-add}
use Rattle.tr_record.specs.Records.{Entry}
use Rattle.tr_record.proofs.RecordLemmas.{all_push}
use Rattle.tr_packet.specs.Decoding.{Begins}
use Rattle.tr_packet.specs.Order.{follows, serials_rise_after, serials_rise}
use Rattle.tr_packet.specs.Packets.{Contents, IsPacket, packet_text, packet_size}
use Rattle.tr_packet.proofs.OrderLemmas.{both, first_holds, second_holds}
use Rattle.tr_packet.proofs.TextLemmas.{length-packet_text}
use Rattle.tr_chunk.specs.Files.{packets_text}
use Rattle.tr_chunk.specs.Audit.{numbers_of, serials_of, records_of_packets, last_number, last_serial, gap_before, gaps_behind, capped_count, audit_of, belongs, BelongsTo, numbers_rise_after, AreOfStream, starts_above, packet_cause, after_packet, Tells, StopsIn, StopsAt, AreAudited, all_of}
use Rattle.tr_chunk.specs.declared.audit_fault.AuditCause.{AuditCause}
use Rattle.tr_chunk.specs.declared.audit_fault.AuditCause.TheVariants.{NumberRepeat, SerialRepeat, Foreign}
use Rattle.tr_chunk.specs.declared.stream_audit.StreamAudit.{StreamAudit}
use Rattle.tr_chunk.proofs.FileLemmas.{packets_text-push}
use Rattle.tr_terms.specs.declared.limits.TheConstants.{LARGEST_PACKET}

-- ---- lists

last_or-append : {X : Type 0} (o : Option X) (xs ys : List X) → last_or o (xs ++ ys) ≡ last_or (last_or o xs) ys
last_or-append o [] ys = refl
last_or-append o (x ∷ xs) ys = last_or-append (Some x) xs ys

numbers_rise_after-push : (before : Option ℕ) (ns : List ℕ) (n : ℕ) → IsTrue (numbers_rise_after before ns)
    → IsTrue (follows (last_or before ns) n) → IsTrue (numbers_rise_after before (ns ++ n ∷ []))
numbers_rise_after-push before [] n rise after = both (follows before n) true after refl
numbers_rise_after-push before (m ∷ ms) n rise after =
    both (follows before m) (numbers_rise_after (Some m) (ms ++ n ∷ [])) (first_holds (follows before m) (numbers_rise_after (Some m) ms) rise)
    (numbers_rise_after-push (Some m) ms n (second_holds (follows before m) (numbers_rise_after (Some m) ms) rise) after)

serials_rise_after-append : (before : Option ℕ) (es fs : List Entry) → IsTrue (serials_rise_after before es)
    → IsTrue (serials_rise_after (last_or before (serials_of es)) fs) → IsTrue (serials_rise_after before (es ++ fs))
serials_rise_after-append before [] fs rise after = after
serials_rise_after-append before (e ∷ es) fs rise after =
    both (follows before e.serial) (serials_rise_after (Some e.serial) (es ++ fs))
    (first_holds (follows before e.serial) (serials_rise_after (Some e.serial) es) rise)
    (serials_rise_after-append (Some e.serial) es fs (second_holds (follows before e.serial) (serials_rise_after (Some e.serial) es) rise) after)

rise_above : (before : Option ℕ) (es : List Entry) → IsTrue (starts_above before es) → IsTrue (serials_rise es)
    → IsTrue (serials_rise_after before es)
rise_above before [] above rise = refl
rise_above before (e ∷ es) above rise = both (follows before e.serial) (serials_rise_after (Some e.serial) es) above rise

gaps_behind-push : (before : Option ℕ) (ns : List ℕ) (n : ℕ)
    → gaps_behind before (ns ++ n ∷ []) ≡ gaps_behind before ns ++ gap_before (last_or before ns) n
gaps_behind-push before [] n = append-nil (gap_before before n)
gaps_behind-push before (m ∷ ms) n =
    ap (λ (l : List (ℕ × ℕ)). gap_before before m ++ l) (gaps_behind-push (Some m) ms n)
    ∙ sym (append_assoc (gap_before before m) (gaps_behind (Some m) ms) (gap_before (last_or (Some m) ms) n))

records_of_packets-push : (ps : List Contents) (p : Contents) → records_of_packets (ps ++ p ∷ []) ≡ records_of_packets ps ++ p.records
records_of_packets-push ps p =
    flat_map-append (λ (q : Contents). q.records) ps (p ∷ [])
    ∙ ap (λ (l : List Entry). records_of_packets ps ++ l) (append-nil p.records)

-- ---- one more packet

some_is_none : {A : Type 0} (x : A) → Some x ≡ None → ⊥
some_is_none x e = cc

no_cause : (test : Bool) (c : AuditCause) (o : Option AuditCause) → cond (not test) (Some c) o ≡ None → (test ≡ true) × (o ≡ None)
no_cause true c o e = (refl, e)
no_cause false c o e = absurd (some_is_none c e)

abbrev made : {A : Type 0} → ℕ → ℕ → List (ℕ × ℕ) → Option ℕ → Option ℕ → ℕ → StreamAudit A
made packets records gaps seq serial discarded =
    record {
      packets = packets;
      records = records;
      gaps = gaps;
      last_seq = seq;
      last_serial = serial;
      last_lost = discarded;
    }

same_audit : {A : Type 0} (p p' r r' : ℕ) (g g' : List (ℕ × ℕ)) (q q' s s' : Option ℕ) (l l' : ℕ) → p ≡ p' → r ≡ r' → g ≡ g'
    → q ≡ q' → s ≡ s' → l ≡ l' → made {A = A} p r g q s l ≡ made p' r' g' q' s' l'
same_audit p p' r r' g g' q q' s s' l l' packets records gaps seq serial discarded = rw (packets, records, gaps, seq, serial, discarded) refl

counted-more : (n m : ℕ) → capped_count (n + m) ≡ capped_count (capped_count n + m)
counted-more n m = omega arith

audit_of-push : {A : Type 0} (ps : List Contents) (p : Contents) → audit_of {A = A} (ps ++ p ∷ []) ≡ after_packet (audit_of ps) p
audit_of-push ps p =
    let ns = numbers_of ps in
    let es = records_of_packets ps in
    let push_records = records_of_packets-push ps p in
    let push_numbers : numbers_of (ps ++ p ∷ []) ≡ ns ++ p.head.seq ∷ [] = map-append (λ (q : Contents). q.head.seq) ps (p ∷ []) in
    same_audit _ _ _ _ _ _ _ _ _ _ _ _
    (ap capped_count (length-append ps (p ∷ [])) ∙ counted-more (length ps) 1)
    (ap (λ (l : List Entry). capped_count (length l)) push_records ∙ ap capped_count (length-append es p.records)
    ∙ counted-more (length es) (length p.records))
    (ap (gaps_behind None) push_numbers ∙ gaps_behind-push None ns p.head.seq)
    (ap (last_or None) push_numbers ∙ last_or-append None ns (p.head.seq ∷ []))
    (ap (λ (l : List Entry). last_or None (serials_of l)) push_records
    ∙ ap (last_or None) (map-append (λ (e : Entry). e.serial) es p.records)
    ∙ last_or-append None (serials_of es) (serials_of p.records))
    (ap (λ (l : List ℕ). unwrap_or (last_or None l) 0) (map-append (λ (q : Contents). q.head.lost) ps (p ∷ []))
    ∙ ap (λ (o : Option ℕ). unwrap_or o 0) (last_or-append None (map (λ (q : Contents). q.head.lost) ps) (p.head.lost ∷ [])))

of_stream-push : (uuid : List ℕ) (stream : ℕ) (ps : List Contents) (p : Contents) → AreOfStream uuid stream ps → IsPacket p
    → packet_cause uuid stream (last_number ps) (last_serial ps) p ≡ None
    → AreOfStream uuid stream (ps ++ p ∷ [])
of_stream-push uuid stream ps p sound packet none =
    let number = follows (last_number ps) p.head.seq in
    let serial = starts_above (last_serial ps) p.records in
    let third = cond (not serial) (Some SerialRepeat) None in
    let a = no_cause (belongs uuid stream p) Foreign (cond (not number) (Some NumberRepeat) third) none in
    let b = no_cause number NumberRepeat third a.1 in
    let c = no_cause serial SerialRepeat None b.1 in
    record {
      packets = all_push IsPacket ps p sound.packets packet;
      belong = all_push (BelongsTo uuid stream) ps p sound.belong a.0;
      numbers =
          subst (λ (l : List ℕ). IsTrue (numbers_rise_after None l)) (sym (map-append (λ (q : Contents). q.head.seq) ps (p ∷ [])))
          (numbers_rise_after-push None (numbers_of ps) p.head.seq sound.numbers b.0);
      serials =
          subst (λ (l : List Entry). IsTrue (serials_rise l)) (sym (records_of_packets-push ps p))
          (serials_rise_after-append None (records_of_packets ps) p.records sound.serials
          (rise_above (last_serial ps) p.records c.0 packet.records.serials));
    }

-- an audit of packets and one more, which is not at fault
pub tells_more : {A : Type 0} (uuid : List ℕ) (stream : ℕ) (ps : List Contents) (p : Contents) (a b : StreamAudit A)
    → Tells uuid stream ps a → IsPacket p
    → packet_cause uuid stream a.last_seq a.last_serial p ≡ None → b ≡ after_packet a p → Tells uuid stream (ps ++ p ∷ []) b
tells_more {A = A} uuid stream ps p a b tells packet none after =
    let none_by : packet_cause uuid stream (last_number ps) (last_serial ps) p ≡ None =
    subst (λ (x : StreamAudit A). packet_cause uuid stream x.last_seq x.last_serial p ≡ None) tells.is none in
    record {
      sound = of_stream-push uuid stream ps p tells.sound packet none_by;
      is = after ∙ ap (λ (x : StreamAudit A). after_packet x p) tells.is ∙ sym (audit_of-push ps p);
    }

-- ---- packets at the front

pub front_within : (p : Contents) (n : ℕ) (bytes : List ℕ) → Begins p (drop n bytes) bytes → n ≡ packet_size p → (0 < n) × (n ≤ length bytes)
front_within p n bytes b size =
    let text = length-packet_text p b.packet.uuid in
    (omega (arith, size), omega (arith, size, text, ap length b.parts, length-append (packet_text p) (drop n bytes)))

-- how far a piece was audited
pub record Reached {A : Type 0} (uuid : List ℕ) (stream : ℕ) (before : List Contents) (bytes : List ℕ) (at : ℕ) (a : StreamAudit A) : Type 0 where
  pub here : List Contents
  pub texts : take at bytes ≡ packets_text here
  pub tells : Tells uuid stream (before ++ here) a

text_in_front : (p : Contents) (n : ℕ) (bytes : List ℕ) → Begins p (drop n bytes) bytes → n ≡ packet_size p → take n bytes ≡ packet_text p
text_in_front p n bytes b size = ap (take n) b.parts ∙ take_at (packet_text p) (drop n bytes) n (length-packet_text p b.packet.uuid ∙ sym size)

pub reached_more : {A : Type 0} (uuid : List ℕ) (stream : ℕ) (before : List Contents) (bytes rest : List ℕ) (at n : ℕ)
    (p : Contents) (a b : StreamAudit A) → Reached uuid stream before bytes at a
    → rest ≡ drop at bytes → Begins p (drop n rest) rest → n ≡ packet_size p
    → packet_cause uuid stream a.last_seq a.last_serial p ≡ None → b ≡ after_packet a p
    → Reached uuid stream before bytes (at + n) b
reached_more {A = A} uuid stream before bytes rest at n p a b reached rest-is begins size none after = record {
  here = reached.here ++ p ∷ [];
  texts =
      take-add at n bytes ∙ ap (λ (t : List ℕ). t ++ take n (drop at bytes)) reached.texts
      ∙ ap (λ (t : List ℕ). packets_text reached.here ++ t) (ap (take n) (sym rest-is) ∙ text_in_front p n rest begins size)
      ∙ sym (packets_text-push reached.here p);
  tells =
      subst (λ (l : List Contents). Tells uuid stream l b) (append_assoc before reached.here (p ∷ []))
      (tells_more uuid stream (before ++ reached.here) p a b reached.tells begins.packet none after);
}

-- ---- pieces

-- how many pieces were audited
pub record Passed {A : Type 0} (uuid : List ℕ) (stream : ℕ) (pieces : List (List ℕ)) (i : ℕ) (a : StreamAudit A) : Type 0 where
  pub before : List (List Contents)
  pub texts : take i pieces ≡ map packets_text before
  pub tells : Tells uuid stream (all_of before) a

pub all_of-push : (pss : List (List Contents)) (ps : List Contents) → all_of (pss ++ ps ∷ []) ≡ all_of pss ++ ps
all_of-push pss ps = flat_map-append (λ (l : List Contents). l) pss (ps ∷ []) ∙ ap (λ (l : List Contents). all_of pss ++ l) (append-nil ps)

pub passed_more : {A : Type 0} (uuid : List ℕ) (stream : ℕ) (pieces : List (List ℕ)) (i : ℕ) (bytes : List ℕ)
    (a b : StreamAudit A) (passed : Passed uuid stream pieces i a) → i < length pieces → bytes ≡ get_or pieces i bytes
    → (here : List Contents) × (bytes ≡ packets_text here) × Tells uuid stream (all_of passed.before ++ here) b → Passed uuid stream pieces (i + 1) b
passed_more uuid stream pieces i bytes a b passed within is more = record {
  before = passed.before ++ more.0 ∷ [];
  texts =
      take_more pieces i bytes within
      ∙ ap (λ (l : List (List ℕ)). l ++ get_or pieces i bytes ∷ []) passed.texts
      ∙ ap (λ (t : List ℕ). map packets_text passed.before ++ t ∷ []) (sym is ∙ more.1)
      ∙ sym (map-append packets_text passed.before (more.0 ∷ []));
  tells = subst (λ (l : List Contents). Tells uuid stream l b) (sym (all_of-push passed.before more.0)) more.2;
}

pub passed_all : {A : Type 0} (uuid : List ℕ) (stream : ℕ) (pieces : List (List ℕ)) (i : ℕ) (a : StreamAudit A)
    → Passed uuid stream pieces i a → length pieces ≤ i
    → (pss : List (List Contents)) × AreAudited uuid stream pieces pss × (a ≡ audit_of (all_of pss))
passed_all uuid stream pieces i a passed past =
    (passed.before, record { texts = sym (take_all i pieces past) ∙ passed.texts; sound = passed.tells.sound }, passed.tells.is)

-- the same when a piece is read through a list of references
pub piece_more : {A : Type 0} (uuid : List ℕ) (stream : ℕ) (pieces : List (Bor (List ℕ))) (i : ℕ) (none : Bor (List ℕ))
    (a b : StreamAudit A) (passed : Passed uuid stream (map (λ (p : Bor (List ℕ)). p.now) pieces) i a)
    → i < length pieces → (here : List Contents) × ((get_or pieces i none).now ≡ packets_text here)
    × Tells uuid stream (all_of passed.before ++ here) b
    → Passed uuid stream (map (λ (p : Bor (List ℕ)). p.now) pieces) (i + 1) b
piece_more uuid stream pieces i none a b passed within more =
    let bytes = (get_or pieces i none).now in
    let lists = map (λ (p : Bor (List ℕ)). p.now) pieces in
    passed_more uuid stream lists i bytes a b passed (omega (arith, within, length-map pieces (λ (p : Bor (List ℕ)). p.now)))
    (sym (get_or-map (λ (p : Bor (List ℕ)). p.now) pieces i none bytes within)) more

pub piece_stop : {A : Type 0} (uuid : List ℕ) (stream : ℕ) (pieces : List (Bor (List ℕ))) (i : ℕ) (none : Bor (List ℕ))
    (offset : ℕ) (cause : AuditCause) (a : StreamAudit A)
    (passed : Passed uuid stream (map (λ (p : Bor (List ℕ)). p.now) pieces) i a) → i < length pieces
    → StopsIn LARGEST_PACKET uuid stream (all_of passed.before) (get_or pieces i none).now offset cause
    → StopsAt LARGEST_PACKET uuid stream (map (λ (p : Bor (List ℕ)). p.now) pieces) (record { piece = i; offset = offset; cause = cause })
piece_stop uuid stream pieces i none offset cause a passed within stop =
    let bytes = (get_or pieces i none).now in
    let lists = map (λ (p : Bor (List ℕ)). p.now) pieces in
    record {
      before = passed.before;
      bytes = bytes;
      texts = passed.texts;
      piece =
          slice_get-get_or lists i bytes (omega (arith, within, length-map pieces (λ (p : Bor (List ℕ)). p.now)))
          ∙ ap Some (get_or-map (λ (p : Bor (List ℕ)). p.now) pieces i none bytes within);
      stop = stop;
    }

-- all pieces were audited
pub passed_end : {A : Type 0} (uuid : List ℕ) (stream : ℕ) (pieces : List (Bor (List ℕ))) (i : ℕ) (a : StreamAudit A)
    → Passed uuid stream (map (λ (p : Bor (List ℕ)). p.now) pieces) i a → length pieces ≤ i
    → (pss : List (List Contents)) × AreAudited uuid stream (map (λ (p : Bor (List ℕ)). p.now) pieces) pss × (a ≡ audit_of (all_of pss))
passed_end uuid stream pieces i a passed past =
    passed_all uuid stream (map (λ (p : Bor (List ℕ)). p.now) pieces) i a passed
    (omega (arith, past, length-map pieces (λ (p : Bor (List ℕ)). p.now)))
