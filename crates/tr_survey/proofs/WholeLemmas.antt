-- Packets that a stream's audit passes are reported without a fault.
use Rattle.std.proofs.Common.{◌≡◌, ◌+◌, ◌<◌, ◌≤◌, ℕ, zero, suc, Bool, true, false, cond, not, refl, sym, ap, subst, ◌∙◌, arith, List, [], ◌∷◌, ◌++◌, length, drop, Option, Some, None, append-nil}
use Rattle.std.specs.Prelude.{IsTrue, nat_lt, unwrap_or, option_map}
use Rattle.std.specs.List.{AllByRecursion, last_or}
use Rattle.std.proofs.lemmas.List.{drop_all, length-append}
use Rattle.tr_chunk.proofs.AuditLemmas.{front_within}
use Rattle.tr_chunk.proofs.WaitingLemmas.{nothing_waits}
use Rattle.tr_chunk.specs.Audit.{BelongsTo, belongs, capped_count, numbers_of, numbers_rise_after, records_of_packets, serials_of, starts_above}
use Rattle.tr_chunk.specs.Files.{packets_text}
use Rattle.tr_chunk.specs.declared.audit_fault.AuditCause.TheVariants.{Foreign, NumberRepeat, SerialRepeat}
use Rattle.tr_folders.specs.Kept.{file_of}
use Rattle.tr_folders.specs.Tree.{Tree}
use Rattle.tr_packet.proofs.DecodingLemmas.{last_is}
use Rattle.tr_packet.proofs.OrderLemmas.{first_holds, second_holds}
use Rattle.tr_packet.proofs.TextLemmas.{length-packet_text}
use Rattle.tr_packet.specs.Decoding.{Begins}
use Rattle.tr_packet.specs.Order.{follows, last_serial_after, serials_rise_after}
use Rattle.tr_packet.specs.Packets.{Contents, IsPacket, contents, packet_size, packet_text}
use Rattle.tr_record.specs.Records.{Entry}
use Rattle.tr_survey.specs.Order.{Numbered}
use Rattle.tr_survey.specs.Paths.{file_in}
use Rattle.tr_survey.specs.Streams.{Place, TraceState, are_deleted, before, bytes_told, cause_of, ended_told, fall_told, falls, file_told, files_told, gap_told, lost_by, lost_told, no_tally, packet_told, place_of, stream_told, tally_after}
use Rattle.tr_survey.specs.Told.{Told, and_then}
use Rattle.tr_survey.specs.Whole.{AreRecorded, HasFiles, LossesStay, Recorded, archives_in, packets_of, packets_told, recorded_stream_told, recorded_told}
use Rattle.tr_survey.specs.declared.tally.Last.{Last}
use Rattle.tr_survey.specs.declared.tally.Tally.{Tally}
use Rattle.tr_survey.proofs.BytesLemmas.{end_step, packet_step}

-- the packets that are still to come of a stream with this tally are at no fault
pub record Goes (uuid : List ℕ) (stream : ℕ) (s : Tally) (ps : List Contents) : Type 0 where
  pub known : s.is_broken ≡ false
  pub packets : AllByRecursion IsPacket ps
  pub belong : AllByRecursion (BelongsTo uuid stream) ps
  pub numbers : IsTrue (numbers_rise_after (option_map (λ (l : Last). l.seq) s.last) (numbers_of ps))
  pub serials : IsTrue (serials_rise_after (option_map (λ (l : Last). l.serial) s.last) (records_of_packets ps))
  pub losses : LossesStay (lost_by s.last) ps

-- ---- one packet

before_is : (s : Tally) → s.is_broken ≡ false → before s ≡ s.last
before_is s known = ap (λ (b : Bool). cond b None s.last) known

serials_after : (number : Option ℕ) (es fs : List Entry) → IsTrue (serials_rise_after number (es ++ fs))
    → IsTrue (serials_rise_after (last_or number (serials_of es)) fs)
serials_after number [] fs rise = rise
serials_after number (e ∷ es) fs rise =
    serials_after (Some e.serial) es fs (second_holds (follows number e.serial) (serials_rise_after (Some e.serial) (es ++ fs)) rise)

first_serial : (number : Option ℕ) (es fs : List Entry) → IsTrue (serials_rise_after number (es ++ fs)) → IsTrue (starts_above number es)
first_serial number [] fs rise = refl
first_serial number (e ∷ es) fs rise = first_holds (follows number e.serial) (serials_rise_after (Some e.serial) (es ++ fs)) rise

none_some : (n : ℕ) → None ≡ Some n → ⊥
none_some n e = cc

-- the last of some serials, whatever was before
last_among : (number : Option ℕ) (p : Contents) (es : List Entry) → p.records ≡ es → IsPacket p
    → last_or number (serials_of es) ≡ Some (unwrap_or (last_serial_after None es) 0)
last_among number p [] is packet =
    let own : IsPacket (contents p.head []) = subst (λ (l : List Entry). IsPacket (contents p.head l)) is packet in
    absurd (none_some 0 (last_is p.head [] 0 own refl))
last_among number p (e ∷ es) is packet =
    let own : IsPacket (contents p.head (e ∷ es)) = subst (λ (l : List Entry). IsPacket (contents p.head l)) is packet in
    last_is p.head (e ∷ es) (unwrap_or (last_serial_after None (e ∷ es)) 0) own refl

no_cause : (a b c : Bool) → a ≡ true → b ≡ true → c ≡ true
    → cond (not a) (Some Foreign) (cond (not b) (Some NumberRepeat) (cond (not c) (Some SerialRepeat) None)) ≡ None
no_cause a b c first second third = rw (first, second, third) refl

right : (uuid : List ℕ) (stream : ℕ) (s : Tally) (p : Contents) (ps : List Contents) → Goes uuid stream s (p ∷ ps)
    → cause_of uuid stream (before s) p ≡ None
right uuid stream s p ps goes =
    let number = option_map (λ (l : Last). l.seq) s.last in
    let serial = option_map (λ (l : Last). l.serial) s.last in
    ap (λ (o : Option Last). cause_of uuid stream o p) (before_is s goes.known)
    ∙ no_cause (belongs uuid stream p) (follows number p.head.seq) (starts_above serial p.records) goes.belong.0
    (first_holds (follows number p.head.seq) (numbers_rise_after (Some p.head.seq) (numbers_of ps)) goes.numbers)
    (first_serial serial p.records (records_of_packets ps) goes.serials)

not_less : (from n : ℕ) → from ≤ n → nat_lt n from ≡ false
not_less from n le = grind (arith, le)

stays : (uuid : List ℕ) (stream : ℕ) (s : Tally) (p : Contents) (ps : List Contents) → Goes uuid stream s (p ∷ ps) → falls (before s) p ≡ false
stays uuid stream s p ps goes =
    ap (λ (o : Option Last). falls o p) (before_is s goes.known) ∙ not_less (lost_by s.last) p.head.lost goes.losses.0

told_at : (uuid : List ℕ) (at : Place) (s : Tally) (offset : ℕ) (p : Contents) (ps : List Contents) → Goes uuid at.stream s (p ∷ ps)
    → packet_told at s offset p ≡ gap_told at s.last p ++ lost_told at s.last p
told_at uuid at s offset p ps goes =
    ap (λ (b : Bool). cond b [] (gap_told at s.last p ++ (lost_told at s.last p ++ fall_told at s.last offset p))) goes.known
    ∙ ap (λ (l : List ℕ). gap_told at s.last p ++ (lost_told at s.last p ++ l)) (no_fall at s.last offset p (not_less (lost_by s.last) p.head.lost goes.losses.0))
    ∙ ap (λ (l : List ℕ). gap_told at s.last p ++ l) (append-nil (lost_told at s.last p))
  where
    no_fall : (at : Place) (last : Option Last) (offset : ℕ) (p : Contents) → falls last p ≡ false → fall_told at last offset p ≡ []
    no_fall at last offset p not-falls = rw not-falls refl

next : (uuid : List ℕ) (at : Place) (s : Tally) (p : Contents) (ps : List Contents) → Goes uuid at.stream s (p ∷ ps)
    → Goes uuid at.stream (tally_after at s p) ps
next uuid at s p ps goes =
    let number = option_map (λ (l : Last). l.seq) s.last in
    let serial = option_map (λ (l : Last). l.serial) s.last in
    record {
      known = refl;
      packets = goes.packets.1;
      belong = goes.belong.1;
      numbers = second_holds (follows number p.head.seq) (numbers_rise_after (Some p.head.seq) (numbers_of ps)) goes.numbers;
      serials =
          subst (λ (o : Option ℕ). IsTrue (serials_rise_after o (records_of_packets ps))) (last_among serial p p.records refl goes.packets.0)
          (serials_after serial p.records (records_of_packets ps) goes.serials);
      losses = goes.losses.1;
    }

-- as many faults as before
same_faults : (uuid : List ℕ) (at : Place) (s : Tally) (p : Contents) (ps : List Contents) → Goes uuid at.stream s (p ∷ ps)
    → (tally_after at s p).faults ≡ s.faults
same_faults uuid at s p ps goes = ap (λ (b : Bool). cond b (capped_count (s.faults + 1)) s.faults) (stays uuid at.stream s p ps goes)

-- ---- a file

pub record Told-of (uuid : List ℕ) (at : Place) (s : Tally) (ps rest : List Contents) : Type 0 where
  pub goes : Goes uuid at.stream (packets_told at s ps).state rest
  pub faults : (packets_told at s ps).state.faults ≡ s.faults

pub after_packets : (uuid : List ℕ) (at : Place) (s : Tally) (ps rest : List Contents) → Goes uuid at.stream s (ps ++ rest) → Told-of uuid at s ps rest
after_packets uuid at s [] rest goes = record { goes = goes; faults = refl }
after_packets uuid at s (p ∷ ps) rest goes =
    let more = after_packets uuid at (tally_after at s p) ps rest (next uuid at s p (ps ++ rest) goes) in
    record { goes = more.goes; faults = more.faults ∙ same_faults uuid at s p (ps ++ rest) goes }

bytes_are : (n : ℕ) (at : Place) (s : Tally) (offset : ℕ) (ps rest : List Contents) → length (packets_text ps) < n → Goes at.uuid at.stream s (ps ++ rest)
    → bytes_told n at s offset (packets_text ps) false ≡ packets_told at s ps
bytes_are zero at s offset ps rest enough goes = absurd (omega arith)
bytes_are (suc n) at s offset [] rest enough goes = end_step n at s offset [] nothing_waits
bytes_are (suc n) at s offset (p ∷ ps) rest enough goes =
    let packet = goes.packets.0 in
    let size = length-packet_text p packet.uuid in
    let none : drop (packet_size p) (packet_text p) ≡ [] = drop_all (packet_size p) (packet_text p) (omega (arith, size)) in
    let begins : Begins p (drop (packet_size p) (packet_text p)) (packet_text p) =
    record { packet = packet; parts = sym (append-nil (packet_text p)) ∙ ap (λ (l : List ℕ). packet_text p ++ l) (sym none) } in
    let some = (front_within p (packet_size p) (packet_text p) begins refl).0 in
    let all = length-append (packet_text p) (packets_text ps) in
    let less : length (packets_text ps) < n = omega (arith, enough, all, size, some) in
    let after = tally_after at s p in
    let further = capped_count (offset + packet_size p) in
    packet_step n at s offset p (packet_size p) (packet_text p) (packets_text ps) false begins refl (right at.uuid at.stream s p (ps ++ rest) goes)
    ∙ ap (λ (l : List ℕ). and_then (packet_told at s offset p) (bytes_told n at after further (l ++ packets_text ps) false)) none
    ∙ ap (λ (o : Told Tally). and_then (packet_told at s offset p) o)
    (bytes_are n at after further ps rest less (next at.uuid at s p (ps ++ rest) goes))
    ∙ ap (λ (l : List ℕ). and_then l (packets_told at after ps)) (told_at at.uuid at s offset p (ps ++ rest) goes)

pub file_is : (at : Place) (s : Tally) (ps rest : List Contents) → Goes at.uuid at.stream s (ps ++ rest)
    → file_told at s (Some (file_of (packets_text ps) false)) ≡ packets_told at s ps
file_is at s ps rest goes = bytes_are (suc (length (packets_text ps))) at s 0 ps rest (omega arith) goes

-- ---- a stream

files_are : (t : Tree) (folder : List ℕ) (from : TraceState) (stream : Numbered) (s : Tally) (files : List Recorded) → HasFiles t folder stream files
    → Goes from.uuid stream.number s (packets_of files)
    → files_told t folder from stream s (archives_in files) ≡ recorded_told from stream.number s files
files_are t folder from stream s [] has goes = refl
files_are t folder from stream s (r ∷ files) has goes =
    let at = place_of from stream.number r.0 in
    let here : file_told at s (file_in t folder stream r.0) ≡ packets_told at s r.1 =
    ap (file_told at s) has.0 ∙ file_is at s r.1 (packets_of files) goes in
    ap (λ (o : Told Tally). and_then o.text (files_told t folder from stream o.state (archives_in files))) here
    ∙ ap (λ (o : Told Tally). and_then (packets_told at s r.1).text o)
    (files_are t folder from stream (packets_told at s r.1).state files has.1 (after_packets from.uuid at s r.1 (packets_of files) goes).goes)

faults_stay : (from : TraceState) (stream : ℕ) (s : Tally) (files : List Recorded) → Goes from.uuid stream s (packets_of files)
    → (recorded_told from stream s files).state.faults ≡ s.faults
faults_stay from stream s [] goes = refl
faults_stay from stream s (r ∷ files) goes =
    let more = after_packets from.uuid (place_of from stream r.0) s r.1 (packets_of files) goes in
    faults_stay from stream (packets_told (place_of from stream r.0) s r.1).state files more.goes ∙ more.faults

pub begun : (uuid : List ℕ) (stream n : ℕ) (files : List Recorded) → AreRecorded uuid stream files → Goes uuid stream (no_tally n) (packets_of files)
begun uuid stream n files are = record {
  known = refl;
  packets = are.sound.packets;
  belong = are.sound.belong;
  numbers = are.sound.numbers;
  serials = are.sound.serials;
  losses = are.losses;
}

pub recorded_stream : (t : Tree) (folder : List ℕ) (from : TraceState) (stream : Numbered) (files : List Recorded) (n : ℕ) → HasFiles t folder stream files
    → AreRecorded from.uuid stream.number files
    → stream_told t folder from (archives_in files) n stream ≡ recorded_stream_told from stream files n
recorded_stream t folder from stream files n has are =
    ap (λ (o : Told Tally). and_then o.text (ended_told stream (are_deleted (archives_in files)) o.state))
    (files_are t folder from stream (no_tally n) files has (begun from.uuid stream.number n files are))

pub no_fault_more : (from : TraceState) (stream : Numbered) (files : List Recorded) (n : ℕ) → AreRecorded from.uuid stream.number files
    → (recorded_stream_told from stream files n).state ≡ n
no_fault_more from stream files n are = faults_stay from stream.number (no_tally n) files (begun from.uuid stream.number n files are)
