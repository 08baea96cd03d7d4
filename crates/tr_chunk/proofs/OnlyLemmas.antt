-- Packets of a stream are audited: their texts can be split in only one way, and none of them is at fault.
use Rattle.std.proofs.Common.{◌≡◌, ℕ, zero, suc, ◌<◌, ◌≤◌, Bool, true, not, cond, List, [], ◌∷◌, ◌++◌, length, map, take, drop, Option, Some, None, refl, sym, ap, subst, ◌∙◌, append-nil, append_assoc, length-append, arith}
use Rattle.std.specs.Prelude.{IsTrue, slice_get}
use Rattle.std.specs.List.{AllByRecursion, last_or}
use Rattle.std.proofs.lemmas.List.Concat.{flat_map-append}
use Rattle.std.proofs.lemmas.List.{map-append, take-append-drop, length-drop, take-map}
use Rattle.tr_record.specs.Records.{Entry}
use Rattle.tr_packet.specs.Decoding.{Begins}
use Rattle.tr_packet.specs.Order.{follows, serials_rise_after, serials_rise}
use Rattle.tr_packet.specs.Packets.{Contents, IsPacket, packet_text}
use Rattle.tr_packet.proofs.DecodingLemmas.{packet_read}
use Rattle.tr_packet.proofs.LawLemmas.{one_in_front}
use Rattle.tr_packet.proofs.OrderLemmas.{first_holds, second_holds}
use Rattle.tr_packet.proofs.TextLemmas.{length-packet_text}
use Rattle.tr_chunk.specs.Files.{packets_text}
use Rattle.tr_chunk.specs.Audit.{numbers_of, serials_of, records_of_packets, last_number, last_serial, audit_of, belongs, BelongsTo, numbers_rise_after, AreOfStream, starts_above, packet_cause, IsCause, StopsAt, AreAudited, all_of}
use Rattle.tr_chunk.specs.declared.audit_fault.AuditCause.{AuditCause}
use Rattle.tr_chunk.specs.declared.audit_fault.AuditCause.TheVariants.{Packet, NumberRepeat, SerialRepeat, Foreign, NoMemory}
use Rattle.tr_chunk.specs.declared.audit_fault.AuditFault.{AuditFault}
use Rattle.tr_chunk.specs.declared.stream_audit.StreamAudit.{StreamAudit}
use Rattle.tr_terms.specs.declared.limits.TheConstants.{PACKET_HEADER}

abbrev Packets : List Contents → Type 0
Packets = AllByRecursion IsPacket

-- ---- texts can be split in only one way

pub all_front : {X : Type 0} (P : X → Type 0) (xs ys : List X) → AllByRecursion P (xs ++ ys) → AllByRecursion P xs
all_front P [] ys all = tt
all_front P (x ∷ xs) ys all = (all.0, all_front P xs ys all.1)

pub all_back : {X : Type 0} (P : X → Type 0) (xs ys : List X) → AllByRecursion P (xs ++ ys) → AllByRecursion P ys
all_back P [] ys all = all
all_back P (x ∷ xs) ys all = all_back P xs ys all.1

some_text : (p : Contents) → IsPacket p → PACKET_HEADER ≤ length (packet_text p)
some_text p packet = omega (arith, length-packet_text p packet.uuid)

-- packets whose texts begin the texts of others are the first of those
pub first_packets : (ps qs : List Contents) (rest : List ℕ) → Packets ps → Packets qs
    → packets_text ps ++ rest ≡ packets_text qs → (more : List Contents) × (qs ≡ ps ++ more) × (rest ≡ packets_text more)
first_packets [] qs rest first second e = (qs, refl, e)
first_packets (p ∷ ps) [] rest first second e =
    absurd (omega (
      arith,
      some_text p first.0,
      ap length e,
      length-append (packet_text p ++ packets_text ps) rest,
      length-append (packet_text p) (packets_text ps),
    ))
first_packets (p ∷ ps) (q ∷ qs) rest first second e =
    let bytes = packets_text (q ∷ qs) in
    let begins : Begins p (packets_text ps ++ rest) bytes =
    record { packet = first.0; parts = sym e ∙ append_assoc (packet_text p) (packets_text ps) rest } in
    let same = one_in_front p q (packets_text ps ++ rest) (packets_text qs) bytes begins (record { packet = second.0; parts = refl }) in
    let more = first_packets ps qs rest first.1 second.1 same.1 in
    (more.0, ap (λ (x : Contents). x ∷ qs) (sym same.0) ∙ ap (λ (l : List Contents). p ∷ l) more.1, more.2)

no_packets : (ps : List Contents) → Packets ps → [] ≡ packets_text ps → ps ≡ []
no_packets [] packets e = refl
no_packets (p ∷ ps) packets e = absurd (omega (arith, some_text p packets.0, ap length e, length-append (packet_text p) (packets_text ps)))

pub same_packets : (ps qs : List Contents) → Packets ps → Packets qs → packets_text ps ≡ packets_text qs → ps ≡ qs
same_packets ps qs first second e =
    let more = first_packets ps qs [] first second (append-nil (packets_text ps) ∙ e) in
    let none = no_packets more.0 (all_back IsPacket ps more.0 (subst Packets more.1 second)) more.2 in
    sym (more.1 ∙ ap (λ (l : List Contents). ps ++ l) none ∙ append-nil ps)

cons_head : (x y : List ℕ) (xs ys : List (List ℕ)) → x ∷ xs ≡ y ∷ ys → x ≡ y
cons_head x y xs ys e = cc

cons_tail : (x y : List ℕ) (xs ys : List (List ℕ)) → x ∷ xs ≡ y ∷ ys → xs ≡ ys
cons_tail x y xs ys e = cc

none_is_cons : (y : List ℕ) (ys : List (List ℕ)) → [] ≡ y ∷ ys → ⊥
none_is_cons y ys e = cc

-- pieces with the same texts are the same
pub same_pieces : (pss qss : List (List Contents)) → Packets (all_of pss) → Packets (all_of qss)
    → map packets_text pss ≡ map packets_text qss → pss ≡ qss
same_pieces [] [] first second e = refl
same_pieces [] (qs ∷ qss) first second e = absurd (none_is_cons (packets_text qs) (map packets_text qss) e)
same_pieces (ps ∷ pss) [] first second e = absurd (none_is_cons (packets_text ps) (map packets_text pss) (sym e))
same_pieces (ps ∷ pss) (qs ∷ qss) first second e =
    let same = same_packets ps qs (all_front IsPacket ps (all_of pss) first) (all_front IsPacket qs (all_of qss) second)
    (cons_head (packets_text ps) (packets_text qs) (map packets_text pss) (map packets_text qss) e) in
    let others =
    same_pieces pss qss (all_back IsPacket ps (all_of pss) first) (all_back IsPacket qs (all_of qss) second)
    (cons_tail (packets_text ps) (packets_text qs) (map packets_text pss) (map packets_text qss) e) in
    ap (λ (l : List Contents). l ∷ pss) same ∙ ap (λ (l : List (List Contents)). qs ∷ l) others

-- ---- no packet of the stream is at fault

numbers_rise_after-at : (before : Option ℕ) (ns : List ℕ) (n : ℕ) (ms : List ℕ)
    → IsTrue (numbers_rise_after before (ns ++ n ∷ ms)) → IsTrue (follows (last_or before ns) n)
numbers_rise_after-at before [] n ms rise = first_holds (follows before n) (numbers_rise_after (Some n) ms) rise
numbers_rise_after-at before (k ∷ ks) n ms rise =
    numbers_rise_after-at (Some k) ks n ms
    (second_holds (follows before k) (numbers_rise_after (Some k) (ks ++ n ∷ ms)) rise)

serials_rise_after-at : (before : Option ℕ) (es fs : List Entry) → IsTrue (serials_rise_after before (es ++ fs))
    → IsTrue (serials_rise_after (last_or before (serials_of es)) fs)
serials_rise_after-at before [] fs rise = rise
serials_rise_after-at before (e ∷ es) fs rise =
    serials_rise_after-at (Some e.serial) es fs
    (second_holds (follows before e.serial) (serials_rise_after (Some e.serial) (es ++ fs)) rise)

starts_above-from : (before : Option ℕ) (es fs : List Entry) → IsTrue (serials_rise_after before (es ++ fs)) → IsTrue (starts_above before es)
starts_above-from before [] fs rise = refl
starts_above-from before (e ∷ es) fs rise = first_holds (follows before e.serial) (serials_rise_after (Some e.serial) (es ++ fs)) rise

cause_none : (a b c : Bool) → a ≡ true → b ≡ true → c ≡ true
    → cond (not a) (Some Foreign) (cond (not b) (Some NumberRepeat) (cond (not c) (Some SerialRepeat) None)) ≡ None
cause_none a b c first second third = rw (first, second, third) refl

pub none_at_fault : (uuid : List ℕ) (stream : ℕ) (xs : List Contents) (p : Contents) (ys : List Contents)
    → AreOfStream uuid stream (xs ++ p ∷ ys) → packet_cause uuid stream (last_number xs) (last_serial xs) p ≡ None
none_at_fault uuid stream xs p ys sound =
    let number = numbers_rise_after-at None (numbers_of xs) p.head.seq (numbers_of ys)
    (subst (λ (l : List ℕ). IsTrue (numbers_rise_after None l)) (map-append (λ (q : Contents). q.head.seq) xs (p ∷ ys))
    sound.numbers) in
    let serial =
    serials_rise_after-at None (records_of_packets xs) (p.records ++ records_of_packets ys)
    (subst (λ (l : List Entry). IsTrue (serials_rise l)) (flat_map-append (λ (q : Contents). q.records) xs (p ∷ ys))
    sound.serials) in
    cause_none (belongs uuid stream p) (follows (last_number xs) p.head.seq) (starts_above (last_serial xs) p.records)
    (all_back (BelongsTo uuid stream) xs (p ∷ ys) sound.belong).0 number (starts_above-from (last_serial xs) p.records (records_of_packets ys) serial)

none_is_some : {X : Type 0} (x : X) → None ≡ Some x → ⊥
none_is_some x e = cc

other : (uuid : List ℕ) (stream : ℕ) (number serial : Option ℕ) (cause : AuditCause) (p : Contents) (rest bytes : List ℕ)
    → Begins p rest bytes → packet_cause uuid stream number serial p ≡ None
    → (q : Contents) × (behind : List ℕ) × Begins q behind bytes × (packet_cause uuid stream number serial q ≡ Some cause) → ⊥
other uuid stream number serial cause p rest bytes begins none is =
    let same = one_in_front p is.0 rest is.1 bytes begins is.2 in
    none_is_some cause (sym none ∙ ap (packet_cause uuid stream number serial) same.0 ∙ is.3)

-- if bytes start with the text of a packet that isn't at fault, only a failed allocation is left as a cause
pub cause_is_memory : (room : ℕ) (uuid : List ℕ) (stream : ℕ) (number serial : Option ℕ) (cause : AuditCause) (p : Contents)
    (rest bytes : List ℕ) → Begins p rest bytes → packet_cause uuid stream number serial p ≡ None
    → IsCause room uuid stream number serial cause bytes → cause ≡ NoMemory
cause_is_memory room uuid stream number serial NoMemory p rest bytes begins none is = refl
cause_is_memory room uuid stream number serial (Packet f) p rest bytes begins none is =
    absurd (none_is_some f (sym (packet_read p rest bytes begins).sound ∙ is))
cause_is_memory room uuid stream number serial Foreign p rest bytes begins none is =
    absurd (other uuid stream number serial Foreign p rest bytes begins none is)
cause_is_memory room uuid stream number serial NumberRepeat p rest bytes begins none is =
    absurd (other uuid stream number serial NumberRepeat p rest bytes begins none is)
cause_is_memory room uuid stream number serial SerialRepeat p rest bytes begins none is =
    absurd (other uuid stream number serial SerialRepeat p rest bytes begins none is)

-- ---- if packets of the stream are the pieces, the audit stops only for a failed allocation

-- the place of a piece among pieces of packets
pub record Placed (pss : List (List Contents)) (i : ℕ) (bytes : List ℕ) : Type 0 where
  pub these : List Contents
  pub others : List (List Contents)
  pub is : pss ≡ take i pss ++ these ∷ others
  pub text : bytes ≡ packets_text these

some_same : (x y : List ℕ) → Some x ≡ Some y → x ≡ y
some_same x y e = cc

pub placed : (pss : List (List Contents)) (i : ℕ) (bytes : List ℕ) → slice_get (map packets_text pss) i ≡ Some bytes → Placed pss i bytes
placed [] i bytes e = absurd (none_is_some bytes (sym (nothing i) ∙ e))
  where
    nothing : (i : ℕ) → slice_get {X = List ℕ} [] i ≡ None
    nothing zero = refl
    nothing (suc i) = refl
placed (ps ∷ pss) zero bytes e = record { these = ps; others = pss; is = refl; text = sym (some_same (packets_text ps) bytes e) }
placed (ps ∷ pss) (suc i) bytes e =
    let p = placed pss i bytes e in
    record { these = p.these; others = p.others; is = ap (λ (l : List (List Contents)). ps ∷ l) p.is; text = p.text }

parted : (pss : List (List Contents)) (i : ℕ) (these : List Contents) (others : List (List Contents))
    → pss ≡ take i pss ++ these ∷ others → all_of pss ≡ all_of (take i pss) ++ (these ++ all_of others)
parted pss i these others is = ap all_of is ∙ flat_map-append (λ (l : List Contents). l) (take i pss) (these ∷ others)

regroup : (a h : List Contents) (p : Contents) (y o : List Contents) → a ++ ((h ++ p ∷ y) ++ o) ≡ (a ++ h) ++ (p ∷ (y ++ o))
regroup a h p y o = simp append_assoc

by_more : (room : ℕ) (uuid : List ℕ) (stream : ℕ) (front here more others : List Contents) (cause : AuditCause) (rest : List ℕ)
    → AreOfStream uuid stream (front ++ ((here ++ more) ++ others)) → 0 < length rest → rest ≡ packets_text more
    → IsCause room uuid stream (last_number (front ++ here)) (last_serial (front ++ here)) cause rest → cause ≡ NoMemory
by_more room uuid stream front here [] others cause rest sound some text is = absurd (omega (arith, some, ap length text))
by_more room uuid stream front here (p ∷ ys) others cause rest sound some text is =
    let all = subst (AreOfStream uuid stream) (regroup front here p ys others) sound in
    let packet = (all_back IsPacket (front ++ here) (p ∷ (ys ++ others)) all.packets).0 in
    cause_is_memory room uuid stream (last_number (front ++ here)) (last_serial (front ++ here)) cause p (packets_text ys) rest
    (record { packet = packet; parts = text })
    (none_at_fault uuid stream (front ++ here) p (ys ++ others) all) is

pub memory_alone : (room : ℕ) (uuid : List ℕ) (stream : ℕ) (pieces : List (List ℕ)) (pss : List (List Contents)) (fault : AuditFault)
    → AreAudited uuid stream pieces pss → StopsAt room uuid stream pieces fault → fault.cause ≡ NoMemory
memory_alone room uuid stream pieces pss fault audited stop =
    let i = fault.piece in
    let at = placed pss i stop.bytes (subst (λ (l : List (List ℕ)). slice_get l i ≡ Some stop.bytes) audited.texts stop.piece) in
    let all = parted pss i at.these at.others at.is in
    let packets : Packets (all_of (take i pss) ++ (at.these ++ all_of at.others)) = subst Packets all audited.sound.packets in
    let front_packets = all_front IsPacket (all_of (take i pss)) (at.these ++ all_of at.others) packets in
    let these_packets = all_front IsPacket at.these (all_of at.others)
    (all_back IsPacket (all_of (take i pss)) (at.these ++ all_of at.others) packets) in
    let here = stop.stop.here in
    let before_packets = all_front IsPacket (all_of stop.before) here stop.stop.sound.packets in
    let here_packets = all_back IsPacket (all_of stop.before) here stop.stop.sound.packets in
    let front : stop.before ≡ take i pss =
    same_pieces stop.before (take i pss) before_packets front_packets (sym stop.texts ∙ ap (take i) audited.texts ∙ take-map packets_text i pss) in
    let rest = drop fault.offset stop.bytes in
    let parts : packets_text here ++ rest ≡ packets_text at.these =
    ap (λ (t : List ℕ). t ++ rest) (sym stop.stop.texts) ∙ take-append-drop fault.offset stop.bytes ∙ at.text in
    let more = first_packets here at.these rest here_packets these_packets parts in
    let sound : AreOfStream uuid stream (all_of stop.before ++ ((here ++ more.0) ++ all_of at.others)) =
    subst (AreOfStream uuid stream)
    (all ∙ ap (λ (l : List (List Contents)). all_of l ++ (at.these ++ all_of at.others)) (sym front)
    ∙ ap (λ (l : List Contents). all_of stop.before ++ (l ++ all_of at.others)) more.1)
    audited.sound in
    by_more room uuid stream (all_of stop.before) here more.0 (all_of at.others) fault.cause rest sound
    (omega (arith, stop.stop.within, length-drop fault.offset stop.bytes)) more.2 stop.stop.is_cause

-- what an audit says of the pieces, it says of these packets
pub same_tale : {A : Type 0} (uuid : List ℕ) (stream : ℕ) (pieces : List (List ℕ)) (pss qss : List (List Contents))
    (a : StreamAudit A) → AreAudited uuid stream pieces pss → AreAudited uuid stream pieces qss
    → a ≡ audit_of (all_of pss) → a ≡ audit_of (all_of qss)
same_tale uuid stream pieces pss qss a first second is =
    is ∙ ap (λ (l : List (List Contents)). audit_of (all_of l))
    (same_pieces pss qss first.sound.packets second.sound.packets (sym first.texts ∙ second.texts))
