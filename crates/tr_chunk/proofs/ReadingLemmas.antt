-- What a reader knows after each step.
use Rattle.std.proofs.Common.{◌≡◌, ◌≢◌, ℕ, suc, ◌+◌, ◌-◌, ◌<◌, ◌≤◌, Bool, true, false, ltb, List, [], ◌∷◌, ◌++◌, length, map, take, drop, Some, None, refl, sym, ap, subst, ◌∙◌, append-nil, append_assoc, length-append, arith}
use Rattle.std.specs.Prelude.{slice_get}
use Rattle.std.specs.List.{flat_map}
use Rattle.std.proofs.lemmas.Bool.{ltb-true, ltb-false}
use Rattle.std.proofs.lemmas.List.{map-append, length-drop, take_at, drop_at, take_all, take-append-drop, take-append-le}
use Rattle.std.proofs.Math.Seq.{take-add}
use Rattle.std.proofs.lemmas.List.Concat.{flat_map-append}
use Rattle.tr_packet.specs.Decoding.{Begins}
use Rattle.tr_packet.specs.Packets.{Contents, packet_text, packet_size}
use Rattle.tr_packet.specs.declared.faults.PacketFault.TheVariants.{Short}
use Rattle.tr_packet.proofs.DecodingLemmas.{packet_read}
use Rattle.tr_packet.proofs.TextLemmas.{length-packet_text}
use Rattle.tr_chunk.specs.Audit.{packet_cause, after_packet, IsCause, AreAudited, Tells, audit_of, all_of}
use Rattle.tr_chunk.specs.Files.{packets_text}
use Rattle.tr_chunk.specs.Reading.{Reading, Waits, IsAt, Is, ReaderStopsAt, StopsHowever, Says, HasRead, Takes, Finds, bytes_of_pieces, with_front}
use Rattle.tr_chunk.specs.declared.audit_fault.AuditCause.{AuditCause}
use Rattle.tr_chunk.specs.declared.audit_reader.TheConstants.{FIRST_ROOM}
use Rattle.tr_chunk.specs.declared.audit_fault.AuditCause.TheVariants.{Packet}
use Rattle.tr_chunk.specs.declared.audit_fault.AuditFault.{AuditFault}
use Rattle.tr_chunk.specs.declared.stream_audit.StreamAudit.{StreamAudit}
use Rattle.tr_chunk.proofs.AuditLemmas.{tells_more, front_within, all_of-push}
use Rattle.tr_chunk.proofs.FileLemmas.{packets_text-push}
use Rattle.tr_chunk.proofs.WaitingLemmas.{none_is_some, nothing_waits, cause_stays}

-- ---- a packet that becomes whole

-- it ends after the bytes that waited
pub whole_behind : (p : Contents) (n : ℕ) (held bytes : List ℕ) → Waits held → Begins p (drop n (held ++ bytes)) (held ++ bytes)
    → n ≡ packet_size p → length held < n
whole_behind p n held bytes waits begins size = behind (ltb (length held) n) refl
  where
    text : take n (held ++ bytes) ≡ packet_text p
    text = ap (take n) begins.parts ∙ take_at (packet_text p) (drop n (held ++ bytes)) n (length-packet_text p begins.packet.uuid ∙ sym size)

    stands : n ≤ length held → Begins p (drop n held) held
    stands within = record {
      packet = begins.packet;
      parts =
          sym (take-append-drop n held)
          ∙ ap (λ (t : List ℕ). t ++ drop n held) (sym (take-append-le n held bytes within) ∙ text);
    }

    behind : (test : Bool) → ltb (length held) n ≡ test → length held < n
    behind true is = ltb-true (length held) n is
    behind false is =
        absurd (none_is_some Short (sym (packet_read p (drop n held) held (stands (ltb-false (length held) n is))).sound ∙ waits))

take_behind : (xs ys : List ℕ) (k : ℕ) → take (length xs + k) (xs ++ ys) ≡ xs ++ take k ys
take_behind [] ys k = ap (λ (n : ℕ). take n ys) (omega arith)
take_behind (x ∷ xs) ys k = ap (λ (n : ℕ). take n (x ∷ (xs ++ ys))) (longer (length xs)) ∙ ap (λ (t : List ℕ). x ∷ t) (take_behind xs ys k)
  where
    longer : (n : ℕ) → suc n + k ≡ suc (n + k)
    longer n = omega arith

-- bytes that are taken by a whole packet
pub at_whole : {A : Type 0} (uuid : List ℕ) (stream : ℕ) (done : List (List ℕ)) (piece : List ℕ) (a b : StreamAudit A)
    (held : List ℕ) (offset : ℕ) (p : Contents) (n k : ℕ) (bytes : List ℕ) → IsAt uuid stream done piece a held offset
    → Begins p (drop n (held ++ bytes)) (held ++ bytes) → n ≡ packet_size p
    → packet_cause uuid stream a.last_seq a.last_serial p ≡ None → b ≡ after_packet a p → n ≡ length held + k
    → IsAt uuid stream done (piece ++ take k bytes) b [] (offset + n)
at_whole {A = A} uuid stream done piece a b held offset p n k bytes is begins size none after more =
    let text : packet_text p ≡ held ++ take k bytes =
    sym (take_at (packet_text p) (drop n (held ++ bytes)) n (length-packet_text p begins.packet.uuid ∙ sym size))
    ∙ ap (take n) (sym begins.parts) ∙ ap (λ (i : ℕ). take i (held ++ bytes)) more ∙ take_behind held bytes k in
    let ends : piece ++ take k bytes ≡ packets_text (is.here ++ p ∷ []) =
    ap (λ (t : List ℕ). t ++ take k bytes) is.text ∙ append_assoc (packets_text is.here) held (take k bytes)
    ∙ ap (λ (t : List ℕ). packets_text is.here ++ t) (sym text) ∙ sym (packets_text-push is.here p) in
    record {
      before = is.before;
      here = is.here ++ p ∷ [];
      texts = is.texts;
      text = ends ∙ sym (append-nil (packets_text (is.here ++ p ∷ [])));
      place =
          omega (
            arith,
            is.place,
            size,
            length-packet_text p begins.packet.uuid,
            ap length (packets_text-push is.here p),
            length-append (packets_text is.here) (packet_text p),
          );
      tells =
          subst (λ (l : List Contents). Tells uuid stream l b) (append_assoc (all_of is.before) is.here (p ∷ []))
          (tells_more uuid stream (all_of is.before ++ is.here) p a b is.tells begins.packet none after);
    }

-- bytes that are held
pub at_part : {A : Type 0} (uuid : List ℕ) (stream : ℕ) (done : List (List ℕ)) (piece : List ℕ) (a : StreamAudit A)
    (held : List ℕ) (offset : ℕ) (bytes : List ℕ) → IsAt uuid stream done piece a held offset
    → IsAt uuid stream done (piece ++ bytes) a (held ++ bytes) offset
at_part uuid stream done piece a held offset bytes is = record {
  before = is.before;
  here = is.here;
  texts = is.texts;
  text = ap (λ (t : List ℕ). t ++ bytes) is.text ∙ append_assoc (packets_text is.here) held bytes;
  place = is.place;
  tells = is.tells;
}

-- ---- where it stops

-- the place of a piece
take_done : (done others : List (List ℕ)) → take (length done) (done ++ others) ≡ done
take_done done others = take_at done others (length done) refl

get_done : (done : List (List ℕ)) (piece : List ℕ) (others : List (List ℕ)) → slice_get (done ++ piece ∷ others) (length done) ≡ Some piece
get_done [] piece others = refl
get_done (d ∷ done) piece others = get_done done piece others

stops_at : {A : Type 0} (uuid : List ℕ) (stream : ℕ) (done : List (List ℕ)) (piece : List ℕ) (a : StreamAudit A) (held : List ℕ)
    (offset : ℕ) (cause : AuditCause) (bytes : List ℕ) (others : List (List ℕ)) → IsAt uuid stream done piece a held offset
    → IsCause FIRST_ROOM uuid stream a.last_seq a.last_serial cause (held ++ bytes) → 0 < length (held ++ bytes)
    → ReaderStopsAt uuid stream (done ++ (piece ++ bytes) ∷ others) (record { piece = length done; offset = offset; cause = cause })
stops_at {A = A} uuid stream done piece a held offset cause bytes others is is_cause some =
    let whole : piece ++ bytes ≡ packets_text is.here ++ (held ++ bytes) =
    ap (λ (t : List ℕ). t ++ bytes) is.text ∙ append_assoc (packets_text is.here) held bytes in
    record {
      before = is.before;
      bytes = piece ++ bytes;
      texts = take_done done ((piece ++ bytes) ∷ others) ∙ is.texts;
      piece = get_done done (piece ++ bytes) others;
      stop = record {
        here = is.here;
        within = omega (arith, some, is.place, ap length whole, length-append (packets_text is.here) (held ++ bytes));
        texts = ap (take offset) whole ∙ take_at (packets_text is.here) (held ++ bytes) offset (sym is.place);
        sound = is.tells.sound;
        is_cause =
            subst (λ (x : StreamAudit A). IsCause FIRST_ROOM uuid stream x.last_seq x.last_serial cause (drop offset (piece ++ bytes))) is.tells.is
            (subst (IsCause FIRST_ROOM uuid stream a.last_seq a.last_serial cause)
            (sym (ap (drop offset) whole ∙ drop_at (packets_text is.here) (held ++ bytes) offset (sym is.place))) is_cause);
      };
    }

-- a fault other than that bytes are too few, with all that follows
pub stops_however : {A : Type 0} (uuid : List ℕ) (stream : ℕ) (done : List (List ℕ)) (piece : List ℕ) (a : StreamAudit A)
    (held : List ℕ) (offset : ℕ) (cause : AuditCause) (front back bytes : List ℕ) → IsAt uuid stream done piece a held offset
    → IsCause FIRST_ROOM uuid stream a.last_seq a.last_serial cause (held ++ front) → cause ≢ Packet Short → 0 < length front
    → bytes ≡ front ++ back
    → StopsHowever uuid stream done (piece ++ bytes) (record { piece = length done; offset = offset; cause = cause })
stops_however uuid stream done piece a held offset cause front back bytes is is_cause other some parts =
    λ more others.
    let all : (held ++ front) ++ (back ++ more) ≡ held ++ (front ++ (back ++ more)) = append_assoc held front (back ++ more) in
    let regroup : (piece ++ bytes) ++ more ≡ piece ++ (front ++ (back ++ more)) =
    ap (λ (t : List ℕ). (piece ++ t) ++ more) parts ∙ regrouped piece front back more in
    subst (λ (t : List ℕ). ReaderStopsAt uuid stream (done ++ t ∷ others) (record { piece = length done; offset = offset; cause = cause })) (sym regroup)
    (stops_at uuid stream done piece a held offset cause (front ++ (back ++ more)) others is
    (subst (IsCause FIRST_ROOM uuid stream a.last_seq a.last_serial cause) all
    (cause_stays FIRST_ROOM uuid stream a.last_seq a.last_serial cause (held ++ front) (back ++ more) is_cause other))
    (omega (arith, some, length-append held (front ++ (back ++ more)), length-append front (back ++ more))))
  where
    regrouped : (p f b m : List ℕ) → (p ++ (f ++ b)) ++ m ≡ p ++ (f ++ (b ++ m))
    regrouped p f b m = simp append_assoc

-- ---- steps

-- a whole packet ends within these bytes
pub takes_whole : {A : Type 0} (r : Reading A) (b : StreamAudit A) (p : Contents) (n k : ℕ) (front back bytes : List ℕ)
    → Begins p (drop n (r.held ++ front)) (r.held ++ front) → n ≡ packet_size p
    → packet_cause r.uuid r.stream r.audit.last_seq r.audit.last_serial p ≡ None → b ≡ after_packet r.audit p
    → n ≡ length r.held + k → 0 < k → bytes ≡ front ++ back
    → Takes r (with_front r b [] (r.offset + n)) bytes k
takes_whole r b p n k front back bytes begins size none after more some parts =
    let long : k ≤ length front =
    omega (arith, more, (front_within p n (r.held ++ front) begins size).1, length-append r.held front) in
    record {
      some = some;
      within = omega (arith, long, ap length parts, length-append front back);
      place = omega (arith, more);
      is = λ done piece is.
          subst (λ (t : List ℕ). IsAt r.uuid r.stream done (piece ++ t) b [] (r.offset + n))
          (sym (ap (take k) parts ∙ take-append-le k front back long))
          (at_whole r.uuid r.stream done piece r.audit b r.held r.offset p n k front is begins size none after more);
      waits = nothing_waits;
    }

-- these bytes are held
pub takes_part : {A : Type 0} (r : Reading A) (n : ℕ) (front back bytes : List ℕ) → bytes ≡ front ++ back → length front ≡ n → 0 < n
    → Waits (r.held ++ front) → Takes r (with_front r r.audit (r.held ++ front) r.offset) bytes n
takes_part r n front back bytes parts long some waits = record {
  some = some;
  within = omega (arith, long, ap length parts, length-append front back);
  place = omega (arith, length-append r.held front, long);
  is = λ done piece is.
      subst (λ (t : List ℕ). IsAt r.uuid r.stream done (piece ++ t) r.audit (r.held ++ front) r.offset)
      (sym (ap (take n) parts ∙ take_at front back n long))
      (at_part r.uuid r.stream done piece r.audit r.held r.offset front is);
  waits = waits;
}

pub finds : {A : Type 0} (r : Reading A) (front back bytes : List ℕ) (cause : AuditCause)
    → IsCause FIRST_ROOM r.uuid r.stream r.audit.last_seq r.audit.last_serial cause (r.held ++ front) → cause ≢ Packet Short → 0 < length front
    → bytes ≡ front ++ back → Finds r bytes cause
finds r front back bytes cause is_cause other some parts =
    λ done piece is.
    stops_however r.uuid r.stream done piece r.audit r.held r.offset cause front back bytes is is_cause other some parts

-- ---- pieces

pub at_start : {A : Type 0} (uuid : List ℕ) (stream : ℕ) (a : StreamAudit A) → a ≡ audit_of [] → IsAt uuid stream [] [] a [] 0
at_start uuid stream a is = record {
  before = [];
  here = [];
  texts = refl;
  text = refl;
  place = refl;
  tells = record { sound = record { packets = tt; belong = tt; numbers = refl; serials = refl }; is = is };
}

-- a fault is the same, whatever is fed after it
however_more : (uuid : List ℕ) (stream : ℕ) (done : List (List ℕ)) (piece bytes : List ℕ) (f : AuditFault)
    → StopsHowever uuid stream done piece f → StopsHowever uuid stream done (piece ++ bytes) f
however_more uuid stream done piece bytes f stops =
    λ more others.
    subst (λ (t : List ℕ). ReaderStopsAt uuid stream (done ++ t ∷ others) f) (sym (append_assoc piece bytes more)) (stops (bytes ++ more) others)

however_next : (uuid : List ℕ) (stream : ℕ) (done : List (List ℕ)) (piece : List ℕ) (f : AuditFault)
    → StopsHowever uuid stream done piece f → StopsHowever uuid stream (done ++ piece ∷ []) [] f
however_next uuid stream done piece f stops =
    λ more others.
    subst (λ (l : List (List ℕ)). ReaderStopsAt uuid stream l f)
    (ap (λ (t : List ℕ). done ++ t ∷ (more ∷ others)) (append-nil piece) ∙ sym (append_assoc done (piece ∷ []) (more ∷ others)))
    (stops [] (more ∷ others))

pub however_end : (uuid : List ℕ) (stream : ℕ) (done : List (List ℕ)) (piece : List ℕ) (f : AuditFault)
    → StopsHowever uuid stream done piece f → ReaderStopsAt uuid stream (done ++ piece ∷ []) f
however_end uuid stream done piece f stops =
    subst (λ (t : List ℕ). ReaderStopsAt uuid stream (done ++ t ∷ []) f) (append-nil piece) (stops [] [])

-- a reader that met a fault
pub says_fault : {A : Type 0} (uuid : List ℕ) (stream : ℕ) (done : List (List ℕ)) (piece : List ℕ) (r : Reading A) (f : AuditFault)
    → r.fault ≡ Some f → HasRead uuid stream done piece r → StopsHowever uuid stream done piece f
says_fault uuid stream done piece r f met has =
    subst (λ (u : List ℕ). StopsHowever u stream done piece f) has.of_trace
    (subst (λ (s : ℕ). StopsHowever r.uuid s done piece f) has.of_stream (subst (Says done piece r) met has.says))

-- a reader that met none
pub says_none : {A : Type 0} (uuid : List ℕ) (stream : ℕ) (done : List (List ℕ)) (piece : List ℕ) (r : Reading A)
    → r.fault ≡ None → HasRead uuid stream done piece r → Says done piece r None
says_none uuid stream done piece r none has = subst (Says done piece r) none has.says

pub has_met : {A : Type 0} (uuid : List ℕ) (stream : ℕ) (done : List (List ℕ)) (piece : List ℕ) (r : Reading A) (f : AuditFault)
    → r.uuid ≡ uuid → r.stream ≡ stream → r.fault ≡ Some f → StopsHowever r.uuid r.stream done piece f → HasRead uuid stream done piece r
has_met uuid stream done piece r f of_trace of_stream met stops =
    record { of_trace = of_trace; of_stream = of_stream; says = subst (Says done piece r) (sym met) stops }

pub has_met_more : {A : Type 0} (uuid : List ℕ) (stream : ℕ) (done : List (List ℕ)) (piece bytes : List ℕ) (r : Reading A) (f : AuditFault)
    → r.fault ≡ Some f → HasRead uuid stream done piece r → HasRead uuid stream done (piece ++ bytes) r
has_met_more uuid stream done piece bytes r f met has =
    has_met uuid stream done (piece ++ bytes) r f has.of_trace has.of_stream met
    (however_more r.uuid r.stream done piece bytes f (subst (Says done piece r) met has.says))

pub has_met_next : {A : Type 0} (uuid : List ℕ) (stream : ℕ) (done : List (List ℕ)) (piece : List ℕ) (r : Reading A) (f : AuditFault)
    → r.fault ≡ Some f → HasRead uuid stream done piece r → HasRead uuid stream (done ++ piece ∷ []) [] r
has_met_next uuid stream done piece r f met has =
    has_met uuid stream (done ++ piece ∷ []) [] r f has.of_trace has.of_stream met
    (however_next r.uuid r.stream done piece f (subst (Says done piece r) met has.says))

-- a piece that ends within a packet
pub short_at_end : {A : Type 0} (done : List (List ℕ)) (piece : List ℕ) (r : Reading A) (others : List (List ℕ)) → Is done piece r
    → Waits r.held → 0 < length r.held
    → ReaderStopsAt r.uuid r.stream (done ++ piece ∷ others) (record { piece = length done; offset = r.offset; cause = Packet Short })
short_at_end done piece r others is waits some =
    let whole : r.held ++ [] ≡ r.held = append-nil r.held in
    subst (λ (t : List ℕ). ReaderStopsAt r.uuid r.stream (done ++ t ∷ others) (record { piece = length done; offset = r.offset; cause = Packet Short }))
    (append-nil piece)
    (stops_at r.uuid r.stream done piece r.audit r.held r.offset (Packet Short) [] others is (subst Waits (sym whole) waits)
    (omega (arith, some, ap length whole)))

pub short_however : {A : Type 0} (done : List (List ℕ)) (piece : List ℕ) (r : Reading A) → Is done piece r → Waits r.held → 0 < length r.held
    → StopsHowever r.uuid r.stream (done ++ piece ∷ []) [] (record { piece = length done; offset = r.offset; cause = Packet Short })
short_however done piece r is waits some =
    λ more others.
    subst (λ (l : List (List ℕ)). ReaderStopsAt r.uuid r.stream l (record { piece = length done; offset = r.offset; cause = Packet Short }))
    (sym (append_assoc done (piece ∷ []) (more ∷ others)))
    (short_at_end done piece r (more ∷ others) is waits some)

-- a piece that ends after a packet
pub audited : {A : Type 0} (done : List (List ℕ)) (piece : List ℕ) (r : Reading A) → Is done piece r → r.held ≡ []
    → (pss : List (List Contents)) × AreAudited r.uuid r.stream (done ++ piece ∷ []) pss × (r.audit ≡ audit_of (all_of pss))
audited {A = A} done piece r is none =
    let text : piece ≡ packets_text is.here = is.text ∙ ap (λ (t : List ℕ). packets_text is.here ++ t) none ∙ append-nil (packets_text is.here) in
    let texts : done ++ piece ∷ [] ≡ map packets_text (is.before ++ is.here ∷ []) =
    ap (λ (l : List (List ℕ)). l ++ piece ∷ []) is.texts ∙ ap (λ (t : List ℕ). map packets_text is.before ++ t ∷ []) text
    ∙ sym (map-append packets_text is.before (is.here ∷ [])) in
    let tells = subst (λ (l : List Contents). Tells r.uuid r.stream l r.audit) (sym (all_of-push is.before is.here)) is.tells in
    (is.before ++ is.here ∷ [], record { texts = texts; sound = tells.sound }, tells.is)

pub at_next : {A : Type 0} (done : List (List ℕ)) (piece : List ℕ) (r : Reading A) → Is done piece r → r.held ≡ []
    → IsAt r.uuid r.stream (done ++ piece ∷ []) [] r.audit r.held 0
at_next done piece r is none =
    let all = audited done piece r is none in
    record {
      before = all.0;
      here = [];
      texts = all.1.texts;
      text = sym none;
      place = refl;
      tells =
          subst (λ (l : List Contents). Tells r.uuid r.stream l r.audit) (sym (append-nil (all_of all.0)))
          (record { sound = all.1.sound; is = all.2 });
    }

pub bytes_next : (done : List (List ℕ)) (piece : List ℕ) → bytes_of_pieces (done ++ piece ∷ []) ≡ bytes_of_pieces done + length piece
bytes_next done piece =
    ap length (flat_map-append (λ (bytes : List ℕ). bytes) done (piece ∷ []) ∙ ap (λ (t : List ℕ). flat_map (λ (bytes : List ℕ). bytes) done ++ t) (append-nil piece))
    ∙ length-append (flat_map (λ (bytes : List ℕ). bytes) done) piece

pub next_read : {A : Type 0} (uuid : List ℕ) (stream : ℕ) (done : List (List ℕ)) (piece : List ℕ) (r : Reading A) → r.fault ≡ None
    → r.held ≡ [] → HasRead uuid stream done piece r
    → HasRead uuid stream (done ++ piece ∷ []) [] (record r { offset = 0; pieces = r.pieces + 1 })
next_read uuid stream done piece r none free has =
    let says = says_none uuid stream done piece r none has in
    record {
      of_trace = has.of_trace;
      of_stream = has.of_stream;
      says =
          subst (Says (done ++ piece ∷ []) [] (record r { offset = 0; pieces = r.pieces + 1 })) (sym none) (
            at_next done piece r says.0 free,
            omega (arith, says.1, length-append done (piece ∷ [])),
            omega (arith, says.2, bytes_next done piece),
            says.3,
          );
    }

-- the fault of a piece that ends within a packet
abbrev pub ends_short : {A : Type 0} → Reading A → AuditFault
ends_short r = record { piece = r.pieces - 1; offset = r.offset; cause = Packet Short }

ends_at : {A : Type 0} (done : List (List ℕ)) (r : Reading A) → r.pieces ≡ length done + 1
    → record { piece = length done; offset = r.offset; cause = Packet Short } ≡ ends_short r
ends_at done r pieces = ap (λ (n : ℕ). record { piece = n; offset = r.offset; cause = Packet Short }) (omega (arith, pieces))

pub next_short : {A : Type 0} (uuid : List ℕ) (stream : ℕ) (done : List (List ℕ)) (piece : List ℕ) (r s : Reading A) (f : AuditFault)
    → r.fault ≡ None → Waits r.held → 0 < length r.held → f ≡ ends_short r → s ≡ record r { fault = Some f }
    → HasRead uuid stream done piece r → HasRead uuid stream (done ++ piece ∷ []) [] s
next_short uuid stream done piece r s f none waits some is met has =
    let says = says_none uuid stream done piece r none has in
    subst (HasRead uuid stream (done ++ piece ∷ []) []) (sym met)
    (has_met uuid stream (done ++ piece ∷ []) [] (record r { fault = Some f }) f has.of_trace has.of_stream refl
    (subst (StopsHowever r.uuid r.stream (done ++ piece ∷ []) []) (ends_at done r says.1 ∙ sym is)
    (short_however done piece r says.0 waits some)))

pub finish_short : {A : Type 0} (uuid : List ℕ) (stream : ℕ) (done : List (List ℕ)) (piece : List ℕ) (r : Reading A) (f : AuditFault)
    → r.fault ≡ None → Waits r.held → 0 < length r.held → f ≡ ends_short r
    → HasRead uuid stream done piece r → ReaderStopsAt uuid stream (done ++ piece ∷ []) f
finish_short uuid stream done piece r f none waits some is has =
    let says = says_none uuid stream done piece r none has in
    subst (λ (u : List ℕ). ReaderStopsAt u stream (done ++ piece ∷ []) f) has.of_trace
    (subst (λ (s : ℕ). ReaderStopsAt r.uuid s (done ++ piece ∷ []) f) has.of_stream
    (subst (ReaderStopsAt r.uuid r.stream (done ++ piece ∷ [])) (ends_at done r says.1 ∙ sym is) (short_at_end done piece r [] says.0 waits some)))

pub finish_found : {A : Type 0} (uuid : List ℕ) (stream : ℕ) (done : List (List ℕ)) (piece : List ℕ) (r : Reading A) → r.fault ≡ None
    → r.held ≡ [] → HasRead uuid stream done piece r
    → (pss : List (List Contents)) × AreAudited uuid stream (done ++ piece ∷ []) pss × (r.audit ≡ audit_of (all_of pss))
finish_found uuid stream done piece r none free has =
    let found = audited done piece r (says_none uuid stream done piece r none has).0 free in (
      found.0,
      subst (λ (u : List ℕ). AreAudited u stream (done ++ piece ∷ []) found.0) has.of_trace
          (subst (λ (s : ℕ). AreAudited r.uuid s (done ++ piece ∷ []) found.0) has.of_stream found.1),
      found.2,
    )

-- ---- a feed

-- the first `at` bytes of a feed are taken; the first reader has counted them all and taken none
pub record Fed {A : Type 0} (first now : Reading A) (bytes : List ℕ) (at : ℕ) : Type 0 where
  pub within : at ≤ length bytes
  pub room : now.offset + length now.held + (length bytes - at) ≤ now.bytes
  pub others : now ≡ with_front first now.audit now.held now.offset
  pub is : (done : List (List ℕ)) (piece : List ℕ) → Is done piece first → Is done (piece ++ take at bytes) now
  pub waits : Waits now.held

pub fed_none : {A : Type 0} (first : Reading A) (bytes : List ℕ) → first.offset + length first.held + length bytes ≤ first.bytes
    → Waits first.held → Fed first first bytes 0
fed_none first bytes room waits = record {
  within = omega arith;
  room = omega (arith, room);
  others = refl;
  is = λ done piece is. subst (λ (t : List ℕ). IsAt first.uuid first.stream done t first.audit first.held first.offset) (sym (append-nil piece)) is;
  waits = waits;
}

pub fed_more : {A : Type 0} (first now after : Reading A) (bytes rest : List ℕ) (at n : ℕ) → Fed first now bytes at → rest ≡ drop at bytes
    → Takes now after rest n → after ≡ with_front now after.audit after.held after.offset → Fed first after bytes (at + n)
fed_more first now after bytes rest at n fed is_rest takes same = record {
  within = omega (arith, takes.within, fed.within, ap length is_rest, length-drop at bytes);
  room = omega (arith, fed.room, takes.place, takes.within, fed.within, ap length is_rest, length-drop at bytes, ap (λ r. r.bytes) same);
  others = same ∙ ap (λ r. with_front r after.audit after.held after.offset) fed.others;
  is = λ done piece is.
      subst (λ (t : List ℕ). IsAt after.uuid after.stream done t after.audit after.held after.offset)
      (append_assoc piece (take at bytes) (take n rest)
      ∙ ap (λ (t : List ℕ). piece ++ t) (ap (λ (t : List ℕ). take at bytes ++ take n t) is_rest ∙ sym (take-add at n bytes)))
      (takes.is done (piece ++ take at bytes) (fed.is done piece is));
  waits = takes.waits;
}

-- the reader before the feed, which counts these bytes first
pub fed_all : {A : Type 0} (uuid : List ℕ) (stream : ℕ) (done : List (List ℕ)) (piece : List ℕ) (before first now : Reading A)
    (bytes : List ℕ) (at : ℕ) → first ≡ record before { bytes = before.bytes + length bytes } → Fed first now bytes at → length bytes ≤ at
    → before.fault ≡ None → HasRead uuid stream done piece before → HasRead uuid stream done (piece ++ bytes) now
fed_all uuid stream done piece before first now bytes at begins fed end none has =
    let says = says_none uuid stream done piece before none has in
    let is_first = subst (λ (r : Reading _). Is done piece r) (sym begins) says.0 in
    let is = subst (λ (t : List ℕ). Is done (piece ++ t) now) (take_all at bytes end) (fed.is done piece is_first) in
    record {
      of_trace = ap (λ r. r.uuid) fed.others ∙ ap (λ r. r.uuid) begins ∙ has.of_trace;
      of_stream = ap (λ r. r.stream) fed.others ∙ ap (λ r. r.stream) begins ∙ has.of_stream;
      says =
          subst (Says done (piece ++ bytes) now) (sym (ap (λ r. r.fault) fed.others ∙ ap (λ r. r.fault) begins ∙ none)) (
            is,
            ap (λ r. r.pieces) fed.others ∙ ap (λ r. r.pieces) begins ∙ says.1,
            omega (arith, ap (λ r. r.bytes) fed.others, ap (λ r. r.bytes) begins, says.2, length-append piece bytes),
            fed.waits,
          );
    }

pub fed_found : {A : Type 0} (uuid : List ℕ) (stream : ℕ) (done : List (List ℕ)) (piece : List ℕ) (before first now after met : Reading A)
    (bytes rest : List ℕ) (at : ℕ) (cause : AuditCause) (f : AuditFault) → first ≡ record before { bytes = before.bytes + length bytes }
    → Fed first now bytes at → rest ≡ drop at bytes → Finds now rest cause
    → after ≡ with_front now after.audit after.held after.offset → now.offset ≡ after.offset
    → f ≡ record { piece = after.pieces - 1; offset = after.offset; cause = cause } → met ≡ record after { fault = Some f }
    → before.fault ≡ None → HasRead uuid stream done piece before → HasRead uuid stream done (piece ++ bytes) met
fed_found uuid stream done piece before first now after met bytes rest at cause f begins fed is_rest finds same place is is_met none has =
    let says = says_none uuid stream done piece before none has in
    let is_first = subst (λ (r : Reading _). Is done piece r) (sym begins) says.0 in
    let of_trace = ap (λ r. r.uuid) same in
    let of_stream = ap (λ r. r.stream) same in
    let pieces : after.pieces - 1 ≡ length done =
    omega (arith, ap (λ r. r.pieces) same, ap (λ r. r.pieces) fed.others, ap (λ r. r.pieces) begins, says.1) in
    let text : (piece ++ take at bytes) ++ rest ≡ piece ++ bytes =
    append_assoc piece (take at bytes) rest
    ∙ ap (λ (t : List ℕ). piece ++ t) (ap (λ (t : List ℕ). take at bytes ++ t) is_rest ∙ take-append-drop at bytes) in
    let fault : record { piece = length done; offset = now.offset; cause = cause } ≡ f =
    at_place (length done) (after.pieces - 1) now.offset after.offset cause f pieces place is in
    let stops = finds done (piece ++ take at bytes) (fed.is done piece is_first) in
    subst (HasRead uuid stream done (piece ++ bytes)) (sym is_met)
    (has_met uuid stream done (piece ++ bytes) (record after { fault = Some f }) f
    (of_trace ∙ ap (λ r. r.uuid) fed.others ∙ ap (λ r. r.uuid) begins ∙ has.of_trace)
    (of_stream ∙ ap (λ r. r.stream) fed.others ∙ ap (λ r. r.stream) begins ∙ has.of_stream) refl
    (subst (λ (u : List ℕ). StopsHowever u after.stream done (piece ++ bytes) f) (sym of_trace)
    (subst (λ (s : ℕ). StopsHowever now.uuid s done (piece ++ bytes) f) (sym of_stream)
    (subst (λ (t : List ℕ). StopsHowever now.uuid now.stream done t f) text
    (subst (StopsHowever now.uuid now.stream done ((piece ++ take at bytes) ++ rest)) fault stops)))))
  where
    at_place : (n m o p : ℕ) (cause : AuditCause) (f : AuditFault) → m ≡ n → o ≡ p → f ≡ record { piece = m; offset = p; cause = cause }
        → record { piece = n; offset = o; cause = cause } ≡ f
    at_place n m o p cause f x y z = sym (z ∙ rw (x, sym y) refl)
