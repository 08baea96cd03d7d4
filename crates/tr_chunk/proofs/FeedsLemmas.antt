-- What feeds say of the pieces that they make.
use Rattle.std.proofs.Common.{◌≡◌, ℕ, zero, suc, ◌+◌, ◌^◌, ◌<◌, List, [], ◌∷◌, ◌++◌, length, get_or, map, take, drop, Option, Some, None, Ok, Err, Bor, refl, sym, ap, subst, ◌∙◌, append-nil, append_assoc, arith}
use Rattle.std.specs.Prelude.{slice_get}
use Rattle.std.proofs.lemmas.List.{length-take, take_more, take-append-le, take-append-drop}
use Rattle.std.proofs.lemmas.List.Concat.{flat_map-append}
use Rattle.std.proofs.lemmas.List.Folds.{length-flat_map-take}
use Rattle.tr_packet.specs.Packets.{Contents, packet_text}
use Rattle.tr_chunk.specs.Audit.{AreAudited, AreOfStream, all_of, audit_of}
use Rattle.tr_chunk.specs.Files.{packets_text}
use Rattle.tr_chunk.specs.Reading.{Reading, HasRead, ReaderStopsAt, StopsHowever, answer_at, bytes_fed, bytes_of_pieces}
use Rattle.tr_chunk.specs.declared.audit_fault.AuditFault.{AuditFault}
use Rattle.tr_chunk.specs.declared.stream_audit.StreamAudit.{StreamAudit}
use Rattle.tr_chunk.proofs.AuditLemmas.{all_of-push}
use Rattle.tr_chunk.proofs.ReadingLemmas.{has_met_more, says_none}

alike : (xs ys : List ℕ) → Some xs ≡ Some ys → xs ≡ ys
alike xs ys e = cc

absent : (i : ℕ) (xs : List ℕ) → slice_get {X = List ℕ} [] i ≡ Some xs → ⊥
absent i xs e = cc

head_same : (x y : List ℕ) (xs ys : List (List ℕ)) → x ∷ xs ≡ y ∷ ys → x ≡ y
head_same x y xs ys e = cc

tail_same : (x y : List ℕ) (xs ys : List (List ℕ)) → x ∷ xs ≡ y ∷ ys → xs ≡ ys
tail_same x y xs ys e = cc

-- the piece at a place, between those before and those after it
around : (texts : List (List ℕ)) (at : ℕ) (piece : List ℕ) → slice_get texts at ≡ Some piece
    → texts ≡ take at texts ++ piece ∷ drop (suc at) texts
around [] at piece e = absurd (absent at piece e)
around (t ∷ texts) zero piece e = ap (λ (x : List ℕ). x ∷ texts) (alike t piece e)
around (t ∷ texts) (suc at) piece e = ap (λ (l : List (List ℕ)). t ∷ l) (around texts at piece e)

-- ---- an empty piece after all pieces changes nothing

get_before : (texts : List (List ℕ)) (i : ℕ) (bytes : List ℕ) → slice_get (texts ++ [] ∷ []) i ≡ Some bytes → 0 < length bytes
    → (slice_get texts i ≡ Some bytes) × (i < length texts)
get_before [] zero bytes is some = absurd (omega (arith, some, empty bytes is))
  where
    empty : (bytes : List ℕ) → Some [] ≡ Some bytes → length bytes ≡ 0
    empty bytes e = ap length (sym (alike [] bytes e))
get_before [] (suc i) bytes is some = absurd (absent i bytes is)
get_before (t ∷ texts) zero bytes is some = (is, omega arith)
get_before (t ∷ texts) (suc i) bytes is some =
    let more = get_before texts i bytes is some in
    (more.0, omega (arith, more.1))

pub stops_before : (uuid : List ℕ) (stream : ℕ) (texts : List (List ℕ)) (f : AuditFault) → ReaderStopsAt uuid stream (texts ++ [] ∷ []) f
    → ReaderStopsAt uuid stream texts f
stops_before uuid stream texts f stops =
    let at = get_before texts f.piece stops.bytes stops.piece (omega (arith, stops.stop.within)) in
    record {
      before = stops.before;
      bytes = stops.bytes;
      texts = sym (take-append-le f.piece texts ([] ∷ []) (omega (arith, at.1))) ∙ stops.texts;
      piece = at.0;
      stop = stops.stop;
    }

-- packets without a text are none
no_packets : (ps : List Contents) → packets_text ps ≡ [] → ps ≡ []
no_packets [] e = refl
no_packets (p ∷ ps) e = absurd (some (packets_text ps) e)
  where
    some : (rest : List ℕ) → packet_text p ++ rest ≡ [] → ⊥
    some rest e = cc

all_of-none : (pss : List (List Contents)) → all_of (pss ++ [] ∷ []) ≡ all_of pss
all_of-none pss = all_of-push pss [] ∙ append-nil (all_of pss)

-- packets of these pieces and of an empty one are packets of these and then none
parted : (texts : List (List ℕ)) (pss : List (List Contents)) → texts ++ [] ∷ [] ≡ map packets_text pss
    → (qss : List (List Contents)) × (texts ≡ map packets_text qss) × (pss ≡ qss ++ [] ∷ [])
parted [] [] e = absurd (cc)
parted [] (ps ∷ []) e = ([], refl, ap (λ (l : List Contents). l ∷ []) (no_packets ps (sym (head_same [] (packets_text ps) [] [] e))))
parted [] (ps ∷ qs ∷ pss) e = absurd (cc)
parted (t ∷ texts) [] e = absurd (cc)
parted (t ∷ texts) (ps ∷ pss) e =
    let more = parted texts pss (tail_same t (packets_text ps) (texts ++ [] ∷ []) (map packets_text pss) e) in (
      ps ∷ more.0,
      cons (head_same t (packets_text ps) (texts ++ [] ∷ []) (map packets_text pss) e) more.1,
      ap (λ (l : List (List Contents)). ps ∷ l) more.2,
    )
  where
    cons : {x y : List ℕ} {xs ys : List (List ℕ)} → x ≡ y → xs ≡ ys → x ∷ xs ≡ y ∷ ys
    cons e f = rw (e, f) refl

pub audited_before : {A : Type 0} (uuid : List ℕ) (stream : ℕ) (texts : List (List ℕ)) (pss : List (List Contents)) (a : StreamAudit A)
    → AreAudited uuid stream (texts ++ [] ∷ []) pss → a ≡ audit_of (all_of pss)
    → (qss : List (List Contents)) × AreAudited uuid stream texts qss × (a ≡ audit_of (all_of qss))
audited_before uuid stream texts pss a audited is =
    let parts = parted texts pss audited.texts in
    let same : all_of pss ≡ all_of parts.0 = ap (λ (l : List (List Contents)). all_of l) parts.2 ∙ all_of-none parts.0 in (
      parts.0,
      record { texts = parts.1; sound = subst (AreOfStream uuid stream) same audited.sound },
      is ∙ ap (λ (l : List Contents). audit_of l) same,
    )

-- ---- a fault that was met on the way

-- the pieces after those that are done
next_of : (texts : List (List ℕ)) → (q : List ℕ) × (qs : List (List ℕ)) × (texts ++ [] ∷ [] ≡ q ∷ qs)
next_of [] = ([], [], refl)
next_of (t ∷ texts) = (t, texts ++ [] ∷ [], refl)

pub stops_within : (uuid : List ℕ) (stream : ℕ) (texts : List (List ℕ)) (at : ℕ) (piece : List ℕ) (f : AuditFault)
    → slice_get texts at ≡ Some piece → StopsHowever uuid stream (take at texts) piece f → ReaderStopsAt uuid stream texts f
stops_within uuid stream texts at piece f is stops =
    subst (λ (l : List (List ℕ)). ReaderStopsAt uuid stream l f)
    (ap (λ (t : List ℕ). take at texts ++ t ∷ drop (suc at) texts) (append-nil piece) ∙ sym (around texts at piece is))
    (stops [] (drop (suc at) texts))

pub stops_next : (uuid : List ℕ) (stream : ℕ) (texts : List (List ℕ)) (at : ℕ) (f : AuditFault)
    → StopsHowever uuid stream (take at texts) [] f → ReaderStopsAt uuid stream texts f
stops_next uuid stream texts at f stops =
    let next = next_of (drop at texts) in
    stops_before uuid stream texts f
    (subst (λ (l : List (List ℕ)). ReaderStopsAt uuid stream l f)
    (ap (λ (l : List (List ℕ)). take at texts ++ l) (sym next.2) ∙ sym (append_assoc (take at texts) (drop at texts) ([] ∷ []))
    ∙ ap (λ (l : List (List ℕ)). l ++ [] ∷ []) (take-append-drop at texts))
    (stops next.0 next.1))

-- ---- feeds of one piece

-- the first `at` of these feeds are read
pub record FedUpTo {A : Type 0} (first now : Reading A) (feeds : List (Bor (List ℕ))) (at : ℕ) : Type 0 where
  pub none : now.fault ≡ None
  pub counts : now.bytes ≡ first.bytes + length (bytes_fed (take at feeds))
  pub read : (uuid : List ℕ) (stream : ℕ) (done : List (List ℕ)) (piece : List ℕ) → HasRead uuid stream done piece first
      → HasRead uuid stream done (piece ++ bytes_fed (take at feeds)) now

pub fed_before : {A : Type 0} (first : Reading A) (feeds : List (Bor (List ℕ))) → first.fault ≡ None → FedUpTo first first feeds 0
fed_before first feeds none = record {
  none = none;
  counts = omega arith;
  read = λ uuid stream done piece has. subst (λ (t : List ℕ). HasRead uuid stream done t first) (sym (append-nil piece)) has;
}

pub feed_fits : {A : Type 0} (first now : Reading A) (feeds : List (Bor (List ℕ))) (at : ℕ) (none : Bor (List ℕ)) → FedUpTo first now feeds at
    → at < length feeds → first.bytes + length (bytes_fed feeds) < 2 ^ 62 → now.bytes + length (get_or feeds at none).now < 2 ^ 62
feed_fits first now feeds at none fed within few =
    omega (arith, fed.counts, few, length-flat_map-take (λ (b : Bor (List ℕ)). b.now) feeds at none within)

pub bytes_more : (feeds : List (Bor (List ℕ))) (at : ℕ) (none : Bor (List ℕ)) → at < length feeds
    → bytes_fed (take (at + 1) feeds) ≡ bytes_fed (take at feeds) ++ (get_or feeds at none).now
bytes_more feeds at none within =
    ap bytes_fed (take_more feeds at none within)
    ∙ flat_map-append (λ (b : Bor (List ℕ)). b.now) (take at feeds) (get_or feeds at none ∷ [])
    ∙ ap (λ (t : List ℕ). bytes_fed (take at feeds) ++ t) (append-nil (get_or feeds at none).now)

pub read_more : {A : Type 0} (uuid : List ℕ) (stream : ℕ) (done : List (List ℕ)) (piece : List ℕ) (after : Reading A)
    (feeds : List (Bor (List ℕ))) (at : ℕ) (none : Bor (List ℕ)) → at < length feeds
    → HasRead uuid stream done ((piece ++ bytes_fed (take at feeds)) ++ (get_or feeds at none).now) after
    → HasRead uuid stream done (piece ++ bytes_fed (take (at + 1) feeds)) after
read_more uuid stream done piece after feeds at none within has =
    subst (λ (t : List ℕ). HasRead uuid stream done t after)
    (append_assoc piece (bytes_fed (take at feeds)) (get_or feeds at none).now
    ∙ ap (λ (t : List ℕ). piece ++ t) (sym (bytes_more feeds at none within))) has

-- after a fault the other feeds change nothing
pub read_rest : {A : Type 0} (uuid : List ℕ) (stream : ℕ) (done : List (List ℕ)) (piece : List ℕ) (after : Reading A) (f : AuditFault)
    (feeds : List (Bor (List ℕ))) (at : ℕ) → after.fault ≡ Some f → HasRead uuid stream done (piece ++ bytes_fed (take at feeds)) after
    → HasRead uuid stream done (piece ++ bytes_fed feeds) after
read_rest uuid stream done piece after f feeds at met has =
    subst (λ (t : List ℕ). HasRead uuid stream done t after)
    (append_assoc piece (bytes_fed (take at feeds)) (bytes_fed (drop at feeds))
    ∙ ap (λ (t : List ℕ). piece ++ t)
    (sym (flat_map-append (λ (b : Bor (List ℕ)). b.now) (take at feeds) (drop at feeds)) ∙ ap bytes_fed (take-append-drop at feeds)))
    (has_met_more uuid stream done (piece ++ bytes_fed (take at feeds)) (bytes_fed (drop at feeds)) after f met has)

-- what an answer says of the reader
pub answered_fault : (met : Option AuditFault) (f : AuditFault) → Err f ≡ answer_at met → met ≡ Some f
answered_fault None f e = absurd (cc)
answered_fault (Some g) f e = cc

pub answered_none : (met : Option AuditFault) → Ok tt ≡ answer_at met → met ≡ None
answered_none None e = refl
answered_none (Some g) e = absurd (cc)

-- ---- pieces of feeds

-- the first `at` of these pieces are read
pub record ReadUpTo {A : Type 0} (uuid : List ℕ) (stream : ℕ) (now : Reading A) (texts : List (List ℕ)) (at : ℕ) : Type 0 where
  pub none : now.fault ≡ None
  pub read : HasRead uuid stream (take at texts) [] now

-- the next piece has so few bytes that they can be counted, and the pieces too
pub piece_fits : {A : Type 0} (uuid : List ℕ) (stream : ℕ) (now : Reading A) (texts : List (List ℕ)) (at : ℕ) (none : List ℕ)
    → ReadUpTo uuid stream now texts at → at < length texts → bytes_of_pieces texts < 2 ^ 62
    → now.bytes + length (get_or texts at none) < 2 ^ 62
piece_fits uuid stream now texts at none upto within few =
    let says = says_none uuid stream (take at texts) [] now upto.none upto.read in
    omega (arith, says.2, few, length-flat_map-take (λ (bytes : List ℕ). bytes) texts at none within)

pub pieces_fit : {A : Type 0} (uuid : List ℕ) (stream : ℕ) (after : Reading A) (texts : List (List ℕ)) (at : ℕ) (piece : List ℕ)
    → HasRead uuid stream (take at texts) piece after → after.fault ≡ None → at < length texts → length texts + 1 < 2 ^ 62
    → after.pieces + 1 < 2 ^ 62
pieces_fit uuid stream after texts at piece has none within few =
    let says = says_none uuid stream (take at texts) piece after none has in
    omega (arith, says.1, few, length-take at texts)

pub read_piece : {A : Type 0} (uuid : List ℕ) (stream : ℕ) (after : Reading A) (texts : List (List ℕ)) (at : ℕ) (piece : List ℕ)
    → at < length texts → piece ≡ get_or texts at piece → HasRead uuid stream (take at texts ++ piece ∷ []) [] after
    → HasRead uuid stream (take (at + 1) texts) [] after
read_piece uuid stream after texts at piece within is has =
    subst (λ (l : List (List ℕ)). HasRead uuid stream l [] after)
    (ap (λ (t : List ℕ). take at texts ++ t ∷ []) is ∙ sym (take_more texts at piece within)) has
