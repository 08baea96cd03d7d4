-- Packets that are written one after another.
use Rattle.std.proofs.Common.{◌≡◌, ℕ, ◌+◌, ◌<◌, ◌≤◌, List, [], ◌∷◌, ◌++◌, length, take, drop, get_or, Option, ap, sym, ◌∙◌, append-nil, add-one, length-append, arith}
use Rattle.std.proofs.Math.Seq.{take-append-add, take-suc}
use Rattle.std.proofs.lemmas.List.{take-append-drop, take-append-le}
use Rattle.std.proofs.lemmas.List.Concat.{flat_map-append}
use Rattle.tr_chunk.specs.Files.{WentOut}
use Rattle.tr_packet.specs.Packets.{Contents, packet_text}
use Rattle.tr_packet.specs.Texts.{packets_text}
use Rattle.tr_record.specs.Bytes.{and_then_bytes}
use Rattle.tr_record.proofs.ByteLemmas.{and_then_bytes-append}

pub packets_text-push : (ps : List Contents) (p : Contents) → packets_text (ps ++ p ∷ []) ≡ packets_text ps ++ packet_text p
packets_text-push ps p = flat_map-append packet_text ps (p ∷ []) ∙ ap (λ (t : List ℕ). packets_text ps ++ t) (append-nil (packet_text p))

-- the texts of the packets up to and with the one at this place
up_to : (ps : List Contents) (i : ℕ) (p : Contents) → i < length ps → p ≡ get_or ps i p
    → packets_text (take (i + 1) ps) ≡ packets_text (take i ps) ++ packet_text p
up_to ps i p within at =
    let more : take (i + 1) ps ≡ take i ps ++ p ∷ [] =
    rw add-one (take-suc ps i p within ∙ ap (λ (q : Contents). take i ps ++ q ∷ []) (sym at)) in
    ap packets_text more ∙ packets_text-push (take i ps) p

-- the packets before it went out, and then it did
pub went_next : (ps : List Contents) (i : ℕ) (p : Contents) (start now after : Option (List ℕ)) → i < length ps
    → p ≡ get_or ps i p → now ≡ and_then_bytes start (packets_text (take i ps)) → after ≡ and_then_bytes now (packet_text p)
    → after ≡ and_then_bytes start (packets_text (take (i + 1) ps))
went_next ps i p start now after within at is then =
    then ∙ ap (λ (k : Option (List ℕ)). and_then_bytes k (packet_text p)) is
    ∙ and_then_bytes-append start (packets_text (take i ps)) (packet_text p)
    ∙ ap (and_then_bytes start) (sym (up_to ps i p within at))

-- the packets before it went out, and then a prefix of it
pub went_short : (ps : List Contents) (i : ℕ) (p : Contents) (start now after : Option (List ℕ)) (k : ℕ) → i < length ps
    → p ≡ get_or ps i p → now ≡ and_then_bytes start (packets_text (take i ps)) → k ≤ length (packet_text p)
    → after ≡ and_then_bytes now (take k (packet_text p)) → WentOut start after (packets_text ps)
went_short ps i p start now after k within at is few then =
    let a = packets_text (take i ps) in
    let rest = packets_text (drop (i + 1) ps) in
    let whole : packets_text ps ≡ (a ++ packet_text p) ++ rest =
    ap packets_text (sym (take-append-drop (i + 1) ps)) ∙ flat_map-append packet_text (take (i + 1) ps) (drop (i + 1) ps)
    ∙ ap (λ (t : List ℕ). t ++ rest) (up_to ps i p within at) in
    let long : length a + k ≤ length (a ++ packet_text p) = omega (arith, few, length-append a (packet_text p)) in
    let front : take (length a + k) (packets_text ps) ≡ a ++ take k (packet_text p) =
    ap (take (length a + k)) whole ∙ take-append-le (length a + k) (a ++ packet_text p) rest long
    ∙ take-append-add a (packet_text p) k in (
      length a + k,
      omega (arith, long, ap length whole, length-append (a ++ packet_text p) rest),
      then ∙ ap (λ (t : Option (List ℕ)). and_then_bytes t (take k (packet_text p))) is
          ∙ and_then_bytes-append start a (take k (packet_text p)) ∙ ap (and_then_bytes start) (sym front),
    )

-- a packet has a text, so all of them have
pub some_text : (ps : List Contents) (i : ℕ) (p : Contents) → i < length ps → p ≡ get_or ps i p → 1 ≤ length (packet_text p)
    → packets_text ps ≡ [] → ⊥
some_text ps i p within at long none =
    let whole =
    ap length (ap packets_text (sym (take-append-drop (i + 1) ps)) ∙ flat_map-append packet_text (take (i + 1) ps) (drop (i + 1) ps)) in
    let front = ap length (up_to ps i p within at) in
    omega (
      arith,
      long,
      ap length none,
      whole,
      front,
      length-append (packets_text (take i ps)) (packet_text p),
      length-append (packets_text (take (i + 1) ps)) (packets_text (drop (i + 1) ps)),
    )
