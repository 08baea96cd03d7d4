-- What packets weigh.
use Rattle.std.proofs.Common.{◌≡◌, ◌+◌, ◌*◌, ◌<◌, ◌≤◌, ℕ, List, [], ◌∷◌, ◌++◌, length, take, get_or, IsTrue, ap, sym, ◌∙◌, add-one, arith}
use Rattle.std.proofs.Math.Seq.{take-suc}
use Rattle.std.specs.List.{AllByRecursion}
use Rattle.std.proofs.lemmas.Bool.{false≢true}
use Rattle.std.proofs.lemmas.List.Sums.{sum_by-cons, sum_by_push, sum_by_more_le}
use Rattle.tr_book.specs.Parts.{bytes_of, records_of}
use Rattle.tr_packet.proofs.OrderLemmas.{moments_hold_says}
use Rattle.tr_packet.specs.Order.{moments_hold}
use Rattle.tr_packet.specs.Packets.{Contents, IsPacket, packet_size}
use Rattle.tr_record.specs.Records.{Entry}
use Rattle.tr_terms.specs.declared.limits.TheConstants.{LARGEST_PACKET}

has_record : (begin end : ℕ) (es : List Entry) → IsTrue (moments_hold begin end es) → 1 ≤ length es
has_record begin end [] holds = absurd (false≢true (moments_hold_says begin end [] holds).starts)
has_record begin end (e ∷ es) holds = omega arith

-- at most the bytes of the largest packet for each record
pub small : (ps : List Contents) → AllByRecursion IsPacket ps → bytes_of ps ≤ LARGEST_PACKET * records_of ps
small [] are = omega arith
small (p ∷ ps) are =
    omega (
      arith,
      are.0.records.small,
      has_record p.head.begin p.head.end p.records are.0.records.moments,
      small ps are.1,
      sum_by-cons packet_size p ps,
      sum_by-cons (λ (q : Contents). length q.records) p ps,
    )

-- at most those of the largest packet for each of its records
pub small_one : (p : Contents) → IsPacket p → packet_size p ≤ LARGEST_PACKET * length p.records
small_one p is = omega (arith, is.records.small, has_record p.head.begin p.head.end p.records is.records.moments)

-- one more packet
pub record OneMore (ps : List Contents) (i : ℕ) (p : Contents) : Type 0 where
  pub bytes : bytes_of (take (i + 1) ps) ≡ bytes_of (take i ps) + packet_size p
  pub records : records_of (take (i + 1) ps) ≡ records_of (take i ps) + length p.records
  pub small : packet_size p ≤ LARGEST_PACKET * length p.records
  pub few : records_of (take i ps) + length p.records ≤ records_of ps

pub one_more : (ps : List Contents) (i : ℕ) (p : Contents) → i < length ps → p ≡ get_or ps i p → IsPacket p → OneMore ps i p
one_more ps i p within at is =
    let more : take (i + 1) ps ≡ take i ps ++ p ∷ [] =
    rw add-one (take-suc ps i p within ∙ ap (λ (q : Contents). take i ps ++ q ∷ []) (sym at)) in
    let count = λ (q : Contents). length q.records in
    record {
      bytes = ap bytes_of more ∙ sum_by_push packet_size (take i ps) p;
      records = ap records_of more ∙ sum_by_push count (take i ps) p;
      small = small_one p is;
      few = omega (arith, sum_by_more_le count ps i p within, ap count at);
    }
