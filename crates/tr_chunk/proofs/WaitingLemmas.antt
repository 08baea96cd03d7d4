-- Bytes that are too few for a packet, and faults that stay, whatever follows.
use Rattle.std.proofs.Common.{◌≡◌, ◌≢◌, ℕ, ◌+◌, ◌*◌, ◌/◌, ◌%◌, ◌<◌, ◌≤◌, Bool, true, false, not, cond, ◌&&◌, leb, ltb, eqb, List, [], ◌∷◌, ◌++◌, length, take, drop, Option, Some, None, refl, sym, ap, ◌∙◌, append_assoc, length-append, arith, ◌⊎◌, inl, inr}
use Rattle.std.specs.Int.{Width, w32, w64, byte_len, from_le_bytes}
use Rattle.std.specs.List.{starts_with}
use Rattle.std.specs.Option.{option_or}
use Rattle.std.proofs.lemmas.Bool.{leb-true, ltb-true, ltb-false, le-ltb}
use Rattle.std.proofs.lemmas.List.{length-drop, take-append-le, drop-append-le}
use Rattle.tr_record.specs.Records.{Entry}
use Rattle.tr_packet.specs.Decoding.{Begins, number_from, stream_id_in, begin_in, end_in, content_bits_in, packet_bits_in, body_in, sizes_hold, fields_fault, front_fault, records_fault, first_fault}
use Rattle.tr_record.specs.Whole.{entries_at}
use Rattle.tr_packet.specs.Packets.{Contents, magic, packet_text}
use Rattle.tr_packet.specs.declared.faults.PacketFault.{PacketFault}
use Rattle.tr_packet.specs.declared.faults.PacketFault.TheVariants.{Short, BadMagic, BadStreamId, BadSize, SerialOrder, MomentOrder}
use Rattle.tr_packet.proofs.OrderLemmas.{second_holds}
use Rattle.tr_chunk.specs.Audit.{IsCause, IsLarger, TakesMemory}
use Rattle.tr_chunk.specs.Reading.{Waits}
use Rattle.tr_chunk.specs.declared.audit_fault.AuditCause.{AuditCause}
use Rattle.tr_chunk.specs.declared.audit_fault.AuditCause.TheVariants.{Packet, NumberRepeat, SerialRepeat, Foreign, NoMemory}
use Rattle.tr_terms.specs.declared.limits.TheConstants.{LARGEST_PACKET, PACKET_HEADER, SMALLEST_PACKET}

-- ---- what the decoder says of few bytes

some_same : (f g : PacketFault) → Some f ≡ Some g → f ≡ g
some_same f g e = cc

pub none_is_some : {X : Type 0} (x : X) → None ≡ Some x → ⊥
none_is_some x e = cc

pub nothing_waits : Waits []
unfolding front_fault fields_fault
nothing_waits = refl

-- the fault of the fields, if a header and context are there
abbrev later_faults : List ℕ → Option PacketFault
later_faults bytes =
    cond (not (starts_with eqb bytes magic)) (Some BadMagic)
    (cond (not (eqb (stream_id_in bytes) 0)) (Some BadStreamId)
    (cond (not (sizes_hold (content_bits_in bytes) (packet_bits_in bytes))) (Some BadSize) None))

few : (bytes : List ℕ) → ltb (length bytes) PACKET_HEADER ≡ true → fields_fault bytes ≡ Some Short
unfolding fields_fault
few bytes test = ap (λ (b : Bool). cond b (Some Short) (later_faults bytes)) test

enough : (bytes : List ℕ) → ltb (length bytes) PACKET_HEADER ≡ false → fields_fault bytes ≡ later_faults bytes
unfolding fields_fault
enough bytes test = ap (λ (b : Bool). cond b (Some Short) (later_faults bytes)) test

not_short : (a b c : Bool) → cond a (Some BadMagic) (cond b (Some BadStreamId) (cond c (Some BadSize) None)) ≡ Some Short → ⊥
not_short true b c e = cc
not_short false true c e = cc
not_short false false true e = cc
not_short false false false e = cc

-- the first fault of these bytes, given that of their fields and whether there are too few
abbrev behind_fields : List ℕ → Option PacketFault → Bool → Option PacketFault
behind_fields bytes fields lacks =
    option_or (option_or fields (cond lacks (Some Short) None)) (records_fault (begin_in bytes) (end_in bytes) (entries_at (body_in bytes)))

abbrev lacks : List ℕ → Bool
lacks bytes = ltb (length bytes) (packet_bits_in bytes / 8)

first_is : (bytes : List ℕ) → first_fault bytes ≡ behind_fields bytes (fields_fault bytes) (lacks bytes)
unfolding front_fault
first_is bytes = refl

-- ---- what waits

order_not_short : (a b : Bool) → cond (not a) (Some SerialOrder) (cond (not b) (Some MomentOrder) None) ≡ Some Short → ⊥
order_not_short true true e = cc
order_not_short true false e = cc
order_not_short false b e = cc

records_not_short : (begin end : ℕ) (o : Option (List Entry)) → records_fault begin end o ≡ Some Short → ⊥
records_not_short begin end None e = cc
records_not_short begin end (Some es) e = order_not_short _ _ e

-- bytes that wait are fewer than a header and context, or their fields are right and they are fewer than these say
pub record Lacks (bytes : List ℕ) : Type 0 where
  pub fields : fields_fault bytes ≡ None
  pub some : length bytes < packet_bits_in bytes / 8

lacks_by : (bytes : List ℕ) (fields : Option PacketFault) (test : Bool) → fields_fault bytes ≡ fields → lacks bytes ≡ test
    → (fields ≡ Some Short → ⊥) → behind_fields bytes fields test ≡ Some Short → Lacks bytes
lacks_by bytes (Some f) test is is-test other e = absurd (other e)
lacks_by bytes None true is is-test other e = record { fields = is; some = ltb-true (length bytes) (packet_bits_in bytes / 8) is-test }
lacks_by bytes None false is is-test other e = absurd (records_not_short (begin_in bytes) (end_in bytes) (entries_at (body_in bytes)) e)

pub waits_long : (bytes : List ℕ) → Waits bytes → PACKET_HEADER ≤ length bytes → Lacks bytes
waits_long bytes waits long =
    lacks_by bytes (fields_fault bytes) (lacks bytes) refl refl
    (λ e. not_short _ _ _ (sym (enough bytes (le-ltb (length bytes) PACKET_HEADER long)) ∙ e))
    (sym (first_is bytes) ∙ waits)

long_if_right : (bytes : List ℕ) (test : Bool) → ltb (length bytes) PACKET_HEADER ≡ test → fields_fault bytes ≡ None → test ≡ false
long_if_right bytes true is none = absurd (none_is_some Short (sym none ∙ few bytes is))
long_if_right bytes false is none = refl

no_fault : (test : Bool) (f : PacketFault) (o : Option PacketFault) → cond test (Some f) o ≡ None → (test ≡ false) × (o ≡ None)
no_fault true f o e = absurd (none_is_some f (sym e))
no_fault false f o e = (refl, e)

holds : (test : Bool) → not test ≡ false → test ≡ true
holds true e = refl
holds false e = absurd cc

-- the size that right fields say
size_within : (bytes : List ℕ) → fields_fault bytes ≡ None → packet_bits_in bytes / 8 ≤ LARGEST_PACKET
size_within bytes none =
    let size = packet_bits_in bytes in
    let limits = leb (8 * SMALLEST_PACKET) size && leb size (8 * LARGEST_PACKET) in
    let rest = eqb (size % 8) 0 && limits in
    let sizes = cond (not (sizes_hold (content_bits_in bytes) size)) (Some BadSize) None in
    let id = cond (not (eqb (stream_id_in bytes) 0)) (Some BadStreamId) sizes in
    let long = long_if_right bytes (ltb (length bytes) PACKET_HEADER) refl none in
    let a = no_fault (not (starts_with eqb bytes magic)) BadMagic id (sym (enough bytes long) ∙ none) in
    let b = no_fault (not (eqb (stream_id_in bytes) 0)) BadStreamId sizes a.1 in
    let c = no_fault (not (sizes_hold (content_bits_in bytes) size)) BadSize None b.1 in
    let hold = holds (sizes_hold (content_bits_in bytes) size) c.0 in
    let high = second_holds (leb (8 * SMALLEST_PACKET) size) (leb size (8 * LARGEST_PACKET))
    (second_holds (eqb (size % 8) 0) limits (second_holds (eqb (content_bits_in bytes) size) rest hold)) in
    omega (arith, leb-true size (8 * LARGEST_PACKET) high)

pub wanted_by_size : (bytes : List ℕ) (size : ℕ) → Waits bytes → fields_fault bytes ≡ None → size ≡ packet_bits_in bytes / 8
    → (length bytes < size) × (size ≤ LARGEST_PACKET)
wanted_by_size bytes size waits none is =
    let long = ltb-false (length bytes) PACKET_HEADER (long_if_right bytes (ltb (length bytes) PACKET_HEADER) refl none) in
    (omega (arith, (waits_long bytes waits long).some, is), omega (arith, size_within bytes none, is))

fields_first : (bytes : List ℕ) (f : PacketFault) (o : Option PacketFault) → o ≡ Some f → behind_fields bytes o (lacks bytes) ≡ Some f
fields_first bytes f o e = rw e refl

short_of : (bytes : List ℕ) (test : Bool) → ltb (length bytes) PACKET_HEADER ≡ test → fields_fault bytes ≡ Some Short → length bytes < PACKET_HEADER
short_of bytes true is short = ltb-true (length bytes) PACKET_HEADER is
short_of bytes false is short = absurd (not_short _ _ _ (sym (enough bytes is) ∙ short))

pub wanted_by_header : (bytes : List ℕ) (f : PacketFault) → Waits bytes → fields_fault bytes ≡ Some f → length bytes < PACKET_HEADER
wanted_by_header bytes f waits fault =
    let is : f ≡ Short = some_same f Short (sym (fields_first bytes f (fields_fault bytes) fault) ∙ sym (first_is bytes) ∙ waits) in
    short_of bytes (ltb (length bytes) PACKET_HEADER) refl (fault ∙ ap Some is)

-- ---- a fault stays, whatever follows

field_stays : (w : Width) (at : ℕ) (bytes more : List ℕ) → at + byte_len w ≤ length bytes
    → number_from w at (bytes ++ more) ≡ number_from w at bytes
field_stays w at bytes more within =
    ap (λ (t : List ℕ). from_le_bytes w (take (byte_len w) t)) (drop-append-le at bytes more (omega (arith, within)))
    ∙ ap (from_le_bytes w) (take-append-le (byte_len w) (drop at bytes) more (omega (arith, within, length-drop at bytes)))

starts_stays : (bytes more : List ℕ) → 4 ≤ length bytes → starts_with eqb (bytes ++ more) magic ≡ starts_with eqb bytes magic
starts_stays [] more within = absurd (omega (arith, within))
starts_stays (a ∷ []) more within = absurd (omega (arith, within))
starts_stays (a ∷ b ∷ []) more within = absurd (omega (arith, within))
starts_stays (a ∷ b ∷ c ∷ []) more within = absurd (omega (arith, within))
starts_stays (a ∷ b ∷ c ∷ d ∷ rest) more within = refl

record SameFields (bytes more : List ℕ) : Type 0 where
  fields : fields_fault (bytes ++ more) ≡ fields_fault bytes
  size : packet_bits_in (bytes ++ more) ≡ packet_bits_in bytes
  begin : begin_in (bytes ++ more) ≡ begin_in bytes
  end : end_in (bytes ++ more) ≡ end_in bytes

same_later : (a a' b b' c c' : Bool) → a ≡ a' → b ≡ b' → c ≡ c'
    → cond a (Some BadMagic) (cond b (Some BadStreamId) (cond c (Some BadSize) None))
    ≡ cond a' (Some BadMagic) (cond b' (Some BadStreamId) (cond c' (Some BadSize) None))
same_later a a' b b' c c' x y z = rw (x, y, z) refl

fields_stay : (bytes more : List ℕ) → PACKET_HEADER ≤ length bytes → SameFields bytes more
fields_stay bytes more long =
    let size = field_stays w64 56 bytes more (omega (arith, long)) in
    record {
      fields =
          enough (bytes ++ more) (le-ltb (length (bytes ++ more)) PACKET_HEADER (omega (arith, long, length-append bytes more)))
          ∙ same_later _ _ _ _ _ _ (ap not (starts_stays bytes more (omega (arith, long))))
          (ap (λ (n : ℕ). not (eqb n 0)) (field_stays w32 20 bytes more (omega (arith, long))))
          (ap (λ (n : ℕ). not (sizes_hold n (packet_bits_in (bytes ++ more)))) (field_stays w64 48 bytes more (omega (arith, long)))
          ∙ ap (λ (n : ℕ). not (sizes_hold (content_bits_in bytes) n)) size)
          ∙ sym (enough bytes (le-ltb (length bytes) PACKET_HEADER long));
      size = size;
      begin = field_stays w64 32 bytes more (omega (arith, long));
      end = field_stays w64 40 bytes more (omega (arith, long));
    }

body_stays : (bytes more : List ℕ) → packet_bits_in (bytes ++ more) ≡ packet_bits_in bytes → packet_bits_in bytes / 8 ≤ length bytes
    → body_in (bytes ++ more) ≡ body_in bytes
body_stays bytes more size there =
    ap (λ (n : ℕ). drop PACKET_HEADER (take (n / 8) (bytes ++ more))) size
    ∙ ap (drop PACKET_HEADER) (take-append-le (packet_bits_in bytes / 8) bytes more there)

same_behind : (bytes more : List ℕ) (f : PacketFault) (fields : Option PacketFault) (test : Bool) → PACKET_HEADER ≤ length bytes
    → fields_fault bytes ≡ fields → lacks bytes ≡ test → behind_fields bytes fields test ≡ Some f → (f ≡ Short → ⊥)
    → first_fault (bytes ++ more) ≡ Some f
same_behind bytes more f (Some g) test long is is-test e other =
    first_is (bytes ++ more) ∙ fields_first (bytes ++ more) f (fields_fault (bytes ++ more)) ((fields_stay bytes more long).fields ∙ is ∙ e)
same_behind bytes more f None true long is is-test e other = absurd (other (some_same f Short (sym e)))
same_behind bytes more f None false long is is-test e other =
    let same = fields_stay bytes more long in
    let there = ltb-false (length bytes) (packet_bits_in bytes / 8) is-test in
    first_is (bytes ++ more)
    ∙ ap (λ (o : Option PacketFault). behind_fields (bytes ++ more) o (lacks (bytes ++ more))) (same.fields ∙ is)
    ∙ ap (behind_fields (bytes ++ more) None)
    (le-ltb (length (bytes ++ more)) (packet_bits_in (bytes ++ more) / 8)
    (omega (arith, there, length-append bytes more, ap (λ (n : ℕ). n / 8) same.size)))
    ∙ same_records (begin_in (bytes ++ more)) (begin_in bytes) (end_in (bytes ++ more)) (end_in bytes) (body_in (bytes ++ more)) (body_in bytes)
    same.begin same.end (body_stays bytes more same.size there)
    ∙ e
  where
    same_records : (b b' e e' : ℕ) (t t' : List ℕ) → b ≡ b' → e ≡ e' → t ≡ t'
        → records_fault b e (entries_at t) ≡ records_fault b' e' (entries_at t')
    same_records b b' e e' t t' x y z = rw (x, y, z) refl

first_stays_by : (bytes more : List ℕ) (f : PacketFault) (test : Bool) → ltb (length bytes) PACKET_HEADER ≡ test
    → first_fault bytes ≡ Some f → (f ≡ Short → ⊥) → first_fault (bytes ++ more) ≡ Some f
first_stays_by bytes more f true is e other =
    absurd (other (some_same f Short (sym e ∙ first_is bytes ∙ fields_first bytes Short (fields_fault bytes) (few bytes is))))
first_stays_by bytes more f false is e other =
    same_behind bytes more f (fields_fault bytes) (lacks bytes) (ltb-false (length bytes) PACKET_HEADER is) refl refl (sym (first_is bytes) ∙ e) other

begins_more : (p : Contents) (rest bytes more : List ℕ) → Begins p rest bytes → Begins p (rest ++ more) (bytes ++ more)
begins_more p rest bytes more b = record {
  packet = b.packet;
  parts = ap (λ (t : List ℕ). t ++ more) b.parts ∙ append_assoc (packet_text p) rest more;
}

is_short : (f : PacketFault) → f ≡ Short → Packet f ≡ Packet Short
is_short f e = ap Packet e

-- the header's fields are right, so all of it is there
is_long : (bytes : List ℕ) → fields_fault bytes ≡ None → PACKET_HEADER ≤ length bytes
is_long bytes none = ltb-false (length bytes) PACKET_HEADER (long_if_right bytes (ltb (length bytes) PACKET_HEADER) refl none)

pub larger_stays : (room : ℕ) (bytes more : List ℕ) → IsLarger room bytes → IsLarger room (bytes ++ more)
larger_stays room bytes more is =
    let same = fields_stay bytes more (is_long bytes is.fields) in
    record { fields = same.fields ∙ is.fields; more = omega (arith, is.more, ap (λ (n : ℕ). n / 8) same.size) }

-- bytes that wait and are more than this
pub larger_waits : (room : ℕ) (bytes : List ℕ) → PACKET_HEADER ≤ room → Waits bytes → room < length bytes → IsLarger room bytes
larger_waits room bytes header waits more =
    let lacks = waits_long bytes waits (omega (arith, header, more)) in
    record { fields = lacks.fields; more = omega (arith, more, lacks.some) }

-- bytes that are more than this with those that they lack
pub larger_wanted : (room : ℕ) (held front : List ℕ) (n : ℕ) → fields_fault held ≡ None → length held + n ≡ packet_bits_in held / 8
    → length front ≤ n → room < length held + length front → IsLarger room (held ++ front)
larger_wanted room held front n fields whole within more =
    larger_stays room held front (record { fields = fields; more = omega (arith, whole, within, more) })

-- no packet is larger than the largest one
not_larger : (bytes : List ℕ) → IsLarger LARGEST_PACKET bytes → ⊥
not_larger bytes is = omega (arith, is.more, size_within bytes is.fields)

memory_stays : (room : ℕ) (uuid : List ℕ) (stream : ℕ) (number serial : Option ℕ) (bytes more : List ℕ)
    → TakesMemory uuid stream number serial bytes ⊎ IsLarger room bytes
    → TakesMemory uuid stream number serial (bytes ++ more) ⊎ IsLarger room (bytes ++ more)
memory_stays room uuid stream number serial bytes more (inl is) = inl (record {
  packet = is.packet;
  rest = is.rest ++ more;
  begins = begins_more is.packet is.rest bytes more is.begins;
  right = is.right;
  absent = is.absent;
})
memory_stays room uuid stream number serial bytes more (inr is) = inr (larger_stays room bytes more is)

-- an audit with less room may stop wherever one with room for every packet stops
pub cause_anyhow : (room : ℕ) (uuid : List ℕ) (stream : ℕ) (number serial : Option ℕ) (cause : AuditCause) (bytes : List ℕ)
    → IsCause LARGEST_PACKET uuid stream number serial cause bytes → IsCause room uuid stream number serial cause bytes
cause_anyhow room uuid stream number serial NoMemory bytes (inl is) = inl is
cause_anyhow room uuid stream number serial NoMemory bytes (inr is) = absurd (not_larger bytes is)
cause_anyhow room uuid stream number serial (Packet f) bytes is = is
cause_anyhow room uuid stream number serial NumberRepeat bytes is = is
cause_anyhow room uuid stream number serial SerialRepeat bytes is = is
cause_anyhow room uuid stream number serial Foreign bytes is = is

pub cause_stays : (room : ℕ) (uuid : List ℕ) (stream : ℕ) (number serial : Option ℕ) (cause : AuditCause) (bytes more : List ℕ)
    → IsCause room uuid stream number serial cause bytes → cause ≢ Packet Short
    → IsCause room uuid stream number serial cause (bytes ++ more)
cause_stays room uuid stream number serial NoMemory bytes more is other = memory_stays room uuid stream number serial bytes more is
cause_stays room uuid stream number serial (Packet f) bytes more is other =
    first_stays_by bytes more f (ltb (length bytes) PACKET_HEADER) refl is (λ e. other (is_short f e))
cause_stays room uuid stream number serial NumberRepeat bytes more is other = (is.0, is.1 ++ more, begins_more is.0 is.1 bytes more is.2, is.3)
cause_stays room uuid stream number serial SerialRepeat bytes more is other = (is.0, is.1 ++ more, begins_more is.0 is.1 bytes more is.2, is.3)
cause_stays room uuid stream number serial Foreign bytes more is other = (is.0, is.1 ++ more, begins_more is.0 is.1 bytes more is.2, is.3)
