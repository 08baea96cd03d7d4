-- The last record of a packet.
use Rattle.std.proofs.Common.{◌≡◌, ℕ, ◌-◌, List, [], ◌∷◌, ◌++◌, length, Some, None, refl, ap, ◌∙◌, arith}
use Rattle.std.specs.Fmt.{decimal}
use Rattle.std.specs.Prelude.{slice_get, codes}
use Rattle.tr_packet.specs.Order.{last_serial_after}
use Rattle.tr_packet.specs.Packets.{Contents}
use Rattle.tr_record.specs.Records.{Entry}
use Rattle.tr_replies.specs.Snapshots.{packet_line, serial_text}

behind : (e : Entry) (es : List Entry) (n : ℕ) → last_serial_after (Some e.serial) es ≡ Some n
    → serial_text (slice_get (e ∷ es) (length es)) ≡ decimal n
behind e [] n is = let same : e.serial ≡ n = cc in ap decimal same
behind e (f ∷ fs) n is = behind f fs n is

-- its serial is shown as the last
pub last_told : (es : List Entry) (n : ℕ) → last_serial_after None es ≡ Some n
    → serial_text (slice_get es (length es - 1)) ≡ decimal n
last_told [] n is = cc
last_told (e ∷ es) n is =
    let at : length (e ∷ es) - 1 ≡ length es = omega arith in
    ap (λ (k : ℕ). serial_text (slice_get (e ∷ es) k)) at ∙ behind e es n is

-- a packet's line, by what it shows
abbrev pub line_told : ℕ → ℕ → List ℕ → List ℕ → List ℕ
line_told seq count first last =
    codes "packet " ++ (decimal seq ++ (codes " records " ++ (decimal count ++ (codes " first " ++ (first ++ (codes " last " ++ last))))))

pub line_is : (p : Contents) (seq count : ℕ) (first last : List ℕ) → seq ≡ p.head.seq → count ≡ length p.records
    → first ≡ serial_text (slice_get p.records 0) → last ≡ serial_text (slice_get p.records (length p.records - 1))
    → line_told seq count first last ≡ packet_line p
line_is p seq count first last a b c d = rw (a, b, c, d) refl
