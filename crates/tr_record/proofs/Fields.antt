-- The fields of a record's text: what is read is at the front, and what is at the front is read.
use Rattle.std.proofs.Common.{◌≡◌, ℕ, ◌+◌, ◌^◌, ◌<◌, ◌≤◌, Bool, true, false, cond, ltb, List, ◌++◌, length, take, drop, Option, Some, None, refl, sym, ap, subst, ◌∙◌, append_assoc, arith, inl, inr}
use Rattle.std.specs.Int.{Width, w32, w64, byte_len, from_le_bytes, to_le_bytes}
use Rattle.std.proofs.lemmas.Bool.{cases_lt, ltb-false, le-ltb}
use Rattle.std.proofs.lemmas.List.{take_at, drop_at, take-append-drop, length-append, length-take, get_or-drop, get_or-take, get_or_past}
use Rattle.std.proofs.lemmas.Nat.{le_bytes_4, le_bytes_8, from_le_bytes-to_le_bytes_4, from_le_bytes-to_le_bytes_8}
use Rattle.tr_record.specs.Records.{Entry, record_text, HasText}
use Rattle.tr_record.specs.Reading.{◌>>=◌, number_at, payload_at, entry_at}
use Rattle.tr_record.specs.Whole.{AreBytes}

-- ---- bytes

pub AreBytes-drop : (n : ℕ) (bytes : List ℕ) → AreBytes bytes → AreBytes (drop n bytes)
AreBytes-drop n bytes small i = rw get_or-drop (small (n + i))

pub AreBytes-take : (n : ℕ) (bytes : List ℕ) → AreBytes bytes → AreBytes (take n bytes)
AreBytes-take n bytes small i =
    elim (cases_lt i n) [
      | inl within ↦ rw (get_or-take n bytes i 0 within) (small i)
      | inr past ↦ rw (get_or_past (take n bytes) i 0 (omega (arith, length-take n bytes))) (omega arith)
    ]

-- the bytes are this text, and the rest after it
pub record Parted (text rest bytes : List ℕ) : Type 0 where
  pub parts : bytes ≡ text ++ rest
  pub small : AreBytes rest

pub Parted-then : (first second bytes middle rest : List ℕ) → Parted first middle bytes → Parted second rest middle
    → Parted (first ++ second) rest bytes
Parted-then first second bytes middle rest a b = record {
  parts = a.parts ∙ ap (λ (t : List ℕ). first ++ t) b.parts ∙ sym (append_assoc first second rest);
  small = b.small;
}

Parted-take : (n : ℕ) (bytes : List ℕ) → AreBytes bytes → Parted (take n bytes) (drop n bytes) bytes
Parted-take n bytes small = record { parts = sym (take-append-drop n bytes); small = AreBytes-drop n bytes small }

-- ---- steps that may fail

pub some_step : {A B : Type 0} (o : Option A) (f : A → Option B) (y : B) → (o >>= f) ≡ Some y → (x : A) × (o ≡ Some x) × (f x ≡ Some y)
some_step (Some x) f y e = (x, refl, e)
some_step None f y e = absurd cc

pub passed : {A : Type 0} (test : Bool) (x y : A) → cond test None (Some x) ≡ Some y → (test ≡ false) × (x ≡ y)
passed true x y e = absurd cc
passed false x y e = (refl, cc)

pub some_is : {A : Type 0} (x y : A) → Some x ≡ Some y → x ≡ y
some_is x y e = cc

-- ---- numbers

-- numbers below the limit and texts of this width represent one another
pub record IsNumeral (w : Width) (limit : ℕ) : Type 0 where
  pub len : (n : ℕ) → length (to_le_bytes w n) ≡ byte_len w
  pub written : (bytes : List ℕ) → length bytes ≡ byte_len w → AreBytes bytes → to_le_bytes w (from_le_bytes w bytes) ≡ bytes
  pub read : (n : ℕ) → n < limit → from_le_bytes w (to_le_bytes w n) ≡ n
  pub below : (bytes : List ℕ) → AreBytes bytes → from_le_bytes w bytes < limit

pub numeral_32 : IsNumeral w32 (2 ^ 32)
numeral_32 = record {
  len = λ n. refl;
  written = λ bytes len small. le_bytes_4 bytes _ len small refl;
  read = λ n below. from_le_bytes-to_le_bytes_4 n below;
  below = λ bytes small. omega (arith, small 0, small 1, small 2, small 3);
}

pub numeral_64 : IsNumeral w64 (2 ^ 64)
numeral_64 = record {
  len = λ n. refl;
  written = λ bytes len small. le_bytes_8 bytes _ len small refl;
  read = λ n below. from_le_bytes-to_le_bytes_8 n below;
  below = λ bytes small. omega (arith, small 0, small 1, small 2, small 3, small 4, small 5, small 6, small 7);
}

pub number_takes : (w : Width) (limit : ℕ) → IsNumeral w limit → (bytes : List ℕ) (x : ℕ × List ℕ) → AreBytes bytes
    → number_at w bytes ≡ Some x → Parted (to_le_bytes w x.0) x.1 bytes × (x.0 < limit)
number_takes w limit numeral bytes x small e =
    let front = take (byte_len w) bytes in
    let p = passed (ltb (length bytes) (byte_len w)) (from_le_bytes w front, drop (byte_len w) bytes) x e in
    let long : byte_len w ≤ length bytes = ltb-false _ _ p.0 in
    let front_small = AreBytes-take (byte_len w) bytes small in
    let text : to_le_bytes w (from_le_bytes w front) ≡ front = numeral.written front (omega (arith, length-take (byte_len w) bytes)) front_small in
    subst (λ (y : ℕ × List ℕ). Parted (to_le_bytes w y.0) y.1 bytes × (y.0 < limit)) p.1 (
      subst (λ (t : List ℕ). Parted t (drop (byte_len w) bytes) bytes) (sym text) (Parted-take (byte_len w) bytes small),
      numeral.below front front_small,
    )

pub number_again : (w : Width) (limit : ℕ) → IsNumeral w limit → (n : ℕ) (rest : List ℕ) → n < limit
    → number_at w (to_le_bytes w n ++ rest) ≡ Some (n, rest)
number_again w limit numeral n rest below =
    let text = to_le_bytes w n in
    let len = numeral.len n in
    let long : ltb (length (text ++ rest)) (byte_len w) ≡ false = le-ltb _ _ (omega (arith, length-append text rest)) in
    rw (long, take_at text rest (byte_len w) len, drop_at text rest (byte_len w) len, numeral.read n below) refl

-- ---- payloads

abbrev pub payload_text : List ℕ → List ℕ
payload_text payload = to_le_bytes w32 (length payload) ++ payload

pub payload_takes : (bytes : List ℕ) (x : List ℕ × List ℕ) → AreBytes bytes → payload_at bytes ≡ Some x
    → Parted (payload_text x.0) x.1 bytes × (length x.0 < 2 ^ 32)
unfolding payload_at
payload_takes bytes x small e =
    let s = some_step (number_at w32 bytes) (λ n. cond (ltb (length n.1) n.0) None (Some (take n.0 n.1, drop n.0 n.1))) x e in
    let n = s.0 in
    let number = number_takes w32 (2 ^ 32) numeral_32 bytes n small s.1 in
    let p = passed (ltb (length n.1) n.0) (take n.0 n.1, drop n.0 n.1) x s.2 in
    let long : n.0 ≤ length n.1 = ltb-false _ _ p.0 in
    let len : length (take n.0 n.1) ≡ n.0 = omega (arith, length-take n.0 n.1) in
    let whole = Parted-then (to_le_bytes w32 n.0) (take n.0 n.1) bytes n.1 (drop n.0 n.1) number.0 (Parted-take n.0 n.1 number.0.small) in
    subst (λ (y : List ℕ × List ℕ). Parted (payload_text y.0) y.1 bytes × (length y.0 < 2 ^ 32)) p.1
    (subst (λ (k : ℕ). Parted (to_le_bytes w32 k ++ take n.0 n.1) (drop n.0 n.1) bytes) (sym len) whole, omega (arith, number.1))

pub payload_again : (payload rest : List ℕ) → length payload < 2 ^ 32 → payload_at (payload_text payload ++ rest) ≡ Some (payload, rest)
unfolding payload_at
payload_again payload rest below =
    let long : ltb (length (payload ++ rest)) (length payload) ≡ false = le-ltb _ _ (omega (arith, length-append payload rest)) in
    let number = number_again w32 (2 ^ 32) numeral_32 (length payload) (payload ++ rest) below in
    ap payload_at (append_assoc (to_le_bytes w32 (length payload)) payload rest)
    ∙ rw (number, long, take_at payload rest (length payload) refl, drop_at payload rest (length payload) refl) refl

-- ---- records

pub entry_takes : (bytes : List ℕ) (x : Entry × List ℕ) → AreBytes bytes → entry_at bytes ≡ Some x → Parted (record_text x.0) x.1 bytes × HasText x.0
unfolding entry_at
entry_takes bytes x small e =
    let made : ℕ → ℕ → ℕ → List ℕ × List ℕ → Entry × List ℕ =
    λ id moment serial payload. (record { serial = serial; moment = moment; id = id; payload = payload.0 }, payload.1)
    in
    let a = some_step (number_at w32 bytes)
    (λ id. number_at w64 id.1 >>= λ moment. number_at w64 moment.1 >>= λ serial. payload_at serial.1
    >>= λ payload. Some (made id.0 moment.0 serial.0 payload)) x e in
    let b = some_step (number_at w64 a.0.1)
    (λ moment. number_at w64 moment.1 >>= λ serial. payload_at serial.1
    >>= λ payload. Some (made a.0.0 moment.0 serial.0 payload)) x a.2 in
    let c = some_step (number_at w64 b.0.1) (λ serial. payload_at serial.1 >>= λ payload. Some (made a.0.0 b.0.0 serial.0 payload)) x b.2 in
    let d = some_step (payload_at c.0.1) (λ payload. Some (made a.0.0 b.0.0 c.0.0 payload)) x c.2 in
    let id = number_takes w32 (2 ^ 32) numeral_32 bytes a.0 small a.1 in
    let moment = number_takes w64 (2 ^ 64) numeral_64 a.0.1 b.0 id.0.small b.1 in
    let serial = number_takes w64 (2 ^ 64) numeral_64 b.0.1 c.0 moment.0.small c.1 in
    let payload = payload_takes c.0.1 d.0 serial.0.small d.1 in
    let two = Parted-then (to_le_bytes w64 c.0.0) (payload_text d.0.0) b.0.1 c.0.1 d.0.1 serial.0 payload.0 in
    let three = Parted-then (to_le_bytes w64 b.0.0) (to_le_bytes w64 c.0.0 ++ payload_text d.0.0) a.0.1 b.0.1 d.0.1 moment.0 two in
    let four = Parted-then (to_le_bytes w32 a.0.0) (to_le_bytes w64 b.0.0 ++ (to_le_bytes w64 c.0.0 ++ payload_text d.0.0))
    bytes a.0.1 d.0.1 id.0 three in
    subst (λ (y : Entry × List ℕ). Parted (record_text y.0) y.1 bytes × HasText y.0) (some_is (made a.0.0 b.0.0 c.0.0 d.0) x d.2)
    (four, record { serial = serial.1; moment = moment.1; id = id.1; payload = payload.1 })

pub entry_again : (e : Entry) (rest : List ℕ) → HasText e → entry_at (record_text e ++ rest) ≡ Some (e, rest)
unfolding entry_at
entry_again e rest h =
    let payload = payload_text e.payload in
    let regrouped : record_text e ++ rest
    ≡ to_le_bytes w32 e.id ++ (to_le_bytes w64 e.moment ++ (to_le_bytes w64 e.serial ++ (payload ++ rest))) =
    simp append_assoc in
    let id = number_again w32 (2 ^ 32) numeral_32 e.id (to_le_bytes w64 e.moment ++ (to_le_bytes w64 e.serial ++ (payload ++ rest))) h.id in
    let moment = number_again w64 (2 ^ 64) numeral_64 e.moment (to_le_bytes w64 e.serial ++ (payload ++ rest)) h.moment in
    let serial = number_again w64 (2 ^ 64) numeral_64 e.serial (payload ++ rest) h.serial in
    ap entry_at regrouped ∙ rw (id, moment, serial, payload_again e.payload rest h.payload) refl
