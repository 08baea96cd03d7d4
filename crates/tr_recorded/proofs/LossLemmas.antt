-- A stream's counts of discarded records don't fall from one packet to the next.
use Rattle.std.proofs.Common.{◌≡◌, ◌≢◌, ◌+◌, ◌≤◌, ℕ, zero, suc, Bool, true, false, cond, refl, sym, ap, subst, ◌∙◌, arith, List, [], ◌∷◌, ◌++◌, length, map, take, Option, Some, None, append_assoc}
use Rattle.std.specs.List.{AllByRecursion, zip}
use Rattle.std.proofs.lemmas.List.{map-append, take-map}
use Rattle.tr_book.specs.Parts.{PartState, Rest}
use Rattle.tr_chunk.specs.Audit.{AreOfStream, all_of}
use Rattle.tr_packet.specs.Packets.{Contents}
use Rattle.tr_record.specs.Records.{Entry}
use Rattle.tr_recorded.specs.Recorded.{NoneReleased, recorded_of}
use Rattle.tr_ring.specs.ClosedBuffer.{ClosedBuffer}
use Rattle.tr_session.proofs.PrefixLemmas.{front-passes}
use Rattle.tr_session.specs.Audits.{packets_by_part}
use Rattle.tr_stream.specs.Chunks.{ring_buffers}
use Rattle.tr_stream.specs.Consistent.{AreLeftOf, DiscardsAgree, GapsAgree, HasRecord, IsConsistent, PartsLeft, Piece, Rising, buffer_in, buffers_of, first_in, first_serial, held_among}
use Rattle.tr_stream.specs.Fates.{all_parts}
use Rattle.tr_stream.specs.Kept.{IsKept}
use Rattle.tr_stream.specs.State.{StreamState}
use Rattle.tr_stream.specs.WellFormed.{RecordsRise, next_serial}
use Rattle.tr_survey.specs.Order.{Numbered}
use Rattle.tr_survey.specs.Whole.{AreRecorded, LossesStay, packets_of}
use Rattle.tr_terms.specs.declared.mode.Mode.{Mode}
use Rattle.tr_terms.specs.declared.mode.Mode.TheVariants.{Discard, Overwrite}

-- ---- sub-buffers

-- counts of discarded records don't fall, from this one on
abbrev pub Stay : ℕ → List ClosedBuffer → Type 0
Stay from [] = Unit {0}
Stay from (b ∷ bs) = (from ≤ b.discarded) × Stay b.discarded bs

pub stay_lower : (low from : ℕ) (bs : List ClosedBuffer) → low ≤ from → Stay from bs → Stay low bs
stay_lower low from [] le stay = tt
stay_lower low from (b ∷ bs) le stay = (omega (arith, le, stay.0), stay.1)

pub stay_front : (from : ℕ) (bs cs : List ClosedBuffer) → Stay from (bs ++ cs) → Stay from bs
stay_front from [] cs stay = tt
stay_front from (b ∷ bs) cs stay = (stay.0, stay_front b.discarded bs cs stay.1)

-- ---- where records are discarded

abbrev AllHaveRecords : List ClosedBuffer → Type 0
AllHaveRecords = AllByRecursion (λ (b : ClosedBuffer). b.records ≢ [])

all_have : (pieces : List Piece) → AllByRecursion HasRecord pieces → AllHaveRecords (buffers_of pieces)
all_have [] used = tt
all_have (p ∷ pieces) used = (used.0, all_have pieces used.1)

rise_by : (low : ℕ) (es : List Entry) → RecordsRise low es → low + length es ≤ next_serial low es
rise_by low [] rise = omega arith
rise_by low (e ∷ es) rise = let more = rise_by (e.serial + 1) es rise.1 in omega (arith, more, rise.0)

first_rise : (low next : ℕ) (es : List Entry) → es ≢ [] → RecordsRise low es → first_in es next + length es ≤ next_serial low es
first_rise low next [] some rise = absurd (some refl)
first_rise low next (e ∷ es) some rise = let more = rise_by (e.serial + 1) es rise.1 in omega (arith, more)

low_first : (low next : ℕ) (es : List Entry) → es ≢ [] → RecordsRise low es → low ≤ first_in es next
low_first low next [] some rise = absurd (some refl)
low_first low next (e ∷ es) some rise = rise.0

first_above : (seq serial : ℕ) (bs : List ClosedBuffer) (next_seq next : ℕ) → AllHaveRecords bs → Rising seq serial bs next_seq next
    → serial ≤ first_serial bs next
first_above seq serial [] next_seq next have rising = rising.1
first_above seq serial (b ∷ bs) next_seq next have rising = low_first serial next b.records have.0 rising.1

discards_stay : (from seen seq serial : ℕ) (bs : List ClosedBuffer) (next_seq next : ℕ) → AllHaveRecords bs → DiscardsAgree seen bs next
    → Rising seq serial bs next_seq next → from + seen ≤ first_serial bs next → Stay from bs
discards_stay from seen seq serial [] next_seq next have agree rising low = tt
discards_stay from seen seq serial (b ∷ bs) next_seq next have agree rising low =
    let own = first_rise serial next b.records have.0 rising.1 in
    let more = first_above (b.seq + 1) (next_serial serial b.records) bs next_seq next have.1 rising.2 in
    let is = agree.0 in (
      omega (arith, own, more, is, low),
      discards_stay b.discarded (seen + length b.records) (b.seq + 1) (next_serial serial b.records) bs next_seq next have.1 agree.1 rising.2 (omega (arith, is)),
    )

none_stay : (seq serial : ℕ) (bs : List ClosedBuffer) (next_seq next : ℕ) → GapsAgree seq serial bs next_seq next → Stay 0 bs
none_stay seq serial [] next_seq next agree = tt
none_stay seq serial (b ∷ bs) next_seq next agree =
    (omega arith, subst (λ (n : ℕ). Stay n bs) (sym agree.0) (none_stay (b.seq + 1) (next_serial serial b.records) bs next_seq next agree.3))

pub by_mode : (s : StreamState) (m : Mode) → s.config.mode ≡ m → (c : IsConsistent s) → Stay 0 (buffers_of c.pieces)
by_mode s Discard is c =
    discards_stay 0 0 0 0 (buffers_of c.pieces) _ _ (all_have c.pieces c.are.used) (c.discards is).1 c.rising (omega arith)
by_mode s Overwrite is c = none_stay 0 0 (buffers_of c.pieces) _ _ (c.overwrites is)

-- ---- those that are held

held_by : (from : ℕ) (cleared : Bool) (b : ClosedBuffer) (held : List ClosedBuffer) → from ≤ b.discarded → Stay b.discarded held
    → Stay from (cond cleared held (b ∷ held))
held_by from true b held le stay = stay_lower from b.discarded held le stay
held_by from false b held le stay = (le, stay)

pub held_stay : (from : ℕ) (pieces : List Piece) → Stay from (buffers_of pieces) → Stay from (held_among pieces)
held_stay from [] stay = tt
held_stay from (p ∷ pieces) stay = held_by from p.cleared p.buffer (held_among pieces) stay.0 (held_stay p.buffer.discarded pieces stay.1)

left_is : (packets : List Contents) (released : Option Rest) (own : List ClosedBuffer) → released ≡ None → AreLeftOf packets released own
    → map buffer_in packets ≡ own
left_is packets None own none left = left
left_is packets (Some rest) own none left = absurd cc

abbrev packets_by : List PartState → List (List Contents)
packets_by parts = map (λ (p : PartState). p.packets) parts

-- the first k parts come first
kept_first : (k : ℕ) (parts : List PartState) (kept : List ClosedBuffer) → AllByRecursion (λ (p : PartState). p.released ≡ None) (take k parts)
    → PartsLeft parts kept → (rest : List ClosedBuffer) × (kept ≡ map buffer_in (all_of (packets_by (take k parts))) ++ rest)
kept_first zero parts kept none left = (kept, refl)
kept_first (suc k) [] kept none left = (kept, refl)
kept_first (suc k) (p ∷ parts) kept none left =
    let more = kept_first k parts left.1 none.1 left.4 in
    let all = all_of (packets_by (take k parts)) in (
      more.0,
      left.2 ∙ ap (λ (l : List ClosedBuffer). l ++ left.1) (sym (left_is p.packets p.released left.0 none.0 left.3))
          ∙ ap (λ (l : List ClosedBuffer). map buffer_in p.packets ++ l) more.1
          ∙ sym (append_assoc (map buffer_in p.packets) (map buffer_in all) more.0)
          ∙ ap (λ (l : List ClosedBuffer). l ++ more.0) (sym (map-append buffer_in p.packets all)),
    )

-- ---- packets

packets_stay : (from : ℕ) (ps : List Contents) → Stay from (map buffer_in ps) → LossesStay from ps
packets_stay from [] stay = tt
packets_stay from (p ∷ ps) stay = (stay.0, packets_stay p.head.lost ps stay.1)

first_stay : (s : StreamState) (k : ℕ) → NoneReleased k s → IsConsistent s → LossesStay 0 (all_of (packets_by (take k (all_parts s.parts))))
first_stay s k none c =
    let all = all_of (packets_by (take k (all_parts s.parts))) in
    let first = kept_first k (all_parts s.parts) c.are.kept none c.are.left in
    packets_stay 0 all
    (stay_front 0 (map buffer_in all) first.0
    (subst (Stay 0) first.1
    (stay_front 0 c.are.kept (ring_buffers s.counters.last s.ring)
    (subst (Stay 0) c.are.held (held_stay 0 c.pieces (by_mode s s.config.mode refl c))))))

-- ---- archive by archive

pub second_of_zip : {X Y : Type 0} (xs : List X) (ys : List Y) → map (λ (r : X × Y). r.1) (zip xs ys) ≡ take (length xs) ys
second_of_zip [] ys = refl
second_of_zip (x ∷ xs) [] = refl
second_of_zip {Y = Y} (x ∷ xs) (y ∷ ys) = ap (λ (l : List Y). y ∷ l) (second_of_zip xs ys)

pub recorded : (s : StreamState) (archives : List Numbered) → NoneReleased (length archives) s → IsKept s → IsConsistent s
    → AreRecorded s.config.uuid s.config.number (recorded_of archives s)
recorded s archives none kept c =
    let k = length archives in
    let pss = packets_by_part s in
    let are : packets_of (recorded_of archives s) ≡ all_of (take k pss) = ap all_of (second_of_zip archives pss) in
    let by : take k pss ≡ packets_by (take k (all_parts s.parts)) = take-map (λ (p : PartState). p.packets) k (all_parts s.parts) in
    record {
      sound = subst (AreOfStream s.config.uuid s.config.number) (sym are) (front-passes s kept.history.0 k kept.sound kept.history.1).sound;
      losses = subst (LossesStay 0) (sym (are ∙ ap all_of by)) (first_stay s k none c);
    }
