-- What is wrong with bytes, packet by packet.
use Rattle.std.proofs.Common.{◌≡◌, ◌≢◌, ◌<◌, ◌≤◌, ℕ, zero, suc, refl, sym, ap, ◌∙◌, arith, Bool, true, false, not, cond, ◌&&◌, eqb, List, [], ◌∷◌, ◌++◌, drop, length, Option, Some, None, append_assoc}
use Rattle.std.proofs.lemmas.List.{length-append, length-drop}
use Rattle.std.proofs.lemmas.List.Folds.{find-append}
use Rattle.std.specs.Cmp.Lexicographic.{pointwise}
use Rattle.std.specs.Option.{option_map, option_or}
use Rattle.tr_chunk.proofs.AuditLemmas.{front_within}
use Rattle.tr_chunk.proofs.WaitingLemmas.{nothing_waits}
use Rattle.tr_chunk.specs.Audit.{belongs, records_of_packets}
use Rattle.tr_describe.specs.Flaws.{and_after, are_packets, bytes_flaw, first_unfit, flaw_after, flaw_by, packet_at, packet_by, packets_of, packets_within}
use Rattle.tr_describe.specs.Steps.{AreAlike, AreWrong, IsStep, step_of}
use Rattle.tr_describe.specs.declared.flaws.Flaw.{Flaw}
use Rattle.tr_describe.specs.declared.flaws.Flaw.TheVariants.{Unsound, Unfit}
use Rattle.tr_events.specs.Events.{Declarations}
use Rattle.tr_packet.specs.Decoding.{Begins, first_fault}
use Rattle.tr_packet.specs.Packets.{Contents, packet_size, packet_text}
use Rattle.tr_packet.specs.Texts.{packets_text}
use Rattle.tr_packet.specs.declared.faults.PacketFault.{PacketFault}
use Rattle.tr_packet.specs.declared.faults.PacketFault.TheVariants.{Short, BadMagic, BadStreamId, BadSize, BadRecord, SerialOrder, MomentOrder}
use Rattle.tr_record.specs.Records.{Entry}
use Rattle.tr_survey.proofs.BytesLemmas.{fault_stands, starts}

-- ---- lists

itself : (n : ℕ) → eqb n n ≡ true
itself n = grind arith

-- behind the same bytes
same_behind : (front a b : List ℕ) → pointwise eqb (front ++ a) (front ++ b) ≡ pointwise eqb a b
same_behind [] a b = refl
same_behind (n ∷ front) a b = ap (λ (t : Bool). t && pointwise eqb (front ++ a) (front ++ b)) (itself n) ∙ same_behind front a b

nothing_else : (bytes : List ℕ) → 0 < length bytes → pointwise eqb bytes [] ≡ false
nothing_else [] some = absurd (omega arith)
nothing_else (b ∷ bytes) some = refl

none_by : (bytes : List ℕ) → length bytes ≤ 0 → bytes ≡ []
none_by [] few = refl
none_by (b ∷ bytes) few = absurd (omega arith)

-- ---- packets

-- no packet starts with nothing
pub none_at_end : (uuid : List ℕ) (stream : ℕ) → packet_at uuid stream [] ≡ None
none_at_end uuid stream = ap (packet_by uuid stream []) nothing_waits

pub none_if_fault : (uuid : List ℕ) (stream : ℕ) (bytes : List ℕ) (f : PacketFault) → first_fault bytes ≡ Some f → packet_at uuid stream bytes ≡ None
none_if_fault uuid stream bytes f is = ap (packet_by uuid stream bytes) is

some_bytes : (p : Contents) → 0 < packet_size p
some_bytes p = omega arith

step_is : (n : ℕ) (uuid : List ℕ) (stream : ℕ) (bytes : List ℕ)
    → packets_within (suc n) uuid stream bytes ≡ and_after (packets_within n uuid stream) bytes (packet_at uuid stream bytes)
unfolding packets_within
step_is n uuid stream bytes = refl

no_more : (uuid : List ℕ) (stream : ℕ) (bytes : List ℕ) → packets_within zero uuid stream bytes ≡ []
unfolding packets_within
no_more uuid stream bytes = refl

none_within : (n : ℕ) (uuid : List ℕ) (stream : ℕ) (bytes : List ℕ) → packet_at uuid stream bytes ≡ None → packets_within n uuid stream bytes ≡ []
none_within zero uuid stream bytes none = no_more uuid stream bytes
none_within (suc n) uuid stream bytes none = step_is n uuid stream bytes ∙ ap (and_after (packets_within n uuid stream) bytes) none

after_same : (more other : List ℕ → List Contents) (bytes : List ℕ) (o : Option Contents)
    → ((p : Contents) → more (drop (packet_size p) bytes) ≡ other (drop (packet_size p) bytes)) → and_after more bytes o ≡ and_after other bytes o
after_same more other bytes None same = refl
after_same more other bytes (Some p) same = ap (λ (ps : List Contents). p ∷ ps) (same p)

less : (n : ℕ) (p : Contents) (bytes : List ℕ) → length bytes ≤ suc n → length (drop (packet_size p) bytes) ≤ n
less n p bytes few = let l = length-drop (packet_size p) bytes in let s = some_bytes p in omega (arith, l, s, few)

-- with as many packets as bytes all are there
enough : (n m : ℕ) (uuid : List ℕ) (stream : ℕ) (bytes : List ℕ) → length bytes ≤ n → length bytes ≤ m
    → packets_within n uuid stream bytes ≡ packets_within m uuid stream bytes
enough zero m uuid stream bytes a b =
    let none = ap (packet_at uuid stream) (none_by bytes a) ∙ none_at_end uuid stream in
    none_within zero uuid stream bytes none ∙ sym (none_within m uuid stream bytes none)
enough (suc n) zero uuid stream bytes a b =
    let none = ap (packet_at uuid stream) (none_by bytes b) ∙ none_at_end uuid stream in
    none_within (suc n) uuid stream bytes none ∙ sym (none_within zero uuid stream bytes none)
enough (suc n) (suc m) uuid stream bytes a b =
    step_is n uuid stream bytes
    ∙ after_same (packets_within n uuid stream) (packets_within m uuid stream) bytes (packet_at uuid stream bytes)
    (λ p. enough n m uuid stream (drop (packet_size p) bytes) (less n p bytes a) (less m p bytes b))
    ∙ sym (step_is m uuid stream bytes)

none_of : (uuid : List ℕ) (stream : ℕ) (bytes : List ℕ) → packet_at uuid stream bytes ≡ None → packets_of uuid stream bytes ≡ []
none_of uuid stream bytes none = none_within (length bytes) uuid stream bytes none

one_of : (uuid : List ℕ) (stream : ℕ) (bytes : List ℕ) (p : Contents) → packet_at uuid stream bytes ≡ Some p
    → packets_of uuid stream bytes ≡ p ∷ packets_of uuid stream (drop (packet_size p) bytes)
one_of uuid stream bytes p is =
    let rest = drop (packet_size p) bytes in
    let few : length rest ≤ length bytes = let l = length-drop (packet_size p) bytes in omega (arith, l) in
    enough (length bytes) (suc (length bytes)) uuid stream bytes (omega arith) (omega arith)
    ∙ step_is (length bytes) uuid stream bytes
    ∙ ap (and_after (packets_within (length bytes) uuid stream) bytes) is
    ∙ ap (λ (ps : List Contents). p ∷ ps) (enough (length bytes) (length rest) uuid stream rest few (omega arith))

-- ---- what is wrong

-- with a record, or else later
abbrev or_later : Option Entry → Option Flaw → Option Flaw
or_later None later = later
or_later (Some e) later = Some (Unfit e.serial)

first_by : (sound : Bool) (first later : Option Entry) → flaw_by sound (option_or first later) ≡ or_later first (flaw_by sound later)
first_by sound None later = refl
first_by sound (Some e) later = refl

after_packet : (events : Declarations) (p : Contents) (ps : List Contents) (rest : List ℕ) (breaks : Bool)
    → flaw_after events (p ∷ ps) (packet_text p ++ rest) breaks ≡ or_later (first_unfit events p.records) (flaw_after events ps rest breaks)
after_packet events p ps rest breaks =
    let sound : Bool = not breaks && are_packets ps rest in
    ap (λ (b : Bool). flaw_by (not breaks && b) (first_unfit events (p.records ++ records_of_packets ps))) (same_behind (packet_text p) rest (packets_text ps))
    ∙ ap (flaw_by sound) (find-append _ p.records (records_of_packets ps))
    ∙ first_by sound (first_unfit events p.records) (first_unfit events (records_of_packets ps))

-- bytes that start with a packet
one_flaw : (events : Declarations) (uuid : List ℕ) (stream : ℕ) (bytes : List ℕ) (p : Contents) (rest : List ℕ) (breaks : Bool)
    → packet_at uuid stream bytes ≡ Some p → bytes ≡ packet_text p ++ rest → drop (packet_size p) bytes ≡ rest
    → bytes_flaw events uuid stream bytes breaks ≡ or_later (first_unfit events p.records) (bytes_flaw events uuid stream rest breaks)
one_flaw events uuid stream bytes p rest breaks is parts behind =
    ap (λ (ps : List Contents). flaw_after events ps bytes breaks)
    (one_of uuid stream bytes p is ∙ ap (λ (l : List ℕ). p ∷ packets_of uuid stream l) behind)
    ∙ ap (λ (l : List ℕ). flaw_after events (p ∷ packets_of uuid stream rest) l breaks) parts
    ∙ after_packet events p (packets_of uuid stream rest) rest breaks

never : (breaks other : Bool) → other ≡ false → flaw_by (not breaks && other) None ≡ Some Unsound
never true other is = refl
never false other is = ap (λ (b : Bool). flaw_by b None) is

-- bytes that start with none
pub none_wrong : (events : Declarations) (uuid : List ℕ) (stream : ℕ) (bytes : List ℕ) (breaks : Bool) → packet_at uuid stream bytes ≡ None
    → 0 < length bytes → bytes_flaw events uuid stream bytes breaks ≡ Some Unsound
none_wrong events uuid stream bytes breaks none some =
    ap (λ (ps : List Contents). flaw_after events ps bytes breaks) (none_of uuid stream bytes none)
    ∙ never breaks (pointwise eqb bytes []) (nothing_else bytes some)

pub broken_wrong : (events : Declarations) (uuid : List ℕ) (stream : ℕ) (bytes : List ℕ) → packet_at uuid stream bytes ≡ None
    → bytes_flaw events uuid stream bytes true ≡ Some Unsound
broken_wrong events uuid stream bytes none = ap (λ (ps : List Contents). flaw_after events ps bytes true) (none_of uuid stream bytes none)

pub nothing_wrong : (events : Declarations) (uuid : List ℕ) (stream : ℕ) → bytes_flaw events uuid stream [] false ≡ None
nothing_wrong events uuid stream = ap (λ (ps : List Contents). flaw_after events ps [] false) (none_of uuid stream [] (none_at_end uuid stream))

-- ---- the front of bytes, whatever follows

other_fault : (f : PacketFault) → f ≢ Short → first_fault [] ≡ Some f → ⊥
other_fault f other is = other (same f Short (sym is ∙ nothing_waits))
  where
    same : (f g : PacketFault) → Some f ≡ Some g → f ≡ g
    same f g e = cc

some_by : (bytes : List ℕ) (f : PacketFault) → f ≢ Short → first_fault bytes ≡ Some f → 0 < length bytes
some_by [] f other is = absurd (other_fault f other is)
some_by (b ∷ bytes) f other is = omega arith

pub fault_wrong : (events : Declarations) (uuid : List ℕ) (stream : ℕ) (bytes : List ℕ) (f : PacketFault) → first_fault bytes ≡ Some f → f ≢ Short
    → AreWrong events uuid stream bytes Unsound
fault_wrong events uuid stream bytes f is other rest breaks =
    let some = some_by bytes f other is in
    let l = length-append bytes rest in
    none_wrong events uuid stream (bytes ++ rest) breaks
    (none_if_fault uuid stream (bytes ++ rest) f (fault_stands bytes rest f is other)) (omega (arith, l, some))

-- bytes that don't start with a packet, for this reason
pub bad_step : (events : Declarations) (uuid : List ℕ) (stream : ℕ) (bytes : List ℕ) (f : PacketFault) → first_fault bytes ≡ Some f
    → IsStep events uuid stream bytes (step_of f)
bad_step events uuid stream bytes Short is = is
bad_step events uuid stream bytes BadMagic is = fault_wrong events uuid stream bytes BadMagic is (λ e. cc)
bad_step events uuid stream bytes BadStreamId is = fault_wrong events uuid stream bytes BadStreamId is (λ e. cc)
bad_step events uuid stream bytes BadSize is = fault_wrong events uuid stream bytes BadSize is (λ e. cc)
bad_step events uuid stream bytes BadRecord is = fault_wrong events uuid stream bytes BadRecord is (λ e. cc)
bad_step events uuid stream bytes SerialOrder is = fault_wrong events uuid stream bytes SerialOrder is (λ e. cc)
bad_step events uuid stream bytes MomentOrder is = fault_wrong events uuid stream bytes MomentOrder is (λ e. cc)

packet_is : (uuid : List ℕ) (stream : ℕ) (p : Contents) (n : ℕ) (bytes rest : List ℕ) (own : Bool) → Begins p (drop n bytes) bytes → n ≡ packet_size p
    → belongs uuid stream p ≡ own → packet_at uuid stream (bytes ++ rest) ≡ cond own (Some p) None
packet_is uuid stream p n bytes rest own begins size is =
    let st = starts p n bytes rest begins size in
    ap (packet_by uuid stream (bytes ++ rest)) st.sound
    ∙ ap (λ (q : Contents). cond (belongs uuid stream q) (Some q) None) st.contents
    ∙ ap (λ (b : Bool). cond b (Some p) None) is

pub foreign_wrong : (events : Declarations) (uuid : List ℕ) (stream : ℕ) (p : Contents) (n : ℕ) (bytes : List ℕ) → Begins p (drop n bytes) bytes
    → n ≡ packet_size p → belongs uuid stream p ≡ false → AreWrong events uuid stream bytes Unsound
foreign_wrong events uuid stream p n bytes begins size is rest breaks =
    let within = front_within p n bytes begins size in
    let some = within.0 in
    let most = within.1 in
    let l = length-append bytes rest in
    none_wrong events uuid stream (bytes ++ rest) breaks (packet_is uuid stream p n bytes rest false begins size is) (omega (arith, l, some, most))

own_flaw : (events : Declarations) (uuid : List ℕ) (stream : ℕ) (p : Contents) (n : ℕ) (bytes rest : List ℕ) (breaks : Bool)
    → Begins p (drop n bytes) bytes → n ≡ packet_size p → belongs uuid stream p ≡ true
    → bytes_flaw events uuid stream (bytes ++ rest) breaks
    ≡ or_later (first_unfit events p.records) (bytes_flaw events uuid stream (drop n bytes ++ rest) breaks)
own_flaw events uuid stream p n bytes rest breaks begins size is =
    one_flaw events uuid stream (bytes ++ rest) p (drop n bytes ++ rest) breaks
    (packet_is uuid stream p n bytes rest true begins size is)
    (ap (λ (l : List ℕ). l ++ rest) begins.parts ∙ append_assoc (packet_text p) (drop n bytes) rest)
    (starts p n bytes rest begins size).rest

-- of which record a serial is
pub serial_of : (o : Option Entry) (n : ℕ) → Some n ≡ option_map (λ (e : Entry). e.serial) o → (e : Entry) × (o ≡ Some e) × (e.serial ≡ n)
serial_of None n is = absurd (nothing n is)
  where
    nothing : (n : ℕ) → Some n ≡ None → ⊥
    nothing n e = cc
serial_of (Some e) n is = (e, refl, same e.serial n (sym is))
  where
    same : (a b : ℕ) → Some a ≡ Some b → a ≡ b
    same a b e = cc

pub none_unfit : (o : Option Entry) → None ≡ option_map (λ (e : Entry). e.serial) o → o ≡ None
none_unfit None is = refl
none_unfit (Some e) is = absurd (some e.serial is)
  where
    some : (n : ℕ) → None ≡ Some n → ⊥
    some n e = cc

pub unfit_wrong : (events : Declarations) (uuid : List ℕ) (stream : ℕ) (p : Contents) (n : ℕ) (bytes : List ℕ) (e : Entry) → Begins p (drop n bytes) bytes
    → n ≡ packet_size p → belongs uuid stream p ≡ true → first_unfit events p.records ≡ Some e → AreWrong events uuid stream bytes (Unfit e.serial)
unfit_wrong events uuid stream p n bytes e begins size is first rest breaks =
    own_flaw events uuid stream p n bytes rest breaks begins size is
    ∙ ap (λ (o : Option Entry). or_later o (bytes_flaw events uuid stream (drop n bytes ++ rest) breaks)) first

pub fit_alike : (events : Declarations) (uuid : List ℕ) (stream : ℕ) (p : Contents) (n : ℕ) (bytes : List ℕ) → Begins p (drop n bytes) bytes
    → n ≡ packet_size p → belongs uuid stream p ≡ true → first_unfit events p.records ≡ None → AreAlike events uuid stream bytes (drop n bytes)
fit_alike events uuid stream p n bytes begins size is none rest breaks =
    own_flaw events uuid stream p n bytes rest breaks begins size is
    ∙ ap (λ (o : Option Entry). or_later o (bytes_flaw events uuid stream (drop n bytes ++ rest) breaks)) none
