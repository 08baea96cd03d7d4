-- Parts that may have been released, and chunks that weren't.
use Rattle.std.proofs.Common.{◌≡◌, ℕ, ◌≤◌, Bool, true, false, eqb, List, [], ◌∷◌, length, map, None, refl, ap, arith}
use Rattle.std.proofs.lemmas.Bool.Decides.{nat_tests}
use Rattle.std.specs.List.{list_any}
use Rattle.tr_book.specs.Parts.{PartState, bytes_left, bytes_of, packets_left, part_bytes, part_packets, part_records, records_left, records_of, seq_among, seq_in_part}
use Rattle.tr_packet.specs.Packets.{Contents}
use Rattle.tr_stream.proofs.GoneLemmas.{packets-have}
use Rattle.tr_stream.specs.Chunks.{chunk_of, closed_part, packet_of, part_if, part_of}
use Rattle.tr_stream.specs.History.{History, is_released}
use Rattle.tr_stream.specs.WellFormed.{AreClosed, IsWellFormed}
use Rattle.tr_stream.specs.declared.config.StreamConfig.{StreamConfig}

-- a part that is held
pub held-packets : (p : PartState) → p.released ≡ None → part_packets p ≡ length p.packets
held-packets p held = ap (packets_left p.packets) held

pub held-records : (p : PartState) → p.released ≡ None → part_records p ≡ records_of p.packets
held-records p held = ap (records_left p.packets) held

pub held-bytes : (p : PartState) → p.released ≡ None → part_bytes p ≡ bytes_of p.packets
held-bytes p held = ap (bytes_left p.packets) held

-- a release changes no number and no fate
pub if-id : (b : Bool) (id : ℕ) (ps : List Contents) → (part_if b id ps).id ≡ id
if-id true id ps = refl
if-id false id ps = refl

pub if-packets : (b : Bool) (id : ℕ) (ps : List Contents) → part_packets (part_if b id ps) ≡ length ps
if-packets true id ps = refl
if-packets false id ps = refl

pub if-records : (b : Bool) (id : ℕ) (ps : List Contents) → part_records (part_if b id ps) ≡ records_of ps
if-records true id ps = refl
if-records false id ps = refl

pub if-bytes : (b : Bool) (id : ℕ) (ps : List Contents) → part_bytes (part_if b id ps) ≡ bytes_of ps
if-bytes true id ps = refl
if-bytes false id ps = refl

pub if-seq : (n : ℕ) (b : Bool) (id : ℕ) (ps : List Contents) → seq_in_part n (part_if b id ps) ≡ seq_among n ps
if-seq n true id ps = packets-have n ps
if-seq n false id ps = refl

-- a chunk that isn't closed wasn't released
pub unreleased : (cuts k : ℕ) (ks : List ℕ) → cuts ≤ k → AreClosed cuts ks → list_any (λ (j : ℕ). eqb j k) ks ≡ false
unreleased cuts k [] past closed = refl
unreleased cuts k (j ∷ ks) past closed = grind (arith, nat_tests, closed.0, unreleased cuts k ks past closed.1)

-- one chunk more
pub AreClosed-more : (cuts more : ℕ) (ks : List ℕ) → cuts ≤ more → AreClosed cuts ks → AreClosed more ks
AreClosed-more cuts more [] le closed = tt
AreClosed-more cuts more (k ∷ ks) le closed = (omega (arith, closed.0), AreClosed-more cuts more ks le closed.1)

-- the part of a chunk that wasn't released has its packets
pub held-part : (c : StreamConfig) (k : ℕ) (h : History) → is_released k h ≡ false → closed_part c k h ≡ part_of c k (chunk_of k h)
held-part c k h held = ap (λ (b : Bool). part_if b k (map (packet_of c) (chunk_of k h))) held

-- so has the current one
pub current-held : (c : StreamConfig) (h : History) → IsWellFormed h → closed_part c h.cuts h ≡ part_of c h.cuts (chunk_of h.cuts h)
current-held c h well = held-part c h.cuts h (unreleased h.cuts h.cuts h.released (omega arith) well.released)
