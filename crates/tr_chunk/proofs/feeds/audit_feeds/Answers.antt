use Rattle.std.proofs.Common.{◌≡◌, ◌<◌, ◌≤◌, ◌+◌, [], ◌∷◌, ◌++◌, ℕ, List, IfErr, Err, Some, MatchResult, length, get_or, take, rules, arith, sym, ap, subst, ◌∙◌, Bor}
use Rattle.std.proofs.lemmas.List.{length-map, take_all, get_or-map}
use Rattle.std.proofs.lemmas.Option.{slice_get-get_or}
use Rattle.std.proofs.lemmas.Result.{IfOk-weaker, IfErr-weaker, MatchResult-from_both}
use Rattle.tr_packet.specs.Packets.{Contents}
use Rattle.tr_chunk.specs.declared.audit_fault.AuditCause.TheVariants.{NoMemory}
use Rattle.tr_chunk.specs.Audit.{AreAudited, all_of, audit_of}
use Rattle.tr_chunk.specs.Reading.{Reading, HasRead, ReaderStopsAt, bytes_fed, pieces_fed}
use Rattle.tr_chunk.proofs.OnlyLemmas.{memory_alone, same_tale}
use Rattle.tr_chunk.proofs.ReadingLemmas.{says_fault}
use Rattle.tr_chunk.proofs.FeedsLemmas.{ReadUpTo, piece_fits, pieces_fit, read_piece, stops_within, stops_next, stops_before, audited_before, answered_fault, answered_none}
use Rattle.tr_chunk.proofs.feeds.audit_feeds.Goals as goal
use Rattle.tr_chunk.specs.declared.audit_reader.TheConstants.{FIRST_ROOM}

abbrev none : Bor (List (Bor (List ℕ)))
none = record { ref_ptr = (0, 0); now = [] }

is_next : (pieces : List (Bor (List (Bor (List ℕ))))) (at : ℕ) → at < length pieces → (at < length (pieces_fed pieces))
    × (bytes_fed (get_or pieces at none).now ≡ get_or (pieces_fed pieces) at (bytes_fed (get_or pieces at none).now))
is_next pieces at within = (
  omega (arith, within, length-map pieces (λ (feeds : Bor (List (Bor (List ℕ)))). bytes_fed feeds.now)),
  sym (get_or-map (λ (feeds : Bor (List (Bor (List ℕ)))). bytes_fed feeds.now) pieces at none (bytes_fed (get_or pieces at none).now) within),
)

pub loop-at-init : goal.loop-at-init
loop-at-init g c = record { none = c.requires.none; read = c.requires.new }

pub feed_all-requires-clause-few : goal.feed_all-requires-clause-few
feed_all-requires-clause-few g c =
    let next = is_next c.args.pieces.now c.loop-at.at c.loop-at-test.true in
    let bytes = bytes_fed (get_or c.args.pieces.now c.loop-at.at none).now in
    omega (
      arith,
      piece_fits c.args.reader.uuid c.args.reader.stream c.loop-at.reader (pieces_fed c.args.pieces.now) c.loop-at.at bytes
          c.loop-at.invariant next.0 c.requires.few,
      ap length next.1,
    )

pub next_piece-requires : goal.next_piece-requires
next_piece-requires g c =
    let at = c.loop-at.at in
    let next = is_next c.args.pieces.now at c.loop-at-test.true in
    let texts = pieces_fed c.args.pieces.now in
    pieces_fit c.args.reader.uuid c.args.reader.stream c.feed_all.new.reader texts at (bytes_fed (get_or c.args.pieces.now at none).now)
    (c.feed_all.ensures.read c.args.reader.uuid c.args.reader.stream (take at texts) [] c.loop-at.invariant.read)
    (answered_none c.feed_all.new.reader.fault (search rules)) next.0
    (omega (arith, c.requires.begun, length-map c.args.pieces.now (λ (feeds : Bor (List (Bor (List ℕ)))). bytes_fed feeds.now)))

pub loop-at-preserved : goal.loop-at-preserved
loop-at-preserved g c =
    let at = c.loop-at.at in
    let next = is_next c.args.pieces.now at c.loop-at-test.true in
    let texts = pieces_fed c.args.pieces.now in
    let piece = bytes_fed (get_or c.args.pieces.now at none).now in
    record {
      none = answered_none c.next_piece.new.self.fault (search rules);
      read =
          read_piece c.args.reader.uuid c.args.reader.stream c.next_piece.new.self texts at piece next.0 next.1
          (c.next_piece.ensures.read c.args.reader.uuid c.args.reader.stream (take at texts) piece
          (c.feed_all.ensures.read c.args.reader.uuid c.args.reader.stream (take at texts) [] c.loop-at.invariant.read));
    }

pub returns-in_err-feed_all-clause-fault : goal.returns-in_err-feed_all-clause-fault
returns-in_err-feed_all-clause-fault g c =
    let at = c.loop-at.at in
    let next = is_next c.args.pieces.now at c.loop-at-test.true in
    let texts = pieces_fed c.args.pieces.now in
    let piece = bytes_fed (get_or c.args.pieces.now at none).now in
    let f = c.in_err-feed_all.field-0.0 in
    let result : c.from_residual.result ≡ Err f = search rules in
    subst (λ r. IfErr r (λ f. ReaderStopsAt c.args.reader.uuid c.args.reader.stream texts f)) (sym result)
    (stops_within c.args.reader.uuid c.args.reader.stream texts at piece f (slice_get-get_or texts at piece next.0 ∙ ap Some (sym next.1))
    (says_fault c.args.reader.uuid c.args.reader.stream (take at texts) piece c.feed_all.new.reader f
    (answered_fault c.feed_all.new.reader.fault f (search rules))
    (c.feed_all.ensures.read c.args.reader.uuid c.args.reader.stream (take at texts) [] c.loop-at.invariant.read)))

pub returns-in_err-feed_all-clause-only : goal.returns-in_err-feed_all-clause-only
returns-in_err-feed_all-clause-only g c =
    let f = c.in_err-feed_all.field-0.0 in
    let result : c.from_residual.result ≡ Err f = search rules in
    let texts = pieces_fed c.args.pieces.now in
    λ pss audited.
    subst (λ r. MatchResult r (λ a. a ≡ audit_of (all_of pss)) (λ f. f.cause ≡ NoMemory)) (sym result)
    (memory_alone FIRST_ROOM c.args.reader.uuid c.args.reader.stream texts pss f audited
    (subst (λ r. IfErr r (λ f. ReaderStopsAt c.args.reader.uuid c.args.reader.stream texts f)) result (returns-in_err-feed_all-clause-fault g c)))

pub returns-in_err-next_piece-clause-fault : goal.returns-in_err-next_piece-clause-fault
returns-in_err-next_piece-clause-fault g c =
    let at = c.loop-at.at in
    let next = is_next c.args.pieces.now at c.loop-at-test.true in
    let texts = pieces_fed c.args.pieces.now in
    let piece = bytes_fed (get_or c.args.pieces.now at none).now in
    let f = c.in_err-next_piece.field-0.0 in
    let result : c.from_residual-in_err-next_piece.result ≡ Err f = search rules in
    subst (λ r. IfErr r (λ f. ReaderStopsAt c.args.reader.uuid c.args.reader.stream texts f)) (sym result)
    (stops_next c.args.reader.uuid c.args.reader.stream texts (at + 1) f
    (says_fault c.args.reader.uuid c.args.reader.stream (take (at + 1) texts) [] c.next_piece.new.self f
    (answered_fault c.next_piece.new.self.fault f (search rules))
    (read_piece c.args.reader.uuid c.args.reader.stream c.next_piece.new.self texts at piece next.0 next.1
    (c.next_piece.ensures.read c.args.reader.uuid c.args.reader.stream (take at texts) piece
    (c.feed_all.ensures.read c.args.reader.uuid c.args.reader.stream (take at texts) [] c.loop-at.invariant.read)))))

pub returns-in_err-next_piece-clause-only : goal.returns-in_err-next_piece-clause-only
returns-in_err-next_piece-clause-only g c =
    let f = c.in_err-next_piece.field-0.0 in
    let result : c.from_residual-in_err-next_piece.result ≡ Err f = search rules in
    let texts = pieces_fed c.args.pieces.now in
    λ pss audited.
    subst (λ r. MatchResult r (λ a. a ≡ audit_of (all_of pss)) (λ f. f.cause ≡ NoMemory)) (sym result)
    (memory_alone FIRST_ROOM c.args.reader.uuid c.args.reader.stream texts pss f audited
    (subst (λ r. IfErr r (λ f. ReaderStopsAt c.args.reader.uuid c.args.reader.stream texts f)) result (returns-in_err-next_piece-clause-fault g c)))

-- what the reader has read before `finish`: all pieces, and an empty one
all_read : {A : Type 0} (uuid : List ℕ) (stream : ℕ) (reader : Reading A) (pieces : List (Bor (List (Bor (List ℕ))))) (at : ℕ)
    → ReadUpTo uuid stream reader (pieces_fed pieces) at → length pieces ≤ at → HasRead uuid stream (pieces_fed pieces) [] reader
all_read uuid stream reader pieces at upto end =
    subst (λ (l : List (List ℕ)). HasRead uuid stream l [] reader)
    (take_all at (pieces_fed pieces) (omega (arith, end, length-map pieces (λ (feeds : Bor (List (Bor (List ℕ)))). bytes_fed feeds.now)))) upto.read

pub returns-clause-found : goal.returns-clause-found
returns-clause-found g c =
    let uuid = c.args.reader.uuid in
    let stream = c.args.reader.stream in
    let texts = pieces_fed c.args.pieces.now in
    IfOk-weaker c.finish.result (λ a. (pss : List (List Contents)) × AreAudited uuid stream (texts ++ [] ∷ []) pss × (a ≡ audit_of (all_of pss)))
    (λ a. (pss : List (List Contents)) × AreAudited uuid stream texts pss × (a ≡ audit_of (all_of pss)))
    (λ a found. audited_before uuid stream texts found.0 a found.1 found.2)
    (c.finish.ensures.found uuid stream texts []
    (all_read uuid stream c.loop-at.reader c.args.pieces.now c.loop-at.at c.loop-at.invariant c.loop-at-test.false))

pub returns-clause-fault : goal.returns-clause-fault
returns-clause-fault g c =
    let uuid = c.args.reader.uuid in
    let stream = c.args.reader.stream in
    let texts = pieces_fed c.args.pieces.now in
    IfErr-weaker c.finish.result (λ f. ReaderStopsAt uuid stream (texts ++ [] ∷ []) f) (λ f. ReaderStopsAt uuid stream texts f) (stops_before uuid stream texts)
    (c.finish.ensures.fault uuid stream texts []
    (all_read uuid stream c.loop-at.reader c.args.pieces.now c.loop-at.at c.loop-at.invariant c.loop-at-test.false))

pub returns-clause-only : goal.returns-clause-only
returns-clause-only g c =
    let uuid = c.args.reader.uuid in
    let stream = c.args.reader.stream in
    let texts = pieces_fed c.args.pieces.now in
    λ pss audited.
    MatchResult-from_both c.finish.result (λ a. a ≡ audit_of (all_of pss)) (λ f. f.cause ≡ NoMemory)
    (IfOk-weaker c.finish.result (λ a. (qss : List (List Contents)) × AreAudited uuid stream texts qss × (a ≡ audit_of (all_of qss)))
    (λ a. a ≡ audit_of (all_of pss)) (λ a found. same_tale uuid stream texts found.0 pss a found.1 audited found.2) (returns-clause-found g c))
    (IfErr-weaker c.finish.result (λ f. ReaderStopsAt uuid stream texts f) (λ f. f.cause ≡ NoMemory)
    (λ f stops. memory_alone FIRST_ROOM uuid stream texts pss f audited stops) (returns-clause-fault g c))
