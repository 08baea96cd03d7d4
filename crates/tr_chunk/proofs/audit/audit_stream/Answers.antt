use Rattle.std.proofs.Common.{[]}
use Rattle.tr_chunk.specs.Audit.{all_of}
use Rattle.tr_chunk.proofs.AuditLemmas.{piece_more, piece_stop, passed_end}
use Rattle.tr_chunk.proofs.OnlyLemmas.{memory_alone, same_tale}
use Rattle.tr_chunk.proofs.audit.audit_stream.Goals as goal
use Rattle.tr_terms.specs.declared.limits.TheConstants.{LARGEST_PACKET}

pub pieces-preserved : goal.pieces-preserved
pieces-preserved g c =
    piece_more c.args.uuid.now c.args.stream c.args.pieces.now c.pieces.piece (record { ref_ptr = (0, 0); now = [] })
    c.pieces.audit c.add_piece.new.audit c.pieces.invariant c.pieces-test.true
    (c.in_default.ensures.ok (all_of c.pieces.invariant.before) c.pieces.invariant.tells)

pub returns-in-Err-clause-fault : goal.returns-in-Err-clause-fault
returns-in-Err-clause-fault g c =
    piece_stop c.args.uuid.now c.args.stream c.args.pieces.now c.pieces.piece (record { ref_ptr = (0, 0); now = [] })
    c.in-Err.stop.offset c.in-Err.stop.cause c.pieces.audit c.pieces.invariant c.pieces-test.true
    (c.in-Err.ensures.err (all_of c.pieces.invariant.before) c.pieces.invariant.tells)

pub returns-in-Err-clause-only : goal.returns-in-Err-clause-only
returns-in-Err-clause-only g c = λ pss audited. memory_alone LARGEST_PACKET c.args.uuid.now c.args.stream _ pss _ audited (returns-in-Err-clause-fault g c)

pub returns-clause-found : goal.returns-clause-found
returns-clause-found g c = passed_end c.args.uuid.now c.args.stream c.args.pieces.now c.pieces.piece c.pieces.audit
    c.pieces.invariant c.pieces-test.false

pub returns-clause-only : goal.returns-clause-only
returns-clause-only g c = λ pss audited.
    let found = passed_end c.args.uuid.now c.args.stream c.args.pieces.now c.pieces.piece c.pieces.audit c.pieces.invariant c.pieces-test.false in
    same_tale c.args.uuid.now c.args.stream _ found.0 pss c.pieces.audit found.1 audited found.2
