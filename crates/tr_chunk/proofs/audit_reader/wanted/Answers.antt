use Rattle.std.proofs.Common.{arith}
use Rattle.tr_chunk.proofs.WaitingLemmas.{wanted_by_size, wanted_by_header}
use Rattle.tr_chunk.proofs.audit_reader.wanted.Goals as goal

pub overflow_sub-result : goal.overflow_sub-result
overflow_sub-result c =
    omega (arith, (wanted_by_size c.args.bytes.now c.in-Ok.size c.requires c.in-Ok.ensures.size.0 c.in-Ok.ensures.size.1).0)

pub overflow_sub-result-in-Err : goal.overflow_sub-result-in-Err
overflow_sub-result-in-Err c = omega (arith, wanted_by_header c.args.bytes.now c.in-Err.field-0 c.requires c.in-Err.ensures.fault)

pub returns-in-Ok-clause-some : goal.returns-in-Ok-clause-some
returns-in-Ok-clause-some c =
    omega (arith, (wanted_by_size c.args.bytes.now c.in-Ok.size c.requires c.in-Ok.ensures.size.0 c.in-Ok.ensures.size.1).0)

pub returns-in-Ok-clause-within : goal.returns-in-Ok-clause-within
returns-in-Ok-clause-within c =
    let size = wanted_by_size c.args.bytes.now c.in-Ok.size c.requires c.in-Ok.ensures.size.0 c.in-Ok.ensures.size.1 in
    omega (arith, size.0, size.1)

pub returns-in-Ok-clause-whole : goal.returns-in-Ok-clause-whole
returns-in-Ok-clause-whole c =
    let size = wanted_by_size c.args.bytes.now c.in-Ok.size c.requires c.in-Ok.ensures.size.0 c.in-Ok.ensures.size.1 in
    λ more. (c.in-Ok.ensures.size.0, omega (arith, c.in-Ok.ensures.size.1, size.0))

pub returns-in-Err-clause-whole : goal.returns-in-Err-clause-whole
returns-in-Err-clause-whole c =
    λ more. absurd (omega (arith, more, wanted_by_header c.args.bytes.now c.in-Err.field-0 c.requires c.in-Err.ensures.fault))

pub returns-in-Err-clause-some : goal.returns-in-Err-clause-some
returns-in-Err-clause-some c = omega (arith, wanted_by_header c.args.bytes.now c.in-Err.field-0 c.requires c.in-Err.ensures.fault)

pub returns-in-Err-clause-within : goal.returns-in-Err-clause-within
returns-in-Err-clause-within c = omega (arith, wanted_by_header c.args.bytes.now c.in-Err.field-0 c.requires c.in-Err.ensures.fault)
