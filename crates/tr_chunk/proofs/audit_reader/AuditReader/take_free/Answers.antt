use Rattle.std.proofs.Common.{◌≡◌, ◌≤◌, ◌<◌, inr, ◌+◌, ◌++◌, [], ℕ, List, length, drop, rules, arith, refl, sym, ap, subst, ◌∙◌, append-nil}
use Rattle.std.proofs.lemmas.Grind.{common_steps}
use Rattle.tr_packet.specs.Decoding.{Begins}
use Rattle.tr_chunk.specs.Audit.{IsCause}
use Rattle.tr_chunk.specs.Reading.{Reading, reading, Takes, Finds, Waits}
use Rattle.tr_chunk.proofs.ReadingLemmas.{takes_whole, finds}
use Rattle.tr_chunk.proofs.WaitingLemmas.{larger_waits}
use Rattle.tr_chunk.proofs.AuditLemmas.{front_within}
use Rattle.tr_chunk.proofs.audit_reader.AuditReader.take_free.Goals as goal
use Rattle.tr_chunk.specs.declared.audit_fault.AuditCause.TheVariants.{NoMemory}
use Rattle.tr_chunk.specs.declared.audit_reader.TheConstants.{FIRST_ROOM}
use Rattle.std.specs.Prelude.{vec_capacity, vec_len}

pub overflow_add-self : goal.overflow_add-self
overflow_add-self g c =
    let whole = c.in-Ok-Some.ensures.whole c.in-Ok-Some.size (search rules) in
    let within = front_within whole.0 c.in-Ok-Some.size c.args.bytes.now whole.1 whole.2 in
    let fed = subst (λ (r : Reading _). r.offset + length r.held + length c.args.bytes.now ≤ r.bytes) (sym c.self.view_is) c.requires.fed in
    omega (arith, within.1, fed, c.self.invariant.few)

pub invariant_of-self : goal.invariant_of-self
invariant_of-self g c =
    let whole = c.in-Ok-Some.ensures.whole c.in-Ok-Some.size (search rules) in
    let within = front_within whole.0 c.in-Ok-Some.size c.args.bytes.now whole.1 whole.2 in
    let fed = subst (λ (r : Reading _). r.offset + length r.held + length c.args.bytes.now ≤ r.bytes) (sym c.self.view_is) c.requires.fed in
    record { waits = c.self.invariant.waits; room = c.self.invariant.room; within = omega (arith, within.1, fed); few = c.self.invariant.few; begun = c.self.invariant.begun }

pub invariant_of-self-in-Ok-None : goal.invariant_of-self-in-Ok-None
invariant_of-self-in-Ok-None g c =
    let bytes = c.args.bytes.now in
    let free : c.self.inside.held.items ≡ [] = ap (λ r. r.held) c.self.view_is ∙ c.requires.free in
    let items : c.extend_from_slice.new.self.items ≡ c.self.inside.held.items ++ bytes = search rules in
    let held : c.extend_from_slice.new.self.items ≡ bytes = ◌∙◌ {A = List ℕ} items (ap (λ (t : List ℕ). t ++ bytes) free) in
    let fed = subst (λ (r : Reading _). r.offset + length r.held + length bytes ≤ r.bytes) (sym c.self.view_is) c.requires.fed in
    record {
      waits = subst Waits (sym held) (c.judge_front.ensures.part (search rules)).0;
      room = omega (arith, c.self.invariant.room, c.extend_from_slice.ensures.capacity);
      within = omega (arith, fed, ap length held);
      few = c.self.invariant.few;
      begun = c.self.invariant.begun;
    }

pub returns-in-Ok-Some-clause-ok : goal.returns-in-Ok-Some-clause-ok
returns-in-Ok-Some-clause-ok g c =
    let inside = c.self.inside in
    let bytes = c.args.bytes.now in
    let n = c.in-Ok-Some.size in
    let free : inside.held.items ≡ [] = ap (λ r. r.held) c.self.view_is ∙ c.requires.free in
    let whole = c.in-Ok-Some.ensures.whole n (search rules) in
    let r = reading inside.uuid inside.stream inside.audit inside.held.items inside.offset inside.bytes inside.pieces inside.fault in
    subst (λ v. Takes v (reading inside.uuid inside.stream c.judge_front.new.audit inside.held.items (inside.offset + n) inside.bytes inside.pieces inside.fault) bytes n)
    c.self.view_is
    (subst (λ t. Takes r (reading inside.uuid inside.stream c.judge_front.new.audit t (inside.offset + n) inside.bytes inside.pieces inside.fault) bytes n) (sym free)
    (takes_whole r c.judge_front.new.audit whole.0 n n bytes [] bytes
    (subst (λ t. Begins whole.0 (drop n (t ++ bytes)) (t ++ bytes)) (sym free) whole.1)
    whole.2 whole.3 whole.4 (omega (arith, ap length free)) (front_within whole.0 n bytes whole.1 whole.2).0 (sym (append-nil bytes))))

pub returns-in-Err-clause-err : goal.returns-in-Err-clause-err
returns-in-Err-clause-err g c =
    let inside = c.self.inside in
    let cause = c.in-Err.cause in
    let bytes = c.args.bytes.now in
    let free : inside.held.items ≡ [] = ap (λ r. r.held) c.self.view_is ∙ c.requires.free in
    let fault = c.in-Err.ensures.fault in
    subst (λ (v : Reading _). Finds v bytes cause × (inside.offset ≡ v.offset)) c.self.view_is (
      finds (reading inside.uuid inside.stream inside.audit inside.held.items inside.offset inside.bytes inside.pieces inside.fault)
          bytes [] bytes cause
          (subst (λ t. IsCause FIRST_ROOM inside.uuid inside.stream inside.audit.last_seq inside.audit.last_serial cause (t ++ bytes)) (sym free) fault.0)
          fault.1 c.requires.some (sym (append-nil bytes)),
      refl,
    )

-- a refused growth
pub returns-then-is_err-clause-err : goal.returns-then-is_err-clause-err
returns-then-is_err-clause-err g c =
    let inside = c.self.inside in
    let bytes = c.args.bytes.now in
    let free : inside.held.items ≡ [] = ap (λ r. r.held) c.self.view_is ∙ c.requires.free in
    let full : vec_capacity inside.held < vec_len inside.held + length bytes = search rules in
    let waits = (c.judge_front.ensures.part (search rules)).0 in
    let larger = larger_waits FIRST_ROOM bytes (omega arith) waits (omega (arith, full, c.self.invariant.room, ap length free)) in
    subst (λ (v : Reading _). Finds v bytes NoMemory × (inside.offset ≡ v.offset)) c.self.view_is (
      finds (reading inside.uuid inside.stream inside.audit inside.held.items inside.offset inside.bytes inside.pieces inside.fault)
          bytes [] bytes NoMemory
          (subst (λ t. IsCause FIRST_ROOM inside.uuid inside.stream inside.audit.last_seq inside.audit.last_serial NoMemory (t ++ bytes)) (sym free) (inr larger))
          (λ same. cc) c.requires.some (sym (append-nil bytes)),
      refl,
    )

pub returns-else-is_err-clause-ok : goal.returns-else-is_err-clause-ok
returns-else-is_err-clause-ok g c = grind (arith, common_steps)
