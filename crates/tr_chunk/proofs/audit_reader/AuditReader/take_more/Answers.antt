use Rattle.std.proofs.Common.{◌≡◌, ◌≤◌, ◌<◌, ◌+◌, ◌-◌, ◌/◌, inr, None, ◌++◌, ℕ, List, length, take, drop, rules, arith, refl, sym, ap, subst, ◌∙◌, length-append}
use Rattle.std.proofs.lemmas.Grind.{common_steps}
use Rattle.std.proofs.lemmas.List.{take-append-drop}
use Rattle.tr_packet.specs.Decoding.{Begins, fields_fault, packet_bits_in}
use Rattle.tr_chunk.specs.Audit.{IsCause}
use Rattle.tr_chunk.specs.Reading.{Reading, reading, Takes, Finds, Waits}
use Rattle.tr_chunk.proofs.AuditLemmas.{front_within}
use Rattle.tr_chunk.proofs.ReadingLemmas.{takes_part, takes_whole, whole_behind, finds}
use Rattle.tr_chunk.proofs.WaitingLemmas.{larger_wanted, nothing_waits}
use Rattle.tr_chunk.proofs.audit_reader.AuditReader.take_more.Goals as goal
use Rattle.tr_chunk.specs.declared.audit_fault.AuditCause.TheVariants.{NoMemory}
use Rattle.tr_chunk.specs.declared.audit_reader.TheConstants.{FIRST_ROOM}
use Rattle.std.specs.Prelude.{vec_capacity, vec_len}

pub invariant_of-self-in-Ok-None : goal.invariant_of-self-in-Ok-None
invariant_of-self-in-Ok-None g c =
    let held = c.deref-2.ensures.value in
    let fed = subst (λ (r : Reading _). r.offset + length r.held + length c.args.bytes.now ≤ r.bytes) (sym c.self.view_is) c.requires.fed in
    let items : c.extend_from_slice.new.self.items ≡ c.self.inside.held.items ++ c.split_at.result.0.now = search rules in
    let count : c.min-count.result ≤ length c.args.bytes.now = search rules in
    record {
      waits = subst Waits held (c.judge_front.ensures.part (search rules)).0;
      room = omega (arith, c.self.invariant.room, c.extend_from_slice.ensures.capacity);
      within = omega (arith, fed, count, c.split_at.ensures.front_len, ap length items, length-append c.self.inside.held.items c.split_at.result.0.now);
      few = c.self.invariant.few;
      begun = c.self.invariant.begun;
    }

pub overflow_sub-result : goal.overflow_sub-result
overflow_sub-result g c =
    let n = c.in-Ok-Some.size in
    let front = c.split_at.result.0.now in
    let whole = c.in-Ok-Some.ensures.whole n (search rules) in
    let items : c.extend_from_slice.new.self.items ≡ c.self.inside.held.items ++ c.split_at.result.0.now = search rules in
    let text = c.deref-2.ensures.value ∙ items in
    let begins = subst (λ t. Begins whole.0 (drop n t) t) text whole.1 in
    let behind = whole_behind whole.0 n c.self.inside.held.items front c.self.invariant.waits begins whole.2 in
    let before : c.len-before.result ≡ length c.self.inside.held.items = search rules in
    omega (arith, behind, before)

pub invariant_of-self-in-Ok-Some : goal.invariant_of-self-in-Ok-Some
invariant_of-self-in-Ok-Some g c =
    let n = c.in-Ok-Some.size in
    let front = c.split_at.result.0.now in
    let held = c.self.inside.held.items in
    let whole = c.in-Ok-Some.ensures.whole n (search rules) in
    let items : c.extend_from_slice.new.self.items ≡ c.self.inside.held.items ++ c.split_at.result.0.now = search rules in
    let text = c.deref-2.ensures.value ∙ items in
    let within = (front_within whole.0 n c.deref-2.result.now whole.1 whole.2).1 in
    let fed = subst (λ (r : Reading _). r.offset + length r.held + length c.args.bytes.now ≤ r.bytes) (sym c.self.view_is) c.requires.fed in
    let count : c.min-count.result ≤ length c.args.bytes.now = search rules in
    record {
      waits = subst Waits (sym c.clear.ensures.items) nothing_waits;
      room = omega (arith, c.self.invariant.room, c.extend_from_slice.ensures.capacity, c.clear.ensures.capacity);
      within =
          omega (
            arith,
            fed,
            count,
            within,
            c.split_at.ensures.front_len,
            ap length text,
            length-append held front,
            ap length c.clear.ensures.items,
          );
      few = c.self.invariant.few;
      begun = c.self.invariant.begun;
    }

pub invariant_of-self-in-Err : goal.invariant_of-self-in-Err
invariant_of-self-in-Err g c = record {
  waits = subst Waits (sym c.clear-in-Err.ensures.items) nothing_waits;
  room = omega (arith, c.self.invariant.room, c.extend_from_slice.ensures.capacity, c.clear-in-Err.ensures.capacity);
  within = omega (arith, c.self.invariant.within, ap length c.clear-in-Err.ensures.items);
  few = c.self.invariant.few;
  begun = c.self.invariant.begun;
}

pub returns-in-Ok-Some-clause-ok : goal.returns-in-Ok-Some-clause-ok
returns-in-Ok-Some-clause-ok g c =
    let inside = c.self.inside in
    let n = c.in-Ok-Some.size in
    let k = n - c.len-before.result in
    let front = c.split_at.result.0.now in
    let back = c.split_at.result.1.now in
    let bytes = c.args.bytes.now in
    let whole = c.in-Ok-Some.ensures.whole n (search rules) in
    let items : c.extend_from_slice.new.self.items ≡ c.self.inside.held.items ++ c.split_at.result.0.now = search rules in
    let text = c.deref-2.ensures.value ∙ items in
    let begins = subst (λ t. Begins whole.0 (drop n t) t) text whole.1 in
    let behind = whole_behind whole.0 n inside.held.items front c.self.invariant.waits begins whole.2 in
    let before : c.len-before.result ≡ length inside.held.items = search rules in
    let parts : bytes ≡ front ++ back = parted bytes front back c.min-count.result c.split_at.ensures.front c.split_at.ensures.back in
    let r = reading inside.uuid inside.stream inside.audit inside.held.items inside.offset inside.bytes inside.pieces inside.fault in
    subst (λ v. Takes v (reading inside.uuid inside.stream c.judge_front.new.audit c.clear.new.self.items (inside.offset + n) inside.bytes inside.pieces inside.fault) bytes k)
    c.self.view_is
    (subst (λ t. Takes r (reading inside.uuid inside.stream c.judge_front.new.audit t (inside.offset + n) inside.bytes inside.pieces inside.fault) bytes k)
    (sym c.clear.ensures.items)
    (takes_whole r c.judge_front.new.audit whole.0 n k front back bytes begins whole.2 whole.3 whole.4 (omega (arith, behind, before))
    (omega (arith, behind, before)) parts))
  where
    parted : (bytes front back : List ℕ) (n : ℕ) → front ≡ take n bytes → back ≡ drop n bytes → bytes ≡ front ++ back
    parted bytes front back n x y = sym (take-append-drop n bytes) ∙ rw (x, y) refl

pub returns-in-Err-clause-err : goal.returns-in-Err-clause-err
returns-in-Err-clause-err g c =
    let inside = c.self.inside in
    let cause = c.in-Err.cause in
    let front = c.split_at.result.0.now in
    let back = c.split_at.result.1.now in
    let bytes = c.args.bytes.now in
    let fault = c.in-Err.ensures.fault in
    let items : c.extend_from_slice.new.self.items ≡ c.self.inside.held.items ++ c.split_at.result.0.now = search rules in
    let text = c.deref-2.ensures.value ∙ items in
    let parts : bytes ≡ front ++ back =
    sym (take-append-drop c.min-count.result bytes) ∙ rw (c.split_at.ensures.front, c.split_at.ensures.back) refl in
    let some : 0 < length front = search rules in
    subst (λ (v : Reading _). Finds v bytes cause × (inside.offset ≡ v.offset)) c.self.view_is (
      finds (reading inside.uuid inside.stream inside.audit inside.held.items inside.offset inside.bytes inside.pieces inside.fault)
          front back bytes cause
          (subst (IsCause FIRST_ROOM inside.uuid inside.stream inside.audit.last_seq inside.audit.last_serial cause) text fault.0)
          fault.1 some parts,
      refl,
    )

pub returns-in-Ok-None-clause-ok : goal.returns-in-Ok-None-clause-ok
returns-in-Ok-None-clause-ok g c =
    let inside = c.self.inside in
    let front = c.split_at.result.0.now in
    let back = c.split_at.result.1.now in
    let bytes = c.args.bytes.now in
    let part = c.judge_front.ensures.part (search rules) in
    let items : c.extend_from_slice.new.self.items ≡ c.self.inside.held.items ++ c.split_at.result.0.now = search rules in
    let parts : bytes ≡ front ++ back =
    sym (take-append-drop c.min-count.result bytes) ∙ rw (c.split_at.ensures.front, c.split_at.ensures.back) refl in
    let long : length front ≡ c.min-count.result = search rules in
    let some : 0 < c.min-count.result = search rules in
    let r = reading inside.uuid inside.stream inside.audit inside.held.items inside.offset inside.bytes inside.pieces inside.fault in
    subst (λ (v : Reading _). Takes v (reading inside.uuid inside.stream c.judge_front.new.audit c.extend_from_slice.new.self.items inside.offset inside.bytes inside.pieces inside.fault) bytes c.min-count.result)
    c.self.view_is
    (subst (λ (t : List ℕ). Takes r (reading inside.uuid inside.stream c.judge_front.new.audit t inside.offset inside.bytes inside.pieces inside.fault) bytes c.min-count.result) (sym items)
    (subst (λ a. Takes r (reading inside.uuid inside.stream a (inside.held.items ++ front) inside.offset inside.bytes inside.pieces inside.fault) bytes c.min-count.result) (sym part.1)
    (takes_part r c.min-count.result front back bytes parts long some (subst Waits (c.deref-2.ensures.value ∙ items) part.0))))

-- a refused growth
pub invariant_of-self : goal.invariant_of-self
invariant_of-self g c =
    let items : c.extend_from_slice.new.self.items ≡ c.self.inside.held.items = search rules in
    record {
      waits = subst Waits (sym items) c.self.invariant.waits;
      room = omega (arith, c.self.invariant.room, c.extend_from_slice.ensures.capacity);
      within = omega (arith, c.self.invariant.within, ap length items);
      few = c.self.invariant.few;
      begun = c.self.invariant.begun;
    }

pub returns-then-is_err-clause-err : goal.returns-then-is_err-clause-err
returns-then-is_err-clause-err g c =
    let inside = c.self.inside in
    let front = c.split_at.result.0.now in
    let back = c.split_at.result.1.now in
    let bytes = c.args.bytes.now in
    let parts : bytes ≡ front ++ back =
    sym (take-append-drop c.min-count.result bytes) ∙ rw (c.split_at.ensures.front, c.split_at.ensures.back) refl in
    let full : vec_capacity inside.held < vec_len inside.held + length front = search rules in
    let some : 0 < length front = search rules in
    let count : length front ≤ c.wanted.result = search rules in
    let more : FIRST_ROOM < length inside.held.items + length front = omega (arith, full, c.self.invariant.room) in
    let whole = c.wanted.ensures.whole (omega (arith, more, count, ap length c.deref.ensures.value)) in
    let size : length inside.held.items + c.wanted.result ≡ packet_bits_in inside.held.items / 8 =
    subst (λ (t : List ℕ). length t + c.wanted.result ≡ packet_bits_in t / 8) c.deref.ensures.value whole.1 in
    let larger = larger_wanted FIRST_ROOM inside.held.items front c.wanted.result
    (subst (λ (t : List ℕ). fields_fault t ≡ None) c.deref.ensures.value whole.0) size count more in
    subst (λ (v : Reading _). Finds v bytes NoMemory × (inside.offset ≡ v.offset)) c.self.view_is (
      finds (reading inside.uuid inside.stream inside.audit inside.held.items inside.offset inside.bytes inside.pieces inside.fault)
          front back bytes NoMemory (inr larger) (λ same. cc) some parts,
      refl,
    )

pub overflow_add-self : goal.overflow_add-self
overflow_add-self g c = grind (arith, common_steps)
