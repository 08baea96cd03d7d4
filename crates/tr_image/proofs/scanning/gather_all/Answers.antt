use Rattle.std.proofs.Common.{◌∙◌, ◌++◌, ap, arith, length-append, refl, sym}
use Rattle.std.proofs.lemmas.Result.{err_from_is_err_and}
use Rattle.tr_folders.specs.Kept.{file_of}
use Rattle.tr_packet.specs.Packets.{Contents}
use Rattle.std.proofs.Common.{List}
use Rattle.tr_image.specs.Image.{packets_in}
use Rattle.tr_image.specs.Kept.{gathered}
use Rattle.tr_image.proofs.ScanLemmas.{last_window, next_window}
use Rattle.tr_image.proofs.WindowLemmas.{moved}
use Rattle.tr_terms.specs.declared.limits.TheConstants.{LARGEST_PACKET}
use Rattle.tr_image.proofs.scanning.gather_all.Goals as goal

pub loop-kept-init : goal.loop-kept-init
loop-kept-init g c = record {
  low = omega arith;
  long = c.requires;
  small = λ i. omega (arith, c.type_inv.window i);
  tree = refl;
  failures = refl;
  left = λ file e. (file.bytes, e);
  found = λ file e small.
      (file.bytes, e, small, ap (λ (ps : List Contents). gathered ps (packets_in c.args.uuid.now file.bytes)) (sym c.new-kept.ensures.items));
}

pub returns-then-len-lt-WINDOW-clause-found : goal.returns-then-len-lt-WINDOW-clause-found
returns-then-len-lt-WINDOW-clause-found g c file e small =
    let before = c.loop-kept.invariant.found file e small in
    let reads = c.in_ok-len.ensures.left (file_of before.0 file.breaks) before.1 in
    let end =
    reads.end
    (omega (
      arith,
      c.if-len-lt-WINDOW.true,
      c.read_front.ensures.len,
      c.split_at_mut-room.ensures.back_len,
      c.loop-kept.invariant.long,
      c.loop-kept.invariant.low,
    )) in
    let all =
    last_window c.args.uuid.now c.loop-kept.window c.split_at_mut-room.result.0.now c.read_front.new.buffer before.0 reads.rest
    c.split_at.result.0.now c.loop-kept.len c.in_ok-len.field-0 c.loop-kept.kept.items c.gather.new.kept.items _ c.split_at_mut-room.ensures.front
    (omega (arith, c.loop-kept.invariant.low, c.loop-kept.invariant.long)) c.in_ok-len.ensures.count reads.is end.0 c.split_at.ensures.front
    c.in_ok-gather.ensures before.3 in (all, end.1)

pub loop-kept-preserved : goal.loop-kept-preserved
loop-kept-preserved g c = record {
  low = omega arith;
  long =
      (moved LARGEST_PACKET (c.split_at_mut-room.result.0.now ++ c.read_front.new.buffer) c.copy_within.new.self
      (omega (
        arith,
        c.read_front.ensures.len,
        c.split_at_mut-room.ensures.front_len,
        c.split_at_mut-room.ensures.back_len,
        c.loop-kept.invariant.long,
        c.loop-kept.invariant.low,
        length-append c.split_at_mut-room.result.0.now c.read_front.new.buffer,
      ))
      c.copy_within.ensures.after).1;
  small = λ i. omega (arith, c.type_inv.window i);
  tree = c.read_front.ensures.tree ∙ c.loop-kept.invariant.tree;
  failures = c.in_ok-len.ensures.failures ∙ c.loop-kept.invariant.failures;
  left = λ file e.
      let before = c.loop-kept.invariant.left file e in
      let reads = c.in_ok-len.ensures.left (file_of before.0 file.breaks) before.1 in (reads.rest, reads.left_is);
  found = λ file e small.
      let before = c.loop-kept.invariant.found file e small in
      let reads = c.in_ok-len.ensures.left (file_of before.0 file.breaks) before.1 in
      let next =
      next_window c.args.uuid.now c.loop-kept.window c.split_at_mut-room.result.0.now c.read_front.new.buffer before.0 reads.rest
      c.copy_within.new.self c.loop-kept.len c.in_ok-len.field-0 c.loop-kept.kept.items c.gather-in-loop-kept.new.kept.items _
      c.loop-kept.invariant.small before.2 c.loop-kept.invariant.long c.split_at_mut-room.ensures.front
      (omega (arith, c.read_front.ensures.len, c.split_at_mut-room.ensures.back_len))
      c.in_ok-len.ensures.count c.if-len-lt-WINDOW.false c.loop-kept.invariant.low reads.is c.copy_within.ensures.after c.in_ok-gather-2.ensures before.3 in
      (reads.rest, reads.left_is, next.1, next.2);
}

pub returns-in_err-len-clause-broken : goal.returns-in_err-len-clause-broken
returns-in_err-len-clause-broken g c =
    let p = err_from_is_err_and c.from_residual.result c.from_residual.ensures.1 in
    rw (p.1, p.2) (λ is file e.
    let before = c.loop-kept.invariant.left file e in
    (c.in_err-len.ensures.broken is (file_of before.0 file.breaks) before.1).1)
