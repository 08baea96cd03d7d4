use Rattle.std.proofs.Common.{◌∙◌, ◌++◌, ap, arith, option_map, refl, sym}
use Rattle.std.proofs.lemmas.Result.{err_from_is_err_and}
use Rattle.tr_folders.specs.Kept.{file_of}
use Rattle.tr_image.specs.Traces.{reach, trace_in}
use Rattle.tr_image.proofs.TraceLemmas.{found_here, last_window, never, next_window, none_of, some_of, whole_length, whole_window}
use Rattle.tr_image.proofs.WindowLemmas.{moved}
use Rattle.tr_image.proofs.traces.trace_left.Goals as goal

pub loop-len-init : goal.loop-len-init
loop-len-init g c = record {
  low = omega arith;
  long = c.requires;
  tree = refl;
  failures = refl;
  left = λ file e. (file.bytes, e, refl);
}

pub returns-in_err-len-clause-broken : goal.returns-in_err-len-clause-broken
returns-in_err-len-clause-broken g c =
    let p = err_from_is_err_and c.from_residual.result c.from_residual.ensures.1 in
    rw (p.1, p.2) (λ is file e.
    let before = c.loop-len.invariant.left file e in
    (c.in_err-len.ensures.broken is (file_of before.0 file.breaks) before.1).1)

pub returns-then-len-lt-WINDOW-clause-found : goal.returns-then-len-lt-WINDOW-clause-found
returns-then-len-lt-WINDOW-clause-found g c file e =
    let before = c.loop-len.invariant.left file e in
    let reads = c.in_ok-len.ensures.left (file_of before.0 file.breaks) before.1 in
    let end =
    reads.end
    (omega (
      arith,
      c.if-len-lt-WINDOW.true,
      c.read_front.ensures.len,
      c.split_at_mut-room.ensures.back_len,
      c.loop-len.invariant.long,
      c.loop-len.invariant.low,
    )) in
    let all =
    last_window (option_map (λ u. u.now) c.args.wanted) c.loop-len.window c.split_at_mut-room.result.0.now c.read_front.new.buffer before.0
    reads.rest c.split_at.result.0.now c.loop-len.len c.in_ok-len.field-0 c.in_ok-trace_before.field-0 c.split_at_mut-room.ensures.front
    (omega (arith, c.loop-len.invariant.low, c.loop-len.invariant.long)) c.in_ok-len.ensures.count reads.is end.0 c.split_at.ensures.front
    c.in_ok-trace_before.ensures in (all ∙ sym before.2, λ none. end.1)

pub returns-then-is_some-clause-found : goal.returns-then-is_some-clause-found
returns-then-is_some-clause-found g c file e =
    let wanted = option_map (λ u. u.now) c.args.wanted in
    let window = c.split_at_mut-room.result.0.now ++ c.read_front.new.buffer in
    let before = c.loop-len.invariant.left file e in
    let reads = c.in_ok-len.ensures.left (file_of before.0 file.breaks) before.1 in
    let whole =
    whole_window c.loop-len.window c.split_at_mut-room.result.0.now c.read_front.new.buffer before.0 reads.rest c.loop-len.len
    c.in_ok-len.field-0 c.loop-len.invariant.long c.split_at_mut-room.ensures.front
    (omega (arith, c.read_front.ensures.len, c.split_at_mut-room.ensures.back_len)) c.in_ok-len.ensures.count c.if-len-lt-WINDOW.false
    c.loop-len.invariant.low reads.is in
    let found = some_of c.in_ok-trace.trace (sym c.is_some.ensures ∙ c.if-is_some.true) in (
      found_here wanted window reads.rest c.in_ok-trace.trace found.0 whole.1 c.in_ok-trace.ensures found.1
          ∙ sym (before.2 ∙ ap (trace_in wanted) whole.0),
      λ none. absurd (never c.in_ok-trace.trace found.0 none found.1),
    )

pub loop-len-preserved : goal.loop-len-preserved
loop-len-preserved g c =
    let wanted = option_map (λ u. u.now) c.args.wanted in
    let window = c.split_at_mut-room.result.0.now ++ c.read_front.new.buffer in
    record {
      low = omega arith;
      long =
          (moved reach window c.copy_within.new.self
          (whole_length c.loop-len.window c.split_at_mut-room.result.0.now c.read_front.new.buffer c.loop-len.len c.loop-len.invariant.long
          c.split_at_mut-room.ensures.front (omega (arith, c.read_front.ensures.len, c.split_at_mut-room.ensures.back_len))
          c.loop-len.invariant.low)
          c.copy_within.ensures.after).1;
      tree = c.read_front.ensures.tree ∙ c.loop-len.invariant.tree;
      failures = c.in_ok-len.ensures.failures ∙ c.loop-len.invariant.failures;
      left = λ file e.
          let before = c.loop-len.invariant.left file e in
          let reads = c.in_ok-len.ensures.left (file_of before.0 file.breaks) before.1 in
          let whole =
          whole_window c.loop-len.window c.split_at_mut-room.result.0.now c.read_front.new.buffer before.0 reads.rest c.loop-len.len
          c.in_ok-len.field-0 c.loop-len.invariant.long c.split_at_mut-room.ensures.front
          (omega (arith, c.read_front.ensures.len, c.split_at_mut-room.ensures.back_len)) c.in_ok-len.ensures.count c.if-len-lt-WINDOW.false
          c.loop-len.invariant.low reads.is in
          let none = none_of c.in_ok-trace.trace (sym c.is_some.ensures ∙ c.if-is_some.false) in (
            reads.rest,
            reads.left_is,
            before.2 ∙ ap (trace_in wanted) whole.0
                ∙ next_window wanted window reads.rest c.copy_within.new.self whole.1 (sym none ∙ c.in_ok-trace.ensures) c.copy_within.ensures.after,
          );
    }
