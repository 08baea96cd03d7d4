use Rattle.std.proofs.Common.{◌≡◌, ◌++◌, ◌∙◌, ℕ, List, Bool, Some, take, refl, ap, sym, subst, arith}
use Rattle.std.proofs.lemmas.Grind.{common_steps}
use Rattle.std.proofs.lemmas.Result.{on_err_weaker, on_ok_weaker}
use Rattle.tr_chunk.proofs.WaitingLemmas.{nothing_waits}
use Rattle.tr_folders.specs.Tree.{Reads}
use Rattle.tr_survey.specs.Listing.{key_of}
use Rattle.tr_survey.specs.Prefix.{IsPrefixOut, IsTold}
use Rattle.tr_survey.specs.Steps.{AreFew, IsHeld}
use Rattle.tr_survey.specs.Streams.{file_told, left_told, place_of, unreadable_told}
use Rattle.tr_survey.proofs.PrefixLemmas.{at_err, goes_told}
use Rattle.tr_survey.proofs.TellLemmas.{ReadSoFar, read_broken, read_end, read_front, read_more, read_nothing, read_start, read_stopped, read_told}
use Rattle.tr_survey.proofs.files.tell_file.Goals as goal

pub pieces-init : goal.pieces-init
pieces-init g c = record {
  room = refl;
  each = omega arith;
  fewer = λ some. absurd (omega arith);
  tree = refl;
  reads = refl;
  writes = refl;
  few = subst AreFew (sym c.new-held.ensures.items) nothing_waits;
  so_far = λ file known.
      subst (λ (l : List ℕ). ReadSoFar (file_told (place_of c.args.trace.now c.args.stream (key_of c.args.archive.now)) c.args.tally.now (Some file)) (place_of c.args.trace.now c.args.stream (key_of c.args.archive.now)) file.breaks
      (g.K.ByteSink.taken c.args.sink.now) (g.K.ByteSink.taken c.args.sink.now) (g.F.Folders.left c.args.folders.now) c.args.tally.now 0 l) (sym c.new-held.ensures.items)
      (read_start (place_of c.args.trace.now c.args.stream (key_of c.args.archive.now)) c.args.tally.now file (g.K.ByteSink.taken c.args.sink.now) (g.F.Folders.left c.args.folders.now) known);
}

pub returns-in-Ok-eq0-clause-ok : goal.returns-in-Ok-eq0-clause-ok
returns-in-Ok-eq0-clause-ok g c =
    let at = place_of c.args.trace.now c.args.stream (key_of c.args.archive.now) in
    on_ok_weaker c.tell_left.result (λ told file known.
    let so_far = c.pieces.invariant.so_far file known in
    let held : c.deref.result.now ≡ c.pieces.held.items = c.deref.ensures.value in
    goes_told (file_told at c.args.tally.now (Some file)) (left_told at c.pieces.tally c.pieces.offset c.pieces.held.items) (g.K.ByteSink.taken c.args.sink.now) (g.K.ByteSink.taken c.pieces.sink) _ _
    (read_end (file_told at c.args.tally.now (Some file)) at file.breaks _ _ (g.F.Folders.left c.pieces.folders) (g.F.Folders.left c.read.new.self) c.pieces.tally c.pieces.offset c.pieces.held.items so_far c.pieces.invariant.few
    (λ one is. subst (λ (n : ℕ). Reads one (take n c.read.new.buffer) (g.F.Folders.left c.read.new.self)) c.in-Ok-eq0.field-0-test (c.in-Ok-eq0.ensures.reads one is)))
    (subst (λ (l : List ℕ). IsTold (left_told at c.pieces.tally c.pieces.offset l) (g.K.ByteSink.taken c.pieces.sink) (g.K.ByteSink.taken c.tell_left.new.sink) c.tell_left.new.tally) held
    (told c.args.trace.now)))
    c.tell_left.ensures.ok

pub returns-in-Ok-eq0-clause-err : goal.returns-in-Ok-eq0-clause-err
returns-in-Ok-eq0-clause-err g c =
    let at = place_of c.args.trace.now c.args.stream (key_of c.args.archive.now) in
    on_err_weaker c.tell_left.result (λ front file known.
    let so_far = c.pieces.invariant.so_far file known in
    let held : c.deref.result.now ≡ c.pieces.held.items = c.deref.ensures.value in
    (read_end (file_told at c.args.tally.now (Some file)) at file.breaks (g.K.ByteSink.taken c.args.sink.now) (g.K.ByteSink.taken c.pieces.sink) (g.F.Folders.left c.pieces.folders) (g.F.Folders.left c.read.new.self) c.pieces.tally c.pieces.offset c.pieces.held.items so_far c.pieces.invariant.few
    (λ one is. subst (λ (n : ℕ). Reads one (take n c.read.new.buffer) (g.F.Folders.left c.read.new.self)) c.in-Ok-eq0.field-0-test (c.in-Ok-eq0.ensures.reads one is))).front _
    (subst (λ (l : List ℕ). IsPrefixOut (left_told at c.pieces.tally c.pieces.offset l).text (g.K.ByteSink.taken c.pieces.sink) (g.K.ByteSink.taken c.tell_left.new.sink)) held
    (front c.args.trace.now)))
    c.tell_left.ensures.err

pub returns-in_err-extend_from_slice-in-Ok-clause-err : goal.returns-in_err-extend_from_slice-in-Ok-clause-err
returns-in_err-extend_from_slice-in-Ok-clause-err g c =
    let at = place_of c.args.trace.now c.args.stream (key_of c.args.archive.now) in
    at_err c.from_residual.result (λ file known.
    read_nothing (file_told at c.args.tally.now (Some file)) at file.breaks (g.K.ByteSink.taken c.args.sink.now) (g.K.ByteSink.taken c.pieces.sink) (g.F.Folders.left c.pieces.folders) c.pieces.tally c.pieces.offset c.pieces.held.items (c.pieces.invariant.so_far file known))

pub returns-in_err-stopped-in-Ok-clause-err : goal.returns-in_err-stopped-in-Ok-clause-err
returns-in_err-stopped-in-Ok-clause-err g c =
    let at = place_of c.args.trace.now c.args.stream (key_of c.args.archive.now) in
    at_err c.from_residual-in_err-stopped-in-Ok.result (λ file known.
    let so_far = c.pieces.invariant.so_far file known in
    let more = c.in_ok-extend_from_slice-in-Ok.ensures.items ∙ ap (λ (l : List ℕ). c.pieces.held.items ++ l) c.split_at.ensures.front in
    read_front (file_told at c.args.tally.now (Some file)) at file.breaks (g.K.ByteSink.taken c.args.sink.now) (g.K.ByteSink.taken c.pieces.sink) _ (g.F.Folders.left c.read.new.self) c.pieces.tally c.pieces.offset c.extend_from_slice.new.self.items
    (read_more (file_told at c.args.tally.now (Some file)) at file.breaks _ _ (g.F.Folders.left c.pieces.folders) (g.F.Folders.left c.read.new.self) c.pieces.tally c.pieces.offset c.pieces.held.items (take c.in-Ok.count c.read.new.buffer)
    c.extend_from_slice.new.self.items more so_far c.in-Ok.ensures.reads)
    c.in_err-stopped-in-Ok.ensures.err)

pub returns-then-stopped-clause-ok : goal.returns-then-stopped-clause-ok
returns-then-stopped-clause-ok g c file known =
    let at = place_of c.args.trace.now c.args.stream (key_of c.args.archive.now) in
    let so_far = c.pieces.invariant.so_far file known in
    let more = c.in_ok-extend_from_slice-in-Ok.ensures.items ∙ ap (λ (l : List ℕ). c.pieces.held.items ++ l) c.split_at.ensures.front in
    read_stopped (file_told at c.args.tally.now (Some file)) at file.breaks (g.K.ByteSink.taken c.args.sink.now) (g.K.ByteSink.taken c.pieces.sink) _ (g.F.Folders.left c.read.new.self) c.pieces.tally c.tell_held.new.tally c.pieces.offset c.tell_held.new.offset
    c.extend_from_slice.new.self.items c.tell_held.new.held.items
    (read_more (file_told at c.args.tally.now (Some file)) at file.breaks _ _ (g.F.Folders.left c.pieces.folders) (g.F.Folders.left c.read.new.self) c.pieces.tally c.pieces.offset c.pieces.held.items (take c.in-Ok.count c.read.new.buffer)
    c.extend_from_slice.new.self.items more so_far c.in-Ok.ensures.reads)
    (subst (λ (b : Bool). IsHeld at c.pieces.tally c.pieces.offset c.extend_from_slice.new.self.items b (g.K.ByteSink.taken c.pieces.sink) (g.K.ByteSink.taken c.tell_held.new.sink)
    c.tell_held.new.tally c.tell_held.new.offset c.tell_held.new.held.items) c.if-stopped.true c.in_ok-stopped-in-Ok.ensures.ok)

pub pieces-preserved : goal.pieces-preserved
pieces-preserved g c =
    let at = place_of c.args.trace.now c.args.stream (key_of c.args.archive.now) in
    let kept = subst (λ (b : Bool). IsHeld at c.pieces.tally c.pieces.offset c.extend_from_slice.new.self.items b (g.K.ByteSink.taken c.pieces.sink) (g.K.ByteSink.taken c.tell_held.new.sink)
    c.tell_held.new.tally c.tell_held.new.offset c.tell_held.new.held.items) c.if-stopped.false c.in_ok-stopped-in-Ok.ensures.ok in
    let more = c.in_ok-extend_from_slice-in-Ok.ensures.items ∙ ap (λ (l : List ℕ). c.pieces.held.items ++ l) c.split_at.ensures.front in
    record {
      room = grind (arith, common_steps);
      each = let given = c.in-Ok.ensures.given in let each = c.pieces.invariant.each in let some = c.in-Ok.count-test in omega (arith, given, each, some);
      fewer = λ some. c.in-Ok.ensures.few;
      tree = grind (arith, common_steps);
      reads = grind (arith, common_steps);
      writes = grind (arith, common_steps);
      few = kept.0;
      so_far = λ file known.
          let so_far = c.pieces.invariant.so_far file known in
          read_told (file_told at c.args.tally.now (Some file)) at file.breaks (g.K.ByteSink.taken c.args.sink.now) (g.K.ByteSink.taken c.pieces.sink) _ (g.F.Folders.left c.read.new.self) (g.F.Folders.left c.read.new.self)
          c.pieces.tally c.tell_held.new.tally c.pieces.offset c.tell_held.new.offset c.extend_from_slice.new.self.items c.tell_held.new.held.items
          (read_more (file_told at c.args.tally.now (Some file)) at file.breaks _ _ (g.F.Folders.left c.pieces.folders) (g.F.Folders.left c.read.new.self) c.pieces.tally c.pieces.offset c.pieces.held.items (take c.in-Ok.count c.read.new.buffer)
          c.extend_from_slice.new.self.items more so_far c.in-Ok.ensures.reads)
          refl kept;
    }

pub returns-in-Err-Unreadable-clause-ok : goal.returns-in-Err-Unreadable-clause-ok
returns-in-Err-Unreadable-clause-ok g c =
    let at = place_of c.args.trace.now c.args.stream (key_of c.args.archive.now) in
    on_ok_weaker c.tell_unreadable.result (λ told file known.
    let so_far = c.pieces.invariant.so_far file known in
    goes_told (file_told at c.args.tally.now (Some file)) (unreadable_told at c.pieces.tally) (g.K.ByteSink.taken c.args.sink.now) (g.K.ByteSink.taken c.pieces.sink) _ _
    (read_broken (file_told at c.args.tally.now (Some file)) at file.breaks _ _ (g.F.Folders.left c.pieces.folders) c.pieces.tally c.pieces.offset c.pieces.held.items so_far c.pieces.invariant.few
    (c.in-Err-Unreadable.ensures.broken c.in-Err-Unreadable.field-0-is))
    (told c.args.trace.now))
    c.tell_unreadable.ensures.ok

pub returns-in-Err-Unreadable-clause-err : goal.returns-in-Err-Unreadable-clause-err
returns-in-Err-Unreadable-clause-err g c =
    let at = place_of c.args.trace.now c.args.stream (key_of c.args.archive.now) in
    on_err_weaker c.tell_unreadable.result (λ front file known.
    let so_far = c.pieces.invariant.so_far file known in
    (read_broken (file_told at c.args.tally.now (Some file)) at file.breaks (g.K.ByteSink.taken c.args.sink.now) (g.K.ByteSink.taken c.pieces.sink) (g.F.Folders.left c.pieces.folders) c.pieces.tally c.pieces.offset c.pieces.held.items so_far c.pieces.invariant.few
    (c.in-Err-Unreadable.ensures.broken c.in-Err-Unreadable.field-0-is)).front _
    (front c.args.trace.now))
    c.tell_unreadable.ensures.err

pub returns-in-Err-TooMuch-clause-err : goal.returns-in-Err-TooMuch-clause-err
returns-in-Err-TooMuch-clause-err g c file known =
    let at = place_of c.args.trace.now c.args.stream (key_of c.args.archive.now) in
    read_nothing (file_told at c.args.tally.now (Some file)) at file.breaks (g.K.ByteSink.taken c.args.sink.now) (g.K.ByteSink.taken c.pieces.sink) (g.F.Folders.left c.pieces.folders) c.pieces.tally c.pieces.offset c.pieces.held.items (c.pieces.invariant.so_far file known)

pub returns-in-Err-NoMemory-clause-err : goal.returns-in-Err-NoMemory-clause-err
returns-in-Err-NoMemory-clause-err g c file known =
    let at = place_of c.args.trace.now c.args.stream (key_of c.args.archive.now) in
    read_nothing (file_told at c.args.tally.now (Some file)) at file.breaks (g.K.ByteSink.taken c.args.sink.now) (g.K.ByteSink.taken c.pieces.sink) (g.F.Folders.left c.pieces.folders) c.pieces.tally c.pieces.offset c.pieces.held.items (c.pieces.invariant.so_far file known)
