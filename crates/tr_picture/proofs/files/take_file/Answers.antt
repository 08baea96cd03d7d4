use Rattle.std.proofs.Common.{◌++◌, ◌∙◌, ℕ, List, Bool, Some, take, refl, ap, sym, subst, arith}
use Rattle.std.proofs.lemmas.Grind.{common_steps}
use Rattle.tr_chunk.proofs.WaitingLemmas.{nothing_waits}
use Rattle.tr_folders.specs.Tree.{Reads}
use Rattle.tr_picture.proofs.RowLemmas.{ReadSoFar, read_broken, read_end, read_held, read_more, read_start, read_stopped}
use Rattle.tr_picture.specs.Rows.{file_row, left_row}
use Rattle.tr_picture.specs.Steps.{AreFew, IsHeld}
use Rattle.tr_survey.specs.Listing.{key_of}
use Rattle.tr_survey.specs.Streams.{place}
use Rattle.tr_picture.proofs.files.take_file.Goals as goal

pub pieces-init : goal.pieces-init
pieces-init g c =
    let rule = c.args.rule.now in
    let f = rule.frame.now in
    let at = place rule.uuid.now rule.stream (key_of rule.archive.now) in
    let none = sym c.new-held.ensures.items in
    record {
      room = refl;
      each = omega arith;
      fewer = λ some. absurd (omega arith);
      tree = refl;
      reads = refl;
      few = subst AreFew none nothing_waits;
      so_far = λ file known.
          subst (ReadSoFar (file_row f at c.args.row.now (Some file)) f at file.breaks (g.F.Folders.left c.args.folders.now) c.args.row.now) none
          (read_start f at c.args.row.now file (g.F.Folders.left c.args.folders.now) known);
    }

pub returns-in-Ok-eq0-clause-row : goal.returns-in-Ok-eq0-clause-row
returns-in-Ok-eq0-clause-row g c file known =
    let rule = c.args.rule.now in
    let f = rule.frame.now in
    let at = place rule.uuid.now rule.stream (key_of rule.archive.now) in
    c.in_ok-take_left-in-Ok-eq0.ensures ∙ ap (left_row f at c.pieces.row) c.deref.ensures.value
    ∙ read_end (file_row f at c.args.row.now (Some file)) f at file.breaks (g.F.Folders.left c.pieces.folders) (g.F.Folders.left c.read.new.self)
    c.pieces.row c.pieces.held.items (c.pieces.invariant.so_far file known) c.pieces.invariant.few
    (λ one is. subst (λ (n : ℕ). Reads one (take n c.read.new.buffer) (g.F.Folders.left c.read.new.self)) c.in-Ok-eq0.field-0-test (c.in-Ok-eq0.ensures.reads one is))

pub returns-then-branch-clause-row : goal.returns-then-branch-clause-row
returns-then-branch-clause-row g c file known =
    let rule = c.args.rule.now in
    let f = rule.frame.now in
    let at = place rule.uuid.now rule.stream (key_of rule.archive.now) in
    let more = c.in_ok-extend_from_slice-in-Ok.ensures.items ∙ ap (λ (l : List ℕ). c.pieces.held.items ++ l) c.split_at.ensures.front in
    read_stopped (file_row f at c.args.row.now (Some file)) f at file.breaks (g.F.Folders.left c.read.new.self) c.pieces.row c.take_held.new.row
    c.extend_from_slice.new.self.items c.take_held.new.held.items
    (read_more (file_row f at c.args.row.now (Some file)) f at file.breaks (g.F.Folders.left c.pieces.folders) (g.F.Folders.left c.read.new.self)
    c.pieces.row c.pieces.held.items (take c.in-Ok.count c.read.new.buffer) c.extend_from_slice.new.self.items more
    (c.pieces.invariant.so_far file known) c.in-Ok.ensures.reads)
    (subst (λ (b : Bool). IsHeld f at c.pieces.row c.extend_from_slice.new.self.items b c.take_held.new.row c.take_held.new.held.items)
    c.if-branch.true c.in_ok-take_held-in-Ok.ensures)

pub returns-in-Err-Unreadable-clause-row : goal.returns-in-Err-Unreadable-clause-row
returns-in-Err-Unreadable-clause-row g c file known =
    let rule = c.args.rule.now in
    let f = rule.frame.now in
    let at = place rule.uuid.now rule.stream (key_of rule.archive.now) in
    c.in_ok-add_fault-in-Err-Unreadable.ensures rule.uuid.now rule.stream
    ∙ read_broken (file_row f at c.args.row.now (Some file)) f at file.breaks (g.F.Folders.left c.pieces.folders) c.pieces.row c.pieces.held.items
    (c.pieces.invariant.so_far file known) c.pieces.invariant.few (c.in-Err-Unreadable.ensures.broken c.in-Err-Unreadable.field-0-is)

pub pieces-preserved : goal.pieces-preserved
pieces-preserved g c =
    let rule = c.args.rule.now in
    let f = rule.frame.now in
    let at = place rule.uuid.now rule.stream (key_of rule.archive.now) in
    let more = c.in_ok-extend_from_slice-in-Ok.ensures.items ∙ ap (λ (l : List ℕ). c.pieces.held.items ++ l) c.split_at.ensures.front in
    let kept = subst (λ (b : Bool). IsHeld f at c.pieces.row c.extend_from_slice.new.self.items b c.take_held.new.row c.take_held.new.held.items)
    c.if-branch.false c.in_ok-take_held-in-Ok.ensures in
    record {
      room = grind (arith, common_steps);
      each = let given = c.in-Ok.ensures.given in let each = c.pieces.invariant.each in let some = c.in-Ok.count-test in omega (arith, given, each, some);
      fewer = λ some. c.in-Ok.ensures.few;
      tree = grind (arith, common_steps);
      reads = grind (arith, common_steps);
      few = kept.0;
      so_far = λ file known.
          read_held (file_row f at c.args.row.now (Some file)) f at file.breaks (g.F.Folders.left c.read.new.self) c.pieces.row c.take_held.new.row
          c.extend_from_slice.new.self.items c.take_held.new.held.items
          (read_more (file_row f at c.args.row.now (Some file)) f at file.breaks (g.F.Folders.left c.pieces.folders) (g.F.Folders.left c.read.new.self)
          c.pieces.row c.pieces.held.items (take c.in-Ok.count c.read.new.buffer) c.extend_from_slice.new.self.items more
          (c.pieces.invariant.so_far file known) c.in-Ok.ensures.reads)
          kept;
    }
