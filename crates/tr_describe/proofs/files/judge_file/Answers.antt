use Rattle.std.proofs.Common.{◌≡◌, ◌++◌, ◌∙◌, ℕ, List, Option, take, refl, ap, sym, subst, arith}
use Rattle.std.proofs.lemmas.Grind.{common_steps}
use Rattle.tr_chunk.proofs.WaitingLemmas.{nothing_waits}
use Rattle.tr_describe.specs.Steps.{AreFew, IsHeld}
use Rattle.tr_describe.specs.declared.flaws.Flaw.{Flaw}
use Rattle.tr_describe.proofs.ReadLemmas.{ReadSoFar, read_broken, read_end, read_held, read_more, read_start, read_wrong}
use Rattle.tr_folders.specs.Tree.{Reads}
use Rattle.tr_describe.proofs.files.judge_file.Goals as goal

pub pieces-init : goal.pieces-init
pieces-init g c =
    let rule = c.args.rule.now in
    let none = sym c.new-held.ensures.items in
    record {
      room = refl;
      each = omega arith;
      fewer = λ some. absurd (omega arith);
      tree = refl;
      reads = refl;
      few = subst AreFew none nothing_waits;
      so_far = λ file known.
          subst (ReadSoFar rule.events.now rule.uuid.now rule.stream file (g.F.Folders.left c.args.folders.now)) none
          (read_start rule.events.now rule.uuid.now rule.stream file (g.F.Folders.left c.args.folders.now) known);
    }

pub returns-in-Ok-eq0-clause-flaw : goal.returns-in-Ok-eq0-clause-flaw
returns-in-Ok-eq0-clause-flaw g c file known =
    let rule = c.args.rule.now in
    let so_far = c.pieces.invariant.so_far file known in
    let held : c.pieces.held.items ≡ c.deref.result.now = sym c.deref.ensures.value in
    read_end rule.events.now rule.uuid.now rule.stream file (g.F.Folders.left c.pieces.folders) (g.F.Folders.left c.read.new.self)
    c.deref.result.now c.end_flaw.result
    (subst (ReadSoFar rule.events.now rule.uuid.now rule.stream file (g.F.Folders.left c.pieces.folders)) held so_far)
    (subst AreFew held c.pieces.invariant.few)
    (λ one is. subst (λ (n : ℕ). Reads one (take n c.read.new.buffer) (g.F.Folders.left c.read.new.self)) c.in-Ok-eq0.field-0-test (c.in-Ok-eq0.ensures.reads one is))
    c.end_flaw.ensures.none c.end_flaw.ensures.some

pub returns-in-Some-clause-flaw : goal.returns-in-Some-clause-flaw
returns-in-Some-clause-flaw g c file known =
    let rule = c.args.rule.now in
    let so_far = c.pieces.invariant.so_far file known in
    let more = c.in_ok-extend_from_slice-in-Ok.ensures.items ∙ ap (λ (l : List ℕ). c.pieces.held.items ++ l) c.split_at.ensures.front in
    read_wrong rule.events.now rule.uuid.now rule.stream file (g.F.Folders.left c.read.new.self) c.extend_from_slice.new.self.items c.in-Some.flaw
    (read_more rule.events.now rule.uuid.now rule.stream file (g.F.Folders.left c.pieces.folders) (g.F.Folders.left c.read.new.self)
    c.pieces.held.items (take c.in-Ok.count c.read.new.buffer) c.extend_from_slice.new.self.items more so_far c.in-Ok.ensures.reads)
    (subst (λ (o : Option Flaw). IsHeld rule.events.now rule.uuid.now rule.stream c.extend_from_slice.new.self.items o c.judge_held.new.held.items)
    c.in-Some.is c.in_ok-flaw-in-Ok.ensures)

pub returns-in-Err-Unreadable-clause-flaw : goal.returns-in-Err-Unreadable-clause-flaw
returns-in-Err-Unreadable-clause-flaw g c file known =
    let rule = c.args.rule.now in
    let so_far = c.pieces.invariant.so_far file known in
    read_broken rule.events.now rule.uuid.now rule.stream file (g.F.Folders.left c.pieces.folders) c.pieces.held.items so_far c.pieces.invariant.few
    (c.in-Err-Unreadable.ensures.broken c.in-Err-Unreadable.field-0-is)

pub pieces-preserved : goal.pieces-preserved
pieces-preserved g c =
    let rule = c.args.rule.now in
    let more = c.in_ok-extend_from_slice-in-Ok.ensures.items ∙ ap (λ (l : List ℕ). c.pieces.held.items ++ l) c.split_at.ensures.front in
    let kept = subst (λ (o : Option Flaw). IsHeld rule.events.now rule.uuid.now rule.stream c.extend_from_slice.new.self.items o c.judge_held.new.held.items)
    c.in-None.is c.in_ok-flaw-in-Ok.ensures in
    record {
      room = grind (arith, common_steps);
      each = let given = c.in-Ok.ensures.given in let each = c.pieces.invariant.each in let some = c.in-Ok.count-test in omega (arith, given, each, some);
      fewer = λ some. c.in-Ok.ensures.few;
      tree = grind (arith, common_steps);
      reads = grind (arith, common_steps);
      few = kept.0;
      so_far = λ file known.
          let so_far = c.pieces.invariant.so_far file known in
          read_held rule.events.now rule.uuid.now rule.stream file (g.F.Folders.left c.read.new.self) c.extend_from_slice.new.self.items c.judge_held.new.held.items
          (read_more rule.events.now rule.uuid.now rule.stream file (g.F.Folders.left c.pieces.folders) (g.F.Folders.left c.read.new.self)
          c.pieces.held.items (take c.in-Ok.count c.read.new.buffer) c.extend_from_slice.new.self.items more so_far c.in-Ok.ensures.reads)
          kept.1;
    }
