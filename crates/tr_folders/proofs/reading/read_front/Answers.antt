use Rattle.std.proofs.Common.{◌≡◌, ◌<◌, ℕ, ap, sym, ◌∙◌, refl, arith, rules, length, take}
use Rattle.std.proofs.lemmas.Grind.{common_steps}
use Rattle.tr_folders.specs.Kept.{file_of}
use Rattle.tr_folders.proofs.ReadLemmas.{all_read, not_few, reads_all, reads_more, reads_on}
use Rattle.tr_folders.proofs.reading.read_front.Goals as goal

pub loop-at-preserved : goal.loop-at-preserved
loop-at-preserved g c = record {
  within = grind (arith, common_steps, c.in_ok-count.ensures.count);
  tree = search rules;
  failures = search rules;
  given = omega (arith, c.in_ok-count.ensures.given, c.loop-at.invariant.given);
  few = λ some. c.in_ok-count.ensures.few;
  front = λ file e.
      let before = c.loop-at.invariant.front file e in
      reads_more _ _ _ _ _ _ (file_of before.0 file.breaks) _ c.loop-at.invariant.within c.in_ok-count.ensures.count before.1
      (c.in_ok-count.ensures.reads (file_of before.0 file.breaks) before.2);
}

pub returns-in-0-clause-front : goal.returns-in-0-clause-front
returns-in-0-clause-front g c file e =
    let before = c.loop-at.invariant.front file e in
    let reads = c.in_ok-count.ensures.reads (file_of before.0 file.breaks) before.2 in
    let same : length c.loop-at.buffer ≡ length c.args.buffer.now = omega arith in
    reads_all _ _ _ c.read.new.buffer _ (file_of before.0 file.breaks) (g.F.Folders.left c.read.new.self) c.loop-at.invariant.within before.1
    (rw c.in-0.is at reads) ∙ ap (λ (n : ℕ). take n file.bytes) same

pub returns-in-0-clause-whole : goal.returns-in-0-clause-whole
returns-in-0-clause-whole g c file e few =
    let before = c.loop-at.invariant.front file e in
    let reads = c.in_ok-count.ensures.reads (file_of before.0 file.breaks) before.2 in
    ((rw c.in-0.is at reads).end refl).1

pub returns-in-0-clause-left : goal.returns-in-0-clause-left
returns-in-0-clause-left g c file e =
    let before = c.loop-at.invariant.front file e in
    let reads = c.in_ok-count.ensures.reads (file_of before.0 file.breaks) before.2 in
    reads_on _ _ _ c.read.new.buffer file (file_of before.0 file.breaks) (g.F.Folders.left c.read.new.self) _ c.loop-at.invariant.within before.1 refl
    (rw c.in-0.is at reads)
