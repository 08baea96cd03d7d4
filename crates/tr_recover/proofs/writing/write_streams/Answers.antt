use Rattle.std.proofs.Common.{◌≡◌, ◌+◌, ◌∙◌, ◌++◌, [], ℕ, ap, arith, drop, length, refl, sym}
use Rattle.std.proofs.lemmas.List.{drop-drop}
use Rattle.tr_export.proofs.MakingLemmas.{OnErr-always, front_after, front_before, made_after}
use Rattle.tr_packet.specs.Packets.{Contents}
use Rattle.std.proofs.Common.{List, append_assoc}
use Rattle.tr_export.specs.Making.{Makings}
use Rattle.tr_recover.specs.Archive.{files_made, next_stream, part_streams, parted, parts_streams, streams_made}
use Rattle.tr_recover.proofs.PartLemmas.{files_lead, lead_few, none_made, some_lead}
use Rattle.tr_recover.proofs.writing.write_streams.Goals as goal

pub loop-at-init : goal.loop-at-init
loop-at-init g c = record {
  within = omega arith;
  made = ([], none_made (g.D.Disk.made c.args.disk.now), refl);
  works = λ n e. e;
}

pub split_at-requires-in-loop-at : goal.split_at-requires-in-loop-at
split_at-requires-in-loop-at g c = omega (arith, c.lead_count.ensures, lead_few c.split_at.result.1.now)

pub loop-at-smaller : goal.loop-at-smaller
loop-at-smaller g c =
    omega (
      arith,
      c.loop-at-test.true,
      c.split_at.ensures.back_len,
      c.split_at-in-loop-at.ensures.front_len,
      c.lead_count.ensures,
      some_lead c.split_at.result.1.now (omega (arith, c.loop-at-test.true, c.split_at.ensures.back_len)),
    )

pub loop-at-preserved : goal.loop-at-preserved
loop-at-preserved g c =
    let rest = c.split_at.result.1.now in
    let own = c.split_at-in-loop-at.result.0.now in
    let few = c.split_at-in-loop-at.ensures.front_len in
    let before = c.loop-at.invariant.made in
    let all = c.args.packets.now in
    let folder = c.args.folder.now in
    let files = files_made folder (part_streams c.loop-at.next own) in
    let next : drop (length own) rest ≡ drop (c.loop-at.at + length own) all =
    ap (λ (xs : List Contents). drop (length own) xs) c.split_at.ensures.back ∙ drop-drop (length own) c.loop-at.at all in
    let lead =
    files_lead folder c.loop-at.next rest own (drop (c.loop-at.at + length own) all) c.lead_count.result
    (omega (arith, c.loop-at-test.true, c.split_at.ensures.back_len)) c.lead_count.ensures c.split_at-in-loop-at.ensures.front
    (sym next ∙ ap (λ n. drop n rest) few) in
    record {
      within = omega (arith, few, c.lead_count.ensures, lead_few rest, c.split_at.ensures.back_len, c.loop-at-test.true);
      made = (
        before.0 ++ files,
        made_after (g.D.Disk.made c.args.disk.now) (g.D.Disk.made c.loop-at.disk) (g.D.Disk.made c.write_part.new.disk) before.0 files before.1
            c.in_ok-write_part.ensures.ok,
        before.2
            ∙ ap (λ (ms : Makings). before.0 ++ ms) (ap (λ (ps : List Contents). files_made folder (parts_streams c.loop-at.next (parted ps))) (sym c.split_at.ensures.back) ∙ lead)
            ∙ sym (append_assoc before.0 files (files_made folder (parts_streams (next_stream c.loop-at.next own) (parted (drop (c.loop-at.at + length own) all)))))
            ∙ ap (λ (n : ℕ). (before.0 ++ files) ++ files_made folder (parts_streams n (parted (drop (c.loop-at.at + length own) all)))) (sym c.next_stream-next.ensures),
      );
      works = λ n e. c.in_ok-write_part.ensures.failures n (c.loop-at.invariant.works n e);
    }

pub returns-in_err-write_part-clause-err : goal.returns-in_err-write_part-clause-err
returns-in_err-write_part-clause-err g c =
    let rest = c.split_at.result.1.now in
    let own = c.split_at-in-loop-at.result.0.now in
    let before = c.loop-at.invariant.made in
    let folder = c.args.folder.now in
    let files = files_made folder (part_streams c.loop-at.next own) in
    let others = files_made folder (parts_streams (next_stream c.loop-at.next own) (parted (drop c.lead_count.result rest))) in
    let lead =
    files_lead folder c.loop-at.next rest own (drop c.lead_count.result rest) c.lead_count.result
    (omega (arith, c.loop-at-test.true, c.split_at.ensures.back_len)) c.lead_count.ensures c.split_at-in-loop-at.ensures.front refl in
    OnErr-always c.from_residual.result
    (front_after (g.D.Disk.made c.args.disk.now) (g.D.Disk.made c.loop-at.disk) (g.D.Disk.made c.write_part.new.disk) before.0
    (files_made folder (parts_streams c.loop-at.next (parted rest))) (streams_made folder c.args.packets.now)
    (before.2 ∙ ap (λ (ps : List Contents). before.0 ++ files_made folder (parts_streams c.loop-at.next (parted ps))) (sym c.split_at.ensures.back)) before.1
    (front_before (g.D.Disk.made c.loop-at.disk) (g.D.Disk.made c.write_part.new.disk) files others
    (files_made folder (parts_streams c.loop-at.next (parted rest))) lead c.in_err-write_part.ensures.err))
