use Rattle.std.proofs.Common.{◌∙◌, ◌∷◌, [], ap, sym}
use Rattle.std.proofs.lemmas.Result.{on_err_weaker, on_ok_weaker}
use Rattle.tr_chunk.specs.Files.{packets_text}
use Rattle.tr_export.proofs.MakingLemmas.{OnErr-always, front_after, front_before, made_after}
use Rattle.tr_export.specs.Making.{and_then_made}
use Rattle.tr_packet.specs.declared.head.Head.{Head}
use Rattle.tr_recover.specs.Archive.{files_made, part_streams, stream_file, streams_below}
use Rattle.tr_recover.proofs.MadeLemmas.{first_of_all, others_of}
use Rattle.tr_recover.proofs.PartLemmas.{part_is}
use Rattle.tr_recover.proofs.writing.write_part.Goals as goal

pub returns-in_err-write_below-clause-err : goal.returns-in_err-write_below-clause-err
returns-in_err-write_below-clause-err g c =
    let packets = c.args.packets.now in
    let folder = c.args.folder.now in
    let stream = c.head-stream.result.stream in
    OnErr-always c.from_residual.result
    (front_before (g.D.Disk.made c.args.disk.now) (g.D.Disk.made c.write_below.new.disk) (files_made folder (streams_below c.args.next stream))
    (stream_file folder stream (packets_text packets) ∷ []) (files_made folder (part_streams c.args.next packets))
    (part_is folder c.args.next stream packets (others_of packets) c.first-item.result
    (first_of_all packets c.first-item.result c.in-len1-up.len_at_least c.first-item.is) (ap (λ (h : Head). h.stream) c.head-stream.ensures.value))
    c.in_err-write_below.ensures.err)

pub returns-clause-ok : goal.returns-clause-ok
returns-clause-ok g c =
    let packets = c.args.packets.now in
    let folder = c.args.folder.now in
    let stream = c.head-stream.result.stream in
    let below = files_made folder (streams_below c.args.next stream) in
    let file = stream_file folder stream (packets_text packets) ∷ [] in
    let start = g.D.Disk.made c.args.disk.now in
    let parts =
    part_is folder c.args.next stream packets (others_of packets) c.first-item.result
    (first_of_all packets c.first-item.result c.in-len1-up.len_at_least c.first-item.is) (ap (λ (h : Head). h.stream) c.head-stream.ensures.value) in
    on_ok_weaker c.write_stream.result
    (λ made. made_after start (g.D.Disk.made c.write_below.new.disk) (g.D.Disk.made c.write_stream.new.disk) below file c.in_ok-write_below.ensures.ok made
    ∙ ap (and_then_made start) (sym parts))
    c.write_stream.ensures.ok

pub returns-clause-err : goal.returns-clause-err
returns-clause-err g c =
    let packets = c.args.packets.now in
    let folder = c.args.folder.now in
    let stream = c.head-stream.result.stream in
    let below = files_made folder (streams_below c.args.next stream) in
    let file = stream_file folder stream (packets_text packets) ∷ [] in
    on_err_weaker c.write_stream.result
    (front_after (g.D.Disk.made c.args.disk.now) (g.D.Disk.made c.write_below.new.disk) (g.D.Disk.made c.write_stream.new.disk) below file
    (files_made folder (part_streams c.args.next packets))
    (part_is folder c.args.next stream packets (others_of packets) c.first-item.result
    (first_of_all packets c.first-item.result c.in-len1-up.len_at_least c.first-item.is) (ap (λ (h : Head). h.stream) c.head-stream.ensures.value))
    c.in_ok-write_below.ensures.ok)
    c.write_stream.ensures.err
