use Rattle.std.proofs.Common.{rules, ◌≡◌, ◌+◌, ◌*◌, ◌≤◌, ◌<◌, ◌∙◌, ◌++◌, ◌∷◌, [], ℕ, List, Option, Some, None, Bool, true, take, drop, length, leb, ltb, arith, refl, sym, ap, subst, length-append}
use Rattle.std.proofs.lemmas.Grind.{common_steps}
use Rattle.std.specs.Prelude.{IfSome, IsTrue, vec_capacity}
use Rattle.std.proofs.lemmas.Bool.{leb-true, ltb-true}
use Rattle.std.proofs.lemmas.List.{take_at, length-take}
use Rattle.tr_packet.specs.Packets.{context_text, header_text}
use Rattle.tr_packet.specs.Stores.{with_extent, with_number}
use Rattle.tr_packet.specs.Texts.{HeadFits, body_of}
use Rattle.tr_packet.proofs.OrderLemmas.{first_holds, second_holds}
use Rattle.tr_record.specs.Records.{Entry, record_text}
use Rattle.tr_record.specs.Weight.{weight_of}
use Rattle.tr_record.specs.Whole.{entries_of}
use Rattle.tr_record.proofs.RecordLemmas.{length-record_text}
use Rattle.tr_subbuf.specs.Page.{IsBegun, IsPage, buffer_in}
use Rattle.tr_subbuf.specs.SubBuffer.{SubBuffer, empty_buffer, ended, ending, first_record, has_room, joins, losing, sub_buffer, with_lost, with_record}
use Rattle.tr_terms.specs.declared.limits.TheConstants.{LARGEST_PACKET, PACKET_HEADER}
use Rattle.tr_packet.specs.Decoding.{content_bits_in}
use Rattle.tr_subbuf.proofs.PageLemmas.{page_none}
use Rattle.tr_subbuf.proofs.sub_buffer.SubBuf.new.Goals as goal

pub invariant_of-result : goal.invariant_of-result
invariant_of-result g c =
    let out = c.put_bytes.new.out.items in
    let long : length out ≡ PACKET_HEADER = search rules in
    let free : content_bits_in out ≡ 0 = search rules in
    let room : c.args.size ≤ vec_capacity c.put_bytes.new.out =
    omega (arith, c.in_ok-bytes.ensures.exact, c.max.ensures, c.put_bytes.ensures.capacity) in
    let small : c.args.size ≤ LARGEST_PACKET = search rules in
    ((page_none out c.args.size (vec_capacity c.put_bytes.new.out) long free room small).page, tt)

pub returns : goal.returns
returns g c =
    let out = c.put_bytes.new.out.items in
    let long : length out ≡ PACKET_HEADER = search rules in
    let free : content_bits_in out ≡ 0 = search rules in
    let room : c.args.size ≤ vec_capacity c.put_bytes.new.out =
    omega (arith, c.in_ok-bytes.ensures.exact, c.max.ensures, c.put_bytes.ensures.capacity) in
    let small : c.args.size ≤ LARGEST_PACKET = search rules in
    (page_none out c.args.size (vec_capacity c.put_bytes.new.out) long free room small).view
