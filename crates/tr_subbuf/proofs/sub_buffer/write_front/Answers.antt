use Rattle.std.proofs.Common.{rules, ◌≡◌, ◌+◌, ◌*◌, ◌≤◌, ◌<◌, ◌∙◌, ◌++◌, ◌∷◌, [], ℕ, List, Option, Some, None, Bool, true, take, drop, length, leb, ltb, arith, refl, sym, ap, subst, length-append}
use Rattle.std.proofs.lemmas.Grind.{common_steps}
use Rattle.std.specs.Prelude.{IfSome, IsTrue, vec_capacity}
use Rattle.std.proofs.lemmas.Bool.{leb-true, ltb-true}
use Rattle.std.proofs.lemmas.List.{take_at, length-take}
use Rattle.tr_packet.specs.Packets.{context_text, header_text}
use Rattle.tr_packet.specs.Stores.{with_extent, with_number}
use Rattle.tr_packet.specs.Texts.{HeadFits, body_of}
use Rattle.tr_packet.proofs.OrderLemmas.{first_holds, second_holds}
use Rattle.tr_record.specs.Records.{Entry, record_text}
use Rattle.tr_record.specs.Weight.{weight_of}
use Rattle.tr_record.specs.Whole.{entries_of}
use Rattle.tr_record.proofs.RecordLemmas.{length-record_text}
use Rattle.tr_subbuf.specs.Page.{IsBegun, IsPage, buffer_in}
use Rattle.tr_subbuf.specs.SubBuffer.{SubBuffer, empty_buffer, ended, ending, first_record, has_room, joins, losing, sub_buffer, with_lost, with_record}
use Rattle.tr_terms.specs.declared.limits.TheConstants.{PACKET_HEADER}
use Rattle.tr_subbuf.proofs.PageLemmas.{front_long, written_back}
use Rattle.tr_subbuf.proofs.sub_buffer.write_front.Goals as goal

pub returns-clause-items : goal.returns-clause-items
returns-clause-items g c =
    let old = c.args.bytes.now.items in
    let front = header_text c.args.head.now ++ context_text c.args.head.now 0 in
    let long : length old ≡ c.args.bytes.now.len = sym (ap (λ (t : List ℕ). length t) c.deref_mut.ensures.value) ∙ c.deref_mut.ensures.len in
    written_back c.args.bytes.now.len c.write_head.new.bytes (front ++ drop PACKET_HEADER old)
    (drop (length c.write_head.new.bytes) old)
    (c.write_head.ensures ∙ ap (λ (t : List ℕ). front ++ drop PACKET_HEADER t) c.deref_mut.ensures.value)
    (front_long c.args.head.now old c.requires.uuid c.requires.header ∙ long)
