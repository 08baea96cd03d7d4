use Rattle.std.proofs.Common.{rules, ◌≡◌, ◌+◌, ◌*◌, ◌≤◌, ◌<◌, ◌∙◌, ◌++◌, ◌∷◌, [], ℕ, List, Option, Some, None, Bool, true, take, drop, length, leb, ltb, arith, refl, sym, ap, subst, length-append}
use Rattle.std.proofs.lemmas.Grind.{common_steps}
use Rattle.std.specs.Prelude.{IfSome, IsTrue, vec_capacity}
use Rattle.std.proofs.lemmas.Bool.{leb-true, ltb-true}
use Rattle.std.proofs.lemmas.List.{take_at, length-take}
use Rattle.tr_packet.specs.Packets.{context_text, header_text}
use Rattle.tr_packet.specs.Stores.{with_extent, with_number}
use Rattle.tr_packet.specs.Texts.{HeadFits, body_of}
use Rattle.tr_packet.proofs.OrderLemmas.{first_holds, second_holds}
use Rattle.tr_record.specs.Records.{Entry, record_text}
use Rattle.tr_record.specs.Weight.{weight_of}
use Rattle.tr_record.specs.Whole.{entries_of}
use Rattle.tr_record.proofs.RecordLemmas.{length-record_text}
use Rattle.tr_subbuf.specs.Page.{IsBegun, IsPage, buffer_in}
use Rattle.tr_subbuf.specs.SubBuffer.{SubBuffer, empty_buffer, ended, ending, first_record, has_room, joins, losing, sub_buffer, with_lost, with_record}
use Rattle.tr_terms.specs.declared.limits.TheConstants.{PACKET_HEADER}
use Rattle.tr_subbuf.proofs.PageLemmas.{extent_long, written_back}
use Rattle.tr_subbuf.proofs.sub_buffer.append.Goals as goal

pub returns-clause-items : goal.returns-clause-items
returns-clause-items g c =
    let then = c.args.bytes.now.items ++ record_text c.args.entry.now in
    let there : c.deref_mut.result.now ≡ then = c.deref_mut.ensures.value ∙ c.put_rec.ensures.items in
    let long : length then ≡ c.put_rec.new.out.len = sym (ap (λ (t : List ℕ). length t) there) ∙ c.deref_mut.ensures.len in
    let out : c.write_extent.new.bytes ≡ with_extent c.args.entry.now.moment (8 * length then) then =
    c.write_extent.ensures ∙ ap (with_extent c.moment.result (8 * c.len.result)) there
    ∙ ap (λ (m : ℕ). with_extent m (8 * c.len.result) then) c.moment.ensures.value
    ∙ ap (λ (n : ℕ). with_extent c.args.entry.now.moment (8 * n) then) (c.len.ensures ∙ sym long) in
    written_back c.put_rec.new.out.len c.write_extent.new.bytes (with_extent c.args.entry.now.moment (8 * length then) then)
    (drop (length c.write_extent.new.bytes) c.put_rec.new.out.items) out
    (extent_long c.args.entry.now.moment (8 * length then) then
    (omega (arith, c.requires.header, length-append c.args.bytes.now.items (record_text c.args.entry.now))) ∙ long)
