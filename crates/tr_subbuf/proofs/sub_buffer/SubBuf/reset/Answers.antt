use Rattle.std.proofs.Common.{rules, ◌≡◌, ◌+◌, ◌*◌, ◌≤◌, ◌<◌, ◌∙◌, ◌++◌, ◌∷◌, [], ℕ, List, Option, Some, None, Bool, true, take, drop, length, leb, ltb, arith, refl, sym, ap, subst, length-append}
use Rattle.std.proofs.lemmas.Grind.{common_steps}
use Rattle.std.specs.Prelude.{IfSome, IsTrue, vec_capacity}
use Rattle.std.proofs.lemmas.Bool.{leb-true, ltb-true}
use Rattle.std.proofs.lemmas.List.{take_at, length-take}
use Rattle.tr_packet.specs.Packets.{context_text, header_text}
use Rattle.tr_packet.specs.Stores.{with_extent, with_number}
use Rattle.tr_packet.specs.Texts.{HeadFits, body_of}
use Rattle.tr_packet.proofs.OrderLemmas.{first_holds, second_holds}
use Rattle.tr_record.specs.Records.{Entry, record_text}
use Rattle.tr_record.specs.Weight.{weight_of}
use Rattle.tr_record.specs.Whole.{entries_of}
use Rattle.tr_record.proofs.RecordLemmas.{length-record_text}
use Rattle.tr_subbuf.specs.Page.{IsBegun, IsPage, buffer_in}
use Rattle.tr_subbuf.specs.SubBuffer.{SubBuffer, empty_buffer, ended, ending, first_record, has_room, joins, losing, sub_buffer, with_lost, with_record}
use Rattle.tr_terms.specs.declared.limits.TheConstants.{PACKET_HEADER}
use Rattle.tr_subbuf.proofs.PageLemmas.{page_emptied}
use Rattle.tr_subbuf.proofs.sub_buffer.SubBuf.reset.Goals as goal

pub renumber-requires : goal.renumber-requires
renumber-requires g c = omega (arith, c.self.invariant.0.header)

pub invariant_of-self : goal.invariant_of-self
invariant_of-self g c =
    let own = c.self.inside in
    let bytes = own.bytes.items in
    let out = c.truncate.new.self.items in
    let held = page_emptied bytes c.renumber.new.bytes.items out own.count own.limit own.size (vec_capacity own.bytes) (vec_capacity c.truncate.new.self)
    c.self.invariant.0 c.renumber.ensures.items c.truncate.ensures.items (omega (arith, c.renumber.ensures.capacity, c.truncate.ensures.capacity)) in
    (held.page, c.begin_anew.ensures bytes out own.size held.page.header c.self.invariant.1)

pub returns : goal.returns
returns g c =
    let own = c.self.inside in
    let bytes = own.bytes.items in
    let held = page_emptied bytes c.renumber.new.bytes.items c.truncate.new.self.items own.count own.limit own.size (vec_capacity own.bytes)
    (vec_capacity c.truncate.new.self) c.self.invariant.0 c.renumber.ensures.items c.truncate.ensures.items
    (omega (arith, c.renumber.ensures.capacity, c.truncate.ensures.capacity)) in
    held.view ∙ ap (λ (b : SubBuffer). empty_buffer b.size) c.self.view_is
