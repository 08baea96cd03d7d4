use Rattle.std.proofs.Common.{rules, ◌≡◌, ◌+◌, ◌*◌, ◌≤◌, ◌<◌, ◌∙◌, ◌++◌, ◌∷◌, [], ℕ, List, Option, Some, None, Bool, true, take, drop, length, leb, ltb, arith, refl, sym, ap, subst, length-append}
use Rattle.std.proofs.lemmas.Grind.{common_steps}
use Rattle.std.specs.Prelude.{IfSome, IsTrue, vec_capacity}
use Rattle.std.proofs.lemmas.Bool.{leb-true, ltb-true}
use Rattle.std.proofs.lemmas.List.{take_at, length-take}
use Rattle.tr_packet.specs.Packets.{context_text, header_text}
use Rattle.tr_packet.specs.Stores.{with_extent, with_number}
use Rattle.tr_packet.specs.Texts.{HeadFits, body_of}
use Rattle.tr_packet.proofs.OrderLemmas.{first_holds, second_holds}
use Rattle.tr_record.specs.Records.{Entry, record_text}
use Rattle.tr_record.specs.Weight.{weight_of}
use Rattle.tr_record.specs.Whole.{entries_of}
use Rattle.tr_record.proofs.RecordLemmas.{length-record_text}
use Rattle.tr_subbuf.specs.Page.{IsBegun, IsPage, buffer_in}
use Rattle.tr_subbuf.specs.SubBuffer.{SubBuffer, empty_buffer, ended, ending, first_record, has_room, joins, losing, sub_buffer, with_lost, with_record}
use Rattle.tr_terms.specs.declared.limits.TheConstants.{PACKET_HEADER}
use Rattle.tr_subbuf.proofs.PageLemmas.{Holds, begun-more, counted_within, if-some, joining, page_put}
use Rattle.tr_subbuf.proofs.sub_buffer.SubBuf.put.Goals as goal

pub overflow_add-self : goal.overflow_add-self
overflow_add-self g c =
    let own = c.self.inside in
    let few = counted_within own.bytes.items own.count own.limit own.size (vec_capacity own.bytes) c.self.invariant.0 in
    omega (arith, few)

pub append-requires-clause-room : goal.append-requires-clause-room
append-requires-clause-room g c =
    let own = c.self.inside in
    let bytes = own.bytes.items in
    let len = length c.args.entry.now.payload in
    let joined = joining (buffer_in bytes own.size) len (subst (λ (b : SubBuffer). IsTrue (joins b len)) (sym c.self.view_is) c.requires) in
    omega (arith, joined.1, c.self.invariant.0.used, c.self.invariant.0.room)

pub append-requires-clause-small : goal.append-requires-clause-small
append-requires-clause-small g c =
    let own = c.self.inside in
    let bytes = own.bytes.items in
    let len = length c.args.entry.now.payload in
    let joined = joining (buffer_in bytes own.size) len (subst (λ (b : SubBuffer). IsTrue (joins b len)) (sym c.self.view_is) c.requires) in
    omega (arith, joined.1, c.self.invariant.0.used, c.self.invariant.0.small)

pub invariant_of-self : goal.invariant_of-self
invariant_of-self g c =
    let own = c.self.inside in
    let bytes = own.bytes.items in
    let e = c.args.entry.now in
    let out = c.append.new.bytes.items in
    let joined = joining (buffer_in bytes own.size) (length e.payload)
    (subst (λ (b : SubBuffer). IsTrue (joins b (length e.payload))) (sym c.self.view_is) c.requires) in
    let put = page_put bytes (bytes ++ record_text e) out own.count own.limit own.size (vec_capacity own.bytes)
    (vec_capacity c.append.new.bytes) e c.self.invariant.0 joined.0 c.append.ensures.fits joined.1 c.append.ensures.capacity refl
    c.append.ensures.items in (
      put.0.page,
      if-some (λ copy. IsBegun copy.items bytes own.size (vec_capacity copy)) (λ copy. IsBegun copy.items out own.size (vec_capacity copy))
          own.begun (λ copy is. begun-more copy.items bytes out (record_text e) own.size (vec_capacity copy) is put.1) c.self.invariant.1,
    )

pub returns : goal.returns
returns g c =
    let own = c.self.inside in
    let bytes = own.bytes.items in
    let e = c.args.entry.now in
    let out = c.append.new.bytes.items in
    let joined = joining (buffer_in bytes own.size) (length e.payload)
    (subst (λ (b : SubBuffer). IsTrue (joins b (length e.payload))) (sym c.self.view_is) c.requires) in
    let put = page_put bytes (bytes ++ record_text e) out own.count own.limit own.size (vec_capacity own.bytes)
    (vec_capacity c.append.new.bytes) e c.self.invariant.0 joined.0 c.append.ensures.fits joined.1 c.append.ensures.capacity refl
    c.append.ensures.items in
    put.0.view ∙ ap (with_record e) c.self.view_is
