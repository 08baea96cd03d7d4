use Rattle.std.proofs.Common.{rules, ◌≡◌, ◌+◌, ◌*◌, ◌≤◌, ◌<◌, ◌∙◌, ◌++◌, ◌∷◌, [], ℕ, List, Option, Some, None, Bool, true, take, drop, length, leb, ltb, arith, refl, sym, ap, subst, length-append}
use Rattle.std.proofs.lemmas.Grind.{common_steps}
use Rattle.std.specs.Prelude.{IfSome, IsTrue, vec_capacity}
use Rattle.std.proofs.lemmas.Bool.{leb-true, ltb-true}
use Rattle.std.proofs.lemmas.List.{take_at, length-take}
use Rattle.tr_packet.specs.Packets.{context_text, header_text}
use Rattle.tr_packet.specs.Stores.{with_extent, with_number}
use Rattle.tr_packet.specs.Texts.{HeadFits, body_of}
use Rattle.tr_packet.proofs.OrderLemmas.{first_holds, second_holds}
use Rattle.tr_record.specs.Records.{Entry, record_text}
use Rattle.tr_record.specs.Weight.{weight_of}
use Rattle.tr_record.specs.Whole.{entries_of}
use Rattle.tr_record.proofs.RecordLemmas.{length-record_text}
use Rattle.tr_subbuf.specs.Page.{IsBegun, IsPage, buffer_in}
use Rattle.tr_subbuf.specs.SubBuffer.{SubBuffer, empty_buffer, ended, ending, first_record, has_room, joins, losing, sub_buffer, with_lost, with_record}
use Rattle.tr_terms.specs.declared.limits.TheConstants.{PACKET_HEADER}
use Rattle.tr_subbuf.proofs.PageLemmas.{Holds, begun-more, if-some, page_first}
use Rattle.tr_subbuf.proofs.sub_buffer.SubBuf.begin.Goals as goal

pub write_front-requires-clause-header : goal.write_front-requires-clause-header
write_front-requires-clause-header g c = c.self.invariant.0.header

pub invariant_of-self : goal.invariant_of-self
invariant_of-self g c =
    let own = c.self.inside in
    let bytes = own.bytes.items in
    let e = c.args.entry.now in
    let h = c.args.head in
    let front = c.write_front.new.bytes.items in
    let out = c.append.new.bytes.items in
    let empty : buffer_in bytes own.size ≡ empty_buffer own.size = c.self.view_is ∙ c.requires.none ∙ ap empty_buffer (sym (ap (λ (b : SubBuffer). b.size) c.self.view_is)) in
    let room = leb-true (weight_of (buffer_in bytes own.size).records + (24 + length e.payload)) own.size
    (subst (λ (b : SubBuffer). IsTrue (has_room b (length e.payload))) (sym c.self.view_is) c.requires.room) in
    let fits : HeadFits h = record {
      uuid = search rules;
      stream = search rules;
      begin = search rules;
      end = search rules;
      seq = search rules;
      lost = search rules;
    } in
    let first = page_first bytes front (front ++ record_text e) out own.count own.limit own.size (vec_capacity own.bytes)
    (vec_capacity c.append.new.bytes) h e c.self.invariant.0 (ap (λ (b : SubBuffer). b.records) empty) fits c.append.ensures.fits
    (omega (arith, room, ap (λ (b : SubBuffer). weight_of b.records) empty)) (omega (arith, c.write_front.ensures.capacity, c.append.ensures.capacity))
    c.write_front.ensures.items refl c.append.ensures.items in (
      first.0.page,
      if-some (λ copy. IsBegun copy.items bytes own.size (vec_capacity copy)) (λ copy. IsBegun copy.items out own.size (vec_capacity copy))
          own.begun (λ copy is. begun-more copy.items bytes out (record_text e) own.size (vec_capacity copy) is first.1) c.self.invariant.1,
    )

pub returns : goal.returns
returns g c =
    let own = c.self.inside in
    let bytes = own.bytes.items in
    let e = c.args.entry.now in
    let h = c.args.head in
    let front = c.write_front.new.bytes.items in
    let out = c.append.new.bytes.items in
    let empty : buffer_in bytes own.size ≡ empty_buffer own.size = c.self.view_is ∙ c.requires.none ∙ ap empty_buffer (sym (ap (λ (b : SubBuffer). b.size) c.self.view_is)) in
    let room = leb-true (weight_of (buffer_in bytes own.size).records + (24 + length e.payload)) own.size
    (subst (λ (b : SubBuffer). IsTrue (has_room b (length e.payload))) (sym c.self.view_is) c.requires.room) in
    let fits : HeadFits h = record {
      uuid = search rules;
      stream = search rules;
      begin = search rules;
      end = search rules;
      seq = search rules;
      lost = search rules;
    } in
    let first = page_first bytes front (front ++ record_text e) out own.count own.limit own.size (vec_capacity own.bytes)
    (vec_capacity c.append.new.bytes) h e c.self.invariant.0 (ap (λ (b : SubBuffer). b.records) empty) fits c.append.ensures.fits
    (omega (arith, room, ap (λ (b : SubBuffer). weight_of b.records) empty)) (omega (arith, c.write_front.ensures.capacity, c.append.ensures.capacity))
    c.write_front.ensures.items refl c.append.ensures.items in
    first.0.view ∙ ap (λ (b : SubBuffer). first_record h e b) c.self.view_is
