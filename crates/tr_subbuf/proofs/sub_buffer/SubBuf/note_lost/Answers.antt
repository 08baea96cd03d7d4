use Rattle.std.proofs.Common.{rules, ◌≡◌, ◌+◌, ◌*◌, ◌≤◌, ◌<◌, ◌∙◌, ◌++◌, ◌∷◌, [], ℕ, List, Option, Some, None, Bool, true, take, drop, length, leb, ltb, arith, refl, sym, ap, subst, length-append}
use Rattle.std.proofs.lemmas.Grind.{common_steps}
use Rattle.std.specs.Option.{option_map}
use Rattle.std.specs.Prelude.{IfSome, IsTrue, vec_capacity}
use Rattle.std.proofs.lemmas.Bool.{leb-true, ltb-true}
use Rattle.std.proofs.lemmas.List.{take_at, length-take}
use Rattle.tr_packet.specs.Packets.{context_text, header_text}
use Rattle.tr_packet.specs.Stores.{with_extent, with_number}
use Rattle.tr_packet.specs.Texts.{HeadFits, body_of}
use Rattle.tr_packet.proofs.OrderLemmas.{first_holds, second_holds}
use Rattle.tr_record.specs.Records.{Entry, record_text}
use Rattle.tr_record.specs.Weight.{weight_of}
use Rattle.tr_record.specs.Whole.{entries_of}
use Rattle.tr_record.proofs.RecordLemmas.{length-record_text}
use Rattle.tr_subbuf.specs.Page.{IsBegun, IsPage, buffer_in}
use Rattle.tr_subbuf.specs.SubBuffer.{SubBuffer, empty_buffer, ended, ending, first_record, has_room, joins, losing, sub_buffer, with_lost, with_record}
use Rattle.tr_terms.specs.declared.limits.TheConstants.{PACKET_HEADER}
use Rattle.tr_packet.proofs.StoreLemmas.{lost_over}
use Rattle.tr_subbuf.proofs.PageLemmas.{Said, begun-more, if-some, said}
use Rattle.tr_subbuf.proofs.sub_buffer.SubBuf.note_lost.Goals as goal

pub renumber-requires : goal.renumber-requires
renumber-requires g c = omega (arith, c.self.invariant.0.header)

pub invariant_of-self : goal.invariant_of-self
invariant_of-self g c =
    let own = c.self.inside in
    let bytes = own.bytes.items in
    let out = c.renumber.new.bytes.items in
    let some : 1 ≤ length (buffer_in bytes own.size).records = omega (arith, c.requires, ap (λ (b : SubBuffer). length b.records) c.self.view_is) in
    let now = said (losing c.args.lost) bytes out own.count own.limit own.size (vec_capacity own.bytes) c.self.invariant.0 some
    (λ h is. record { uuid = is.uuid; stream = is.stream; begin = is.begin; end = is.end; seq = is.seq; lost = search rules })
    (λ h is bits back stands. c.renumber.ensures.items ∙ lost_over h bits c.args.lost back bytes is.uuid stands) in (
      subst (λ (n : ℕ). IsPage out own.count own.limit own.size n) (sym c.renumber.ensures.capacity) now.page,
      if-some (λ copy. IsBegun copy.items bytes own.size (vec_capacity copy)) (λ copy. IsBegun copy.items out own.size (vec_capacity copy))
          own.begun (λ copy is. begun-more copy.items bytes out [] own.size (vec_capacity copy) is now.body) c.self.invariant.1,
    )

pub returns : goal.returns
returns g c =
    let own = c.self.inside in
    let bytes = own.bytes.items in
    let out = c.renumber.new.bytes.items in
    let some : 1 ≤ length (buffer_in bytes own.size).records = omega (arith, c.requires, ap (λ (b : SubBuffer). length b.records) c.self.view_is) in
    let now = said (losing c.args.lost) bytes out own.count own.limit own.size (vec_capacity own.bytes) c.self.invariant.0 some
    (λ h is. record { uuid = is.uuid; stream = is.stream; begin = is.begin; end = is.end; seq = is.seq; lost = search rules })
    (λ h is bits back stands. c.renumber.ensures.items ∙ lost_over h bits c.args.lost back bytes is.uuid stands) in
    now.view ∙ ap (λ (b : SubBuffer). record b { head = option_map (losing c.args.lost) b.head }) c.self.view_is
