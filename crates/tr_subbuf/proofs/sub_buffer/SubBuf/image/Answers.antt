use Rattle.std.proofs.Common.{rules, ◌≡◌, ◌+◌, ◌*◌, ◌≤◌, ◌<◌, ◌∙◌, ◌++◌, ◌∷◌, [], ℕ, List, Option, Some, None, Bool, true, take, drop, length, leb, ltb, arith, refl, sym, ap, subst, length-append}
use Rattle.std.proofs.lemmas.Grind.{common_steps}
use Rattle.std.specs.Prelude.{IfSome, IsTrue, vec_capacity}
use Rattle.std.proofs.lemmas.Bool.{leb-true, ltb-true}
use Rattle.std.proofs.lemmas.List.{take_at, length-take}
use Rattle.tr_packet.specs.Packets.{context_text, header_text}
use Rattle.tr_packet.specs.Stores.{with_extent, with_number}
use Rattle.tr_packet.specs.Texts.{HeadFits, body_of}
use Rattle.tr_packet.proofs.OrderLemmas.{first_holds, second_holds}
use Rattle.tr_record.specs.Records.{Entry, record_text}
use Rattle.tr_record.specs.Weight.{weight_of}
use Rattle.tr_record.specs.Whole.{entries_of}
use Rattle.tr_record.proofs.RecordLemmas.{length-record_text}
use Rattle.tr_subbuf.specs.Page.{IsBegun, IsPage, buffer_in}
use Rattle.tr_subbuf.specs.SubBuffer.{IsShownBy, SubBuffer, empty_buffer, ended, ending, first_record, has_room, joins, losing, sub_buffer, with_lost, with_record}
use Rattle.tr_terms.specs.declared.limits.TheConstants.{PACKET_HEADER}
use Rattle.tr_subbuf.proofs.PageLemmas.{shown}
use Rattle.tr_subbuf.proofs.sub_buffer.SubBuf.image.Goals as goal

pub returns : goal.returns
returns g c =
    let own = c.self.inside in
    subst (λ (t : List ℕ). IsShownBy c.args.self.now.head c.args.self.now.records t) (sym c.as_slice.ensures.value)
    (shown own.bytes.items own.count own.limit own.size (vec_capacity own.bytes) c.args.self.now c.self.invariant.0 c.self.view_is)
