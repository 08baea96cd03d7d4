use Rattle.std.proofs.Common.{rules, ◌≡◌, ◌+◌, ◌*◌, ◌≤◌, ◌<◌, ◌∙◌, ◌++◌, ◌∷◌, [], ℕ, List, Option, Some, None, Bool, true, take, drop, length, leb, ltb, arith, refl, sym, ap, subst, length-append}
use Rattle.std.proofs.lemmas.Grind.{common_steps}
use Rattle.std.specs.Prelude.{IfSome, IsTrue, vec_capacity}
use Rattle.std.proofs.lemmas.Bool.{leb-true, ltb-true}
use Rattle.std.proofs.lemmas.List.{take_at, length-take}
use Rattle.tr_packet.specs.Packets.{context_text, header_text}
use Rattle.tr_packet.specs.Stores.{with_extent, with_number}
use Rattle.tr_packet.specs.Texts.{HeadFits, body_of}
use Rattle.tr_packet.proofs.OrderLemmas.{first_holds, second_holds}
use Rattle.tr_record.specs.Records.{Entry, record_text}
use Rattle.tr_record.specs.Weight.{weight_of}
use Rattle.tr_record.specs.Whole.{entries_of}
use Rattle.tr_record.proofs.RecordLemmas.{length-record_text}
use Rattle.tr_subbuf.specs.Page.{IsBegun, IsPage, buffer_in}
use Rattle.tr_subbuf.specs.SubBuffer.{SubBuffer, empty_buffer, ended, ending, first_record, has_room, joins, losing, sub_buffer, with_lost, with_record}
use Rattle.tr_terms.specs.declared.limits.TheConstants.{PACKET_HEADER}
use Rattle.tr_subbuf.proofs.PageLemmas.{begun-anew}
use Rattle.tr_subbuf.proofs.sub_buffer.begin_anew.Goals as goal

pub returns-in-Some : goal.returns-in-Some
returns-in-Some g c = λ before after size long is.
    begun-anew c.in-Some.copy.items c.truncate.new.self.items before after size (vec_capacity c.in-Some.copy) (vec_capacity c.truncate.new.self)
    c.truncate.ensures.items (omega (arith, c.truncate.ensures.capacity))
    (subst (λ (o : _). IfSome o (λ copy. IsBegun copy.items before size (vec_capacity copy))) (sym c.take.ensures.value ∙ c.in-Some.is) is)
