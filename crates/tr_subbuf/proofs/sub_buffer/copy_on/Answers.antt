use Rattle.std.proofs.Common.{rules, ◌≡◌, ◌+◌, ◌*◌, ◌≤◌, ◌<◌, ◌∙◌, ◌++◌, ◌∷◌, [], ℕ, List, Option, Some, None, Bool, true, take, drop, length, leb, ltb, arith, refl, sym, ap, subst, length-append}
use Rattle.std.proofs.lemmas.Grind.{common_steps}
use Rattle.std.specs.Prelude.{IfSome, IsTrue, vec_capacity}
use Rattle.std.proofs.lemmas.Bool.{leb-true, ltb-true}
use Rattle.std.proofs.lemmas.List.{take_at, length-take}
use Rattle.tr_packet.specs.Packets.{context_text, header_text}
use Rattle.tr_packet.specs.Stores.{with_extent, with_number}
use Rattle.tr_packet.specs.Texts.{HeadFits, body_of}
use Rattle.tr_packet.proofs.OrderLemmas.{first_holds, second_holds}
use Rattle.tr_record.specs.Records.{Entry, record_text}
use Rattle.tr_record.specs.Weight.{weight_of}
use Rattle.tr_record.specs.Whole.{entries_of}
use Rattle.tr_record.proofs.RecordLemmas.{length-record_text}
use Rattle.tr_subbuf.specs.Page.{IsBegun, IsPage, buffer_in}
use Rattle.tr_subbuf.specs.SubBuffer.{SubBuffer, empty_buffer, ended, ending, first_record, has_room, joins, losing, sub_buffer, with_lost, with_record}
use Rattle.tr_terms.specs.declared.limits.TheConstants.{PACKET_HEADER}
use Rattle.tr_subbuf.proofs.PageLemmas.{Copied, copied_on, left-long}
use Rattle.tr_subbuf.proofs.sub_buffer.copy_on.Given.{Over}
use Rattle.tr_subbuf.proofs.sub_buffer.copy_on.Goals as goal

pub split_at-requires : goal.split_at-requires
split_at-requires g c =
    omega (arith, c.len.ensures, left-long c.args.copy.now.items c.args.bytes.now c.requires.header c.requires.long c.requires.first)

-- what the copy is then
abbrev then : (g : Over) → goal.After-put_bytes g → Type 0
then g c = Copied c.args.copy.now.items c.args.bytes.now c.put_bytes.new.out.items c.min.result

copied : (g : Over) (c : goal.After-put_bytes g) → then g c
copied g c =
    let long : c.len.result ≡ length c.args.copy.now.items = omega (arith, c.len.ensures) in
    copied_on c.args.copy.now.items c.args.bytes.now c.split_at-2.result.0.now c.put_bytes.new.out.items c.min.result c.requires.header
    c.requires.long c.requires.first
    (c.split_at-2.ensures.front ∙ ap (take c.min.result) (c.split_at.ensures.back ∙ ap (λ (n : ℕ). drop n c.args.bytes.now) long))
    c.put_bytes.ensures.items

pub returns-clause-header : goal.returns-clause-header
returns-clause-header g c = (copied g c).header

pub returns-clause-first : goal.returns-clause-first
returns-clause-first g c = (copied g c).first

pub returns-clause-all : goal.returns-clause-all
returns-clause-all g c = λ most. (copied g c).all (omega (arith, most, c.min.ensures, c.split_at.ensures.back_len, c.len.ensures))
