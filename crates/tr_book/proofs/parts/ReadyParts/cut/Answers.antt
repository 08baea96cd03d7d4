use Rattle.std.proofs.Common.{rules, ◌≡◌, ◌∙◌, ◌++◌, Bool, true, cond, ap, length, arith}
use Rattle.std.proofs.lemmas.List.Sums.{sum_by-append}
use Rattle.std.specs.Result.{is_ok}
use Rattle.tr_book.specs.Parts.{bytes_of, records_of}
use Rattle.tr_packet.specs.Packets.{Contents, packet_size}
use Rattle.tr_book.proofs.parts.ReadyParts.cut.Goals as goal

pub held-requires-clause-records : goal.held-requires-clause-records
held-requires-clause-records g c =
    let fits : is_ok c.append.result ≡ true = c.append.ensures.succeeds (search rules) in
    let all : c.append.new.self.items ≡ c.self.inside.texts.items ++ c.args.packets.items =
    c.append.ensures.items ∙ ap (λ (b : Bool). cond b (c.self.inside.texts.items ++ c.args.packets.items) c.self.inside.texts.items) fits in
    omega (
      arith,
      ap records_of all,
      sum_by-append (λ (p : Contents). length p.records) c.self.inside.texts.items c.args.packets.items,
      c.self.invariant.1.counted,
      c.records_in.ensures,
      ap records_of c.new.ensures,
      ap records_of c.deref.ensures.value,
    )

pub held-requires-clause-bytes : goal.held-requires-clause-bytes
held-requires-clause-bytes g c =
    let fits : is_ok c.append.result ≡ true = c.append.ensures.succeeds (search rules) in
    let all : c.append.new.self.items ≡ c.self.inside.texts.items ++ c.args.packets.items =
    c.append.ensures.items ∙ ap (λ (b : Bool). cond b (c.self.inside.texts.items ++ c.args.packets.items) c.self.inside.texts.items) fits in
    omega (
      arith,
      ap bytes_of all,
      sum_by-append packet_size c.self.inside.texts.items c.args.packets.items,
      c.self.invariant.1.sized,
      c.bytes_in.ensures.value,
      ap bytes_of c.deref-2.ensures.value,
    )
