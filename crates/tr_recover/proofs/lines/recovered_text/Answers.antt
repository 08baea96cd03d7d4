use Rattle.std.proofs.Common.{◌≡◌, ◌+◌, ◌∙◌, ◌++◌, ℕ, List, ap, append_assoc, append-nil, arith, drop, length, sym}
use Rattle.std.proofs.lemmas.List.{drop-drop, drop_all}
use Rattle.std.specs.String.{string_bytes}
use Rattle.tr_packet.specs.Packets.{Contents}
use Rattle.tr_recover.proofs.PartLemmas.{lead_few, parts_lead, some_lead}
use Rattle.tr_recover.specs.Lines.{recovered_text, stream_lines}
use Rattle.tr_recover.proofs.lines.recovered_text.Goals as goal

pub split_at-requires-in-loop-at : goal.split_at-requires-in-loop-at
split_at-requires-in-loop-at g c = omega (arith, c.lead_count.ensures, lead_few c.split_at.result.1.now)

pub loop-at-smaller : goal.loop-at-smaller
loop-at-smaller g c =
    omega (
      arith,
      c.loop-at-test.true,
      c.split_at.ensures.back_len,
      c.split_at-in-loop-at.ensures.front_len,
      c.lead_count.ensures,
      some_lead c.split_at.result.1.now (omega (arith, c.loop-at-test.true, c.split_at.ensures.back_len)),
    )

pub loop-at-preserved : goal.loop-at-preserved
loop-at-preserved g c =
    let rest = c.split_at.result.1.now in
    let own = c.split_at-in-loop-at.result.0.now in
    let few = c.split_at-in-loop-at.ensures.front_len in
    let all = c.args.packets.now in
    let next : drop (length own) rest ≡ drop (c.loop-at.at + length own) all =
    ap (λ (xs : List Contents). drop (length own) xs) c.split_at.ensures.back ∙ drop-drop (length own) c.loop-at.at all in
    let lead =
    parts_lead stream_lines rest own (drop (c.loop-at.at + length own) all) c.lead_count.result
    (omega (arith, c.loop-at-test.true, c.split_at.ensures.back_len)) c.lead_count.ensures c.split_at-in-loop-at.ensures.front
    (sym next ∙ ap (λ n. drop n rest) few) in
    record {
      within = omega (arith, few, c.lead_count.ensures, lead_few rest, c.split_at.ensures.back_len, c.loop-at-test.true);
      said =
          c.loop-at.invariant.said
          ∙ ap (λ (t : List ℕ). string_bytes c.loop-at.text ++ t) (ap recovered_text (sym c.split_at.ensures.back) ∙ lead)
          ∙ sym (append_assoc (string_bytes c.loop-at.text) (stream_lines own) (recovered_text (drop (c.loop-at.at + length own) all)))
          ∙ ap (λ (t : List ℕ). t ++ recovered_text (drop (c.loop-at.at + length own) all)) (sym c.in_ok-push_stream.ensures);
    }

pub returns : goal.returns
returns g c =
    sym
    (c.loop-at.invariant.said
    ∙ ap (λ (ps : List Contents). string_bytes c.loop-at.text ++ recovered_text ps) (drop_all c.loop-at.at c.args.packets.now c.loop-at-test.false)
    ∙ append-nil (string_bytes c.loop-at.text))
