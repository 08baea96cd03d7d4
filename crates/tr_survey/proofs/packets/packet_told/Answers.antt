use Rattle.std.proofs.Common.{◌≡◌, ◌++◌, ℕ, List, Bool, false, [], ap, sym, ◌∙◌, append_assoc, cond, string_bytes}
use Rattle.tr_packet.specs.Packets.{Contents}
use Rattle.tr_survey.specs.Listing.{key_of}
use Rattle.tr_survey.specs.Streams.{Place, fall_told, gap_told, lost_told, packet_told, place_of}
use Rattle.tr_survey.specs.declared.tally.Tally.{Tally}
use Rattle.tr_survey.proofs.packets.packet_told.Goals as goal

joined : (at : Place) (s : Tally) (offset : ℕ) (p : Contents) (a b d x y : List ℕ) → s.is_broken ≡ false → a ≡ gap_told at s.last p
    → b ≡ lost_told at s.last p → d ≡ fall_told at s.last offset p → x ≡ a ++ b → y ≡ x ++ d → y ≡ packet_told at s offset p
joined at s offset p a b d x y known is-gap is-lost is-fall is-x is-y =
    let whole : y ≡ gap_told at s.last p ++ (lost_told at s.last p ++ fall_told at s.last offset p) =
    is-y ∙ ap (λ (l : List ℕ). l ++ d) is-x ∙ append_assoc a b d
    ∙ ap (λ (l : List ℕ). l ++ (b ++ d)) is-gap
    ∙ ap (λ (l : List ℕ). gap_told at s.last p ++ (l ++ d)) is-lost
    ∙ ap (λ (l : List ℕ). gap_told at s.last p ++ (lost_told at s.last p ++ l)) is-fall in
    whole ∙ ap (λ (t : Bool). cond t [] (gap_told at s.last p ++ (lost_told at s.last p ++ fall_told at s.last offset p))) (sym known)

pub returns : goal.returns
returns c =
    let from = c.args.trace.now in
    joined (place_of from c.args.stream (key_of c.args.archive.now)) c.args.tally.now c.args.offset c.args.packet.now (string_bytes c.in_ok-lines.lines) (string_bytes c.in_ok-lost.lost) (string_bytes c.in_ok-fall.fall) _ _
    c.if-tally.false (c.in_ok-lines.ensures from) c.in_ok-lost.ensures (c.in_ok-fall.ensures from)
    (c.in_ok-push_str.ensures.bytes ∙ ap (λ (l : List ℕ). string_bytes c.in_ok-lines.lines ++ l) c.as_str.ensures.value)
    (c.in_ok-push_str-2.ensures.bytes ∙ ap (λ (l : List ℕ). string_bytes c.push_str.new.self ++ l) c.as_str-2.ensures.value)
