-- The lines of a stream's packets, one after another.
use Rattle.std.proofs.Common.{◌≡◌, ◌<◌, ◌≤◌, ◌+◌, ◌∙◌, ℕ, List, [], ◌∷◌, ◌++◌, drop, get_or, length, sym, ap, arith, append_assoc}
use Rattle.std.proofs.lemmas.List.{drop_all}
use Rattle.tr_packet.specs.Packets.{Contents}
use Rattle.tr_recover.proofs.SpanLemmas.{first_of}
use Rattle.tr_recover.specs.Lines.{counted, counts_line, gap_line, lines_after, no_counts, stream_lines}
use Rattle.tr_recover.specs.declared.lines.Counts.{Counts}

-- before the first one
pub lines_begin : (ps : List Contents) (p : Contents) (stream : ℕ) → 1 ≤ length ps → p ≡ get_or ps 0 p → stream ≡ p.head.stream
    → stream_lines ps ≡ lines_after stream no_counts ps
lines_begin [] p stream some is same = absurd (omega (arith, some))
lines_begin (q ∷ ps) p stream some is same = ap (λ (n : ℕ). lines_after n no_counts (q ∷ ps)) (sym (same ∙ ap (λ (x : Contents). x.head.stream) is))

-- one more
pub lines_more : (ps : List Contents) (i : ℕ) (p : Contents) (stream : ℕ) (c next : Counts) (out line out_now : List ℕ) → i < length ps
    → p ≡ get_or ps i p → next ≡ counted c p → line ≡ gap_line stream c p → out_now ≡ out ++ line
    → out ++ lines_after stream c (drop i ps) ≡ out_now ++ lines_after stream next (drop (i + 1) ps)
lines_more ps i p stream c next out line out_now within is counts says put =
    ap (λ (xs : List Contents). out ++ lines_after stream c xs) (first_of ps i p within is)
    ∙ sym (append_assoc out (gap_line stream c p) (lines_after stream (counted c p) (drop (i + 1) ps)))
    ∙ ap (λ (t : List ℕ). (out ++ t) ++ lines_after stream (counted c p) (drop (i + 1) ps)) (sym says)
    ∙ ap (λ (t : List ℕ). t ++ lines_after stream (counted c p) (drop (i + 1) ps)) (sym put)
    ∙ ap (λ (d : Counts). out_now ++ lines_after stream d (drop (i + 1) ps)) (sym counts)

-- after the last one
pub lines_end : (ps : List Contents) (i : ℕ) (stream : ℕ) (c : Counts) (out : List ℕ) → length ps ≤ i
    → out ++ lines_after stream c (drop i ps) ≡ out ++ counts_line stream c
lines_end ps i stream c out all = ap (λ (xs : List Contents). out ++ lines_after stream c xs) (drop_all i ps all)
