use Rattle.std.proofs.Common.{◌≡◌, ℕ, List, Bool, false, [], ap, sym, ◌∙◌, arith, cond, nat_eq, Option, Some, None, string_bytes}
use Rattle.std.proofs.lemmas.Result.{IfOk-weaker}
use Rattle.tr_packet.specs.Packets.{Contents}
use Rattle.tr_survey.specs.Listing.{key_of}
use Rattle.tr_survey.specs.Losses.{unplaced}
use Rattle.tr_survey.specs.Streams.{Place, TraceState, discarded, discarded_told, ends_told, fitted_told, lost_told, place_of, taken_before}
use Rattle.tr_survey.specs.declared.losses.Taken.{Taken}
use Rattle.tr_survey.specs.declared.tally.Last.{Last}
use Rattle.tr_survey.proofs.packets.lost_told.Goals as goal

not_zero : (n : ℕ) → (n ≡ 0 → ⊥) → nat_eq n 0 ≡ false
not_zero n some = grind (arith, some)

-- records were discarded, and these serials were taken before, if that is known
some_lost : (at : Place) (last : Option Last) (p : Contents) (count : ℕ) (t : Option Taken) → count ≡ discarded last p → (count ≡ 0 → ⊥)
    → t ≡ taken_before last p → discarded_told at last p t ≡ lost_told at last p
some_lost at last p count t is some taken =
    ap (discarded_told at last p) taken
    ∙ sym (ap (λ (b : Bool). cond b [] (discarded_told at last p (taken_before last p))) (ap (λ (n : ℕ). nat_eq n 0) (sym is) ∙ not_zero count some))

pub returns-in_default : goal.returns-in_default
returns-in_default c =
    let at = place_of c.args.trace.now c.args.stream (key_of c.args.archive.now) in
    IfOk-weaker c.ends_told.result
    (λ s. (from : TraceState) → string_bytes s ≡ ends_told (place_of from c.args.stream (key_of c.args.archive.now)) c.args.last c.args.packet.now)
    (λ s. string_bytes s ≡ lost_told at c.args.last c.args.packet.now)
    (λ s is. is c.args.trace.now
    ∙ some_lost at c.args.last c.args.packet.now c.discarded-count.result None
    c.discarded-count.ensures c.if-count-eq0.false (sym c.in_default.is ∙ c.taken_before.ensures))
    c.ends_told.ensures

pub returns-in-None : goal.returns-in-None
returns-in-None c =
    let at = place_of c.args.trace.now c.args.stream (key_of c.args.archive.now) in
    IfOk-weaker c.ends_told-in-None.result
    (λ s. (from : TraceState) → string_bytes s ≡ ends_told (place_of from c.args.stream (key_of c.args.archive.now)) c.args.last c.args.packet.now)
    (λ s. string_bytes s ≡ lost_told at c.args.last c.args.packet.now)
    (λ s is.
    let fit = ap (fitted_told at c.args.last c.args.packet.now c.in-Some.taken)
    (c.in-None.ensures ∙ ap (λ (n : ℕ). unplaced n c.in-Some.taken.next c.args.packet.now.records) c.discarded-count.ensures) in
    is c.args.trace.now ∙ fit
    ∙ some_lost at c.args.last c.args.packet.now c.discarded-count.result (Some c.in-Some.taken)
    c.discarded-count.ensures c.if-count-eq0.false (sym c.in-Some.is ∙ c.taken_before.ensures))
    c.ends_told-in-None.ensures
