use Rattle.std.proofs.Common.{◌≡◌, ◌+◌, ◌∙◌, ℕ, List, drop, ap, sym, subst, arith, rules}
use Rattle.std.proofs.lemmas.Grind.{common_steps}
use Rattle.std.proofs.lemmas.List.{length-drop}
use Rattle.tr_survey.specs.Listing.{key_of}
use Rattle.tr_survey.specs.Steps.{AreFew, HasGone, IsStep}
use Rattle.tr_survey.specs.Streams.{place_of}
use Rattle.tr_survey.specs.declared.files.Step.{Step}
use Rattle.tr_survey.specs.declared.files.Step.TheVariants.{Packet, Stopped}
use Rattle.tr_survey.specs.declared.tally.Tally.{Tally}
use Rattle.std.specs.Prelude.{Option}
use Rattle.tr_survey.proofs.PrefixLemmas.{at_err}
use Rattle.tr_survey.proofs.TellLemmas.{gone_front, gone_more, gone_none, gone_stopped, goes_nothing}
use Rattle.tr_survey.proofs.files.tell_held.Goals as goal

pub packets-init : goal.packets-init
packets-init g c = record {
  within = omega arith;
  failures = search rules;
  gone = λ n rest breaks enough. gone_none _ _ _ n c.args.held.now.items rest breaks _ enough;
}

pub returns-in_err-size-clause-err : goal.returns-in_err-size-clause-err
returns-in_err-size-clause-err g c =
    let at = place_of c.args.trace.now c.args.stream (key_of c.args.archive.now) in
    let held = c.args.held.now.items in
    let bytes : c.split_at.result.1.now ≡ drop c.packets.at held = c.split_at.ensures.back ∙ ap (drop c.packets.at) c.deref.ensures.value in
    at_err c.from_residual.result (λ n rest breaks enough.
    gone_front at c.args.tally.now c.args.offset.now n held rest breaks _ (g.K.ByteSink.taken c.packets.sink) _ c.packets.tally c.packets.offset
    c.split_at.result.1.now
    (subst (λ (l : List ℕ). HasGone at c.args.tally.now c.args.offset.now n held rest breaks (g.K.ByteSink.taken c.args.sink.now) (g.K.ByteSink.taken c.packets.sink)
    c.packets.tally c.packets.offset l) (sym bytes) (c.packets.invariant.gone n rest breaks enough))
    c.in_err-size.ensures.err)

pub packets-preserved : goal.packets-preserved
packets-preserved g c =
    let at = place_of c.args.trace.now c.args.stream (key_of c.args.archive.now) in
    let held = c.args.held.now.items in
    let i = c.packets.at in
    let size = c.in-Packet.size in
    let bytes : c.split_at.result.1.now ≡ drop i held = c.split_at.ensures.back ∙ ap (drop i) c.deref.ensures.value in
    let came : IsStep at c.packets.tally c.packets.offset (drop i held) (Packet size) (g.K.ByteSink.taken c.packets.sink) (g.K.ByteSink.taken c.tell_front.new.sink) c.tell_front.new.tally =
    subst (λ (l : List ℕ). IsStep at c.packets.tally c.packets.offset l (Packet size) (g.K.ByteSink.taken c.packets.sink) (g.K.ByteSink.taken c.tell_front.new.sink) c.tell_front.new.tally) bytes
    (subst (λ (st : Step). IsStep at c.packets.tally c.packets.offset c.split_at.result.1.now st (g.K.ByteSink.taken c.packets.sink) (g.K.ByteSink.taken c.tell_front.new.sink) c.tell_front.new.tally)
    c.in-Packet.is c.in_ok-size.ensures.ok) in
    record {
      within = let l = length-drop i held in let few = came.1 in let some = came.0 in omega (arith, l, few, some);
      failures = grind (arith, common_steps);
      gone = λ n rest breaks enough.
          subst (λ (k : ℕ). HasGone at c.args.tally.now c.args.offset.now n held rest breaks (g.K.ByteSink.taken c.args.sink.now) (g.K.ByteSink.taken c.tell_front.new.sink)
          c.tell_front.new.tally k (drop (i + size) held)) (sym c.saturating_add.ensures)
          (gone_more at c.args.tally.now c.args.offset.now n held rest breaks _ (g.K.ByteSink.taken c.packets.sink) _ c.packets.tally c.tell_front.new.tally
          c.packets.offset size i (c.packets.invariant.gone n rest breaks enough) came.0 came.1 came.2);
    }

pub returns-in-Stopped-clause-ok : goal.returns-in-Stopped-clause-ok
returns-in-Stopped-clause-ok g c n rest breaks enough =
    let at = place_of c.args.trace.now c.args.stream (key_of c.args.archive.now) in
    let held = c.args.held.now.items in
    let i = c.packets.at in
    let bytes : c.split_at.result.1.now ≡ drop i held = c.split_at.ensures.back ∙ ap (drop i) c.deref.ensures.value in
    let came : IsStep at c.packets.tally c.packets.offset (drop i held) Stopped (g.K.ByteSink.taken c.packets.sink) (g.K.ByteSink.taken c.tell_front.new.sink) c.tell_front.new.tally =
    subst (λ (l : List ℕ). IsStep at c.packets.tally c.packets.offset l Stopped (g.K.ByteSink.taken c.packets.sink) (g.K.ByteSink.taken c.tell_front.new.sink) c.tell_front.new.tally) bytes
    (subst (λ (st : Step). IsStep at c.packets.tally c.packets.offset c.split_at.result.1.now st (g.K.ByteSink.taken c.packets.sink) (g.K.ByteSink.taken c.tell_front.new.sink) c.tell_front.new.tally)
    c.in-Stopped.is c.in_ok-size.ensures.ok) in
    gone_stopped at c.args.tally.now c.args.offset.now n held rest breaks _ (g.K.ByteSink.taken c.packets.sink) _ c.packets.tally c.tell_front.new.tally
    c.packets.offset (drop i held) (c.packets.invariant.gone n rest breaks enough) came

pub returns-in_err-held-clause-err : goal.returns-in_err-held-clause-err
returns-in_err-held-clause-err g c =
    let at = place_of c.args.trace.now c.args.stream (key_of c.args.archive.now) in
    let held = c.args.held.now.items in
    let i = c.packets.at in
    let came : AreFew c.split_at.result.1.now × (g.K.ByteSink.taken c.tell_front.new.sink ≡ g.K.ByteSink.taken c.packets.sink) × (c.tell_front.new.tally ≡ c.packets.tally) =
    subst (λ (st : Step). IsStep at c.packets.tally c.packets.offset c.split_at.result.1.now st (g.K.ByteSink.taken c.packets.sink) (g.K.ByteSink.taken c.tell_front.new.sink) c.tell_front.new.tally)
    c.in-Waits.is c.in_ok-size.ensures.ok in
    at_err c.from_residual-in_err-held.result (λ n rest breaks enough.
    goes_nothing _ _ _ _ (subst (λ (out : Option (List ℕ)). HasGone at c.args.tally.now c.args.offset.now n held rest breaks (g.K.ByteSink.taken c.args.sink.now) out
    c.packets.tally c.packets.offset (drop i held)) (sym came.1) (c.packets.invariant.gone n rest breaks enough)).goes)

pub returns-clause-ok : goal.returns-clause-ok
returns-clause-ok g c =
    let at = place_of c.args.trace.now c.args.stream (key_of c.args.archive.now) in
    let held = c.args.held.now.items in
    let i = c.packets.at in
    let bytes : c.split_at.result.1.now ≡ drop i held = c.split_at.ensures.back ∙ ap (drop i) c.deref.ensures.value in
    let left : c.in_ok-held.field-0.items ≡ drop i held = c.in_ok-held.ensures ∙ c.split_at-2.ensures.back ∙ ap (drop i) c.deref-2.ensures.value in
    let came : AreFew c.split_at.result.1.now × (g.K.ByteSink.taken c.tell_front.new.sink ≡ g.K.ByteSink.taken c.packets.sink) × (c.tell_front.new.tally ≡ c.packets.tally) =
    subst (λ (st : Step). IsStep at c.packets.tally c.packets.offset c.split_at.result.1.now st (g.K.ByteSink.taken c.packets.sink) (g.K.ByteSink.taken c.tell_front.new.sink) c.tell_front.new.tally)
    c.in-Waits.is c.in_ok-size.ensures.ok in (
      subst AreFew (bytes ∙ sym left) came.0,
      λ n rest breaks enough.
          subst (λ (l : List ℕ). HasGone at c.args.tally.now c.args.offset.now n held rest breaks (g.K.ByteSink.taken c.args.sink.now) (g.K.ByteSink.taken c.tell_front.new.sink)
          c.tell_front.new.tally c.packets.offset l) (sym left)
          (subst (λ (t : Tally). HasGone at c.args.tally.now c.args.offset.now n held rest breaks (g.K.ByteSink.taken c.args.sink.now) (g.K.ByteSink.taken c.tell_front.new.sink)
          t c.packets.offset (drop i held)) (sym came.2)
          (subst (λ (out : Option (List ℕ)). HasGone at c.args.tally.now c.args.offset.now n held rest breaks (g.K.ByteSink.taken c.args.sink.now) out
          c.packets.tally c.packets.offset (drop i held)) (sym came.1) (c.packets.invariant.gone n rest breaks enough))),
    )
