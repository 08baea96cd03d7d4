use Rattle.std.proofs.Common.{◌≡◌, ◌∙◌, ◌≤◌, ⊎_elim, drop, inl, inr, length, subst, sym, take}
use Rattle.std.specs.Iterator.Adapters.{zip_first, zip_second}
use Rattle.tr_seats.proofs.NameLemmas.{take-all}
use Rattle.tr_seats.proofs.Rows.{drop-front}
use Rattle.tr_seats.proofs.TellerLemmas.{all-made, left-after, made-more, made-within}
use Rattle.tr_seats.proofs.making.open_all.Goals as goal
use Rattle.tr_seats.specs.Plans.{PlannedState, streams_in, tellers_in}

pub open-requires : goal.open-requires
open-requires g c =
    let k = length c.streams.planned.items in
    let left = c.streams.invariant.0 ∙ c.in-Some.ensures.steps.0.0 in
    c.requires.unused k c.in-Some.stream (drop-front c.args.streams.items k c.in-Some.stream (zip_first c.next.new.self).rest.items left).0

pub streams-preserved : goal.streams-preserved
streams-preserved g c =
    let made = c.streams.planned.items in
    let p = c.in_ok-open.field-0 in
    let was = c.streams.invariant in
    let streams = c.args.streams.items in
    let tellers = c.args.tellers.items in
    let of_stream = λ (p : PlannedState). p.stream in
    let of_teller = λ (p : PlannedState). p.teller in
    let first = was.0 ∙ c.in-Some.ensures.steps.0.0 in
    let second = was.1 ∙ c.in-Some.ensures.steps.1.0 in
    let rest_first = (zip_first c.next.new.self).rest.items in
    let rest_second = (zip_second c.next.new.self).rest.items in
    let s = c.in-Some.stream in
    let t = c.in-Some.teller in
    let same : p.stream ≡ s = c.in_ok-open.ensures.stream in
    let own : p.teller ≡ t = c.in_ok-open.ensures.teller in
    subst (λ items.
    (drop (length items) streams ≡ rest_first) × (drop (length items) tellers ≡ rest_second) × (length items ≤ length streams)
    × (length items ≤ length tellers) × (streams_in items ≡ take (length items) streams)
    × (tellers_in items ≡ take (length items) tellers)) (sym c.in_ok-push.ensures.items) (
      left-after of_stream made p streams rest_first s same first,
      left-after of_teller made p tellers rest_second t own second,
      made-within of_stream made p streams rest_first s same first,
      made-within of_teller made p tellers rest_second t own second,
      made-more of_stream made p streams rest_first s same first was.4,
      made-more of_teller made p tellers rest_second t own second was.5,
    )

pub returns-clause-streams : goal.returns-clause-streams
returns-clause-streams g c =
    let k = length c.streams.planned.items in
    let was = c.streams.invariant in
    let all : k ≡ length c.args.streams.items =
    all-made c.args.streams.items (zip_first c.streams.stream-iterator).rest.items c.args.tellers.items
    (zip_second c.streams.stream-iterator).rest.items k c.requires.each was.0 was.1 was.2 was.3
    (⊎_elim (λ e. inl (sym (zip_first c.streams.stream-iterator).rest.ok.0 ∙ e.1.0))
    (λ e. inr (sym (zip_second c.streams.stream-iterator).rest.ok.0 ∙ e.1.0)) c.in-None.ensures.steps) in
    was.4 ∙ take-all c.args.streams.items k all

pub returns-clause-tellers : goal.returns-clause-tellers
returns-clause-tellers g c =
    let k = length c.streams.planned.items in
    let was = c.streams.invariant in
    let all : k ≡ length c.args.streams.items =
    all-made c.args.streams.items (zip_first c.streams.stream-iterator).rest.items c.args.tellers.items
    (zip_second c.streams.stream-iterator).rest.items k c.requires.each was.0 was.1 was.2 was.3
    (⊎_elim (λ e. inl (sym (zip_first c.streams.stream-iterator).rest.ok.0 ∙ e.1.0))
    (λ e. inr (sym (zip_second c.streams.stream-iterator).rest.ok.0 ∙ e.1.0)) c.in-None.ensures.steps) in
    was.5 ∙ take-all c.args.tellers.items k (all ∙ c.requires.each)
