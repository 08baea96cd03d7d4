use Rattle.std.proofs.Common.{◌≡◌, ◌<◌, ◌∙◌, ap, arith, length, option_map, sym}
use Rattle.tr_image.specs.Traces.{trace_at, trace_before}
use Rattle.tr_image.proofs.TraceLemmas.{first_at, none_at_first, none_of, some_of, still_none}
use Rattle.tr_image.proofs.traces.trace_before.Goals as goal

pub places-init : goal.places-init
places-init c = none_at_first (option_map (λ u. u.now) c.args.wanted) c.args.bytes.now

pub returns-then-is_some : goal.returns-then-is_some
returns-then-is_some c =
    let wanted = option_map (λ u. u.now) c.args.wanted in
    let within : c.places.at < length c.args.bytes.now = omega (arith, c.places-test.true, c.requires) in
    let found = some_of c.in_ok-trace.trace (sym c.is_some.ensures ∙ c.if-is_some.true) in
    found.1
    ∙ first_at wanted c.args.bytes.now c.places.at c.args.until found.0 c.places-test.true within c.places.invariant
    (sym found.1 ∙ c.in_ok-trace.ensures ∙ ap (trace_at wanted) c.split_at.ensures.back)

pub places-preserved : goal.places-preserved
places-preserved c =
    let wanted = option_map (λ u. u.now) c.args.wanted in
    let within : c.places.at < length c.args.bytes.now = omega (arith, c.places-test.true, c.requires) in
    still_none wanted c.args.bytes.now c.places.at c.in_ok-trace.trace within c.places.invariant
    (c.in_ok-trace.ensures ∙ ap (trace_at wanted) c.split_at.ensures.back)
    (none_of c.in_ok-trace.trace (sym c.is_some.ensures ∙ c.if-is_some.false))

pub returns : goal.returns
returns c =
    let all : c.places.at ≡ c.args.until = omega (arith, c.places-test.false, c.places.auto.at-end) in
    sym c.places.invariant ∙ ap (λ n. trace_before n (option_map (λ u. u.now) c.args.wanted) c.args.bytes.now) all
