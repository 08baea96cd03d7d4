use Rattle.std.proofs.Common.{◌∙◌, ◌++◌, ℕ, List, ap, ap₂, append_assoc}
use Rattle.std.specs.String.{string_bytes}
use Rattle.std.proofs.lemmas.Result.{on_ok_weaker}
use Rattle.tr_events.specs.Events.{Event}
use Rattle.tr_events.specs.Variables.{Variable}
use Rattle.tr_metadata.specs.Metadata.{env_text, typed_clock_text, typed_stream_text, types_text}
use Rattle.tr_metadata.proofs.metadata.push_middle.Goals as goal

pub returns : goal.returns
returns g c =
    let old = string_bytes c.args.text.now in
    let types = typed_clock_text ++ (types_text ++ typed_stream_text c.list.result.now) in
    on_ok_weaker c.push_types.result
    (λ e. e ∙ ap (λ (t : List ℕ). t ++ types) c.in_ok-push_env.ensures ∙ append_assoc old (env_text c.env.result.now) types
    ∙ ap₂ (λ (v : List Variable) (l : List Event). old ++ (env_text v ++ (typed_clock_text ++ (types_text ++ typed_stream_text l)))) c.env.ensures c.list.ensures.value)
    c.push_types.ensures
