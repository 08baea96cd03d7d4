use Rattle.std.proofs.Common.{◌∙◌, ◌++◌, ℕ, List, ap, append_assoc}
use Rattle.std.specs.List.{flat_map}
use Rattle.std.specs.String.{string_bytes}
use Rattle.std.proofs.lemmas.Result.{on_ok_weaker}
use Rattle.tr_events.specs.Events.{Event}
use Rattle.tr_metadata.specs.Metadata.{class_text, other_text}
use Rattle.tr_metadata.proofs.metadata.push_back.Goals as goal

pub returns : goal.returns
returns g c =
    let old = string_bytes c.args.text.now in
    let classes = flat_map class_text c.list.result.now in
    on_ok_weaker c.push_classes.result
    (λ e. e ∙ ap (λ (t : List ℕ). t ++ classes) c.in_ok-push.ensures ∙ append_assoc old other_text classes
    ∙ ap (λ (l : List Event). old ++ (other_text ++ flat_map class_text l)) c.list.ensures.value)
    c.push_classes.ensures
