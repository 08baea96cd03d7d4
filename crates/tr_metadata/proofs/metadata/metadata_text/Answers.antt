use Rattle.std.proofs.Common.{ap, sym, ◌∙◌, ◌++◌, List, ℕ}
use Rattle.std.specs.String.{string_bytes}
use Rattle.tr_metadata.specs.Metadata.{typed_metadata}
use Rattle.tr_metadata.proofs.ClassLemmas.{metadata_typed}
use Rattle.tr_metadata.proofs.metadata.metadata_text.Goals as goal

pub returns : goal.returns
returns g c =
    metadata_typed c.args.events.now c.args.uuid.now (string_bytes c.push_typed.new.text) (sym c.is_empty.ensures ∙ c.if-is_empty.false)
    (c.in_ok-push_typed.ensures ∙ ap (λ (t : List ℕ). t ++ typed_metadata c.args.events.now c.args.uuid.now) c.in_ok-text.ensures.bytes)
