use Rattle.std.proofs.Common.{refl, ap, ◌∙◌}
use Rattle.std.specs.BTreeSet.{insert_key}
use Rattle.std.specs.String.{string_bytes}
use Rattle.tr_survey.specs.Order.{name_cmp}
use Rattle.tr_folders.specs.Tree.{by_text}
use Rattle.tr_survey.proofs.ListingLemmas.{map-insert_key}
use Rattle.tr_survey.proofs.listing.add_name.Goals as goal

pub returns : goal.returns
returns c =
    ap by_text c.in_ok-insert.ensures.keys
    ∙ map-insert_key string_bytes _ name_cmp (λ x y. refl) c.args.found.now.keys c.in_ok-from_str.field-0
    ∙ ap (insert_key name_cmp (by_text c.args.found.now.keys)) c.in_ok-from_str.ensures.ok
