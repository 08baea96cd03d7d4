use Rattle.std.proofs.Common.{◌≡◌, ◌++◌, drop, map}
use Rattle.std.specs.List.{zip}
use Rattle.std.specs.Option.{option_copied}
use Rattle.tr_folders.specs.Tree.{by_text}
use Rattle.tr_survey.specs.Heads.{wrong_metadata}
use Rattle.tr_survey.specs.Listing.{key_of}
use Rattle.tr_survey.proofs.heads.push_metadata.Given as goal

abbrev pub invariant-loop-at : goal.invariant-loop-at
invariant-loop-at l =
    by_text l.lines.items ++ wrong_metadata (option_copied l.uuid) (zip (map key_of (drop l.at l.archives)) (drop l.at l.namings))
    ≡ by_text l.initial.lines.items ++ wrong_metadata (option_copied l.uuid) (zip (map key_of l.archives) l.namings)
