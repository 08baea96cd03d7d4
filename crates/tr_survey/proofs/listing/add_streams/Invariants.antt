use Rattle.std.proofs.Common.{◌≡◌, drop, map}
use Rattle.std.specs.List.{filter_map}
use Rattle.tr_survey.specs.Listing.{key_of, with_keys}
use Rattle.tr_survey.specs.Names.{stream_named}
use Rattle.tr_folders.specs.Tree.{by_text}
use Rattle.tr_survey.proofs.listing.add_streams.Given as goal

abbrev pub invariant-loop-name : goal.invariant-loop-name
invariant-loop-name l =
    with_keys (map key_of l.found.keys) (filter_map stream_named (by_text (drop l.name-index l.names)))
    ≡ with_keys (map key_of l.initial.found.keys) (filter_map stream_named (by_text l.names))
