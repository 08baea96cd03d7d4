use Rattle.std.proofs.Common.{◌≡◌, ◌++◌, drop, map}
use Rattle.tr_folders.specs.Tree.{by_text}
use Rattle.tr_survey.specs.Heads.{wrong_streams}
use Rattle.tr_survey.specs.Listing.{key_of}
use Rattle.tr_survey.proofs.heads.push_streams.Given as goal

abbrev pub invariant-loop-stream : goal.invariant-loop-stream
invariant-loop-stream l =
    by_text l.lines.items ++ wrong_streams l.next (map key_of (drop l.stream-index l.streams))
    ≡ by_text l.initial.lines.items ++ wrong_streams 0 (map key_of l.streams)
