use Rattle.std.proofs.Common.{◌≡◌, ◌++◌, string_bytes}
use Rattle.tr_survey.specs.Losses.{places_told}
use Rattle.tr_survey.proofs.places.places_told.Given as goal

-- with the lines of the records that are left, they are those of all
abbrev pub invariant-loop-event : goal.invariant-loop-event
invariant-loop-event l =
    string_bytes l.lines ++ places_told l.events.events l.stream l.archive l.taken l.event-iterator
    ≡ places_told l.events.events l.stream l.archive l.fn.before l.fn.packet.records
