-- The calendar's days as the date library has them.
use Rattle.std.specs.Prelude.{unsigned_abs}
use Rattle.jiff_core.specs.declared.civil.date.Date.{Date}
use Rattle.tr_chunk.specs.ArchiveName.{Day}

abbrev pub day_of : Date → Day
day_of d = record { year = unsigned_abs d.year; month = d.month; day = d.day }
