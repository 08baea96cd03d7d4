-- What a file of declarations declares.
use Rattle.std.specs.Prelude.{◌+◌, ℕ, Bool, ◌&&◌, nat_lt, List, length, take, Option, Some, None, Result, Ok, Err, if◌then◌else◌}
use Rattle.tr_describe.specs.declared.declarations.Declarations.{Declarations}
use Rattle.tr_describe.specs.declared.declarations.Declarations.TheVariants.{Unreadable, Refused, Declared}
use Rattle.tr_events.specs.Events.{Declarations as Declares}
use Rattle.tr_events.specs.Lines.{declared}
use Rattle.tr_events.specs.declared.faults.LineFault.{LineFault}
use Rattle.tr_events.specs.declared.layouts.TheConstants.{LONGEST_DECLARATIONS}
use Rattle.tr_folders.specs.Tree.{File}

-- one byte more than the longest text has
abbrev pub looked_at : ℕ
looked_at = LONGEST_DECLARATIONS + 1

abbrev pub Declaring : Type 0
Declaring = Result Declares LineFault

-- what the first bytes of a file declare; none: it isn't there, or it can't be read
abbrev pub declaring : Option File → Option Declaring
declaring None = None
declaring (Some file) =
    if nat_lt (length file.bytes) looked_at && file.breaks then None else Some (declared (take looked_at file.bytes))

-- the same as it was read
abbrev pub as_read : Declarations → Option Declaring
as_read Unreadable = None
as_read (Refused fault) = Some (Err fault)
as_read (Declared events) = Some (Ok events)
