-- When a rotation is due, and why.
use Rattle.std.specs.Prelude.{ℕ, ◌-◌, ◌^◌, min, Bool, false, ◌&&◌, nat_le, List, sum, Option, Some, None, if◌then◌else◌, codes}
use Rattle.tr_schedule.specs.Schedules.{ScheduleState}
use Rattle.tr_schedule.specs.declared.cause.Cause.{Cause}
use Rattle.tr_schedule.specs.declared.cause.Cause.TheVariants.{Timer, Size}

-- now isn't earlier than the beginning, and their difference is at least the period
abbrev pub is_elapsed : Option ℕ → ℕ → ℕ → Bool
is_elapsed (Some period) begin now = nat_le begin now && nat_le period (now - begin)
is_elapsed None begin now = false

-- the sum stops at the greatest u64
abbrev pub total_of : List ℕ → ℕ
total_of sizes = min (sum sizes) (2 ^ 64 - 1)

-- the sum of the sizes is at least the limit
abbrev pub is_filled : Option ℕ → List ℕ → Bool
is_filled (Some limit) sizes = nat_le limit (total_of sizes)
is_filled None sizes = false

-- the timer comes first
abbrev pub due_cause : ScheduleState → ℕ → ℕ → List ℕ → Option Cause
due_cause s begin now sizes =
    if is_elapsed s.every begin now then Some Timer
    else if is_filled s.size sizes then Some Size
    else None

-- a cause's word in answers
abbrev pub cause_word : Cause → List ℕ
cause_word Timer = codes "timer"
cause_word Size = codes "size"
