-- The schedule of a session's rotations.
use Rattle.std.specs.Prelude.{ℕ, List, Bool, false, nat_eq, Option, Some, None, Result, Ok, Err, if◌then◌else◌, codes}
use Rattle.tr_schedule.specs.declared.faults.ScheduleFault.{ScheduleFault}
use Rattle.tr_schedule.specs.declared.faults.ScheduleFault.TheVariants.{ZeroPeriod, ZeroSize}

-- the period in nanoseconds, and the size limit in bytes, each if it is given
pub record ScheduleState : Type 0 where
  pub every : Option ℕ
  pub size : Option ℕ

abbrev pub schedule_state : Option ℕ → Option ℕ → ScheduleState
schedule_state every size = record { every = every; size = size }

-- it is given, and is zero
abbrev pub is_zero : Option ℕ → Bool
is_zero (Some n) = nat_eq n 0
is_zero None = false

-- neither may be zero; the period is judged first
abbrev pub schedule_of : Option ℕ → Option ℕ → Result ScheduleState ScheduleFault
schedule_of every size =
    if is_zero every then Err ZeroPeriod
    else if is_zero size then Err ZeroSize
    else Ok (schedule_state every size)

-- a fault's code in answers
abbrev pub schedule_fault_code : ScheduleFault → List ℕ
schedule_fault_code ZeroPeriod = codes "D1"
schedule_fault_code ZeroSize = codes "D2"

abbrev pub schedule_fault_name : ScheduleFault → List ℕ
schedule_fault_name ZeroPeriod = codes "ZeroPeriod"
schedule_fault_name ZeroSize = codes "ZeroSize"
