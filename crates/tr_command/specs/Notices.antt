-- What somebody at a terminal is told before a run that takes long.
use Rattle.std.specs.Fmt.{decimal}
use Rattle.std.specs.Prelude.{ℕ, List, [], ◌∷◌, ◌++◌, ◌*◌, Option, Some, None, codes, nat_le, if◌then◌else◌}
use Rattle.tr_command.specs.Invocation.{Script, Load, Audit, Describe, Picture, Recover, Task}
use Rattle.tr_command.specs.declared.notice.TheConstants.{MANY_RECORDS}

-- how many threads offer how many records, and how many workers drain them
abbrev pub load_notice : (threads records workers : ℕ) → List ℕ
load_notice threads records workers =
    codes "tracerd: " ++ (decimal threads ++ (codes " threads offer " ++ (decimal records
    ++ (codes " records each, drained by " ++ (decimal workers ++ 10 ∷ [])))))

-- nothing is said but of a load that takes its time
abbrev pub notice_of : Option Task → Option (List ℕ)
notice_of None = None
notice_of (Some (Script events out)) = None
notice_of (Some (Audit dir archives)) = None
notice_of (Some (Describe events dir)) = None
notice_of (Some (Picture dir)) = None
notice_of (Some (Recover uuid image dir)) = None
notice_of (Some (Load threads records workers watch out)) =
    if nat_le MANY_RECORDS (threads * records) then Some (load_notice threads records workers) else None
