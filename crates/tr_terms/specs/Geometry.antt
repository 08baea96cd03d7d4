-- Sizes and counts of sub-buffers that a stream may have.
use Rattle.std.specs.Prelude.{ℕ, Bool, ◌&&◌, nat_le, List, Result, Ok, Err, if◌then◌else◌, codes}
use Rattle.std.specs.Int.{is_power_of_two}
use Rattle.tr_terms.specs.declared.geometry.GeometryFault.{GeometryFault}
use Rattle.tr_terms.specs.declared.geometry.GeometryFault.TheVariants.{BadSize, BadCount}
use Rattle.tr_terms.specs.declared.limits.TheConstants.{FEWEST_SUB_BUFFERS, LARGEST_PACKET, MOST_SUB_BUFFERS, SMALLEST_SUB_BUFFER}

pub record GeometryState : Type 0 where
  pub size : ℕ
  pub count : ℕ

abbrev pub geometry_state : ℕ → ℕ → GeometryState
geometry_state size count = record { size = size; count = count }

-- a power of two within these bounds
abbrev pub is_power_within : (least most n : ℕ) → Bool
is_power_within least most n = is_power_of_two n && (nat_le least n && nat_le n most)

-- a size in bytes
abbrev pub is_size : ℕ → Bool
is_size = is_power_within SMALLEST_SUB_BUFFER LARGEST_PACKET

-- how many sub-buffers a ring has
abbrev pub is_count : ℕ → Bool
is_count = is_power_within FEWEST_SUB_BUFFERS MOST_SUB_BUFFERS

-- the size is judged first
abbrev pub geometry_of : ℕ → ℕ → Result GeometryState GeometryFault
geometry_of size count =
    if is_size size then (if is_count count then Ok (geometry_state size count) else Err BadCount)
    else Err BadSize

-- a fault's code in documents
abbrev pub geometry_fault_code : GeometryFault → List ℕ
geometry_fault_code BadSize = codes "G1"
geometry_fault_code BadCount = codes "G2"

abbrev pub geometry_fault_name : GeometryFault → List ℕ
geometry_fault_name BadSize = codes "BadSize"
geometry_fault_name BadCount = codes "BadCount"
