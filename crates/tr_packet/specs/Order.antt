-- The order of a packet's records.
use Rattle.std.specs.Prelude.{ℕ, ◌<◌, Bool, true, false, ◌&&◌, nat_eq, nat_le, nat_lt, List, [], ◌∷◌, map, Option, Some, None}
use Rattle.std.specs.List.{last_or}
use Rattle.tr_record.specs.Records.{Entry}
use Rattle.tr_terms.specs.declared.limits.TheConstants.{LAST_MOMENT}

-- a number may come after the one before it, if any
abbrev pub follows : Option ℕ → ℕ → Bool
follows None n = true
follows (Some before) n = nat_lt before n

-- the serials rise strictly, the first one above the one before it, if any
abbrev pub serials_rise_after : Option ℕ → List Entry → Bool
serials_rise_after before [] = true
serials_rise_after before (e ∷ es) = follows before e.serial && serials_rise_after (Some e.serial) es

abbrev pub serials_rise : List Entry → Bool
serials_rise es = serials_rise_after None es

-- the last record's serial, or the one before if there are no records
abbrev pub last_serial_after : Option ℕ → List Entry → Option ℕ
last_serial_after before es = last_or before (map (λ (e : Entry). e.serial) es)

-- the moments don't fall, from the first bound to the last one
abbrev pub in_order : ℕ → ℕ → List Entry → Bool
in_order from to [] = nat_le from to
in_order from to (e ∷ es) = nat_le from e.moment && in_order e.moment to es

-- there is a first record, and this is its moment
abbrev pub starts_at : ℕ → List Entry → Bool
starts_at begin [] = false
starts_at begin (e ∷ es) = nat_eq e.moment begin

-- begin is the first record's moment, the moments don't fall up to end, and end isn't above the limit
abbrev pub moments_hold : ℕ → ℕ → List Entry → Bool
moments_hold begin end es = starts_at begin es && (in_order begin end es && nat_le end LAST_MOMENT)

-- the serial is below n
abbrev pub IsBelow : ℕ → Entry → Type 0
IsBelow n e = e.serial < n
