-- What is owned of a value on the heap that may be held: nothing, or its box.
use base.Fml.{Fml, feq, fsep}
use mir.Syntax.{Ty}
use denote.RattleType.{RattleType}
use denote.RawPtr.{Ptr, null_ptr}
use mathlib.Core.Bool.{Bool, true, false}
use Rattle.std.specs.declared.option.Option.{Option}
use Rattle.std.specs.declared.option.Option.TheVariants.{None, Some}
use Rattle.std_alloc.specs.Box.Ownership.{box_owns}

-- `token` is the right to free a block
abbrev pub holds : (R : RattleType) → (Ty → Ptr → Fml) → Ptr → Bool → Option R.Denot → Fml
holds R token at live None = fsep (feq Bool live false) (feq Ptr at null_ptr)
holds R token at live (Some x) = fsep (feq Bool live true) (box_owns token R at x)
