-- Which fault of a run came from where.
use Rattle.std.proofs.Common.{◌≡◌, Bool, true, false, refl, Result, Ok, Err}
use Rattle.std.specs.Result.{IsErrAnd}
use Rattle.tr_console.proofs.LineSteps.{one_if}
use Rattle.tr_console.specs.ScriptFaults.{reading_fault}
use Rattle.tr_console.specs.declared.script_fault.ScriptFault.{ScriptFault}
use Rattle.tr_console.specs.declared.script_fault.ScriptFault.TheVariants as script
use Rattle.tr_lines.specs.declared.reader.ReadFault.{ReadFault}
use Rattle.tr_lines.specs.declared.reader.ReadFault.TheVariants as line
use mir.Val.{bool_byte}

pub reading_fault-Read : (f : ReadFault) → reading_fault f ≡ script.Read → f ≡ line.Read
reading_fault-Read line.Read e = refl
reading_fault-Read line.TooLong e = cc
reading_fault-Read line.NoMemory e = cc

pub reading_fault-TooLong : (f : ReadFault) → reading_fault f ≡ script.TooLong → f ≡ line.TooLong
reading_fault-TooLong line.Read e = cc
reading_fault-TooLong line.TooLong e = refl
reading_fault-TooLong line.NoMemory e = cc

pub reading_fault-NoMemory : (f : ReadFault) → reading_fault f ≡ script.NoMemory → f ≡ line.NoMemory
reading_fault-NoMemory line.Read e = cc
reading_fault-NoMemory line.TooLong e = cc
reading_fault-NoMemory line.NoMemory e = refl

-- the fault that a `?` made is the one that was passed up
pub made : {T : Type 0} → (r : Result T ScriptFault) (f g : ScriptFault) → IsErrAnd r (λ y. y ≡ f) → r ≡ Err g → f ≡ g
made (Ok x) f g h e = absurd h
made (Err y) f g h e = cc

pub ok_is_no_err : {T E : Type 0} → (x : T) (y : E) (e : Ok x ≡ Err y) → ⊥
ok_is_no_err x y e = cc

-- a flag as a number
pub byte-one : (b : Bool) → bool_byte b ≡ one_if b
byte-one true = refl
byte-one false = refl

-- a reader never fails to write
pub reading_fault-Write : (f : ReadFault) → reading_fault f ≡ script.Write → ⊥
reading_fault-Write line.Read e = cc
reading_fault-Write line.TooLong e = cc
reading_fault-Write line.NoMemory e = cc

pub made_err : {T : Type 0} → (r : Result T ScriptFault) (f : ScriptFault) → IsErrAnd r (λ y. y ≡ f) → r ≡ Err f
made_err (Ok x) f h = absurd h
made_err (Err y) f h = cc

pub same_err : {T E : Type 0} → (r : Result T E) (f g : E) → r ≡ Err f → r ≡ Err g → f ≡ g
same_err r f g a b = cc
