-- A handle may cross threads as the value that it has.
use Rattle.tr_held.proofs.Names.{[], ◌∷◌, sym, subst, Bool, RattleType, Ptr, RawPtr, Option, None, Some}
use mir.Syntax.{Ty}
use mir.Raw.{raw}
use base.Fml.{Fml}
use base.Shift.{Keyless}
use denote.Builtin.{bool}
use denote.Memory.{lone}
use denote.Param.Send.{AllSend, IsSend, sendable, struct_send}
use denote.Struct.Owning.{Owning, row}
use Rattle.std.proofs.Crossing.{crosses, frees}
use Rattle.std.specs.contracts.impls.GlobalAllocator.TheImpl.{ghosts}
use Rattle.std_alloc.proofs.SendSync.{lies}
use Rattle.tr_held.proofs.Apart.{outline}
use Rattle.tr_held.proofs.Handles.{IsHandle, Z}
use Rattle.tr_held.specs.Holding.{holds}

holds_keyless : (R : RattleType) → IsSend R → (token : Ty → Ptr → Fml) → ((τ : Ty) (p : Ptr) → Keyless (token τ p))
    → (at : Ptr) (live : Bool) (value : Option R.Denot) → Keyless (holds R token at live value)
holds_keyless R sent token frees at live None = (tt, tt)
holds_keyless R sent token frees at live (Some x) = (tt, (lies R sent at x, frees (raw (lone R.mir)) at))

fields_send : AllSend (RawPtr ∷ bool ∷ Z ∷ [])
fields_send = search (sendable, crosses) depth 40

pub handle_send : {R : RattleType} {T : Owning} → IsHandle R T → IsSend R → IsSend (row T)
handle_send {R} {T} f sent = record {
  owned = λ x vs. let h = f.fields x in subst Keyless (sym (f.owned x vs)) (
    (struct_send (outline T.name T.types Z) fields_send).owned (h.at, (h.live, (h.alloc, tt))) vs,
    holds_keyless R sent (ghosts.dealloc_token h.alloc) (frees.frees h.alloc) h.at h.live h.value,
  );
  leaving = λ k x w. subst Keyless (sym (f.silent k x w)) tt;
}
