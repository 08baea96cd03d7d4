-- What a handle is, and the structs that are one: `Held`, and what C holds.
use Rattle.tr_held.proofs.Names.{◌≡◌, List, refl, Bool, Val, Fml, ftrue, fsep, RattleType, Ptr, Option}
use mir.Syntax.{Sym}
use denote.Exit.{Kept, Last, left}
use denote.Struct.Owning.{Owning, row}
use denote.Struct.Struct.{Struct}
use Rattle.std.specs.contracts.alloc.Global as heap
use Rattle.std.specs.contracts.impls.GlobalAllocator.TheImpl.{ghosts}
use Rattle.tr_held.proofs.Apart.{outline}
use Rattle.tr_held.specs.Holding.{holds}
use Rattle.tr_held.specs.Kept.{audit_row, book_row, events_row, removed_row, snap_row, spares_row, stream_row}
use Rattle.tr_held.specs.contracts.audit_cell.AuditCell as AuditCell
use Rattle.tr_held.specs.contracts.book_cell.BookCell as BookCell
use Rattle.tr_held.specs.contracts.events_cell.EventsCell as EventsCell
use Rattle.tr_held.specs.contracts.held.Held as Held
use Rattle.tr_held.specs.contracts.removed_cell.RemovedCell as RemovedCell
use Rattle.tr_held.specs.contracts.snap_cell.SnapCell as SnapCell
use Rattle.tr_held.specs.contracts.spares_cell.SparesCell as SparesCell
use Rattle.tr_held.specs.contracts.stream_cell.StreamCell as StreamCell

abbrev pub Z : RattleType
Z = heap.the_row

-- what a handle of an R says
pub record Fields (R : RattleType) : Type 0 where
  pub at : Ptr
  pub live : Bool
  pub alloc : Z.Denot
  pub value : Option R.Denot

-- what is owned of one, under its struct's name and the types that it is given
abbrev pub own : (R : RattleType) → Sym → List RattleType → Fields R → List Val → Fml
own R name types h vs = fsep ((Struct (outline name types Z)).own_val (h.at, (h.live, (h.alloc, tt))) vs) (holds R (ghosts.dealloc_token h.alloc) h.at h.live h.value)

-- a struct that is a handle of an R
pub record IsHandle (R : RattleType) (T : Owning) : Type 1 where
  pub fields : T.D → Fields R
  pub made : Fields R → T.D
  pub kept : (h : Fields R) → fields (made h) ≡ h
  pub owned : (x : T.D) (vs : List Val) → (row T).own_val x vs ≡ own R T.name T.types (fields x) vs
  pub silent : (k : Kept) (x : T.D) (w : Last (T.exit k) x) → left (T.exit k) x w ≡ ftrue

abbrev pub held : (R : RattleType) → IsHandle R (Held.the_type R Z ghosts)
held R = record { fields = λ x. record { at = x.at; live = x.live; alloc = x.alloc; value = x.value }; made = λ h. record { at = h.at; live = h.live; alloc = h.alloc; value = h.value }; kept = λ h. refl; owned = λ x vs. refl; silent = λ k x w. refl }

abbrev pub audit_cell : IsHandle audit_row AuditCell.the_type
audit_cell = record { fields = λ x. record { at = x.at; live = x.live; alloc = x.alloc; value = x.value }; made = λ h. record { at = h.at; live = h.live; alloc = h.alloc; value = h.value }; kept = λ h. refl; owned = λ x vs. refl; silent = λ k x w. refl }

abbrev pub book_cell : IsHandle book_row BookCell.the_type
book_cell = record { fields = λ x. record { at = x.at; live = x.live; alloc = x.alloc; value = x.value }; made = λ h. record { at = h.at; live = h.live; alloc = h.alloc; value = h.value }; kept = λ h. refl; owned = λ x vs. refl; silent = λ k x w. refl }

abbrev pub events_cell : IsHandle events_row EventsCell.the_type
events_cell = record { fields = λ x. record { at = x.at; live = x.live; alloc = x.alloc; value = x.value }; made = λ h. record { at = h.at; live = h.live; alloc = h.alloc; value = h.value }; kept = λ h. refl; owned = λ x vs. refl; silent = λ k x w. refl }

abbrev pub snap_cell : IsHandle snap_row SnapCell.the_type
snap_cell = record { fields = λ x. record { at = x.at; live = x.live; alloc = x.alloc; value = x.value }; made = λ h. record { at = h.at; live = h.live; alloc = h.alloc; value = h.value }; kept = λ h. refl; owned = λ x vs. refl; silent = λ k x w. refl }

abbrev pub spares_cell : IsHandle spares_row SparesCell.the_type
spares_cell = record { fields = λ x. record { at = x.at; live = x.live; alloc = x.alloc; value = x.value }; made = λ h. record { at = h.at; live = h.live; alloc = h.alloc; value = h.value }; kept = λ h. refl; owned = λ x vs. refl; silent = λ k x w. refl }

abbrev pub removed_cell : IsHandle removed_row RemovedCell.the_type
removed_cell = record { fields = λ x. record { at = x.at; live = x.live; alloc = x.alloc; value = x.value }; made = λ h. record { at = h.at; live = h.live; alloc = h.alloc; value = h.value }; kept = λ h. refl; owned = λ x vs. refl; silent = λ k x w. refl }

abbrev pub stream_cell : IsHandle stream_row StreamCell.the_type
stream_cell = record { fields = λ x. record { at = x.at; live = x.live; alloc = x.alloc; value = x.value }; made = λ h. record { at = h.at; live = h.live; alloc = h.alloc; value = h.value }; kept = λ h. refl; owned = λ x vs. refl; silent = λ k x w. refl }
