-- A struct of an address, a flag and a handle of the heap, which owns something beside: taken apart, and put together.
use Rattle.tr_held.proofs.Names.{◌≡◌, ℕ, List, [], ◌∷◌, ◌++◌, refl, ◌∙◌, lit<, Bool, true, false, ◌&&◌, Val, vptr, vbool, vstruct, vcons, vnil, of_list, has_ty, WT, Fml, fsep, ‵, ◌$◌, move, drop, fsplit, fjoin, fpick, fpack, feq_i, feq_l, RattleType, Ptr, RawPtr, block_ptr, null_ptr, ptr_val, in_a_block, nothing, layout, Laws, handle_tells, Good, Option, None, Some}
use seplogic.Ra.Ura.{Ura}
use lib.Dec.{T}
use mir.Syntax.{Sym, Ty, ty_ptr, impl, tnil, dnil}
use mir.Raw.{raw as bare}
use base.Logic.{never, fst∗}
use types.Logic.{Logic, sem}
use types.Kit.{Item, Goal, Seq, Step, step}
use denote.Builtin.{bool}
use denote.RattleType.{Valss}
use denote.Memory.{lone}
use denote.Struct.Struct.{Shape, Struct, within}
use Rattle.core.specs.declared.alloc.Allocator.{Ghosts}
use Rattle.core.proofs.alloc.Calls.{Al}
use Rattle.std_alloc.specs.Box.Ownership.{box_owns}
use Rattle.std_alloc.proofs.ResultValues.{and_tt}
use Rattle.tr_held.specs.Holding.{holds}

abbrev pub word : Val → Bool → Val → Val
word at live heap = vstruct (vcons at (vcons (vbool live) (vcons heap vnil)))

-- its outline, under the struct's name and the types that it is given
abbrev pub outline : Sym → List RattleType → RattleType → Shape
outline name types Z = record { name = name; args = []; types = types; fields = RawPtr ∷ bool ∷ Z ∷ [] }

pub null_good : (Z : RattleType) (heap : Val) → Good (layout Z) heap → T (has_ty (layout Z) heap && true) × WT (word (ptr_val null_ptr) false heap)
null_good Z heap fits = (and_tt (has_ty (layout Z) heap) fits.0, (record { fits = lit< tt }, (tt, (fits.1, tt))))

pub block_good : (Z : RattleType) (b o : ℕ) (heap : Val) → Good (layout Z) heap → T (has_ty (layout Z) heap && true) × WT (word (vptr b o) true heap)
block_good Z b o heap fits = (and_tt (has_ty (layout Z) heap) fits.0, (tt, (tt, (fits.1, tt))))

both : (x y : Bool) → T x → T y → T (x && y)
both true y s t = t
both false y s t = absurd s

pub ptr_good : (at : Ptr) → T (has_ty ty_ptr (ptr_val at)) × WT (ptr_val at)
ptr_good (block_ptr b o) = (tt, tt)
ptr_good null_ptr = (tt, record { fits = lit< tt })

pub word_good : (Z : RattleType) (at : Ptr) (on : Bool) (heap : Val) → Good (layout Z) heap → T (has_ty ty_ptr (ptr_val at) && (true && (has_ty (layout Z) heap && true))) × WT (word (ptr_val at) on heap)
word_good Z at on heap fits = (both (has_ty ty_ptr (ptr_val at)) (has_ty (layout Z) heap && true) (ptr_good at).0 (and_tt (has_ty (layout Z) heap) fits.0), ((ptr_good at).1, (tt, (fits.1, tt))))

module _ (Z : RattleType) (L : Laws Z) (g : Ghosts Z.Denot) where
  abbrev pub heaps : Al
  heaps = record { row = Z; laws = L; g = g; d = impl [] tnil dnil; drops = impl [] tnil dnil }

  module _ (name : Sym) (types : List RattleType) {M : Type 1} {𝓤 : Ura M} {𝓛 : Logic 𝓤} {K : Type 0} {Γ : List (Item 𝓤)} {G : Goal 𝓤 𝓛.H} where
    pub apart : K → (at : Ptr) (on : Bool) (alloc : Z.Denot) (beside : Fml) (vs : List Val)
        → ((heap : Val) → vs ≡ word (ptr_val at) on heap ∷ [] → Good (layout Z) heap → Seq K 𝓛 (‵ beside ∷ ‵ (Z.own_val alloc (heap ∷ [])) ∷ Γ) G)
        → Seq K 𝓛 (‵ (fsep ((Struct (outline name types Z)).own_val (at, (on, (alloc, tt))) vs) beside) ∷ Γ) G
    apart t at on alloc beside vs next =
        fsplit t $ fpick t (λ parts. fsplit t $ feq_l t (λ whole. fsplit t $ feq_l t (λ is_at. fsplit t $ feq_l t (λ is_on. fsplit t $
        handle_tells heaps t alloc parts.1.1.0 (λ heap is_heap fits. move t (1 ∷ []) $ drop t $ move t (1 ∷ []) $
        next heap (whole ∙ (λ i. vstruct (of_list (is_at i ++ (is_on i ++ (is_heap i ++ [])))) ∷ [])) fits)))))

    pub together : K → (at : Ptr) (on : Bool) (alloc : Z.Denot) (beside : Fml) (heap : Val)
        → Step K 𝓛 (‵ (fsep ((Struct (outline name types Z)).own_val (at, (on, (alloc, tt))) (word (ptr_val at) on heap ∷ [])) beside) ∷ Γ) G (‵ beside ∷ ‵ (Z.own_val alloc (heap ∷ [])) ∷ Γ) G
    together t at on alloc beside heap = step (λ s. let v : Val = word (ptr_val at) on heap in
        nothing t $ move t (2 ∷ 0 ∷ []) $ fjoin t $ feq_i t (List Val) (vbool on ∷ []) (vbool on ∷ []) refl $ fjoin t $
        feq_i t (List Val) (ptr_val at ∷ []) (ptr_val at ∷ []) refl $ fjoin t $ feq_i t (List Val) (v ∷ []) (v ∷ []) refl $ fjoin t $
        fpack t (Valss (RawPtr ∷ bool ∷ Z ∷ [])) (within (outline name types Z) (at, (on, (alloc, tt))) (v ∷ [])) (ptr_val at ∷ [], (vbool on ∷ [], (heap ∷ [], tt))) $ fjoin t $ s)

-- the two cases of what is held
module _ (R : RattleType) (token : Ty → Ptr → Fml) {M : Type 1} {𝓤 : Ura M} {𝓛 : Logic 𝓤} {K : Type 0} {Γ : List (Item 𝓤)} {G : Goal 𝓤 𝓛.H} where
  pub cases : K → (value : Option R.Denot) (on : Bool) (at : Ptr)
      → (value ≡ None → on ≡ false → at ≡ null_ptr → Seq K 𝓛 Γ G)
      → ((x : R.Denot) (b o : ℕ) → value ≡ Some x → on ≡ true → at ≡ block_ptr b o → Seq K 𝓛 (‵ (box_owns token R (block_ptr b o) x) ∷ Γ) G)
      → Seq K 𝓛 (‵ (holds R token at on value) ∷ Γ) G
  cases t None on at none some = fsplit t $ feq_l t (λ off. feq_l t (λ null. none refl off null))
  cases t (Some x) on at none some = fsplit t $ feq_l t (λ is_on.
      in_a_block t at (λ p. box_owns token R p x) (fst∗ 𝓤 (never 𝓤) (sem 𝓛 (token (bare (lone R.mir)) null_ptr))) (λ b o is. some x b o refl is_on is))
