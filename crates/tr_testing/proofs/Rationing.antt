-- What a ration and the C library's heap are handed at a call, and what a ration hands back.
use Rattle.std.proofs.Common.{◌≡◌, ℕ, ◌^◌, ◌<◌, Bool, List, [], ◌∷◌, refl, ap, w64}
use seplogic.Ra.Ura.{Ura}
use mir.Syntax.{Ty}
use mir.Val.{Val, vbool, vint, vptr}
use base.Logic.{SProp, ent, sep, ex, guard, emp, id⊢}
use base.Fml.{Lft, Share, ftrue, fsep, froom, flft}
use prog.Memory.{Memory}
use prog.Routine.{Routine}
use types.Logic.{Logic, sem}
use types.Kit.{‵, raw, ◌⊛◌, some, later, ◌$◌, ◌∵◌, !, qed, move, keep, use0, use1, split, join, pick, fjoin, feq_i, check, show, await, updating, now as at_once, done}
use contract.Monad.{Fun, fact, fact_i}
use denote.Builtin.{bool, usize}
use denote.Laws.{Is, shows}
use denote.Memory.{hidden_shr}
use denote.Plain.{bool_Tells, uint_Makes}
use denote.RawPtr.{block_ptr}
use denote.Steps.{nothing, only, facts, owned}
use denote.Triple.Statement.{Contract}
use denote.Triple.Spec.{triple_of}
use Rattle.std.specs.Allocator.{HasLayout}
use Rattle.std.specs.contracts.alloc.Global as heap
use Rattle.std.specs.contracts.impls.GlobalAllocator.allocate as allocate
use Rattle.std.specs.contracts.impls.GlobalAllocator.deallocate as deallocate
use Rattle.std.specs.contracts.impls.GlobalAllocator.TheImpl.{ghosts}
use Rattle.tr_testing.specs.contracts.rationed.Ration as ration
use Rattle.tr_testing.specs.contracts.rationed.Ration.admits as admits

module _ {M : Type 1} {𝓤 : Ura M} (𝓛 : Logic 𝓤) (memory : Memory → SProp 𝓤) (runs : Routine → Fun 𝓤) where
  open 𝓛 use {H, A}

  abbrev pub Admits : Contract 𝓤
  Admits = triple_of 𝓛 admits.signature (admits.spec 𝓛 memory runs)

  abbrev pub Allocates : Contract 𝓤
  Allocates = triple_of 𝓛 allocate.signature (allocate.spec 𝓛 memory runs)

  abbrev pub Deallocates : Contract 𝓤
  Deallocates = triple_of 𝓛 deallocate.signature (deallocate.spec 𝓛 memory runs)

  module _ (κ : Lft) (q : Share) (b o : ℕ) where
    module _ (n : ration.the_row.Denot) where
      abbrev pub asking : Admits.Ghost
      asking = (((κ, tt), (q, tt), tt, (record { ref_ptr = (b, o); now = n }, tt), (vptr b o ∷ [], tt)), tt)

      pub asked : ent 𝓤 (sep 𝓤 (sem 𝓛 (hidden_shr ration.the_row κ n b o)) (A.lft κ q)) (Admits.pre asking)
      asked =
          qed 𝓛 (‵ (hidden_shr ration.the_row κ n b o) ∷ ‵ (flft κ q) ∷ []) ∵ nothing ! $ move ! (1 ∷ []) $
          feq_i ! (List Val) (vptr b o ∷ []) _ refl $ fjoin ! $ fjoin ! $
          nothing ! $ move ! (2 ∷ 0 ∷ []) $ join ! $ join ! $ nothing ! $ move ! (1 ∷ []) $ done !

      pub told : (v : Val) → ent 𝓤 (Admits.post asking v) (H.⇛ (ex 𝓤 (λ (y : Bool). guard 𝓤 (v ≡ vbool y) (A.lft κ q))))
      told v =
          qed 𝓛 (raw (Admits.post asking v) ∷ []) ∵ updating ! $
          use1 𝓛 (later (some (λ (y : Bool). ((‵ (flft κ q) ⊛ ‵ ftrue) ⊛ ‵ (bool.own_val y (v ∷ []))) ⊛ some (λ (ends : Unit {0} × Unit {0}). ‵ (fsep ftrue ftrue) ⊛ ‵ ftrue)))) (id⊢ 𝓤 _) $
          await ! tt $ pick ! (λ y. split ! $ split ! $ move ! (1 ∷ []) $
          facts ! bool (Is bool) (shows 𝓛 bool) y (v ∷ []) (λ is. split ! $ keep ! (0 ∷ []) $
          at_once ! $ show ! (λ (x : Bool). guard 𝓤 (v ≡ vbool x) (A.lft κ q)) y $ check ! (ap only (bool_Tells y (v ∷ []) is)) $ done !))

    module _ (h : heap.the_row.Denot) (size align : ℕ) (τ : Ty) where
      abbrev pub serving : Allocates.Ghost
      serving = (((κ, tt), (q, tt), tt, (record { ref_ptr = (b, o); now = h }, (size, (align, tt))), (vptr b o ∷ [], (vint w64 size ∷ [], (vint w64 align ∷ [], tt)))), τ)

      abbrev pub freeing : ℕ → ℕ → Deallocates.Ghost
      freeing c e = (((κ, tt), (q, tt), tt, (record { ref_ptr = (b, o); now = h }, (block_ptr c e, (size, (align, tt)))), (vptr b o ∷ [], (vptr c e ∷ [], (vint w64 size ∷ [], (vint w64 align ∷ [], tt))))), τ)

      module _ (size_fits : size < 2 ^ 64) (align_fits : align < 2 ^ 64) (asks : HasLayout τ size align) where
        pub served : ent 𝓤 (sep 𝓤 (sem 𝓛 (hidden_shr heap.the_row κ h b o)) (A.lft κ q)) (Allocates.pre serving)
        served =
            qed 𝓛 (‵ (hidden_shr heap.the_row κ h b o) ∷ ‵ (flft κ q) ∷ []) ∵
            feq_i ! (List Val) (vptr b o ∷ []) _ refl $ fjoin ! $
            nothing ! $ owned ! usize _ (uint_Makes 𝓛 w64) align _ (refl, align_fits) $ fjoin ! $
            owned ! usize _ (uint_Makes 𝓛 w64) size _ (refl, size_fits) $ fjoin ! $
            move ! (1 ∷ []) $ fjoin ! $ nothing ! $ move ! (2 ∷ 0 ∷ []) $ join ! $ join ! $
            use0 𝓛 (raw (fact 𝓤 (HasLayout τ size align))) (fact_i 𝓤 (HasLayout τ size align) (emp 𝓤) asks) $ move ! (1 ∷ []) $ done !

        pub freed : (c e : ℕ) → ent 𝓤 (sep 𝓤 (sep 𝓤 (sem 𝓛 (hidden_shr heap.the_row κ h b o)) (A.lft κ q)) (sep 𝓤 (H.room τ c e) (sem 𝓛 (ghosts.dealloc_token h τ (block_ptr c e))))) (Deallocates.pre (freeing c e))
        freed c e =
            qed 𝓛 ((‵ (hidden_shr heap.the_row κ h b o) ⊛ ‵ (flft κ q)) ∷ (‵ (froom τ c e) ⊛ ‵ (ghosts.dealloc_token h τ (block_ptr c e))) ∷ []) ∵ split ! $ move ! (2 ∷ []) $
            use0 𝓛 (raw (fact 𝓤 (HasLayout τ size align))) (fact_i 𝓤 (HasLayout τ size align) (emp 𝓤) asks) $ join ! $ move ! (2 ∷ 1 ∷ []) $
            nothing ! $ owned ! usize _ (uint_Makes 𝓛 w64) align _ (refl, align_fits) $ fjoin ! $
            owned ! usize _ (uint_Makes 𝓛 w64) size _ (refl, size_fits) $ fjoin ! $
            feq_i ! (List Val) (vptr c e ∷ []) _ refl $ fjoin ! $
            move ! (2 ∷ []) $ feq_i ! (List Val) (vptr b o ∷ []) _ refl $ fjoin ! $ fjoin ! $
            nothing ! $ move ! (2 ∷ 0 ∷ []) $ join ! $ join ! $ done !
