-- What is given back goes to the C library's heap, whatever the ration is. Nothing can be given back at null.
use Rattle.std.proofs.Common.{◌+◌, List, [], ◌∷◌, refl, ap, w64}
use base.Logic.{id⊢, fst∗, never}
use base.Fml.{ftrue, fsep, flft}
use mir.Val.{Val, vunit, vint, vptr}
use prog.Wp.{WpFn}
use types.Logic.{sem}
use contract.Monad.{fact}
use contract.Running.{tables}
use types.Kit.{‵, raw, prop, ◌⊛◌, some, later, ◌$◌, ◌∵◌, !, qed, by, move, keep, use1, use2, split, join, pick, fsplit, feq_l, feq_i, regoal, await}
use types.Run.{enter, addr, stop, fld, of_opd, unit_lit, no_more, and_then, returns}
use types.ByLocal.{alloc_all, pass_all, free_all, look_at, get, through, sets, lands_as}
use denote.Builtin.{usize, unit, RefOf}
use denote.Memory.{hidden_shr}
use denote.Opens.{unhide}
use denote.Plain.{uint_vals, uint_Tells}
use denote.RattleType.{owns}
use denote.RawPtr.{Ptr, RawPtr, null_ptr, block_ptr, in_a_block, ptr_val, rawptr_vals, rawptr_Tells}
use denote.Ref.{shr_vals}
use denote.Signature.{plain, types_at}
use denote.Steps.{heard, only}
use denote.Triple.Call.{calls_at}
use denote.Triple.Table.{framed}
use denote.Triple.Walked.{Stays, stay_dropped, Goes-dropped, walk_of}
use Rattle.std.specs.Allocator.{HasLayout, owned_block}
use Rattle.std.specs.contracts.impls.GlobalAllocator.TheImpl.{ghosts}
use Rattle.std.specs.contracts.alloc.Global as heap
use Rattle.std.proofs.raw_atomic.Walks.{proved, leaves}
use Rattle.tr_testing.specs.contracts.rationed.Rationed as rationed
use Rattle.tr_testing.specs.contracts.rationed.RationedAllocator.deallocate as here
use Rattle.tr_testing.proofs.rationed.RationedAllocator.deallocate.Statement.{statement}
use Rattle.tr_testing.proofs.rationed.RationedAllocator.deallocate.Code as code
use Rattle.tr_testing.proofs.Rationing.{Deallocates, freeing, freed}
use Rattle.std.proofs.impls.GlobalAllocator.deallocate.Met.{met as deallocates}

abbrev stays : Stays here.ended.signature.params here.ended.kept
stays = (stay_dropped _ here.ended.kept.0, (stay_dropped _ here.ended.kept.1.0, (stay_dropped _ here.ended.kept.1.1.0, (stay_dropped _ here.ended.kept.1.1.1.0, tt))))

pub deallocate_spec : {M : Type 1} → statement M
deallocate_spec 𝓤 𝓛 𝓜 𝓡 wired =
    let c = here.clauses 𝓛 𝓜.mem 𝓡.returns in let walks = walk_of 𝓛 here.ended stays c in let 𝓣 = tables 𝓤 𝓛.H 𝓜 𝓡 𝓡.env in
    proved 𝓛 here.ended stays c 𝓜 𝓡 (
      Goes-dropped 𝓛 1 (RefOf (0 ∷ []) tt (plain (λ _. rationed.the_row)) (λ _. tt)) here.ended.kept.0 (λ κs x w. refl),
      (
        Goes-dropped 𝓛 1 (plain (λ _. RawPtr)) here.ended.kept.1.0 (λ κs x w. refl),
        (Goes-dropped 𝓛 1 (plain (λ _. usize)) here.ended.kept.1.1.0 (λ κs x w. refl), (Goes-dropped 𝓛 1 (plain (λ _. usize)) here.ended.kept.1.1.1.0 (λ κs x w. refl), tt)),
      ),
    )
    here.Key.name code.function (code.unfolded 𝓤 𝓛.H 𝓜 𝓡 wired)
    (λ κs. (shr_vals, (rawptr_vals, (uint_vals w64, (uint_vals w64, tt))))) (λ κs. ((λ r vs is. is.0), (rawptr_Tells, (uint_Tells w64, (uint_Tells w64, tt)))))
    (λ κs qs bounds a τ are.
    let κ = κs.0 in let q = qs.0 in let r = a.0 in let size = a.1.1.0 in let align = a.1.1.1.0 in
    let b = r.ref_ptr.0 in let o = r.ref_ptr.1 in
    let y : Ptr → walks.Ghost = λ p. ((κs, qs, bounds, (r, (p, a.1.1)), (shr_vals r, (rawptr_vals p, (uint_vals w64 size, (uint_vals w64 align, tt))))), τ) in
    qed 𝓛 (((‵ (flft κ q) ⊛ ‵ ftrue) ⊛ ‵ (owns (types_at here.signature.params κs) a (y a.1.0).0.4)) ∷ (raw (fact 𝓤 (HasLayout τ size align)) ⊛ ‵ (owned_block (ghosts.dealloc_token r.now.source) τ a.1.0)) ∷ []) ∵
    move ! (1 ∷ []) $ split ! $ heard ! _ (λ asks. in_a_block ! a.1.0 (owned_block (ghosts.dealloc_token r.now.source) τ) (fst∗ 𝓤 (never 𝓤) (sem 𝓛 (ghosts.dealloc_token r.now.source τ null_ptr))) (λ at from is.
    regoal ! (λ (p : Ptr). prop (WpFn 𝓤 𝓛.H 𝓣.C 𝓣.Λ code.function (vptr b o ∷ ptr_val p ∷ vint w64 size ∷ vint w64 align ∷ []) (walks.post (y p)))) is refl $
    move ! (1 ∷ []) $ split ! $ split ! $ move ! (2 ∷ []) $ fsplit ! $ fsplit ! $ move ! (1 ∷ []) $ unhide ! $ fsplit ! $ fsplit ! $
    use1 𝓛 (‵ (hidden_shr heap.the_row κ r.now.source b (o + 0))) (id⊢ 𝓤 _) $ keep ! (0 ∷ 5 ∷ 7 ∷ []) $
    enter ! _ _ _ _ _ $ alloc_all ! (λ l. pass_all ! refl ((tt, tt), ((tt, tt), ((tt, record { fits = are.1.1.0.1 }), ((tt, record { fits = are.1.1.1.0.1 }), tt)))) $
    -- [the heap; the token; the block]
    let gives = freeing 𝓛 𝓜.mem 𝓡.returns κ q b (o + 0) r.now.source size align τ at from in
    sets ! (addr ! (through ! refl (fld ! refl (stop !)))) refl (tt, tt) $ join ! $
    use2 𝓛 (raw ((Deallocates 𝓛 𝓜.mem 𝓡.returns).pre gives)) (freed 𝓛 𝓜.mem 𝓡.returns κ q b (o + 0) r.now.source size align τ are.1.1.0.1 are.1.1.1.0.1 asks at from) $
    calls_at ! (framed 𝓤 𝓛.H 𝓜 𝓣) (Deallocates 𝓛 𝓜.mem 𝓡.returns) (deallocates 𝓤 𝓛 𝓜 𝓡 (code.calls-std::impls::GlobalAllocator::deallocate 𝓡.env wired)) gives
    (and_then ! (get ! refl) (and_then ! (get ! refl) (and_then ! (get ! refl) (and_then ! (get ! refl) (no_more !))))) (λ u.
    use1 𝓛 (later (some (λ (z : Unit {0}). ((‵ (flft κ q) ⊛ ‵ ftrue) ⊛ ‵ (unit.own_val z (u ∷ []))) ⊛ some (λ (ends : Unit {0} × (Unit {0} × (Unit {0} × (Unit {0} × Unit {0})))). ‵ (fsep ftrue (fsep ftrue (fsep ftrue (fsep ftrue ftrue)))) ⊛ ‵ ftrue)))) (id⊢ 𝓤 _) $
    await ! tt $ pick ! (λ z. split ! $ split ! $ move ! (1 ∷ []) $ feq_l ! (λ said. lands_as ! (ap only said) refl (tt, tt) $ sets ! (of_opd ! (unit_lit !)) refl (tt, tt) $
    returns ! (look_at ! 0 refl) $ free_all ! refl $ feq_i ! (List Val) (vunit ∷ []) _ refl $ move ! (2 ∷ []) $ pick ! (λ ends. split ! $ move ! (3 ∷ 0 ∷ 2 ∷ 1 ∷ []) $
    by ! (leaves 𝓛 here.ended stays c (y (block_ptr at from)) vunit tt (tt, (tt, (tt, (tt, tt)))) (tt, (tt, (tt, (tt, tt)))))))))))))
