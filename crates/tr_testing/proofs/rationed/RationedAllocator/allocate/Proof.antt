-- A request that the ration admits gets what the C library's heap answers, and any other one an error.
use Rattle.std.proofs.Common.{◌≡◌, ◌+◌, Bool, false, Err, [], ◌∷◌, refl, w64}
use base.Logic.{id⊢}
use base.Fml.{ftrue, fsep, flft}
use mir.Val.{vbool}
use contract.Monad.{fact}
use contract.Running.{tables}
use types.Kit.{‵, raw, ◌⊛◌, some, given, later, at_ret, ◌$◌, ◌∵◌, !, qed, by, move, keep, use0, use1, use2, split, join, pick, learn, fsplit, fjoin, await}
use types.Part.{agg}
use types.Run.{enter, addr, stop, fld, lit, first, branches, skips, exec, no_more, and_then, returns, returns_within}
use types.ByLocal.{alloc_all, pass_all, free_all, look_at, get, through, sets, lands_as, env}
use denote.Builtin.{usize, RefOf}
use denote.Laws.{Is, shows}
use denote.Memory.{hidden_shr}
use denote.Opens.{unhide}
use denote.Plain.{uint_vals, uint_Tells}
use denote.RattleType.{owns}
use denote.RawPtr.{RawPtr}
use denote.Ref.{shr_vals}
use denote.Signature.{plain, types_at}
use denote.Steps.{heard, nothing, peeks}
use denote.Triple.Call.{calls_at}
use denote.Triple.Table.{framed}
use denote.Triple.Walked.{Stays, stay_dropped, Goes-dropped, walk_of}
use denote.Param.Laws.{Laws}
use borrow.Table.RawPtr.{ptr_laws}
use Rattle.std.specs.Allocator.{HasLayout, block_if_ok}
use Rattle.std.specs.contracts.impls.GlobalAllocator.TheImpl.{ghosts}
use Rattle.std.specs.contracts.alloc.Global as heap
use Rattle.std.proofs.alloc.Calls.{Answer, answer_val, Answer-typed, Answer-err}
use Rattle.std.proofs.raw_atomic.Walks.{proved, leaves}
use Rattle.std.proofs.result.Result.TheLaws.{the_row_laws as result_laws}
use Rattle.std.proofs.alloc.AllocError.TheLaws.{the_row_laws as error_laws}
use Rattle.std.specs.contracts.alloc.AllocError as error
use Rattle.tr_testing.specs.contracts.rationed.Rationed as rationed
use Rattle.tr_testing.specs.contracts.rationed.Ration as ration
use Rattle.tr_testing.specs.contracts.rationed.RationedAllocator.allocate as here
use Rattle.tr_testing.proofs.rationed.RationedAllocator.allocate.Statement.{statement}
use Rattle.tr_testing.proofs.rationed.RationedAllocator.allocate.Code as code
use Rattle.tr_testing.proofs.Rationing.{Admits, asking, asked, told, Allocates, serving, served}
use Rattle.tr_testing.proofs.rationed.Ration.admits.Met.{met as admits}
use Rattle.std.proofs.impls.GlobalAllocator.allocate.Met.{met as allocates}

abbrev answer_laws : Laws Answer
answer_laws = result_laws RawPtr error.the_row ptr_laws error_laws

abbrev stays : Stays here.ended.signature.params here.ended.kept
stays = (stay_dropped _ here.ended.kept.0, (stay_dropped _ here.ended.kept.1.0, (stay_dropped _ here.ended.kept.1.1.0, tt)))

pub allocate_spec : {M : Type 1} → statement M
allocate_spec 𝓤 𝓛 𝓜 𝓡 wired =
    let c = here.clauses 𝓛 𝓜.mem 𝓡.returns in let walks = walk_of 𝓛 here.ended stays c in let 𝓣 = tables 𝓤 𝓛.H 𝓜 𝓡 𝓡.env in
    proved 𝓛 here.ended stays c 𝓜 𝓡
    (Goes-dropped 𝓛 1 (RefOf (0 ∷ []) tt (plain (λ _. rationed.the_row)) (λ _. tt)) here.ended.kept.0 (λ κs x w. refl), (Goes-dropped 𝓛 1 (plain (λ _. usize)) here.ended.kept.1.0 (λ κs x w. refl), (Goes-dropped 𝓛 1 (plain (λ _. usize)) here.ended.kept.1.1.0 (λ κs x w. refl), tt)))
    here.Key.name code.function (code.unfolded 𝓤 𝓛.H 𝓜 𝓡 wired)
    (λ κs. (shr_vals, (uint_vals w64, (uint_vals w64, tt)))) (λ κs. ((λ r vs is. is.0), (uint_Tells w64, (uint_Tells w64, tt))))
    (λ κs qs bounds a τ are.
    let κ = κs.0 in let q = qs.0 in let r = a.0 in let size = a.1.0 in let align = a.1.1.0 in
    let b = r.ref_ptr.0 in let o = r.ref_ptr.1 in
    let y : walks.Ghost = ((κs, qs, bounds, a, (shr_vals r, (uint_vals w64 size, (uint_vals w64 align, tt)))), τ) in
    qed 𝓛 (((‵ (flft κ q) ⊛ ‵ ftrue) ⊛ ‵ (owns (types_at here.signature.params κs) a y.0.4)) ∷ raw (fact 𝓤 (HasLayout τ size align)) ∷ []) ∵
    move ! (1 ∷ []) $ heard ! _ (λ asks. split ! $ split ! $ move ! (2 ∷ []) $ fsplit ! $ fsplit ! $ move ! (1 ∷ []) $ unhide ! $ fsplit ! $ fsplit ! $
    use1 𝓛 (‵ (hidden_shr heap.the_row κ r.now.source b (o + 0))) (id⊢ 𝓤 _) $ move ! (1 ∷ []) $ fsplit ! $
    use1 𝓛 (‵ (hidden_shr ration.the_row κ r.now.ration b (o + 0))) (id⊢ 𝓤 _) $ keep ! (0 ∷ 6 ∷ 2 ∷ []) $
    enter ! _ _ _ _ _ $ alloc_all ! (λ l. pass_all ! refl ((tt, tt), ((tt, record { fits = are.1.0.1 }), ((tt, record { fits = are.1.1.0.1 }), tt))) $
    -- [the ration; the token; the heap]
    let E = env code.Mir.locals l in let asks_ration = asking 𝓛 𝓜.mem 𝓡.returns κ q b (o + 0) r.now.ration in let asks_heap = serving 𝓛 𝓜.mem 𝓡.returns κ q b (o + 0) r.now.source size align τ in
    use2 𝓛 (raw ((Admits 𝓛 𝓜.mem 𝓡.returns).pre asks_ration)) (asked 𝓛 𝓜.mem 𝓡.returns κ q b (o + 0) r.now.ration) $
    sets ! (addr ! (through ! refl (fld ! refl (stop !)))) refl (tt, tt) $
    calls_at ! (framed 𝓤 𝓛.H 𝓜 𝓣) (Admits 𝓛 𝓜.mem 𝓡.returns) (admits 𝓤 𝓛 𝓜 𝓡 (code.calls-tr_testing::rationed::Ration::admits 𝓡.env wired)) asks_ration
    (and_then ! (get ! refl) (no_more !)) (λ v. use1 𝓛 (later (some (λ (x : Bool). given (v ≡ vbool x) (‵ (flft κ q))))) (told 𝓛 𝓜.mem 𝓡.returns κ q b (o + 0) r.now.ration v) $
    await ! tt $ pick ! (λ x. learn ! (λ e. lands_as ! e refl (tt, tt) $ first ! $ branches ! (get ! refl)
    (λ admitted. sets ! (addr ! (through ! refl (fld ! refl (stop !)))) refl (tt, tt) $ move ! (1 ∷ 0 ∷ []) $
    use2 𝓛 (raw ((Allocates 𝓛 𝓜.mem 𝓡.returns).pre asks_heap)) (served 𝓛 𝓜.mem 𝓡.returns κ q b (o + 0) r.now.source size align τ are.1.0.1 are.1.1.0.1 asks) $
    calls_at ! (framed 𝓤 𝓛.H 𝓜 𝓣) (Allocates 𝓛 𝓜.mem 𝓡.returns) (allocates 𝓤 𝓛 𝓜 𝓡 (code.calls-std::impls::GlobalAllocator::allocate 𝓡.env wired)) asks_heap
    (and_then ! (get ! refl) (and_then ! (get ! refl) (and_then ! (get ! refl) (no_more !)))) (λ u.
    use1 𝓛 (later (some (λ (z : Answer.Denot). ((‵ (flft κ q) ⊛ ‵ ftrue) ⊛ ‵ (Answer.own_val z (u ∷ []))) ⊛ some (λ (ends : Unit {0} × (Unit {0} × (Unit {0} × Unit {0}))). ‵ (fsep ftrue (fsep ftrue (fsep ftrue ftrue))) ⊛ ‵ (block_if_ok (ghosts.dealloc_token r.now.source) τ z))))) (id⊢ 𝓤 _) $
    await ! tt $ pick ! (λ z. split ! $ move ! (1 ∷ []) $ pick ! (λ ends. split ! $ move ! (2 ∷ []) $ split ! $ move ! (1 ∷ []) $
    peeks ! Answer (Is Answer) (shows 𝓛 Answer) z (u ∷ []) (λ is. lands_as ! refl refl ((answer_laws.lawful 𝓛).typed z (u ∷ []) is).0 $
    returns_within ! (walks.post y) refl (look_at ! 0 refl) $ free_all ! refl $ move ! (1 ∷ 2 ∷ 0 ∷ 3 ∷ []) $
    by ! (leaves 𝓛 here.ended stays c y u z (tt, (tt, (tt, tt))) (tt, (tt, (tt, tt)))))))))
    (λ refused. skips ! $ exec ! 𝓣.C 𝓣.Λ E code.Mir.t-4 (at_ret E (walks.post y)) $ sets ! (agg ! (no_more !)) refl (tt, tt) $
    sets ! (agg ! (and_then ! (lit ! tt) (and_then ! (get ! refl) (no_more !)))) refl (Answer-typed false 0 0) $
    returns ! (look_at ! 0 refl) $ free_all ! refl $ keep ! (0 ∷ []) $
    nothing ! $ use0 𝓛 (‵ (Answer.own_val (Err (record {})) (answer_val false 0 0 ∷ []))) (Answer-err 𝓛) $ nothing ! $ nothing ! $ fjoin ! $ nothing ! $ fjoin ! $ nothing ! $ fjoin ! $
    nothing ! $ move ! (4 ∷ 0 ∷ []) $ join ! $
    by ! (leaves 𝓛 here.ended stays c y (answer_val false 0 0) (Err (record {})) (tt, (tt, (tt, tt))) (tt, (tt, (tt, tt)))))))))))
