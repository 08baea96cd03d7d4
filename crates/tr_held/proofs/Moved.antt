-- A handle is taken apart and another is made of its fields: one walk for all of them.
use Rattle.tr_held.proofs.Names.{◌≡◌, List, [], ◌∷◌, ◌++◌, refl, sym, ap, ◌∙◌, subst, Val, SProp, ent, emp, id⊢, Fml, ftrue, fsep, WpFn, ‵, raw, ◌⊛◌, ◌$◌, ◌∵◌, !, qed, by, move, keep, split, fsplit, fjoin, rewrite, suffices, use0, stop, fld, of_opd, no_more, and_then, returns, enter, alloc_all, pass_all, free_all, look_at, get, get_in, sets, agg, sub, whole, fact, fact_i, tables, RattleType, plain, ptr_val, nothing, layout, Stays, stay_dropped, walk_of, proved_at, leaves}
use seplogic.Ra.Ura.{Ura}
use mir.Syntax.{Sym, Ty, ty_ptr, ty_bool, ty_struct, tcons, tnil, Fn, local, value_local, place, field, copy, rv_opd, aggregate, seq, assign, return, Callee}
use prog.Model.{Model}
use prog.Wp.{Closed}
use types.Logic.{Logic}
use contract.Running.{Running}
use denote.Exit.{rest, yes}
use denote.Struct.Owning.{Owning, row}
use denote.Triple.Clauses.{Ended, Clauses, closing}
use denote.Triple.Spec.{Meets}
use denote.Triple.Walked.{Goes-dropped}
use Rattle.std.proofs.alloc.Global.TheLaws as heap_laws
use Rattle.std.specs.contracts.impls.GlobalAllocator.TheImpl.{ghosts}
use Rattle.tr_held.specs.Holding.{holds}
use Rattle.tr_held.proofs.Handles.{Fields, IsHandle, Z, own}
use Rattle.tr_held.proofs.Apart.{word, ptr_good, word_good, apart, together}

abbrev struct : Sym → Ty
struct name = ty_struct name (tcons ty_ptr (tcons ty_bool (tcons (layout Z) tnil)))

-- the code that takes the struct `from` apart and makes a `to`
abbrev pub moves : Sym → Sym → Fn
moves from to = record {
  lifetimes = 0;
  outlives = [];
  ty_params = [];
  givens = 0;
  params = 1;
  locals = local (struct to) value_local ∷ local (struct from) value_local ∷ local ty_ptr value_local ∷ local ty_bool value_local ∷ local (layout Z) value_local ∷ local ty_ptr value_local ∷ [];
  body = seq (assign (place 2 []) (rv_opd (copy (place 1 (field 0 ∷ []))))) (seq (assign (place 3 []) (rv_opd (copy (place 1 (field 1 ∷ []))))) (seq (assign (place 4 []) (rv_opd (copy (place 1 (field 2 ∷ []))))) (seq (assign (place 5 []) (rv_opd (copy (place 2 []))))
      (seq (assign (place 0 []) (aggregate (copy (place 5 []) ∷ copy (place 3 []) ∷ copy (place 4 []) ∷ []))) return))));
}

module _ {R : RattleType} {From To : Owning} (f : IsHandle R From) (t : IsHandle R To) where
  abbrev pub ended : Ended
  ended = record { signature = record { lifetimes = 0; outlives = []; params = plain (λ _. row From) ∷ []; result = plain (λ _. row To) }; kept = (yes, tt) }

  -- what is made holds what was held
  abbrev pub clauses : {M : Type 1} (𝓤 : Ura M) → Clauses 𝓤 ended
  clauses 𝓤 κs a = record { ghost = Unit {0}; requires = λ _. emp 𝓤; ensures = λ _ r _. fact 𝓤 ((t.fields r).value ≡ (f.fields a.0).value) }

  module _ {M : Type 1} (𝓤 : Ura M) (𝓛 : Logic 𝓤) (𝓜 : Model 𝓤 𝓛.H) (𝓡 : Running 𝓤 𝓛.H 𝓜) where
    pub moved : (k : Callee) → Closed 𝓤 𝓛.H (tables 𝓤 𝓛.H 𝓜 𝓡 𝓡.env).C (tables 𝓤 𝓛.H 𝓜 𝓡 𝓡.env).Λ k (moves From.name To.name)
        → Meets 𝓛 ended.signature ((tables 𝓤 𝓛.H 𝓜 𝓡 𝓡.env).C k) (closing 𝓛 ended (clauses 𝓤))
    moved k closed =
        let c = clauses 𝓤 in let fn = moves From.name To.name in let 𝓣 = tables 𝓤 𝓛.H 𝓜 𝓡 𝓡.env in let LZ = heap_laws.the_row_laws in
        let hs : Stays ended.signature.params ended.kept = (stay_dropped (plain (λ _. row From)) yes, tt) in
        proved_at 𝓛 ended hs c 𝓜 𝓡 (Goes-dropped 𝓛 0 (plain (λ _. row From)) yes (λ κs. f.silent yes), tt) k fn closed (λ z are.
        let x : From.D = z.0.3.0 in let h : Fields R = f.fields x in let y : To.D = t.made h in
        let Post : Val → SProp 𝓤 = (walk_of 𝓛 ended hs c).post z in let Run : List Val → SProp 𝓤 = λ ws. WpFn 𝓤 𝓛.H 𝓣.C 𝓣.Λ fn ws Post in
        let owned = holds R (ghosts.dealloc_token h.alloc) h.at h.live h.value in
        qed 𝓛 ((‵ ftrue ⊛ ‵ (fsep ((row From).own_val x z.0.4.0) ftrue)) ∷ raw (emp 𝓤) ∷ []) ∵ split ! $ move ! (1 ∷ []) $ fsplit ! $
        rewrite ! 0 (λ (F : Fml). ‵ F) (f.owned x z.0.4.0) refl $
        apart Z LZ ghosts From.name From.types ! h.at h.live h.alloc owned z.0.4.0 (λ a ws fits.
        let w : Val = word (ptr_val h.at) h.live a in let typed = word_good Z h.at h.live a fits in
        suffices ! (Run (w ∷ [])) (subst (λ (us : List Val). ent 𝓤 (Run (w ∷ [])) (Run us)) (sym (λ i. ws i ++ [])) (id⊢ 𝓤 (Run (w ∷ [])))) $
        enter ! 𝓣.C 𝓣.Λ fn (w ∷ []) Post $ alloc_all ! (λ l. pass_all ! refl (typed, tt) $
        sets ! (of_opd ! (get_in ! (fld ! refl (stop !)) (sub ! 0 refl (whole !)))) refl (ptr_good h.at) $
        sets ! (of_opd ! (get_in ! (fld ! refl (stop !)) (sub ! 1 refl (whole !)))) refl (tt, tt) $
        sets ! (of_opd ! (get_in ! (fld ! refl (stop !)) (sub ! 2 refl (whole !)))) refl fits $
        sets ! (of_opd ! (get ! refl)) refl (ptr_good h.at) $
        sets ! (agg ! (and_then ! (get ! refl) (and_then ! (get ! refl) (and_then ! (get ! refl) (no_more !))))) refl typed $
        together Z LZ ghosts To.name To.types ! h.at h.live h.alloc owned a $
        rewrite ! 0 (λ (F : Fml). ‵ F) (sym (t.owned y (w ∷ []) ∙ ap (λ (g : Fields R). own R To.name To.types g (w ∷ [])) (t.kept h))) refl $
        use0 𝓛 (raw (fact 𝓤 ((t.fields y).value ≡ h.value))) (fact_i 𝓤 ((t.fields y).value ≡ h.value) (emp 𝓤) (ap (λ (g : Fields R). g.value) (t.kept h))) $ nothing ! $ nothing ! $ fjoin ! $
        returns ! (look_at ! 0 refl) $ free_all ! refl $ keep ! (4 ∷ 0 ∷ 2 ∷ 1 ∷ []) $
        by ! (leaves 𝓛 ended hs c z w y (rest (From.exit yes) x, tt) (tt, tt)))))
