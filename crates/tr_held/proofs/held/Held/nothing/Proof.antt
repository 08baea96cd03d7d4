-- The null address, off, and the handle that was given.
use Rattle.tr_held.proofs.Names.{◌≡◌, List, [], ◌∷◌, ◌++◌, refl, sym, subst, false, Val, ptr_val, SProp, ent, emp, id⊢, WpFn, ‵, raw, ◌⊛◌, ◌$◌, ◌∵◌, !, qed, by, move, keep, split, fsplit, fjoin, suffices, use0, feq_i, lit, of_opd, false_lit, no_more, and_then, returns, enter, alloc_all, pass_all, free_all, look_at, get, sets, agg, fact, fact_i, tables, RattleType, owns, types_at, plain, Ptr, null_ptr, nothing, param, bounded, param_laws, Stays, stay_dropped, walk_of, Goes-blank, handle_tells, proved_at, leaves, None}
use base.Fml.{ftrue, flft}
use mir.Syntax.{a_type, dcons, dnil}
use mir.MapTy.{inst_fn}
use mathlib.Core.Bool.{Bool}
use denote.Exit.{no}
use Rattle.tr_held.proofs.Apart.{word, null_good, together, heaps}
use Rattle.tr_held.specs.Holding.{holds}
use Rattle.tr_held.specs.contracts.held.Held as held
use Rattle.tr_held.specs.contracts.held.Held.nothing.{ended, clauses}
use Rattle.tr_held.specs.contracts.held.Held.nothing.Key.{name as #self}
use Rattle.tr_held.proofs.held.Held.nothing.Statement.{statement}
use Rattle.tr_held.proofs.held.Held.nothing.Code as code

pub nothing_spec : {M : Type 1} → statement M
nothing_spec 𝓤 𝓛 𝓜 𝓡 wired T A L LA g d dx dd allocator glue glued =
    let R : RattleType = param 0 T in let Z : RattleType = param 1 A in let LZ = param_laws 1 A LA in
    let En = ended T A g d dx dd in let c = clauses T A g d dx dd 𝓛 𝓜.mem 𝓡.returns in
    let given = bounded (a_type ∷ a_type ∷ []) (T, (A, tt)) (dcons d (dcons dx (dcons dd dnil))) in
    let fn = inst_fn given code.function in let 𝓣 = tables 𝓤 𝓛.H 𝓜 𝓡 𝓡.env in
    let hs : Stays En.signature.params En.kept = (stay_dropped (plain (λ _. Z)) no, tt) in
    proved_at 𝓛 En hs c 𝓜 𝓡 (Goes-blank 𝓛 2 (plain (λ _. Z)) no (λ κs x f. tt), tt) (#self given) fn (code.unfolded 𝓤 𝓛.H 𝓜 𝓡 wired (T, (A, tt)) d dx dd) (λ z are.
    let κs = z.0.0 in let qs = z.0.1 in let a = z.0.3.0 in
    let Post : Val → SProp 𝓤 = (walk_of 𝓛 En hs c).post z in let Run : List Val → SProp 𝓤 = λ ws. WpFn 𝓤 𝓛.H 𝓣.C 𝓣.Λ fn ws Post in
    let tokens = ‵ (flft κs.0 qs.0) ⊛ ‵ (flft κs.1.0 qs.1.0) ⊛ ‵ ftrue in let asked = raw ((c κs z.0.3).requires z.1) in
    let made : (held.the_row R Z g).Denot = record { at = null_ptr; live = false; alloc = a; value = None } in
    qed 𝓛 ((tokens ⊛ ‵ (owns (types_at En.signature.params κs) z.0.3 z.0.4)) ∷ asked ∷ []) ∵
    split ! $ move ! (1 ∷ []) $ fsplit ! $ handle_tells (heaps Z LZ g) ! a z.0.4.0 (λ h is fits.
    suffices ! (Run (h ∷ [])) (subst (λ (us : List Val). ent 𝓤 (Run (h ∷ [])) (Run us)) (sym (λ i. is i ++ [])) (id⊢ 𝓤 (Run (h ∷ [])))) $
    enter ! 𝓣.C 𝓣.Λ fn (h ∷ []) Post $ alloc_all ! (λ l. pass_all ! refl (fits, tt) $
    sets ! (of_opd ! (get ! refl)) refl fits $
    sets ! (agg ! (and_then ! (lit ! tt) (and_then ! (false_lit !) (and_then ! (get ! refl) (no_more !))))) refl (null_good Z h fits) $
    feq_i ! Ptr null_ptr null_ptr refl $ feq_i ! Bool false false refl $ fjoin ! $
    together Z LZ g (held.the_type R Z g).name (held.the_type R Z g).types ! null_ptr false a (holds R (g.dealloc_token a) null_ptr false None) h $
    use0 𝓛 (raw (fact 𝓤 (made.value ≡ None))) (fact_i 𝓤 (made.value ≡ None) (emp 𝓤) refl) $ nothing ! $ nothing ! $ fjoin ! $
    returns ! (look_at ! 0 refl) $ free_all ! refl $ keep ! (4 ∷ 0 ∷ 2 ∷ 1 ∷ []) $
    by ! (leaves 𝓛 En hs c z (word (ptr_val null_ptr) false h) made (tt, tt) (tt, tt)))))
