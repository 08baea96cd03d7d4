-- By the flag: the box of the address, or the handle.
use Rattle.tr_held.proofs.Names.{◌≡◌, List, [], ◌∷◌, ◌++◌, refl, sym, ap, ◌∙◌, subst, true, false, Val, vptr, of_list, SProp, ent, emp, id⊢, WpFn, ‵, raw, ◌⊛◌, some, later, at_ret, ◌$◌, ◌∵◌, !, qed, by, move, keep, drop, split, split3, join, fsplit, fjoin, pick, suffices, use0, use1, await, rewrite, feq_i, stop, fld, lit, of_opd, no_more, and_then, first, blocks, branches, exec, returns, enter, alloc_all, pass_all, free_all, look_at, get, get_in, sets, lands_last, env, agg, sub, whole, live, fact, fact_i, tables, RattleType, owns, types_at, type_at, plain, block_ptr, null_ptr, ptr_val, nothing, only, heard, param, layout, bounded, param_laws, Lasts, lasts, triple_of, Stays, stay_dropped, walk_of, Goes-blank, after, Good, proved_at, leaves, None, Some}
use base.Fml.{ftrue, flft}
use mir.Syntax.{a_type, dcons, dnil}
use mir.MapTy.{inst_fn}
use lib.Dec.{lit<}
use types.Run.{un, skips, returns_within}
use contract.BorrowLft.{◌⊑◌}
use denote.Exit.{no}
use denote.Triple.Call.{calls_at_last}
use Rattle.core.proofs.atomic.Steps.{fm}
use Rattle.std_alloc.proofs.BoxSteps.Form as box
use Rattle.std_alloc.proofs.BoxSteps.Steps.{box_out, box_in}
use Rattle.std_alloc.proofs.ResultValues.{and_tt, ok_of, err_of}
use Rattle.std_alloc.specs.contracts.boxed.Box.from_raw as from_raw
use Rattle.std_alloc.proofs.boxed.Box.from_raw.Met.{met}
use Rattle.std.specs.declared.result.Result.TheVariants.{Ok, Err}
use Rattle.tr_held.specs.Holding.{holds}
use Rattle.tr_held.proofs.Apart.{word, null_good, block_good, apart, cases}
use Rattle.tr_held.specs.contracts.held.Held as held
use Rattle.tr_held.specs.contracts.held.Held.into_box.{ended, clauses}
use Rattle.tr_held.specs.contracts.held.Held.into_box.Key.{name as #self}
use Rattle.tr_held.proofs.held.Held.into_box.Statement.{statement}
use Rattle.tr_held.proofs.held.Held.into_box.Code as code

pub into_box_spec : {M : Type 1} → statement M
into_box_spec 𝓤 𝓛 𝓜 𝓡 wired T A L LA g d dx dd allocator glue glued =
    let R : RattleType = param 0 T in let Z : RattleType = param 1 A in let LZ = param_laws 1 A LA in
    let En = ended T A g d dx dd in let c = clauses T A g d dx dd 𝓛 𝓜.mem 𝓡.returns in
    let given = bounded (a_type ∷ a_type ∷ []) (T, (A, tt)) (dcons d (dcons dx (dcons dd dnil))) in
    let fn = inst_fn given code.function in let 𝓣 = tables 𝓤 𝓛.H 𝓜 𝓡 𝓡.env in
    let E : box.Bx = record { row = T; laws = L; al = record { row = A; laws = LA; g = g; d = d; drops = dd } } in let B : RattleType = box.B E in
    let Row : RattleType = held.the_row R Z g in let hs : Stays En.signature.params En.kept = (stay_dropped (plain (λ _. Row)) no, tt) in
    proved_at 𝓛 En hs c 𝓜 𝓡 (Goes-blank 𝓛 2 (plain (λ _. Row)) no (λ κs x f. tt), tt) (#self given) fn (code.unfolded 𝓤 𝓛.H 𝓜 𝓡 wired (T, (A, tt)) d dx dd) (λ z are.
    let κs = z.0.0 in let qs = z.0.1 in let v : Row.Denot = z.0.3.0 in let a = v.alloc in let Out : RattleType = type_at En.signature.result κs in
    let Post : Val → SProp 𝓤 = (walk_of 𝓛 En hs c).post z in let Run : List Val → SProp 𝓤 = λ ws. WpFn 𝓤 𝓛.H 𝓣.C 𝓣.Λ fn ws Post in
    let tokens = ‵ (flft κs.0 qs.0) ⊛ ‵ (flft κs.1.0 qs.1.0) ⊛ ‵ ftrue in let asked = raw ((c κs z.0.3).requires z.1) in
    let k = triple_of 𝓛 (from_raw.signature T A g d dd) (from_raw.spec T A g d dd 𝓛 𝓜.mem 𝓡.returns) in
    qed 𝓛 ((tokens ⊛ ‵ (owns (types_at En.signature.params κs) z.0.3 z.0.4)) ∷ asked ∷ []) ∵ split ! $ move ! (1 ∷ []) $ fsplit ! $
    apart Z LZ g (held.the_type R Z g).name (held.the_type R Z g).types ! v.at v.live a (holds R (g.dealloc_token a) v.at v.live v.value) z.0.4.0 (λ h ws fits.
    cases R (g.dealloc_token a) ! v.value v.live v.at
    -- off
    (λ none off null. let w : Val = word (ptr_val null_ptr) false h in let us = ws ∙ (λ i. word (ptr_val (null i)) (off i) h ∷ []) in
    let back : Val = live 1 (of_list (h ∷ [])) in let good : Good (layout Out) back = (and_tt _ fits.0, (record { fits = lit< tt }, (fits.1, tt))) in
    suffices ! (Run (w ∷ [])) (subst (λ (xs : List Val). ent 𝓤 (Run (w ∷ [])) (Run xs)) (sym (λ i. us i ++ [])) (id⊢ 𝓤 (Run (w ∷ [])))) $
    enter ! 𝓣.C 𝓣.Λ fn (w ∷ []) Post $ alloc_all ! (λ l. pass_all ! refl (null_good Z h fits, tt) $
    sets ! (of_opd ! (get_in ! (fld ! refl (stop !)) (sub ! 0 refl (whole !)))) refl (tt, record { fits = lit< tt }) $
    sets ! (of_opd ! (get_in ! (fld ! refl (stop !)) (sub ! 1 refl (whole !)))) refl (tt, tt) $
    sets ! (of_opd ! (get_in ! (fld ! refl (stop !)) (sub ! 2 refl (whole !)))) refl fits $
    sets ! (un ! (get ! refl) tt) refl (tt, tt) $ first ! $ branches ! (get ! refl)
    (λ _. sets ! (of_opd ! (get ! refl)) refl fits $ sets ! (agg ! (and_then ! (lit ! tt) (and_then ! (get ! refl) (no_more !)))) refl good $
    use1 𝓛 (‵ (Out.own_val (Err a) (back ∷ []))) (err_of 𝓛 B Z a h) $
    use0 𝓛 (raw (fact 𝓤 (v.value ≡ None))) (fact_i 𝓤 (v.value ≡ None) (emp 𝓤) none) $ nothing ! $ nothing ! $ fjoin ! $
    returns_within ! Post refl (look_at ! 0 refl) $ free_all ! refl $ keep ! (4 ∷ 0 ∷ 2 ∷ 1 ∷ []) $
    by ! (leaves 𝓛 En hs c z back (Err a) ((tt, (tt, (tt, tt))), tt) (tt, tt)))
    (λ wrong. absurd wrong)))
    -- on
    (λ x b o has on at. let w : Val = word (vptr b o) true h in let us = ws ∙ (λ i. word (ptr_val (at i)) (on i) h ∷ []) in
    let y : k.Ghost = ((κs, qs, tt, (a, (block_ptr b o, tt)), (h ∷ [], (vptr b o ∷ [], tt))), x) in
    -- what the call asks for: the tokens, its two arguments, that both types live, and the box
    move ! (4 ∷ []) $ use1 𝓛 (raw (fact 𝓤 (κs.0 ⊑ T.lives)) ⊛ raw (fact 𝓤 (κs.1.0 ⊑ A.lives)) ⊛ ‵ ftrue) (id⊢ 𝓤 _) $ split3 ! $ move ! (2 ∷ []) $ drop ! $
    move ! (1 ∷ 2 ∷ []) $ join ! $ move ! (1 ∷ 0 ∷ []) $ join ! $
    move ! (2 ∷ []) $ feq_i ! (List Val) (vptr b o ∷ []) (vptr b o ∷ []) refl $ fjoin ! $ move ! (2 ∷ 0 ∷ []) $ fjoin ! $
    move ! (2 ∷ 0 ∷ []) $ join ! $ join ! $ use1 𝓛 (raw (k.pre y)) (id⊢ 𝓤 _) $
    suffices ! (Run (w ∷ [])) (subst (λ (xs : List Val). ent 𝓤 (Run (w ∷ [])) (Run xs)) (sym (λ i. us i ++ [])) (id⊢ 𝓤 (Run (w ∷ [])))) $
    enter ! 𝓣.C 𝓣.Λ fn (w ∷ []) Post $ alloc_all ! (λ l. pass_all ! refl (block_good Z b o h fits, tt) $ let Ev = env fn.locals l in
    sets ! (of_opd ! (get_in ! (fld ! refl (stop !)) (sub ! 0 refl (whole !)))) refl (tt, tt) $
    sets ! (of_opd ! (get_in ! (fld ! refl (stop !)) (sub ! 1 refl (whole !)))) refl (tt, tt) $
    sets ! (of_opd ! (get_in ! (fld ! refl (stop !)) (sub ! 2 refl (whole !)))) refl fits $
    sets ! (un ! (get ! refl) tt) refl (tt, tt) $ first ! $ branches ! (get ! refl) (λ wrong. absurd wrong)
    (λ _. skips ! $ exec ! 𝓣.C 𝓣.Λ Ev (after 5 fn.body) (at_ret Ev Post) $ first ! $ blocks ! $ sets ! (of_opd ! (get ! refl)) refl fits $
    calls_at_last ! (fm 𝓛 𝓜 𝓡) k (met 𝓤 𝓛 𝓜 𝓡 (code.calls-std_alloc::boxed::Box::from_raw 𝓡.env wired) T A L LA g d dd allocator glued) y (and_then ! (get ! refl) (and_then ! (get ! refl) (no_more !))) (λ u.
    use1 𝓛 (later (some (λ (r : B.Denot). (tokens ⊛ ‵ (B.own_val r (u ∷ []))) ⊛ some (λ (ls : Lasts (from_raw.ended T A g d dd) κs y.0.3).
    ‵ (lasts (from_raw.ended T A g d dd) κs y.0.3 ls) ⊛ (raw (fact 𝓤 (r.value ≡ x)) ⊛ raw (fact 𝓤 (r.alloc ≡ a))))))) (id⊢ 𝓤 (k.post y u)) $
    await ! tt $ pick ! (λ r. split ! $ move ! (1 ∷ []) $ pick ! (λ _. split3 ! $ drop ! $ heard ! (r.value ≡ x) (λ same. drop ! $ split ! $ move ! (1 ∷ []) $
    box_out E ! r (u ∷ []) (λ b₁ o₁ h₁ at₁ word₁ fits₁. box_in E ! r b₁ o₁ r.value at₁ refl $ rewrite ! 0 (λ (xs : List Val). ‵ (B.own_val r xs)) (sym word₁) refl $
    let good : Good (layout B) u = subst (Good (layout B)) (sym (ap only word₁)) (box.box_typed E h₁ b₁ o₁ fits₁) in
    let made : Val = live 0 (of_list (u ∷ [])) in let result_good : Good (layout Out) made = (and_tt _ good.0, (record { fits = lit< tt }, (good.1, tt))) in
    lands_last ! refl good $ exec ! 𝓣.C 𝓣.Λ Ev (after 6 fn.body) (at_ret Ev Post) $
    sets ! (of_opd ! (get ! refl)) refl good $ sets ! (of_opd ! (get ! refl)) refl good $
    sets ! (agg ! (and_then ! (lit ! tt) (and_then ! (get ! refl) (no_more !)))) refl result_good $
    use1 𝓛 (‵ (Out.own_val (Ok r) (made ∷ []))) (ok_of 𝓛 B Z r u) $
    use0 𝓛 (raw (fact 𝓤 (v.value ≡ Some r.value))) (fact_i 𝓤 (v.value ≡ Some r.value) (emp 𝓤) (has ∙ ap Some (sym same))) $ nothing ! $ nothing ! $ fjoin ! $
    returns ! (look_at ! 0 refl) $ free_all ! refl $ keep ! (3 ∷ 0 ∷ 2 ∷ 1 ∷ []) $
    by ! (leaves 𝓛 En hs c z made (Ok r) ((tt, (tt, (tt, tt))), tt) (tt, tt))))))))))))
