-- What is made has no bytes and owns nothing.
use Rattle.std.proofs.Common.{◌≡◌, List, [], ◌∷◌, ◌++◌, refl, sym, subst}
use mir.Syntax.{a_type}
use mir.MapTy.{inst_fn}
use mir.Val.{Val, vptr, vstruct, vcons, vnil}
use base.Logic.{SProp, ent, emp, id⊢}
use base.Fml.{Fml, ftrue, flft}
use prog.Wp.{WpFn}
use types.Kit.{‵, raw, ◌⊛◌, ◌$◌, ◌∵◌, !, qed, by, keep, split, fjoin, suffices, use0}
use types.Run.{of_opd, no_more, and_then, returns, enter}
use types.ByLocal.{alloc_all, pass_all, free_all, look_at, get, sets}
use types.Part.{agg}
use contract.Monad.{fact, fact_i}
use contract.Running.{tables}
use denote.Exit.{yes}
use denote.Builtin.{RefOf}
use denote.Param.{param, layouts}
use denote.RattleType.{RattleType, owns}
use denote.Shadow.{makes_shadow}
use denote.Signature.{types_at, type_at, plain}
use denote.Steps.{nothing}
use denote.Triple.Walked.{Stays, stay_dropped, walk_of, Goes-dropped}
use Rattle.std.proofs.raw_atomic.Walks.{proved_at, leaves}
use Rattle.tr_book.specs.contracts.seen.Seen as Seen
use Rattle.tr_book.specs.contracts.seen.Seen.new.{ended, clauses}
use Rattle.tr_book.specs.contracts.seen.Seen.new.Key.{name as #self}
use Rattle.tr_book.proofs.seen.Seen.new.Statement.{statement}
use Rattle.tr_book.proofs.seen.Seen.new.Code as code

-- a struct of no bytes, and one that has it for its field
abbrev none : Val
none = vstruct vnil

abbrev made_val : Val
made_val = vstruct (vcons none vnil)

pub new_spec : {M : Type 1} → statement M
new_spec 𝓤 𝓛 𝓜 𝓡 wired T L =
    let Y : RattleType = param 0 T in let S = RefOf (0 ∷ []) tt (plain (λ _. Y)) (λ _. tt) in
    let En = ended T in let c = clauses T 𝓛 𝓜.mem 𝓡.returns in
    let types = layouts (a_type ∷ []) (T, tt) in let fn = inst_fn types code.function in let 𝓣 = tables 𝓤 𝓛.H 𝓜 𝓡 𝓡.env in
    let hs : Stays En.signature.params En.kept = (stay_dropped S yes, tt) in
    proved_at 𝓛 En hs c 𝓜 𝓡 (Goes-dropped 𝓛 2 S yes (λ κs x f. refl), tt) (#self types) fn (code.unfolded 𝓤 𝓛.H 𝓜 𝓡 wired (T, tt)) (λ z are.
    let κs = z.0.0 in let qs = z.0.1 in let x = z.0.3.0 in
    let Post : Val → SProp 𝓤 = (walk_of 𝓛 En hs c).post z in let Run : List Val → SProp 𝓤 = λ ws. WpFn 𝓤 𝓛.H 𝓣.C 𝓣.Λ fn ws Post in
    let at : Val = vptr x.ref_ptr.0 x.ref_ptr.1 in let e : z.0.4.0 ≡ at ∷ [] = are.0.0 in
    let made : (Seen.the_row Y).Denot = record { marker = record {}; of = x.now } in
    let O : Fml = (type_at En.signature.result κs).own_val made (made_val ∷ []) in
    let tokens = ‵ (flft κs.0 qs.0) ⊛ ‵ (flft κs.1.0 qs.1.0) ⊛ ‵ ftrue in
    qed 𝓛 ((tokens ⊛ ‵ (owns (types_at En.signature.params κs) z.0.3 z.0.4)) ∷ raw ((c κs z.0.3).requires z.1) ∷ []) ∵
    split ! $ keep ! (0 ∷ []) $
    suffices ! (Run (at ∷ [])) (subst (λ (us : List Val). ent 𝓤 (Run (at ∷ [])) (Run us)) (sym (λ i. e i ++ [])) (id⊢ 𝓤 (Run (at ∷ [])))) $
    enter ! 𝓣.C 𝓣.Λ fn (at ∷ []) Post $ alloc_all ! (λ l. pass_all ! refl ((tt, tt), tt) $
    sets ! (agg ! (no_more !)) refl (tt, tt) $
    sets ! (agg ! (and_then ! (get ! refl) (no_more !))) refl (tt, (tt, tt)) $
    use0 𝓛 (‵ O) (makes_shadow 𝓛 O ((λ vs. (tt, ((λ us. (tt, tt)), tt))), tt) (((none ∷ [], tt), (refl, ((tt, (refl, tt)), tt))), tt)) $
    use0 𝓛 (raw (fact 𝓤 (made.of ≡ x.now))) (fact_i 𝓤 (made.of ≡ x.now) (emp 𝓤) refl) $ nothing ! $ nothing ! $ fjoin ! $
    returns ! (look_at ! 0 refl) $ free_all ! refl $ keep ! (3 ∷ 0 ∷ 2 ∷ 1 ∷ []) $
    by ! (leaves 𝓛 En hs c z made_val made (tt, tt) (tt, tt))))
