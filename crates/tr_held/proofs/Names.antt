-- The names that the proofs of this crate, and of crates with handles of their own, cite.
pub use Rattle.std.proofs.Common.{◌≡◌, ℕ, List, [], ◌∷◌, ◌++◌, refl, sym, ap, ◌∙◌, subst, lit<}
pub use mathlib.Core.Bool.{Bool, true, false, ◌&&◌}
pub use mir.Val.{Val, vptr, vbool, vstruct, vcons, vnil, of_list, has_ty, WT}
pub use base.Logic.{SProp, ent, emp, id⊢}
pub use base.Fml.{Fml, ftrue, fsep, flft}
pub use prog.Wp.{WpFn}
pub use types.Kit.{‵, raw, ◌⊛◌, some, later, at_ret, ◌$◌, ◌∵◌, !, qed, by, move, keep, drop, split, split3, join, fsplit, fjoin, fpick, fpack, pick, suffices, use0, use1, await, rewrite, feq_i, feq_l}
pub use types.Run.{stop, fld, lit, true_lit, false_lit, of_opd, no_more, and_then, first, blocks, branches, exec, returns, enter}
pub use types.ByLocal.{alloc_all, pass_all, free_all, look_at, get, get_in, sets, sets_last, lands_as, lands_last, env}
pub use types.Part.{agg, sub, whole}
pub use types.Match.{live}
pub use contract.Monad.{fact, fact_i}
pub use contract.Running.{tables}
pub use denote.RattleType.{RattleType, owns}
pub use denote.Signature.{types_at, type_at, plain}
pub use denote.RawPtr.{Ptr, RawPtr, block_ptr, null_ptr, ptr_val, in_a_block}
pub use denote.Steps.{nothing, only, heard}
pub use denote.Param.{param, layout, bounded}
pub use denote.Param.Laws.{Laws, param_laws}
pub use denote.Triple.Clauses.{Lasts, lasts}
pub use denote.Triple.Spec.{triple_of}
pub use denote.Triple.Walked.{Stays, stay_dropped, walk_of}
pub use Rattle.core.proofs.alloc.Calls.{Goes-blank, handle_tells}
pub use Rattle.core.proofs.alloc.Shapes.{after}
pub use Rattle.core.proofs.cell.Inside.{Good}
pub use Rattle.std.proofs.raw_atomic.Walks.{proved_at, leaves}
pub use Rattle.std.specs.declared.option.Option.{Option}
pub use Rattle.std.specs.declared.option.Option.TheVariants.{None, Some}
