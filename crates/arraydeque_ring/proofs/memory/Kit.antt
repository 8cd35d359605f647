-- The names that the proofs by hand of this crate cite, under one roof. Assumes `Logic`.
--
-- The parts of a walk, in their order:
--   f, stated, code             contract, statement and compiled code, written by the tool
--   E, here                     the items' type with its laws; the code at that type
--   walked m L (..)             the parameters one by one: `mutable` for a `&mut`, `seen` for a `&`, and by value
--                               `word`, `item`, `whole_slots`, `handle` or `told`, last `words n`; m lifetimes besides
--                               the first. `method` is `walked` for a `&mut` and words, `passing_on` the same if what
--                               is owned goes on to a call in one piece
--   (.. fit post ends.          lifetimes, their tokens and bounds, the arguments, the contract's ghosts, that the
--                               machine stores these arguments, the goal at the return, how the walk ends
--   drop, move, keep            what is required, what is had of the parameters, the tokens, in order
--   first_fact, heard           a requirement, or what a call ensures, as a fact: each but the last, the last
--   alloc_all, pass_all         the locals come, holding the arguments
--   slots_open, slots_close     the region behind the `&mut` as places and pointer, and back with other places or
--                               steps
--   sets, after_block           an assignment; on past a block
--   knows, calls_met, returned  what is known is handed to a call, and what that gives is taken apart
--   returns, free_all           the result is read; the locals go
--   suffices .. ends, frame, join, says, done
--                               what is owed, in order: what is left of the parameters, the result, the tokens, the
--                               `ensures`
-- A comment in brackets lists what is owned. The names come from here, `Called`, `Methods` and,
-- for the region, `Regions`.
pub use mathlib.Core.{
  Path.{◌≡◌, refl, sym, ap, subst, ◌∙◌},
  Bool.{Bool, true, false},
  List.{List, [], ◌∷◌, ◌++◌, map},
  Logic.{inl, inr},
}
pub use Prim.Native.Nat.{ℕ, zero, suc, ◌+◌, ◌*◌, ◌<◌, ◌≤◌, ◌^◌}
pub use native.Mathlib.{Omega.arith, Nat.{zero-mul, suc-mul}}
pub use lib.{
  Dec.lit<,
  ListN.{length, take, drop as drop_list, set, get_or, replicate, take-append-drop, length-take},
  ListN.{length-map, length-set, length-replicate},
  Seq.{drop-cons, set_split},
}
pub use Rattle.std.{
  specs.{Prelude.{Option, Some, None, Ok, Err}, Mem.type_size, declared.alloc.Global.Global},
  proofs.{
    Handle.{heap_val, heap_Tells},
    RawLayout.{as_written, as_raw},
    RcSteps.{Good, first_Good},
    VecSteps.Shapes.{after, head, arm_body},
    mem.{Facts.says_two, Param.{El, R, args, el_x, elτ, lawful, one}},
    ptr.Rows.times_below,
    raw_atomic.Walks.proved_at,
    lemmas.Grind.common_steps,
  },
}
pub use seplogic.Ra.Ura.{Ura}
pub use base.{
  Fraction.full_share,
  Stored.Gv,
  Logic.{SProp, ent, sep, emp, ex, guard, guard_i, wand, via, id⊢, never, snd∗, mono_r, all, all_e},
  Logic.{apply∗, upd_i, wand_i},
  Fml.{Lft, Share, GName, Fml, ftrue, fsep, fat, froom, flft, fobs, fauth, fbor, fobor, fhide},
  Fml.{fdead, fex, flent, fres, fupd, fwand},
}
pub use mir.{
  Syntax.{Fn, Body, Ty, named, w64, ty_array, a_number, a_type},
  MapTy.inst_fn,
  Val.{Val, vunit, vint, vptr, vstruct, vcons, vnil, of_list},
}
pub use prog.{
  Memory.{Memory, size, align, capped},
  Routine.Routine,
  Capped.capped_fits,
  Wp.{Env, WpFn, Wp, after_seq, at_return},
}
pub use contract.{BorrowLft.◌⊑◌, Monad.{Fun, fact, fact_i, fact_use}, Running.tables}
pub use types.{
  Logic.{Logic, sem},
  SemTy.{Body as Borrowed, SemTy, cells},
  Kit.{Goal, Soaks, Step, step, Seq, Item, Post as After, ‵, raw, ◌⊛◌, some, given, later, at_ret},
  Kit.{any_q, ◌$◌, ◌∵◌, !, qed, by, move, keep, drop, use0, use1, use2, use3, split, join, pick},
  Kit.{learn, show, frame, fsplit, fsplit3, fjoin, fjoin3, fpick, fpack, feq_i, feq_l, flt_i},
  Kit.{flt_l, rewrite, suffices, await, updating, done, assume, each, group, split3},
  Part.{whole, sub, look_in, agg},
  Match.{live, vrt, in_variant},
  Run.{enter, of_opd, lit, unit_lit, size_word, align_word, bin, addr, from, load, look, init},
  Run.{stop, fld, no_more, and_then, assigns_last, first, blocks, branches, skips, switches_on},
  Run.{exec, returns},
  ByLocal.{alloc_all, pass_all, free_all, look_at, get, get_in, get_tag, through, sets, sets_last},
  ByLocal.{lands_as, lands_last, is, env},
  Follow.after₂,
  Tokens.name_new,
}
pub use denote.{
  Exit.{yes, no},
  RattleType.{RattleType, Valss, owns},
  Laws.{Is, shows},
  Param.{layout, layouts, number, Laws.param_laws},
  Memory.{part_at, cell_at, hidden_shr, mem, lone},
  Plain.uint_vals,
  RawPtr.{Ptr, RawPtr, block_ptr, null_ptr, ptr_val, in_a_block},
  Ref.{shr_Tells, MutBor, NamedLft, mut_Tells, mut_vals},
  Builtin.usize,
  Signature.{plain, types_at, named_lft},
  Steps.{heard, nothing, owned, opens, closes, peeks, looks, shuts, only},
  Triple.{
    Call.{calls_at, calls_at_last},
    Spec.triple_of,
    Statement.Contract,
    Table.framed,
    Walked.{Stays, walk_of, says, stay_dropped, stay_ref, Goes-dropped, Goes-ref, Goes-spent_ref},
    Clauses.{Lasts, lasts},
  },
  Array.Array,
  Follow.follows,
  Shadow.{makes_shadow, pure_i},
  Slice.{MutSlice, elements_shared, slice_val},
  Struct.Struct.Struct,
}
pub use borrow.Table.OneValue.{part_in, part_out}
unfoldable pub use base.Fml.{fseps}
unfoldable pub use denote.Memory.{part_of}
unfoldable pub use denote.Follow.{both_by}
