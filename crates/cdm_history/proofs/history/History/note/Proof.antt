-- An empty body: the borrow of the history is opened, and closed at one note more.
use Rattle.std.proofs.Common.{ℕ, List, [], ◌∷◌, ◌++◌, ◌<◌, ◌^◌, length, refl, MutBor}
use seplogic.Ra.Ura.{Ura}
use mir.Syntax.{Fn, a_type, named}
use mir.Val.{Val, vunit, vptr}
use mir.MapTy.{inst_fn}
use base.Logic.{SProp, ent, sep, emp, via, fst∗, id⊢}
use base.Fml.{Fml, GName, Lft, Share, ftrue, flft, fobs, fbor}
use prog.Memory.{Memory}
use prog.Routine.{Routine}
use prog.Wp.{Calls, Loops, WpFn, Tables}
use types.Logic.{Logic}
use contract.Monad.{Fun}
use contract.Lifetimes.{AllOutlive}
use contract.Running.{tables, tables_of}
use types.Kit.{‵, ◌⊛◌, ◌$◌, ◌∵◌, !, qed, by, move, keep, drop, use1, split, join, fsplit, fsplit3, fjoin, fjoin3, feq_i, suffices, frame, done}
use types.Run.{unit_lit, of_opd, returns, enter}
use types.SemTy.{Body}
use types.ByLocal.{alloc_all, pass_all, free_all, look_at, sets}
use sound.WpLaws.{WpFn-mono}
use denote.Builtin.{u8}
use denote.Exit.{yes}
use denote.Memory.{mem}
use denote.Param.{param, layouts}
use denote.RattleType.{RattleType, owns}
use denote.Ref.{Bor, MutRef, ShrRef, mut_vals, mut_Tells, shr_vals, shr_Tells}
use denote.Signature.{plain}
use denote.Slice.{ShrSlice, slice_val, shr_slice_vals, shr_slice_Tells}
use denote.Steps.{opens, closes}
use denote.Triple.Clauses.{Clauses, Ended, closing}
use denote.Triple.Entry.{on_entry}
use denote.Triple.Spec.{Meets, triple_of}
use denote.Triple.Table.{entered}
use denote.Triple.Walked.{says, Stays, stay_ref, stay_none_ref, stay_none_slice, walk_of, AllGo, Goes-ref, Goes-none_ref, Goes-none_slice, Walks, ends_at, walked, walk_Meets}
use Rattle.cdm_history.specs.contracts.history.History as histories
use Rattle.cdm_history.specs.contracts.history.History.note.Key.{name as #note}
use Rattle.cdm_history.specs.contracts.history.History.note as clause
use Rattle.cdm_history.proofs.history.History.note.Statement as stated
use Rattle.cdm_history.proofs.history.History.note.Code as code

module _ (K : RattleType) where
  -- what happens, and a history of it
  abbrev happenings : RattleType
  happenings = param 0 K

  abbrev row : RattleType
  row = histories.the_row happenings

  abbrev Arguments : Type 0
  Arguments = MutBor row.Denot × (Bor happenings.Denot × (Bor (List ℕ) × Unit {0}))

  abbrev function : Fn
  function = inst_fn (layouts (a_type ∷ []) (K, tt)) code.function

  abbrev ended : Ended
  ended = clause.ended K

  abbrev stayed : Stays ended.signature.params ended.kept
  stayed = (stay_ref (0 ∷ []) tt (plain (λ _. row)), (stay_none_ref (1 ∷ []) tt (plain (λ _. happenings)) yes, (stay_none_slice (2 ∷ []) tt (plain (λ _. u8)) yes, tt)))

  -- lives and shares of the three borrows and of what happens, where the history lies, what it was, what has happened and its bytes
  module _ {M : Type 1} {𝓤 : Ura M} (𝓛 : Logic 𝓤) (at_mem : Memory → SProp 𝓤) (run : Routine → Fun 𝓤) (κ κ' κ'' κ-of : Lft) (q q' q'' q-of : Share) (outlive : AllOutlive ended.signature.lifetimes ended.signature.outlives (κ, (κ', (κ'', (κ-of, tt))))) (block offset : ℕ) (γ : GName) (before : row.Denot) (happening : Bor happenings.Denot) (bytes : Bor (List ℕ)) where
    open 𝓛 use {H, A}

    abbrev held : Clauses 𝓤 ended
    held = clause.clauses K 𝓛 at_mem run

    abbrev arguments : Arguments
    arguments = (record { ref_ptr = (block, offset); ghost_name = γ; now = before }, (happening, (bytes, tt)))

    abbrev after : row.Denot
    after = record { marker = before.marker; notes = before.notes ++ (happening.now, bytes.now) ∷ [] }

    abbrev values : List Val × (List Val × (List Val × Unit {0}))
    values = (vptr block offset ∷ [], (vptr happening.ref_ptr.0 happening.ref_ptr.1 ∷ [], (slice_val bytes.ref_ptr (length bytes.now) ∷ [], tt)))

    abbrev borrowed : Fml
    borrowed = owns (ShrRef (named 1) κ' happenings ∷ ShrSlice (named 2) κ'' u8 ∷ []) arguments.1 values.1

    abbrev Post : Val → SProp 𝓤
    Post = (walk_of 𝓛 ended stayed held).post (((κ, (κ', (κ'', (κ-of, tt)))), (q, (q', (q'', (q-of, tt)))), outlive, arguments, values), tt)

    exits : ent 𝓤 (sep 𝓤 (A.obs γ (row.coded.code after)) (sep 𝓤 (A.bor κ (Body (mem row) block offset γ)) (sep 𝓤 (A.lft κ q) (sep 𝓤 (types.Logic.sem 𝓛 borrowed) (sep 𝓤 (A.lft κ' q') (sep 𝓤 (A.lft κ'' q'') (sep 𝓤 (A.lft κ-of q-of) (emp 𝓤)))))))) (Post vunit)
    exits =
        qed 𝓛 (‵ (fobs γ (row.coded.code after)) ∷ ‵ (fbor κ (Body (mem row) block offset γ)) ∷ ‵ (flft κ q) ∷ ‵ borrowed ∷ (‵ (flft κ' q') ⊛ (‵ (flft κ'' q'') ⊛ (‵ (flft κ-of q-of) ⊛ ‵ ftrue))) ∷ []) ∵
        suffices ! _ (ends_at 𝓛 ended stayed held (((κ, (κ', (κ'', (κ-of, tt)))), (q, (q', (q'', (q-of, tt)))), outlive, arguments, values), tt) vunit tt (after, (tt, (tt, tt))) (tt, (tt, (tt, tt)))) $ says ! refl $ move ! (2 ∷ 4 ∷ []) $ join ! $
        frame ! $ feq_i ! (List Val) (vptr block offset ∷ []) (vptr block offset ∷ []) refl $ fjoin3 ! $ fjoin ! $
        feq_i ! (List Val) (vunit ∷ []) (vunit ∷ []) refl $ move ! (1 ∷ 0 ∷ []) $ done !

    module _ (C : Calls 𝓤 H) (Λ : Loops 𝓤 H) where
      walk : length bytes.now < 2 ^ 64 → ent 𝓤 (on_entry 𝓛 ended.signature (κ, (κ', (κ'', (κ-of, tt)))) (q, (q', (q'', (q-of, tt)))) arguments values) (WpFn 𝓤 H C Λ function (vptr block offset ∷ vptr happening.ref_ptr.0 happening.ref_ptr.1 ∷ slice_val bytes.ref_ptr (length bytes.now) ∷ []) Post)
      walk bytes_fit =
          qed 𝓛 ((‵ (flft κ q) ⊛ (‵ (flft κ' q') ⊛ (‵ (flft κ'' q'') ⊛ (‵ (flft κ-of q-of) ⊛ ‵ ftrue)))) ∷ ‵ (owns (MutRef (named 0) κ row ∷ ShrRef (named 1) κ' happenings ∷ ShrSlice (named 2) κ'' u8 ∷ []) arguments values) ∷ []) ∵ split ! $ move ! (2 ∷ []) $ fsplit ! $ fsplit3 ! $ drop ! $ move ! (0 ∷ 1 ∷ 3 ∷ []) $
          enter ! C Λ function (vptr block offset ∷ vptr happening.ref_ptr.0 happening.ref_ptr.1 ∷ slice_val bytes.ref_ptr (length bytes.now) ∷ []) _ $
          alloc_all ! (λ l. pass_all ! refl ((tt, tt), ((tt, tt), ((tt, (tt, (record { fits = bytes_fit }, tt))), tt))) $
          move ! (0 ∷ 1 ∷ 2 ∷ []) $ opens ! tt row {h = before} block offset (λ lies.
          sets ! (of_opd ! (unit_lit !)) refl (tt, tt) $
          move ! (1 ∷ []) $ use1 𝓛 (‵ (row.own_val after lies)) (id⊢ 𝓤 _) $ move ! (1 ∷ 0 ∷ []) $ closes ! tt row after lies block offset $
          returns ! (look_at ! 0 refl) $ free_all ! refl $
          keep ! (0 ∷ 1 ∷ 2 ∷ 3 ∷ 4 ∷ []) $ by ! exits))

  module _ {M : Type 1} {𝓤 : Ura M} (𝓛 : Logic 𝓤) (at_mem : Memory → SProp 𝓤) (run : Routine → Fun 𝓤) where
    abbrev clauses : Clauses 𝓤 ended
    clauses = clause.clauses K 𝓛 at_mem run

    walks : (C : Calls 𝓤 𝓛.H) (Λ : Loops 𝓤 𝓛.H) → Walks 𝓛 ended stayed (WpFn 𝓤 𝓛.H C Λ function) clauses
    walks C Λ = walked 𝓛 ended stayed clauses (WpFn 𝓤 𝓛.H C Λ function) (λ κs. (mut_vals, (shr_vals, (shr_slice_vals, tt)))) (λ κs. (mut_Tells (named 0) κs.0 row, (shr_Tells (named 1) κs.1.0 happenings, (shr_slice_Tells (named 2) κs.1.1.0 u8, tt))))
        (λ κs qs bounds a g are. via 𝓤 _ (fst∗ 𝓤 _ ((clauses κs a).requires g)) (walk 𝓛 at_mem run κs.0 κs.1.0 κs.1.1.0 κs.1.1.1.0 qs.0 qs.1.0 qs.1.1.0 qs.1.1.1.0 bounds a.0.ref_ptr.0 a.0.ref_ptr.1 a.0.ghost_name a.0.now a.1.0 a.1.1.0 C Λ are.1.1.0.0.1.0))

    goes : AllGo 𝓛 4 ended.signature.params ended.kept stayed
    goes = (Goes-ref 𝓛 4 0 tt (plain (λ _. row)), (Goes-none_ref 𝓛 4 (1 ∷ []) tt (plain (λ _. happenings)) yes, (Goes-none_slice 𝓛 4 (2 ∷ []) tt (plain (λ _. u8)) yes, tt)))

    meets : (𝓣 : Tables 𝓤 𝓛.H) → Meets 𝓛 ended.signature (WpFn 𝓤 𝓛.H 𝓣.C 𝓣.Λ function) (closing 𝓛 ended clauses)
    meets 𝓣 =
        walk_Meets 𝓛 ended stayed goes clauses (WpFn 𝓤 𝓛.H 𝓣.C 𝓣.Λ function) (WpFn-mono 𝓤 𝓛.H 𝓛.laws 𝓣 function) (walks 𝓣.C 𝓣.Λ)

pub note_spec : {M : Type 1} → stated.statement M
unfolding tables_of
note_spec 𝓤 𝓛 𝓜 𝓡 wired K LK =
    let 𝓣 : Tables 𝓤 𝓛.H = tables_of 𝓤 𝓛.H 𝓜 (tables 𝓤 𝓛.H 𝓜 𝓡 𝓡.env) in
    entered 𝓤 𝓛.H (triple_of 𝓛 (ended K).signature (closing 𝓛 (ended K) (clauses K 𝓛 𝓜.mem 𝓡.returns))) 𝓣.C 𝓣.Λ (#note (layouts (a_type ∷ []) (K, tt))) (function K)
    (code.unfolded 𝓤 𝓛.H 𝓜 𝓡 wired (K, tt)) (meets K 𝓛 𝓜.mem 𝓡.returns 𝓣)
