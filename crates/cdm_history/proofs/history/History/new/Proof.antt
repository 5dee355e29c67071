-- A value without bytes is made, at no notes.
use Rattle.std.proofs.Common.{List, [], ◌∷◌, refl}
use seplogic.Ra.Ura.{Ura}
use mir.Syntax.{Fn, Args, a_type}
use mir.Val.{Val, vstruct, vcons, vnil}
use mir.MapTy.{inst_fn}
use base.Logic.{SProp, ent}
use prog.Memory.{Memory}
use prog.Routine.{Routine}
use prog.Wp.{Calls, Loops, WpFn, Tables}
use contract.Monad.{Fun}
use contract.Running.{tables, tables_of}
use sound.WpLaws.{WpFn-mono}
use types.Logic.{Logic}
use types.Kit.{‵, raw, ◌⊛◌, ◌$◌, ◌∵◌, !, qed, move, keep, split, fjoin, feq_i, fpack, suffices, done}
use types.Part.{agg}
use types.Run.{enter, returns, and_then, no_more}
use types.ByLocal.{alloc_all, pass_all, free_all, look_at, get, sets}
use denote.RattleType.{RattleType, Valss, owns}
use denote.Laws.{Is}
use denote.Param.{param, layouts}
use denote.Signature.{types_at}
use denote.Steps.{nothing, owned}
use denote.Struct.Laws.{makes}
use denote.Struct.Struct.{within}
use denote.Triple.Clauses.{Clauses, Ended, closing}
use denote.Triple.Entry.{alive}
use denote.Triple.Spec.{Meets, triple_of}
use denote.Triple.Table.{entered}
use denote.Triple.Walked.{says, Stays, walk_of, ends_at, walk_Meets}
use Rattle.std.specs.contracts.marker.PhantomData as markers
use Rattle.cdm_history.specs.contracts.history.History as histories
use Rattle.cdm_history.specs.contracts.history.History.new as clause
use Rattle.cdm_history.specs.contracts.history.History.new.Key.{name as #new}
use Rattle.cdm_history.proofs.history.History.new.Statement as stated
use Rattle.cdm_history.proofs.history.History.new.Code as code

-- the marker is a struct of no fields, and so is all that stands in memory
abbrev nothing_in : Val
nothing_in = vstruct vnil

abbrev made_of : Val → Val
made_of v = vstruct (vcons v vnil)

module _ (H : RattleType) where
  abbrev args : Args
  args = layouts (a_type ∷ []) (H, tt)

  abbrev marker : RattleType
  marker = markers.the_row (param 0 H)

  abbrev function : Fn
  function = inst_fn args code.function

  abbrev ended : Ended
  ended = clause.ended H

  abbrev stayed : Stays ended.signature.params ended.kept
  stayed = tt

  module _ {M : Type 1} {𝓤 : Ura M} (𝓛 : Logic 𝓤) (at_mem : Memory → SProp 𝓤) (run : Routine → Fun 𝓤) where
    abbrev held : Clauses 𝓤 ended
    held = clause.clauses H 𝓛 at_mem run

    module _ (C : Calls 𝓤 𝓛.H) (Λ : Loops 𝓤 𝓛.H) (z : (walk_of 𝓛 ended stayed held).Ghost) where
      abbrev Post : Val → SProp 𝓤
      Post = (walk_of 𝓛 ended stayed held).post z

      abbrev lives : SProp 𝓤
      lives = alive 𝓛 ended.signature z.0.0 z.0.1

      abbrev empty : (histories.the_row (param 0 H)).Denot
      empty = record { marker = record {}; notes = [] }

      walks : ent 𝓤 ((walk_of 𝓛 ended stayed held).pre z) (WpFn 𝓤 𝓛.H C Λ function ((walk_of 𝓛 ended stayed held).args z) Post)
      walks =
          qed 𝓛 ((raw lives ⊛ ‵ (owns (types_at ended.signature.params z.0.0) z.0.3 z.0.4)) ∷ raw ((held z.0.0 z.0.3).requires z.1) ∷ []) ∵
          keep ! (0 ∷ []) $ split ! $ keep ! (0 ∷ []) $
          enter ! C Λ function [] Post $ alloc_all ! (λ l. pass_all ! refl tt $
          sets ! (agg ! (no_more !)) refl (tt, tt) $
          sets ! (agg ! (and_then ! (get ! refl) (no_more !))) refl (tt, (tt, tt)) $
          nothing ! $ owned ! marker (Is marker) (makes (markers.the_type (param 0 H)) tt 𝓛) (record {}) (nothing_in ∷ []) (tt, (refl, tt)) $
          nothing ! $ move ! (1 ∷ 0 ∷ []) $ fjoin ! $ feq_i ! (List Val) (made_of nothing_in ∷ []) (made_of nothing_in ∷ []) refl $ fjoin ! $
          fpack ! (Valss (marker ∷ [])) (within (record { name = []; args = []; types = []; fields = marker ∷ [] }) (record {}, tt) (made_of nothing_in ∷ [])) (nothing_in ∷ [], tt) $ fjoin ! $
          returns ! (look_at ! 0 refl) $ free_all ! refl $
          suffices ! _ (ends_at 𝓛 ended stayed held z (made_of nothing_in) empty tt tt) $ says ! refl $
          nothing ! $ move ! (2 ∷ 0 ∷ 1 ∷ []) $ done !)

    meets : (𝓣 : Tables 𝓤 𝓛.H) → Meets 𝓛 ended.signature (WpFn 𝓤 𝓛.H 𝓣.C 𝓣.Λ function) (closing 𝓛 ended held)
    meets 𝓣 =
        walk_Meets 𝓛 ended stayed tt held
        (WpFn 𝓤 𝓛.H 𝓣.C 𝓣.Λ function) (WpFn-mono 𝓤 𝓛.H 𝓛.laws 𝓣 function) (walks 𝓣.C 𝓣.Λ)

pub new_spec : {M : Type 1} → stated.statement M
unfolding tables_of
new_spec 𝓤 𝓛 𝓜 𝓡 wired H LH =
    let 𝓣 : Tables 𝓤 𝓛.H = tables_of 𝓤 𝓛.H 𝓜 (tables 𝓤 𝓛.H 𝓜 𝓡 𝓡.env) in
    entered 𝓤 𝓛.H (triple_of 𝓛 (ended H).signature (closing 𝓛 (ended H) (held H 𝓛 𝓜.mem 𝓡.returns))) 𝓣.C 𝓣.Λ (#new (args H)) (function H)
    (code.unfolded 𝓤 𝓛.H 𝓜 𝓡 wired (H, tt)) (meets H 𝓛 𝓜.mem 𝓡.returns 𝓣)
