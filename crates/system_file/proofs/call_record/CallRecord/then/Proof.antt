-- An empty struct is made, at the value that the clause names; the arguments are only read by that. Assumes `Logic`.
use Rattle.std.proofs.Common.{[], ◌∷◌, refl}
use Rattle.std.proofs.raw_atomic.Walks.{proved}
use base.Fml.{ftrue}
use mir.Syntax.{named}
use mir.Val.{Val, vstruct, vnil}
use types.Kit.{‵, raw, ◌⊛◌, ◌$◌, ◌∵◌, !, qed, done, move, keep, split, join, suffices}
use types.Part.{agg}
use types.Run.{enter, no_more, returns}
use types.ByLocal.{alloc_all, pass_all, free_all, look_at, sets}
use denote.Builtin.{u8}
use denote.Exit.{yes}
use denote.RattleType.{Valss, owns}
use denote.Ref.{shr_vals, shr_Tells}
use denote.Shadow.{pure_i}
use denote.Signature.{plain, types_at, shr_ref_to, shr_slice_of}
use denote.Slice.{shr_slice_vals, shr_slice_Tells}
use denote.Steps.{nothing}
use denote.Triple.Entry.{alive}
use denote.Triple.Walked.{Stays, walk_of, says, stay_dropped, Goes-dropped, ends_at}
use Rattle.system_file.specs.Noted.{event_of}
use Rattle.system_file.specs.contracts.call_record.CallRecord.{the_row as Row}
use Rattle.system_file.specs.contracts.call_record.Call.{the_row as Step}
use Rattle.system_file.specs.contracts.call_record.CallRecord.then as f
use Rattle.system_file.proofs.call_record.CallRecord.then.Statement.{statement}
use Rattle.system_file.proofs.call_record.CallRecord.then.Code as code

abbrev stayed : Stays f.ended.signature.params f.ended.kept
stayed = (stay_dropped _ yes, (stay_dropped _ yes, (stay_dropped _ yes, tt)))

pub then_spec : {M : Type 1} → statement M
then_spec 𝓤 𝓛 𝓜 𝓡 wired =
    let c = f.clauses 𝓛 𝓜.mem 𝓡.returns in let W = walk_of 𝓛 f.ended stayed c in
    proved 𝓛 f.ended stayed c 𝓜 𝓡 (
      Goes-dropped 𝓛 3 (shr_ref_to (0 ∷ []) tt (plain (λ _. Row))) yes (λ κs x w. refl),
      (
        Goes-dropped 𝓛 3 (shr_ref_to (1 ∷ []) tt (plain (λ _. Step))) yes (λ κs x w. refl),
        (Goes-dropped 𝓛 3 (shr_slice_of (2 ∷ []) tt (plain (λ _. u8))) yes (λ κs x w. refl), tt),
      ),
    )
    f.Key.name code.function (code.unfolded 𝓤 𝓛.H 𝓜 𝓡 wired)
    (λ κs. (shr_vals, (shr_vals, (shr_slice_vals, tt))))
    (λ κs. (shr_Tells (named 0) κs.0 Row, (shr_Tells (named 1) κs.1.0 Step, (shr_slice_Tells (named 2) κs.1.1.0 u8, tt))))
    (λ κs qs bounds a _ are.
    let vss : Valss (types_at f.signature.params κs) = (shr_vals a.0, (shr_vals a.1.0, (shr_slice_vals a.1.1.0, tt))) in
    let y : W.Ghost = ((κs, qs, bounds, a, vss), tt) in
    let made : Row.Denot = record { events = event_of a.1.0.now a.1.1.0.now ∷ a.0.now.events } in
    let bits : Val = vstruct vnil in
    qed 𝓛 ((raw (alive 𝓛 f.signature κs qs) ⊛ ‵ (owns (types_at f.signature.params κs) a vss)) ∷ ‵ ftrue ∷ []) ∵
    keep ! (0 ∷ []) $ split ! $ keep ! (0 ∷ []) $
    enter ! _ _ _ _ _ $ alloc_all ! (λ l. pass_all ! refl ((tt, tt), ((tt, tt), ((tt, (tt, (record { fits = are.1.1.0.0.1.0 }, tt))), tt))) $
    sets ! (agg ! (no_more !)) refl (tt, tt) $
    returns ! (look_at ! 0 refl) $ free_all ! refl $
    suffices ! _ (ends_at 𝓛 f.ended stayed c y bits made (tt, (tt, (tt, tt))) (tt, (tt, (tt, tt)))) $ says ! refl $
    pure_i ! (Row.own_val made (bits ∷ [])) ((λ us. (tt, tt)), tt) ((tt, (refl, tt)), tt) $
    nothing ! $ nothing ! $ join ! $ nothing ! $ join ! $ nothing ! $ join ! $ move ! (2 ∷ 0 ∷ 1 ∷ []) $ done !))
