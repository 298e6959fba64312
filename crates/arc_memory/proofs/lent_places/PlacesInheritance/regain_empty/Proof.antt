-- `regain_empty` takes each place back, whatever lies in it. It touches no memory.
use Rattle.std.proofs.Common.{◌≡◌, ℕ, ◌+◌, ◌*◌, List, [], ◌∷◌, ◌++◌, length}
use Rattle.std.proofs.Common.{refl, arith, length-drop}
use lib.ListN.{drop as drop_from}
use mir.Val.{Val}
use base.Logic.{emp}
use base.Fml.{GName, ftrue, fsep, flft, fdead}
use types.Kit.{‵, raw, ◌⊛◌, later, ◌$◌, ◌∵◌, !, qed, by, move, keep, drop, split, fsplit}
use types.Kit.{use2, await, rewrite}
use types.Run.{no_more, and_then, returns}
use types.ByLocal.{alloc_all, pass_all, free_all, look_at, get, sets}
use types.Part.{agg}
use contract.Monad.{fact, fact_i}
use contract.BorrowLft.{◌⊑◌}
use denote.RattleType.{RattleType, owns}
use denote.Signature.{types_at}
use denote.Builtin.{unit}
use denote.Steps.{heard}
use Rattle.std_alloc.proofs.VecSteps.El.{El, R, sz, no_al}
use Rattle.logbook.proofs.Fields.{token, token_told}
use Rattle.arc_owners.proofs.Endings.{spends, enters, spent}
use Rattle.arc_owners.proofs.Markers.{told}
use Rattle.arc_memory.specs.LentMemory.{LentMemory, returning, names_from}
use Rattle.arc_memory.proofs.Cuts.{Side}
use Rattle.arc_memory.proofs.Held.{places_at, Row, places_in}
use Rattle.arc_memory.proofs.LentHeld.{there_out}
use Rattle.arc_memory.proofs.Regained.{comes_back_empty}
use Rattle.arc_owners.specs.contracts.lifetime.EndedLifetime as EndedLifetime
use Rattle.arc_memory.specs.contracts.lent_places.PlacesInheritance as PlacesInheritance
use Rattle.arc_memory.specs.contracts.lent_places.PlacesInheritance.regain_empty as f
use Rattle.arc_memory.proofs.lent_places.PlacesInheritance.regain_empty.Statement.{statement}
use Rattle.arc_memory.proofs.lent_places.PlacesInheritance.regain_empty.Code as code

pub regain_empty_spec : {M : Type 1} → statement M
regain_empty_spec 𝓤 𝓛 𝓜 𝓡 wired T L =
    let E : El = record { row = T; laws = L; al = no_al } in let s = sz E in
    let En = f.ended T in let c = f.clauses T 𝓛 𝓜.mem 𝓡.returns in
    let Pl : RattleType = Row E in let Dead : RattleType = EndedLifetime.the_row in
    let In : RattleType = PlacesInheritance.the_row (R E) in
    spends 𝓛 En c 𝓜 𝓡 (λ κs x w. tt, (λ κs x w. tt, tt)) _ _
    (code.unfolded 𝓤 𝓛.H 𝓜 𝓡 wired (T, tt)) (λ y are.
    let κs = y.0.0 in let qs = y.0.1 in let vss = y.0.4 in
    let me : In.Denot = y.0.3.0 in let ended : Dead.Denot = y.0.3.1.0 in
    let m : LentMemory = me.memory in let gs : List GName = drop_from me.start m.names in
    let Over : Type 0 = ended.lifetime ≡ m.lifetime in
    qed 𝓛 ((‵ (fsep (flft κs.0 qs.0) ftrue)
    ⊛ ‵ (owns (types_at En.signature.params κs) y.0.3 vss))
    ∷ (raw (fact 𝓤 (κs.0 ⊑ T.lives)) ⊛ raw (fact 𝓤 Over)) ∷ []) ∵
    move ! (1 ∷ []) $ split ! $ drop ! $ heard ! Over (λ over.
    split ! $ move ! (1 ∷ []) $ fsplit ! $ fsplit ! $ drop ! $
    there_out E ! m me.start (returning (R E) m.lifetime (names_from (R E) m me.start))
    (λ b o at_b small. move ! (1 ∷ []) $ fsplit ! $ fsplit ! $ drop ! $
    -- [that the lifetime has ended; no more parameters; what comes back; the tokens]
    let from : ℕ = o + me.start * s in
    let many : length gs ≡ me.count =
    omega (arith, length-drop me.start m.names, me.inside.0) in
    let bare : Pl.Denot = places_at E m.base m.whole me.start me.count [] (
      omega (
        arith,
        me.inside.0,
        me.inside.1,
      ),
      omega arith,
      me.inside.2,
    ) in
    rewrite ! 0 (λ (a : ℕ). ‵ (fdead (a ∷ []))) over refl $ move ! (1 ∷ []) $ drop ! $
    -- [that the lifetime has ended; what comes back; the tokens]
    let e₀ : vss.0 ≡ token ∷ [] = token_told (R E) vss.0 are.0.0 in
    let e₁ : vss.1.0 ≡ token ∷ [] = token_told unit vss.1.0 are.1.0.0 in
    let ws : List Val = token ∷ token ∷ [] in
    enters ! _ _ _ _ ws (λ j. e₀ j ++ (e₁ j ++ [])) $ alloc_all ! (λ l.
    pass_all ! refl ((tt, (tt, tt)), ((tt, (tt, tt)), tt)) $
    use2 𝓛 (later (‵ (Side E 𝓛 b from me.count [])))
    (comes_back_empty E 𝓛 b from me.count m.lifetime gs many) $ await ! tt $
    places_in E ! bare b o at_b small $
    -- [the places; the tokens]
    sets ! (agg ! (no_more !)) refl (tt, tt) $
    sets ! (agg ! (and_then ! (get ! refl) (no_more !))) refl (tt, (tt, tt)) $
    returns ! (look_at ! 0 refl) $ free_all ! refl $ keep ! (1 ∷ 0 ∷ []) $
    by ! (spent 𝓛 En c y token bare (tt, (tt, tt))
    (told 𝓤 (refl, refl) (fact_i 𝓤 _ (emp 𝓤) (refl, refl, refl)) 𝓛))))))
