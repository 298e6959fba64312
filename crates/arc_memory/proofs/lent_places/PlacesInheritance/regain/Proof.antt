-- `regain` takes each place back, of which a part's names say what lies in it. It touches no
-- memory.
use Rattle.std.proofs.Common.{◌≡◌, ℕ, ◌+◌, ◌-◌, ◌*◌, ◌≤◌, List, [], ◌∷◌, ◌++◌, length, refl, sym}
use Rattle.std.proofs.Common.{ap, ◌∙◌, arith, length-drop, drop-drop}
use lib.ListN.{drop as drop_from}
use mir.Val.{Val}
use base.Logic.{emp}
use base.Fml.{GName, ftrue, fsep, flft, fdead}
use types.Kit.{‵, raw, ◌⊛◌, later, ◌$◌, ◌∵◌, !, qed, by, move, keep, drop, split, split3, fsplit}
use types.Kit.{use1, use3, await, rewrite}
use types.Run.{no_more, and_then, returns}
use types.ByLocal.{alloc_all, pass_all, free_all, look_at, get, sets}
use types.Part.{agg}
use contract.Monad.{fact, fact_i}
use contract.BorrowLft.{◌⊑◌}
use denote.RattleType.{RattleType, owns}
use denote.Signature.{types_at}
use denote.Builtin.{unit}
use denote.Steps.{heard}
use Rattle.std_alloc.proofs.VecSteps.El.{El, R, el_x, sz, no_al}
use Rattle.logbook.proofs.Fields.{token, token_told}
use Rattle.arc_owners.proofs.Endings.{spends, enters, spent}
use Rattle.arc_owners.proofs.Markers.{told}
use Rattle.arc_memory.specs.LentMemory.{LentMemory, contents, says, borrowed, returning, names_from}
use Rattle.arc_memory.proofs.Borrowed.{said, kept}
use Rattle.arc_memory.proofs.Held.{Row}
use Rattle.arc_memory.proofs.LentHeld.{there_out}
use Rattle.arc_memory.proofs.Names.{says_agrees}
use Rattle.arc_memory.proofs.Regained.{Before, Own, Behind, comes_back, runs, w, runs_in}
use Rattle.arc_owners.specs.contracts.lifetime.EndedLifetime as EndedLifetime
use Rattle.arc_memory.specs.contracts.lent_places.LentPlaces as LentPlaces
use Rattle.arc_memory.specs.contracts.lent_places.PlacesInheritance as PlacesInheritance
use Rattle.arc_memory.specs.contracts.lent_places.PlacesInheritance.regain as f
use Rattle.arc_memory.proofs.lent_places.PlacesInheritance.regain.Statement.{statement}
use Rattle.arc_memory.proofs.lent_places.PlacesInheritance.regain.Code as code

pub regain_spec : {M : Type 1} → statement M
regain_spec 𝓤 𝓛 𝓜 𝓡 wired T L =
    let E : El = record { row = T; laws = L; al = no_al } in let s = sz E in
    let En = f.ended T in let c = f.clauses T 𝓛 𝓜.mem 𝓡.returns in
    let Pl : RattleType = Row E in let Dead : RattleType = EndedLifetime.the_row in
    let Lt : RattleType = LentPlaces.the_row (R E) in
    let In : RattleType = PlacesInheritance.the_row (R E) in
    spends 𝓛 En c 𝓜 𝓡 (λ κs x w. tt, (λ κs x w. tt, (λ κs x w. tt, tt))) _ _
    (code.unfolded 𝓤 𝓛.H 𝓜 𝓡 wired (T, tt)) (λ y are.
    let κs = y.0.0 in let qs = y.0.1 in let vss = y.0.4 in let me : In.Denot = y.0.3.0 in
    let ended : Dead.Denot = y.0.3.1.0 in let part : Lt.Denot = y.0.3.1.1.0 in
    let m : LentMemory = me.memory in let xs : List (el_x E) = part.items in
    let ys = contents part.count xs in
    let Over : Type 0 = ended.lifetime ≡ m.lifetime in let Within : Type 0 = (part.memory ≡ m)
    × (me.start ≤ part.start) in
    qed 𝓛 ((‵ (fsep (flft κs.0 qs.0) ftrue) ⊛ ‵ (owns (types_at En.signature.params κs) y.0.3
    vss)) ∷ (raw (fact 𝓤 (κs.0 ⊑ T.lives)) ⊛ raw (fact 𝓤 Over) ⊛ raw (fact 𝓤 Within)) ∷ []) ∵
    move ! (1 ∷ []) $ split ! $ drop ! $ split ! $
    heard ! Over (λ over. heard ! Within (λ own. split ! $ move ! (1 ∷ []) $ fsplit ! $
    fsplit ! $ drop ! $
    there_out E ! m me.start (returning (R E) m.lifetime (names_from (R E) m me.start))
    (λ b o at_b small. move ! (1 ∷ []) $ fsplit ! $ fsplit ! $ drop ! $ move ! (1 ∷ []) $
    fsplit ! $ fsplit ! $ drop ! $
    there_out E ! part.memory part.start
    (borrowed (R E) part.memory.lifetime (names_from (R E) part.memory part.start) ys)
    (λ b₂ o₂ at_b₂ small₂.
    -- [the part's borrows; no more parameters; that the lifetime has ended; what comes back; the
    -- tokens]
    let k : ℕ = part.start - me.start in
    let reach : part.start ≡ me.start + k = omega (arith, own.1) in
    let gs : List GName = drop_from me.start m.names in
    let behind : drop_from part.start part.memory.names ≡ drop_from k gs = ap
    (λ (i : LentMemory). drop_from part.start i.names) own.0
    ∙ ap (λ (j : ℕ). drop_from j m.names) reach ∙ sym (drop-drop k me.start m.names) in
    let same_many : length part.memory.names ≡ length m.names = ap
    (λ (i : LentMemory). length i.names) own.0 in
    let many : length gs ≡ me.count = omega (arith, length-drop me.start m.names, me.inside.0)
    in
    let n : ℕ = me.count - (k + part.count) in
    let all : k + part.count + n ≡ length gs = omega
    (arith, part.inside.0, same_many, many, me.inside.0, reach) in
    let fits : part.start + part.count + n ≤ m.whole = omega
    (arith, all, many, reach, me.inside.0, me.inside.1) in
    use1 𝓛 (‵ (said E 𝓛 b (drop_from part.start part.memory.names) ys))
    (kept E 𝓛 b₂ part.memory.lifetime (drop_from part.start part.memory.names) ys
    (o₂ + part.start * s)) $
    rewrite ! 0 (λ (ks : List GName). ‵ (said E 𝓛 b ks ys)) behind refl $ move ! (1 ∷ []) $ drop ! $
    move ! (1 ∷ []) $ rewrite ! 0 (λ (a : ℕ). ‵ (fdead (a ∷ []))) over refl $
    -- [that the lifetime has ended; what the part's names say; what comes back; the tokens]
    let e₀ : vss.0 ≡ token ∷ [] = token_told (R E) vss.0 are.0.0 in
    let e₁ : vss.1.0 ≡ token ∷ [] = token_told unit vss.1.0 are.1.0.0 in
    let e₂ : vss.1.1.0 ≡ token ∷ [] = token_told (R E) vss.1.1.0 are.1.1.0.0 in
    let ws : List Val = token ∷ token ∷ token ∷ [] in
    enters ! _ _ _ _ ws (λ j. e₀ j ++ (e₁ j ++ (e₂ j ++ []))) $
    alloc_all ! (λ l. pass_all ! refl ((tt, (tt, tt)), ((tt, (tt, tt)), ((tt, (tt, tt)), tt))) $
    use3 𝓛 (later (‵ (Before E 𝓛 b o me.start part.start part.count n xs) ⊛ ‵
    (Own E 𝓛 b o me.start part.start part.count n xs) ⊛ ‵
    (Behind E 𝓛 b o me.start part.start part.count n xs)))
    (comes_back E 𝓛 b o me.start part.start part.count n xs m.lifetime gs (says (R E))
    (says_agrees (R E) 𝓛) own.1 all part.inside.2) $ await ! tt $ split3 ! $
    runs_in E m me.start part.start part.count n xs own.1 fits part.inside.2 me.inside.2 ! b o
    at_b small $
    -- [the three runs; the tokens]
    sets ! (agg ! (no_more !)) refl (tt, tt) $ sets ! (agg ! (and_then ! (get ! refl) (no_more !)))
    refl (tt, (tt, tt)) $ sets ! (agg ! (no_more !)) refl (tt, tt) $
    sets ! (agg ! (and_then ! (get ! refl) (no_more !))) refl (tt, (tt, tt)) $
    sets ! (agg ! (no_more !)) refl (tt, tt) $ sets ! (agg ! (and_then ! (get ! refl) (no_more !)))
    refl (tt, (tt, tt)) $
    sets ! (agg ! (and_then ! (get ! refl)
    (and_then ! (get ! refl) (and_then ! (get ! refl) (no_more !))))) refl
    (tt, ((tt, tt), ((tt, tt), ((tt, tt), tt)))) $
    returns ! (look_at ! 0 refl) $ free_all ! refl $ keep ! (1 ∷ 0 ∷ []) $
    let sum : part.start + part.count + n ≡ me.start + me.count = omega (arith, all, many, reach) in
    by ! (spent 𝓛 En c y (w E m me.start part.start part.count n xs own.1 fits part.inside.2
    me.inside.2) (runs E m me.start part.start part.count n xs own.1 fits part.inside.2
    me.inside.2) (tt, (tt, (tt, tt)))
    (told 𝓤 ((refl, refl), (refl, refl), (refl, refl))
    (told 𝓤 (refl, refl, refl) (told 𝓤 (refl, refl, refl) (fact_i 𝓤 _ (emp 𝓤) (refl, sum, refl))
    𝓛) 𝓛) 𝓛))))))))
