-- `close` leaves the count to which the cell led, if the word had one.
use Rattle.std.proofs.Common.{ℕ, List, [], ◌∷◌, ◌++◌, refl, ap, ◌∙◌}
use mir.Syntax.{ty_ptr}
use mir.Val.{Val, vstruct, of_list}
use base.Logic.{emp}
use base.Fml.{ftrue}
use types.Kit.{‵, raw, ◌⊛◌, some as any, given, ◌$◌, ◌∵◌, !, qed, by, move, keep, drop, split, fsplit}
use types.Kit.{fpick, pick, learn, use1, feq_i, feq_l}
use types.Run.{stop, fld, of_opd, no_more, and_then, returns}
use types.ByLocal.{alloc_all, pass_all, free_all, look_at, get, get_in, sets}
use types.Part.{agg, sub, whole}
use contract.Monad.{fact_i}
use denote.Builtin.{unit}
use denote.Param.{layout}
use denote.RattleType.{RattleType, owns}
use denote.RawPtr.{Ptr, RawPtr, ptr_val, Testable}
use denote.Signature.{types_at}
use denote.Struct.Struct.{as_fields}
use Rattle.core.proofs.atomic.Steps.{Ptr-Good}
use Rattle.core.proofs.cell.Inside.{Good-round}
use Rattle.logbook.proofs.Fields.{token}
use Rattle.arc_owners.specs.count.Invariant.{is_there, pointer}
use Rattle.arc_owners.specs.count.Leads.{pending}
use Rattle.arc_owners.specs.contracts.lone.loose.PendingCount as PendingCount
use Rattle.arc_owners.proofs.count.Fields.{cell_val}
use Rattle.arc_owners.proofs.count.LooseCounts.{closes, there-null}
use Rattle.arc_owners.proofs.count.Markers.{marked}
use Rattle.arc_owners.proofs.memory.Endings.{spends, enters, both_spent}
use Rattle.arc_owners.specs.contracts.count.cell.Cell.close as f
use Rattle.arc_owners.proofs.count.cell.Cell.close.Statement.{statement}
use Rattle.arc_owners.proofs.count.cell.Cell.close.Code as code

pub close_spec : {M : Type 1} → statement M
close_spec 𝓤 𝓛 𝓜 𝓡 wired = let Count : RattleType = PendingCount.the_row in
    let En = f.ended in let c = f.clauses 𝓛 𝓜.mem 𝓡.returns in
    spends 𝓛 En c 𝓜 𝓡 (λ κs x w. tt, tt) _ _ (code.unfolded 𝓤 𝓛.H 𝓜 𝓡 wired) (λ y are.
    let κs = y.0.0 in let t = y.0.3.0 in let vss = y.0.4 in
    qed 𝓛 ((‵ ftrue ⊛ ‵ (owns (types_at En.signature.params κs) y.0.3 vss))
    ∷ raw ((c κs y.0.3).requires y.1) ∷ []) ∵ keep ! (0 ∷ []) $ split ! $ move ! (1 ∷ []) $
    fsplit ! $ fsplit ! $ drop ! $ fpick ! (λ x. let p : Ptr = pointer x in fsplit ! $
    fpick ! (λ us. fsplit ! $ feq_l ! (λ e. fsplit ! $ feq_l ! (λ e₁. drop ! $
    -- [what the cell holds; no more parameters; no tokens]
    use1 𝓛 (given (Testable p) (any (λ (n : ℕ). ‵ (pending (is_there x) t.receipts p n))))
    (closes 𝓛 t x) $ learn ! (λ low. pick ! (λ n.
    let count : Count.Denot = record {
      marker = record {};
      held = is_there x;
      receipts = t.receipts;
      at = p;
      number = n;
    } in
    enters ! _ _ _ _ (cell_val p ∷ [])
    (λ j. (e ∙ ap (λ (ws : List Val). vstruct (of_list (ws ++ [])) ∷ []) e₁) j ++ []) $
    alloc_all ! (λ l. pass_all ! refl (Good-round [] ty_ptr (ptr_val p) (Ptr-Good p), tt) $
    sets ! (of_opd ! (get_in ! (fld ! refl (stop !)) (sub ! 0 refl (whole !)))) refl (Ptr-Good p) $
    sets ! (agg ! (no_more !)) refl (tt, tt) $
    sets ! (agg ! (and_then ! (get ! refl) (no_more !))) refl (tt, (tt, tt)) $
    sets ! (agg ! (and_then ! (get ! refl) (and_then ! (get ! refl) (no_more !)))) refl
    (as_fields (ty_ptr ∷ layout Count ∷ []) (ptr_val p ∷ token ∷ [])
    (Ptr-Good p, ((tt, (tt, tt)), tt))) $
    marked unit ! $ feq_i ! (List Val) (ptr_val p ∷ []) (ptr_val p ∷ []) refl $
    returns ! (look_at ! 0 refl) $ free_all ! refl $ keep ! (0 ∷ 1 ∷ 3 ∷ []) $
    by ! (both_spent 𝓛 En c y RawPtr Count p count (ptr_val p) token (p, count) (tt, tt) refl
    (fact_i 𝓤 _ (emp 𝓤) (there-null x, refl, refl, low)))))))))))
