-- `count` shows the count to which a cell leads, for as long as the cell is borrowed.
use Rattle.std.proofs.Common.{◌≡◌, ◌<◌, List, [], ◌∷◌, ◌++◌, refl, ap}
use Rattle.std.proofs.Common.{◌∙◌, lit<}
use mathlib.Core.Option.{some}
use mir.Syntax.{ty_ptr, named}
use mir.Val.{Val, vnull, vptr, of_list}
use base.Logic.{SProp, emp}
use base.Fml.{Lft, ftrue, fsep, flft}
use types.Kit.{‵, raw, ◌⊛◌, at_ret, ◌$◌, ◌∵◌, !, qed, by, move, keep, drop, split}
use types.Kit.{fsplit, fsplit3, fjoin, fpick, fpack, rewrite, feq_i, use0, use1}
use types.Run.{stop, fld, addr, of_opd, bin, lit, no_more, and_then, first, blocks, branches, skips}
use types.Run.{exec, returns, returns_within}
use types.ByLocal.{alloc_all, pass_all, free_all, look_at, get, get_in, through, sets, sets_last, env}
use types.Match.{live}
use types.Part.{agg, sub, whole}
use contract.Monad.{fact_i, fact}
use contract.Running.{tables}
use denote.Exit.{yes}
use denote.RattleType.{RattleType, owns}
use denote.Ref.{ShrRef}
use denote.Signature.{types_at, plain}
use denote.Builtin.{RefOf}
use denote.Opens.{hide, unhide}
use denote.RawPtr.{Ptr, block_ptr, null_ptr, ptr_val, Testable, tests_null}
use denote.Steps.{nothing, heard}
use denote.Triple.Walked.{Stays, stay_dropped, walk_of, Goes-dropped}
use Rattle.core.specs.declared.option.Option.TheVariants.{None, Some}
use Rattle.core.specs.contracts.option.Option as OP
use Rattle.core.proofs.alloc.Calls.{Goes-blank}
use Rattle.core.proofs.alloc.Shapes.{after}
use Rattle.core.proofs.atomic.Steps.{Ptr-Good}
use Rattle.core.proofs.cell.Inside.{Good-round}
use Rattle.core.proofs.option.Made.{Some-of, none_of}
use Rattle.std.proofs.raw_atomic.Walks.{proved_at}
use Rattle.logbook.proofs.Fields.{ends}
use Rattle.arc_owners.specs.count.Invariant.{BlockId, lent, Borrowing}
use Rattle.arc_owners.specs.count.Leads.{is_null, target, known_at}
use Rattle.arc_owners.specs.contracts.count.cell.Cell as Cell
use Rattle.arc_owners.specs.contracts.count.cell.Lead as Lead
use Rattle.arc_owners.specs.contracts.count.word.Word as Word
use Rattle.arc_owners.proofs.memory.Endings.{enters}
use Rattle.arc_owners.proofs.count.CellReadings.{wrap, lead_told}
use Rattle.arc_owners.proofs.count.LooseCounts.{null_or_not}
use Rattle.arc_owners.specs.contracts.count.cell.Lead.count as f
use Rattle.arc_owners.proofs.count.cell.Lead.count.Statement.{statement}
use Rattle.arc_owners.proofs.count.cell.Lead.count.Code as code

pub count_spec : {M : Type 1} → statement M
count_spec 𝓤 𝓛 𝓜 𝓡 wired =
    let 𝓣 = tables 𝓤 𝓛.H 𝓜 𝓡 𝓡.env in let fn = code.function in let En = f.ended in
    let c = f.clauses 𝓛 𝓜.mem 𝓡.returns in
    let hs : Stays En.signature.params En.kept = (
      stay_dropped (plain (λ _. Lead.the_row)) yes,
      (stay_dropped (RefOf (0 ∷ []) tt (plain (λ _. Cell.the_row)) (λ _. tt)) yes, tt),
    ) in
    proved_at 𝓛 En hs c 𝓜 𝓡 (
      Goes-blank 𝓛 1 (plain (λ _. Lead.the_row)) yes (λ κs x w. tt),
      (
        Goes-dropped 𝓛 1 (RefOf (0 ∷ []) tt (plain (λ _. Cell.the_row)) (λ _. tt)) yes
            (λ κs x w. refl),
        tt,
      ),
    ) f.Key.name fn (code.unfolded 𝓤 𝓛.H 𝓜 𝓡 wired) (λ y are.
    let κs = y.0.0 in let qs = y.0.1 in let me = y.0.3.0 in let t = y.0.3.1.0.now in
    let b = y.0.3.1.0.ref_ptr.0 in let o = y.0.3.1.0.ref_ptr.1 in let vss = y.0.4 in
    let r : Ptr = me.at in let Asked : Type 0 = (me.block ≡ t) × Testable r in
    let Ref : RattleType = ShrRef (named 0) κs.0 Word.the_row in
    let Post : Val → SProp 𝓤 = (walk_of 𝓛 En hs c).post y in
    qed 𝓛 ((‵ (fsep (flft κs.0 qs.0) ftrue) ⊛ ‵ (owns (types_at En.signature.params κs) y.0.3
    vss)) ∷ raw (fact 𝓤 Asked) ∷ []) ∵ move ! (1 ∷ []) $ heard ! Asked (λ asked.
    split ! $ move ! (1 ∷ []) $ fsplit ! $ fsplit ! $ drop ! $ move ! (1 ∷ []) $ fsplit ! $
    fsplit ! $ keep ! (3 ∷ 1 ∷ 4 ∷ []) $
    -- [what is known of the place; what is lent of the cell; the tokens]
    null_or_not ! r (λ q. known_at me.block (target q))
    (λ e. keep ! (2 ∷ []) $ enters ! _ _ _ _ (wrap vnull ∷ vptr b o ∷ [])
    (λ j. (lead_told r vss.0 are.0.0 ∙ ap (λ (q : Ptr). wrap (ptr_val q) ∷ []) e) j
    ++ (are.1.0.0 j ++ [])) $
    alloc_all ! (λ l. pass_all ! refl
    (Good-round [] ty_ptr vnull (Ptr-Good null_ptr), ((tt, tt), tt)) $
    sets ! (of_opd ! (get_in ! (fld ! refl (stop !)) (sub ! 0 refl (whole !)))) refl
    (Ptr-Good null_ptr) $ sets ! (of_opd ! (get ! refl)) refl (Ptr-Good null_ptr) $
    sets ! (bin ! (get ! refl) (lit ! tt) (tests_null null_ptr (lit< tt))) refl (tt, tt) $
    first ! $ branches ! (get ! refl)
    (λ _. sets ! (agg ! (and_then ! (lit ! tt) (no_more !))) refl
    (tt, (record { fits = lit< tt }, tt)) $
    returns_within ! Post refl (look_at ! 0 refl) $ free_all ! refl $
    use0 𝓛 (‵ ((OP.the_row Ref).own_val None (live 0 (of_list []) ∷ []))) (none_of 𝓛 Ref) $
    nothing ! $ nothing ! $ fjoin ! $ nothing ! $ fjoin ! $ keep ! (2 ∷ 0 ∷ 1 ∷ []) $
    by ! (ends 𝓛 En hs c y (live 0 (of_list [])) None (tt, (tt, tt)) (tt, (tt, tt))
    (fact_i 𝓤 _ (emp 𝓤) (ap is_null e))))
    (λ wrong. absurd wrong)))
    (λ pb po e. move ! (1 ∷ []) $ unhide ! $ fpick ! (λ z. fsplit3 ! $ move ! (1 ∷ []) $
    fpick ! (λ past. drop ! $
    -- [the lifetimes; the cell's borrow; what is known; the tokens]
    move ! (2 ∷ []) $ rewrite ! 0 (λ (k : BlockId). ‵ (known_at k (some (pb, po)))) asked.0 refl $
    fsplit ! $ fpick ! (λ low. drop ! $
    move ! (0 ∷ 2 ∷ []) $ fjoin ! $ nothing ! $ fpack ! (t.number < z.1) (λ _. ftrue) past $
    fjoin ! $ move ! (1 ∷ 0 ∷ []) $ fjoin ! $
    fpack ! (Lft × Borrowing) (lent t pb po κs.0) (z.0, (z.1, some (b, o))) $ hide ! $
    -- [the word; the tokens]
    enters ! _ _ _ _ (wrap (vptr pb po) ∷ vptr b o ∷ [])
    (λ j. (lead_told r vss.0 are.0.0 ∙ ap (λ (q : Ptr). wrap (ptr_val q) ∷ []) e) j
    ++ (are.1.0.0 j ++ [])) $
    alloc_all ! (λ l. pass_all ! refl
    (Good-round [] ty_ptr (vptr pb po) (Ptr-Good (block_ptr pb po)), ((tt, tt), tt)) $
    let Ev = env fn.locals l in
    let x : Ref.Denot = record { ref_ptr = (pb, po); now = t } in
    sets ! (of_opd ! (get_in ! (fld ! refl (stop !)) (sub ! 0 refl (whole !)))) refl (tt, tt) $
    sets ! (of_opd ! (get ! refl)) refl (tt, tt) $
    sets ! (bin ! (get ! refl) (lit ! tt) (tests_null (block_ptr pb po) low)) refl (tt, tt) $
    first ! $ branches ! (get ! refl) (λ wrong. absurd wrong)
    (λ _. skips ! $ exec ! 𝓣.C 𝓣.Λ Ev (after 4 fn.body) (at_ret Ev Post) $
    first ! $ blocks ! $ sets ! (of_opd ! (get ! refl)) refl (tt, tt) $
    sets ! (of_opd ! (get ! refl)) refl (tt, tt) $
    sets_last ! (addr ! (through ! refl (stop !))) refl (tt, tt) $
    exec ! 𝓣.C 𝓣.Λ Ev (after 5 fn.body) (at_ret Ev Post) $ sets ! (of_opd ! (get ! refl)) refl
    (tt, tt) $
    sets ! (agg ! (and_then ! (lit ! tt) (and_then ! (get ! refl) (no_more !)))) refl
    (tt, (record { fits = lit< tt }, (tt, tt))) $
    feq_i ! (List Val) (vptr pb po ∷ []) (vptr pb po ∷ []) refl $ fjoin ! $
    use1 𝓛 (‵ ((OP.the_row Ref).own_val (Some x) (live 1 (of_list (vptr pb po ∷ [])) ∷ [])))
    (Some-of 𝓛 Ref x (vptr pb po)) $ nothing ! $ nothing ! $
    fjoin ! $ nothing ! $ fjoin ! $
    returns ! (look_at ! 0 refl) $ free_all ! refl $ keep ! (2 ∷ 0 ∷ 1 ∷ []) $
    by ! (ends 𝓛 En hs c y (live 1 (of_list (vptr pb po ∷ []))) (Some x)
    (tt, (tt, tt)) (tt, (tt, tt)) (fact_i 𝓤 _ (emp 𝓤) (ap is_null e, refl)))))))))))
