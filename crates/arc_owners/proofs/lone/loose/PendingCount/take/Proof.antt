-- `take` takes the right to free a count's memory out of the bank, for its receipt.
use contract.BorrowLft.{◌⊑◌}
use Rattle.std.proofs.Common.{◌≡◌, ℕ, Bool, [], ◌∷◌, ◌++◌, refl, sym, ap, ◌∙◌, w64}
use Rattle.std.proofs.Common.{lit<}
use mir.Raw.{raw as bare}
use mir.Val.{Val, vnull, vptr, of_list}
use base.Fraction.{full_share}
use base.Logic.{SProp, emp, id⊢}
use base.Fml.{ftrue, fsep, flft, fhide}
use types.Kit.{‵, raw, ◌⊛◌, later, at_ret, ◌$◌, ◌∵◌, !, qed, by, move, keep, drop, split, fsplit}
use types.Kit.{fjoin, fpick, await, use0, use1, use2, rewrite, feq_l}
use types.Match.{live}
use types.Run.{bin, lit, no_more, and_then, first, branches, skips, exec, returns, returns_within}
use types.ByLocal.{alloc_all, pass_all, free_all, look_at, get, sets, env}
use types.Part.{agg}
use contract.Monad.{fact, fact_i}
use contract.Running.{tables}
use denote.Exit.{yes}
use denote.Builtin.{RefOf, u64, unit}
use denote.Memory.{lone, hidden_shr, part_at}
use denote.Opens.{unhide}
use denote.Param.{param, bounded}
use denote.Plain.{uint_in}
use denote.RattleType.{RattleType, owns}
use denote.RawPtr.{Ptr, RawPtr, Testable, block_ptr, null_ptr, ptr_val, tests_null}
use denote.Signature.{types_at, plain}
use denote.Steps.{heard}
use denote.Triple.Walked.{Goes-dropped}
use mir.Syntax.{a_type, dcons, dnil}
use mir.MapTy.{inst_fn}
use Rattle.std.specs.Prelude.{not}
use Rattle.core.specs.declared.option.Option.TheVariants.{None, Some}
use Rattle.core.specs.contracts.option.Option as OP
use Rattle.core.proofs.alloc.Calls.{Goes-blank}
use Rattle.core.proofs.alloc.Shapes.{after}
use Rattle.core.proofs.atomic.Steps.{Ptr-Good}
use Rattle.core.proofs.option.Made.{Some-of, none_of}
use Rattle.std.proofs.raw_atomic.Walks.{proved_at}
use Rattle.logbook.proofs.Fields.{token, token_told, Token}
use Rattle.arc_owners.specs.count.Leads.{is_null, pending, frees_count, bank_of}
use Rattle.arc_owners.specs.contracts.lone.bank.Bank as Bank
use Rattle.arc_owners.specs.contracts.lone.loose.PendingCount as PendingCount
use Rattle.arc_owners.proofs.count.Bank.{withdraws}
use Rattle.arc_owners.proofs.count.LooseCounts.{Row, place_val, place_made, null_or_not}
use Rattle.arc_owners.proofs.memory.Endings.{Walk, dropped, enters, spent}
use Rattle.arc_owners.specs.contracts.lone.loose.PendingCount.take as f
use Rattle.arc_owners.proofs.lone.loose.PendingCount.take.Statement.{statement}
use Rattle.arc_owners.proofs.lone.loose.PendingCount.take.Code as code

pub take_spec : {M : Type 1} → statement M
take_spec 𝓤 𝓛 𝓜 𝓡 wired A LA g d da allocator glued = let Z : RattleType = param 0 A in
    let 𝓣 = tables 𝓤 𝓛.H 𝓜 𝓡 𝓡.env in
    let fn = inst_fn (bounded (a_type ∷ []) (A, tt) (dcons d (dcons da dnil))) code.function in
    let Place : RattleType = Row A g in let Known : RattleType = Bank.the_row Z g in
    let En = f.ended A g d da in let c = f.clauses A g d da 𝓛 𝓜.mem 𝓡.returns in
    proved_at 𝓛 En (dropped En.signature.params En.kept) c 𝓜 𝓡 (
      Goes-blank 𝓛 2 (plain (λ _. PendingCount.the_row)) yes (λ κs x w. tt),
      (
        Goes-dropped 𝓛 2 (plain (λ _. RawPtr)) yes (λ κs x w. refl),
        (
          Goes-dropped 𝓛 2 (RefOf (0 ∷ []) tt (plain (λ _. Known)) (λ _. tt)) yes
              (λ κs x w. refl),
          tt,
        ),
      ),
    ) _ fn (code.unfolded 𝓤 𝓛.H 𝓜 𝓡 wired (A, tt) d da) (λ y are.
    let κs = y.0.0 in let qs = y.0.1 in let me = y.0.3.0 in let at : Ptr = y.0.3.1.0 in
    let vss = y.0.4 in let k : Known.Denot = y.0.3.1.1.0.now in
    let b = y.0.3.1.1.0.ref_ptr.0 in let o = y.0.3.1.1.0.ref_ptr.1 in
    let holds = g.dealloc_token k.alloc in let n : ℕ = me.number in let δ : ℕ = k.receipts in
    let Post : Val → SProp 𝓤 = (Walk 𝓛 En c).post y in
    let Asked : Type 0 = (me.held ≡ not (is_null at)) × (me.receipts ≡ δ) × (me.at ≡ at)
    × Testable at in
    qed 𝓛 ((‵ (fsep (flft κs.0 qs.0) (fsep (flft κs.1.0 qs.1.0) ftrue)) ⊛ ‵
    (owns (types_at En.signature.params κs) y.0.3 vss)) ∷ raw (fact 𝓤 (κs.1.0 ⊑ A.lives)) ∷ raw
    (fact 𝓤 Asked) ∷ []) ∵ move ! (2 ∷ []) $ heard ! Asked (λ asked. keep ! (0 ∷ []) $ split ! $
    move ! (1 ∷ []) $ fsplit ! $ fsplit ! $ drop ! $ move ! (1 ∷ []) $ fsplit ! $
    feq_l ! (λ e₁. fsplit ! $ fsplit ! $ feq_l ! (λ e₂. keep ! (0 ∷ 2 ∷ 3 ∷ []) $
    -- [what is lent of the bank; the count; the tokens]
    use1 𝓛 (‵ (hidden_shr (Token Z) κs.0 (k.marker, tt) b o) ⊛ ‵
    (fhide (bank_of holds k.number δ))) (id⊢ 𝓤 _) $ split ! $ drop ! $ unhide ! $ move ! (1 ∷ []) $
    rewrite ! 0 (λ (z : Bool × ℕ × Ptr). ‵ (pending z.0 z.1 z.2 n))
    (λ i. (asked.0 i, asked.1 i, asked.2 i)) refl $
    null_or_not ! at (λ q. pending (not (is_null q)) δ q n)
    (λ e. keep ! (2 ∷ []) $ enters ! _ _ _ _ (token ∷ vnull ∷ vptr b o ∷ [])
    (λ j. token_told unit vss.0 are.0.0 j
    ++ ((e₁ ∙ ap (λ (q : Ptr). ptr_val q ∷ []) e) j ++ (e₂ j ++ []))) $
    alloc_all ! (λ l. pass_all ! refl ((tt, (tt, tt)), (Ptr-Good null_ptr, ((tt, tt), tt))) $
    sets ! (bin ! (get ! refl) (lit ! tt) (tests_null null_ptr (lit< tt))) refl (tt, tt) $
    first ! $ branches ! (get ! refl)
    (λ _. sets ! (agg ! (and_then ! (lit ! tt) (no_more !))) refl
    (tt, (record { fits = lit< tt }, tt)) $
    returns_within ! Post refl (look_at ! 0 refl) $ free_all ! refl $
    use0 𝓛 (‵ ((OP.the_row Place).own_val None (live 0 (of_list []) ∷ []))) (none_of 𝓛 Place) $
    keep ! (1 ∷ 0 ∷ []) $
    by ! (spent 𝓛 En c y (live 0 (of_list [])) None (tt, (tt, (tt, tt)))
    (fact_i 𝓤 _ (emp 𝓤) (ap is_null e))))
    (λ wrong. absurd wrong)))
    (λ pb po e. fsplit ! $ move ! (1 ∷ []) $ fsplit ! $ fpick ! (λ low. drop ! $ fpick ! (λ j.
    -- [the receipt; the word; the bank; the tokens]
    enters ! _ _ _ _ (token ∷ vptr pb po ∷ vptr b o ∷ [])
    (λ i. token_told unit vss.0 are.0.0 i
    ++ ((e₁ ∙ ap (λ (q : Ptr). ptr_val q ∷ []) e) i ++ (e₂ i ++ []))) $
    alloc_all ! (λ l. pass_all ! refl ((tt, (tt, tt)), ((tt, tt), ((tt, tt), tt))) $
    let Ev = env fn.locals l in
    let now : Place.Denot = record {
      at = block_ptr pb po;
      marker = record {};
      value = n;
      alloc = k.alloc;
    } in
    let v : Val = live 1 (of_list (place_val (vptr pb po) ∷ [])) in
    move ! (2 ∷ 0 ∷ []) $
    use2 𝓛 (later (‵ (holds (bare (lone u64.mir)) (block_ptr pb po))))
    (withdraws 𝓛 (frees_count holds) δ k.number j (pb, po)) $ await ! tt $ move ! (1 ∷ []) $
    use1 𝓛 (‵ (part_at u64 full_share n pb po)) (uint_in 𝓛 full_share w64 n pb po) $ fjoin ! $
    use1 𝓛 (‵ (Place.own_val now (place_val (vptr pb po) ∷ [])))
    (place_made A g 𝓛 (block_ptr pb po) n k.alloc) $
    use1 𝓛 (‵ ((OP.the_row Place).own_val (Some now) (v ∷ [])))
    (Some-of 𝓛 Place now (place_val (vptr pb po))) $
    sets ! (bin ! (get ! refl) (lit ! tt) (tests_null (block_ptr pb po) low)) refl (tt, tt) $
    first ! $ branches ! (get ! refl) (λ wrong. absurd wrong)
    (λ _. skips ! $ exec ! 𝓣.C 𝓣.Λ Ev (after 2 fn.body) (at_ret Ev Post) $
    sets ! (agg ! (no_more !)) refl (tt, tt) $
    sets ! (agg ! (and_then ! (get ! refl) (and_then ! (get ! refl) (no_more !)))) refl
    (tt, (tt, (tt, tt))) $
    sets ! (agg ! (and_then ! (lit ! tt) (and_then ! (get ! refl) (no_more !)))) refl
    (tt, (record { fits = lit< tt }, ((tt, (tt, tt)), tt))) $
    returns ! (look_at ! 0 refl) $ free_all ! refl $ keep ! (1 ∷ 0 ∷ []) $
    by ! (spent 𝓛 En c y v (Some now) (tt, (tt, (tt, tt)))
    (fact_i 𝓤 _ (emp 𝓤) (ap is_null e, sym e, refl, refl))))))))))))
