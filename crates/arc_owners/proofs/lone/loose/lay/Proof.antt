-- `lay` lays the right to free a count's memory in the bank, for a receipt.
use contract.BorrowLft.{◌⊑◌}
use Rattle.std.proofs.Common.{◌≡◌, ℕ, ◌^◌, ◌<◌, true, List, [], ◌∷◌, ◌++◌, refl, sym, ap, ◌∙◌, subst, w64}
use mir.Syntax.{ty_ptr}
use mir.Raw.{raw as bare}
use mir.Val.{Val, vptr}
use base.Fraction.{full_share}
use base.Logic.{emp, never, id⊢, fst∗}
use base.Fml.{ftrue, fsep, flft, fhide}
use types.Logic.{sem}
use types.Kit.{‵, raw, ◌⊛◌, some as any, later, ◌$◌, ◌∵◌, !, qed, by, move, keep, drop, split, fsplit}
use types.Kit.{fjoin, fpack, pick, await, use1, use2, rewrite, feq_i}
use types.Run.{stop, fld, of_opd, no_more, and_then, returns}
use types.ByLocal.{alloc_all, pass_all, free_all, look_at, get, get_in, sets}
use types.Part.{agg, sub, whole}
use contract.Monad.{fact, fact_i}
use denote.Exit.{yes, no}
use denote.Builtin.{RefOf, u64, unit}
use denote.Memory.{lone, hidden_shr}
use denote.Opens.{unhide}
use denote.Param.{param, layout}
use denote.Plain.{uint_out}
use denote.RattleType.{RattleType, owns}
use denote.RawPtr.{Ptr, RawPtr, Testable, block_ptr, null_ptr, ptr_val, in_a_block}
use denote.Signature.{types_at, plain}
use denote.Steps.{nothing, heard}
use denote.Struct.Struct.{as_fields}
use denote.Triple.Walked.{Goes-dropped}
use Rattle.core.specs.Sync.RawAtomic.{word}
use Rattle.core.proofs.alloc.Calls.{Goes-blank}
use Rattle.std.proofs.raw_atomic.Walks.{proved_at}
use Rattle.std_alloc.specs.Box.Ownership.{box_owns}
use Rattle.logbook.proofs.Fields.{token, Token}
use Rattle.arc_owners.specs.count.Invariant.{receipt}
use Rattle.arc_owners.specs.count.Leads.{is_null, frees_count, bank_of}
use Rattle.arc_owners.specs.contracts.lone.bank.Bank as Bank
use Rattle.arc_owners.specs.contracts.lone.loose.PendingCount as PendingCount
use Rattle.arc_owners.proofs.count.Bank.{deposits}
use Rattle.arc_owners.proofs.count.LooseCounts.{Row, place_val, place_told}
use Rattle.arc_owners.proofs.count.Markers.{marked}
use Rattle.arc_owners.proofs.memory.Endings.{dropped, enters, both_spent}
use Rattle.arc_owners.specs.contracts.lone.loose.lay as f
use Rattle.arc_owners.proofs.lone.loose.lay.Statement.{statement}
use Rattle.arc_owners.proofs.lone.loose.lay.Code as code

pub lay_spec : {M : Type 1} → statement M
lay_spec 𝓤 𝓛 𝓜 𝓡 wired A LA g d da allocator glued = let Z : RattleType = param 0 A in
    let Place : RattleType = Row A g in let Known : RattleType = Bank.the_row Z g in
    let Count : RattleType = PendingCount.the_row in
    let En = f.ended A g d da in let c = f.clauses A g d da 𝓛 𝓜.mem 𝓡.returns in
    proved_at 𝓛 En (dropped En.signature.params En.kept) c 𝓜 𝓡 (
      Goes-blank 𝓛 2 (plain (λ _. Place)) no (λ κs x w. tt),
      (
        Goes-dropped 𝓛 2 (RefOf (0 ∷ []) tt (plain (λ _. Known)) (λ _. tt)) yes
            (λ κs x w. refl),
        tt,
      ),
    ) _ _ (code.unfolded 𝓤 𝓛.H 𝓜 𝓡 wired (A, tt) d da) (λ y are.
    let κs = y.0.0 in let qs = y.0.1 in let was : Place.Denot = y.0.3.0 in let vss = y.0.4 in
    let k : Known.Denot = y.0.3.1.0.now in
    let b = y.0.3.1.0.ref_ptr.0 in let o = y.0.3.1.0.ref_ptr.1 in
    let holds = g.dealloc_token k.alloc in let n : ℕ = was.value in let δ : ℕ = k.receipts in
    let Asked : Type 0 = (was.alloc ≡ k.alloc) × Testable was.at in
    qed 𝓛 ((‵ (fsep (flft κs.0 qs.0) (fsep (flft κs.1.0 qs.1.0) ftrue)) ⊛ ‵
    (owns (types_at En.signature.params κs) y.0.3 vss)) ∷ raw (fact 𝓤 (κs.1.0 ⊑ A.lives)) ∷ raw
    (fact 𝓤 Asked) ∷ []) ∵ move ! (2 ∷ []) $ heard ! Asked (λ asked. keep ! (0 ∷ []) $ split ! $
    move ! (1 ∷ []) $ fsplit ! $ fsplit ! $ drop ! $ move ! (1 ∷ []) $ fsplit ! $ fsplit ! $
    keep ! (1 ∷ 3 ∷ 4 ∷ []) $
    -- [what is lent of the bank; what the box owns; the tokens]
    use1 𝓛 (‵ (hidden_shr (Token Z) κs.0 (k.marker, tt) b o) ⊛ ‵
    (fhide (bank_of holds k.number δ))) (id⊢ 𝓤 _) $ split ! $ drop ! $ unhide ! $ move ! (1 ∷ []) $
    in_a_block ! was.at (λ p. box_owns (g.dealloc_token was.alloc) u64 p n)
    (fst∗ 𝓤 (never 𝓤) (sem 𝓛 (g.dealloc_token was.alloc (bare (lone u64.mir)) null_ptr)))
    (λ pb po e. fsplit ! $
    use1 𝓛 (‵ (word pb po n)) (uint_out 𝓛 full_share w64 n pb po) $ move ! (1 ∷ []) $
    rewrite ! 0 (λ (al : A.Denot). ‵ (g.dealloc_token al (bare (lone u64.mir)) (block_ptr pb po)))
    asked.0 refl $
    -- [the right to free it; the word; the bank; the tokens]
    let low : po < 2 ^ 63 = subst Testable e asked.1 in
    let count : Count.Denot = record {
      marker = record {};
      held = true;
      receipts = δ;
      at = block_ptr pb po;
      number = n;
    } in
    enters ! _ _ _ _ (place_val (vptr pb po) ∷ vptr b o ∷ [])
    (λ j. (place_told A g was vss.0 are.0.0 ∙ ap (λ (q : Ptr). place_val (ptr_val q) ∷ []) e) j
    ++ (are.1.0.0 j ++ [])) $
    alloc_all ! (λ l. pass_all ! refl ((tt, (tt, (tt, tt))), ((tt, tt), tt)) $
    move ! (2 ∷ 0 ∷ []) $ use2 𝓛 (later (any (λ (j : ℕ). ‵ (receipt δ j (pb, po)))))
    (deposits 𝓛 (frees_count holds) δ k.number (pb, po)) $ await ! tt $ pick ! (λ j.
    fpack ! ℕ (λ (i : ℕ). receipt δ i (pb, po)) j $ nothing ! $
    fpack ! (po < 2 ^ 63) (λ _. ftrue) low $ fjoin ! $ move ! (1 ∷ 0 ∷ []) $ fjoin ! $
    -- [the count; the tokens]
    sets ! (of_opd ! (get_in ! (fld ! refl (stop !)) (sub ! 0 refl (whole !)))) refl (tt, tt) $
    sets ! (agg ! (no_more !)) refl (tt, tt) $
    sets ! (agg ! (and_then ! (get ! refl) (no_more !))) refl (tt, (tt, tt)) $
    sets ! (agg ! (and_then ! (get ! refl) (and_then ! (get ! refl) (no_more !)))) refl
    (as_fields (ty_ptr ∷ layout Count ∷ []) (vptr pb po ∷ token ∷ [])
    ((tt, tt), ((tt, (tt, tt)), tt))) $
    marked unit ! $ feq_i ! (List Val) (vptr pb po ∷ []) (vptr pb po ∷ []) refl $
    returns ! (look_at ! 0 refl) $ free_all ! refl $ keep ! (0 ∷ 1 ∷ 2 ∷ []) $
    by ! (both_spent 𝓛 En c y RawPtr Count (block_ptr pb po) count (vptr pb po) token
    (block_ptr pb po, count) (tt, (tt, tt)) refl (fact_i 𝓤 _ (emp 𝓤) (
      sym e,
      ap is_null e,
      refl,
      refl,
      sym e,
      refl,
    ))))))))
