-- `share` makes a `&` of what is lent, by the token of the lease that a borrowed owner has. It
-- touches no memory.
use Rattle.std.proofs.Common.{◌≡◌, ℕ, true, List, [], ◌∷◌, ◌++◌, refl, sym}
use mir.Val.{Val, vptr}
use base.Logic.{emp}
use base.Fml.{Fml, Lft, Share, ftrue, fsep, fbor, flft, fshr_bor}
use types.Within.{tokens_halve}
use types.Tokens.{shr_bor-open, obor_close}
use types.Kit.{‵, raw, ◌⊛◌, later, ◌$◌, ◌∵◌, !, qed, by, move, keep, drop, split, split3, fsplit}
use types.Kit.{fjoin, use0, use1, use3, await, rewrite, feq_l}
use types.Run.{no_more, and_then, returns}
use types.ByLocal.{alloc_all, pass_all, free_all, look_at, get, sets}
use types.Part.{agg}
use contract.Monad.{fact, fact_i}
use contract.BorrowLft.{◌⊑◌}
use denote.RattleType.{RattleType, owns}
use denote.Signature.{types_at}
use denote.Memory.{lone}
use denote.Steps.{heard}
use denote.Param.{param}
use denote.Param.Laws.{Laws, param_laws}
use denote.Struct.Lending.{lent_at}
use denote.Struct.Tuple.{Tuple}
use mir.Raw.{raw as bare}
use Rattle.core.proofs.alloc.Calls.{token as frees}
use Rattle.std_alloc.specs.Box.Ownership.{box_owns}
use Rattle.std_alloc.proofs.BoxSteps.Form.{Bx, R, P}
use Rattle.logbook.proofs.Fields.{token, token_told, Token, token_made}
use Rattle.arc_owners.proofs.memory.Allocators.{allocating}
use Rattle.arc_owners.proofs.memory.Endings.{spends, enters, spent}
use Rattle.arc_owners.proofs.memory.Borrows.{box_loan}
use Rattle.arc_owners.proofs.memory.OwnerShares.{shares_seen}
use Rattle.arc_owners.specs.contracts.count.word.OwnerToken as OwnerToken
use Rattle.arc_owners.specs.contracts.memory.lent_box.LentBox as LentBox
use Rattle.arc_owners.specs.contracts.memory.lent_box.LentBox.share as f
use Rattle.arc_owners.proofs.memory.lent_box.LentBox.share.Statement.{statement}
use Rattle.arc_owners.proofs.memory.lent_box.LentBox.share.Code as code

pub share_spec : {M : Type 1} → statement M
share_spec 𝓤 𝓛 𝓜 𝓡 wired T A Q L LA LQ g d da allocator glued =
    let E : Bx = record { row = T; laws = L; al = allocating A LA g d da } in let LR : Laws (R E) =
    param_laws 0 T L in
    let R₂ : RattleType = param 2 Q in let Own : RattleType = OwnerToken.the_row R₂ in
    let En = f.ended T A Q g d da in let c = f.clauses T A Q g d da 𝓛 𝓜.mem 𝓡.returns in
    let N : RattleType = LentBox.the_row (R E) (P E) g in
    let N : RattleType = LentBox.the_row (R E) (P E) g in
    spends 𝓛 En c 𝓜 𝓡 (λ κs x w. tt, (λ κs x w. tt, tt)) _ _
    (code.unfolded 𝓤 𝓛.H 𝓜 𝓡 wired (T, (A, (Q, tt))) d da) (λ y are.
    let κs = y.0.0 in let qs = y.0.1 in let a = y.0.3 in let vss = y.0.4 in
    let was : N.Denot = a.0 in let own = a.1.0.now in let b₁ = a.1.0.ref_ptr.0 in
    let o₁ = a.1.0.ref_ptr.1 in
    let κ : Lft = κs.0 in let τ : Lft = κs.1.0 in let p : Share = qs.1.0 in
    let n : ℕ = own.lease.lifetime in let α : Lft = n ∷ [] in
    let D : Fml = frees E.al was.alloc (bare (lone (R E).mir)) was.at in
    let Asked : Type 0 = (own.held ≡ true) × (own.lease.is_lent ≡ true) × (n ≡ was.lifetime) in
    qed 𝓛 ((‵ (fsep (flft κ qs.0)
    (fsep (flft τ p) (fsep (flft κs.1.1.0 qs.1.1.0) (fsep (flft κs.1.1.1.0 qs.1.1.1.0) ftrue))))
    ⊛ ‵ (owns (types_at En.signature.params κs) a vss)) ∷ raw (fact 𝓤 (τ ⊑ T.lives)) ∷ raw
    (fact 𝓤 (κs.1.1.0 ⊑ A.lives)) ∷ raw (fact 𝓤 (κs.1.1.1.0 ⊑ Q.lives)) ∷ raw
    (fact 𝓤 Asked) ∷ []) ∵
    move ! (4 ∷ 1 ∷ []) $
    heard ! Asked (λ asked. heard ! (τ ⊑ T.lives) (λ inc. keep ! (0 ∷ []) $ split ! $ fsplit ! $
    move ! (1 ∷ []) $ fsplit ! $ move ! (3 ∷ []) $ fsplit ! $ fsplit ! $ drop ! $
    move ! (1 ∷ []) $ fsplit ! $ fsplit ! $ feq_l ! (λ e₁.
    -- [what is lent of the owner; no more parameters; what is lent; the tokens of T and A, and of
    -- the owner]
    let ws : List Val = token ∷ vptr b₁ o₁ ∷ [] in
    let e₀ : vss.0 ≡ token ∷ [] = token_told (Tuple (R E ∷ P E ∷ [])) vss.0 are.0.0 in
    enters ! _ _ _ _ ws (λ i. e₀ i ++ (e₁ i ++ [])) $
    alloc_all ! (λ l. pass_all ! refl ((tt, (tt, tt)), ((tt, tt), tt)) $
    use1 𝓛 (‵ (fshr_bor κ (λ q. flft α q))) (shares_seen R₂ 𝓛 κ own b₁ o₁ n asked.0 asked.1 refl) $
    rewrite ! 2 (λ (k : ℕ).
    ‵ (fbor (k ∷ []) (box_owns (frees E.al was.alloc) (R E) was.at was.value))) (sym asked.2)
    refl $
    move ! (0 ∷ 5 ∷ []) $ shr_bor-open ! tt (tokens_halve 𝓛 α) (λ s.
    -- [the open borrow of the lease's token; the token; no more parameters; what is lent; the
    -- tokens of T and A]
    move ! (3 ∷ 1 ∷ 4 ∷ []) $
    use3 𝓛 (later (‵ (lent_at (R E) was.at was.value α) ⊛ ‵ (flft α s) ⊛ ‵ (flft τ p)))
    (box_loan (R E) LR 𝓛 was.at was.value D n s τ p inc) $ await ! tt $ split3 ! $
    move ! (3 ∷ 1 ∷ []) $ obor_close ! tt $
    -- [the borrow of the lease's token; the token of the owner; the loan; the tokens of T; no more
    -- parameters; the token of A]
    sets ! (agg ! (no_more !)) refl (tt, tt) $ sets ! (agg ! (and_then ! (get ! refl) (no_more !)))
    refl (tt, (tt, tt)) $
    use0 𝓛 (‵ ((Token (R E)).own_val (record {}, tt) (token ∷ []))) (token_made (R E) 𝓛) $
    move ! (0 ∷ 3 ∷ []) $ fjoin ! $
    move ! (3 ∷ 5 ∷ []) $ fjoin ! $ move ! (3 ∷ 0 ∷ []) $ fjoin ! $
    returns ! (look_at ! 0 refl) $ free_all ! refl $ keep ! (0 ∷ 1 ∷ []) $
    by ! (spent 𝓛 En c y token
    (record { marker = record {}; value = was.value; at = was.at; lifetime = n }) (tt, (tt, tt))
    (fact_i 𝓤 _ (emp 𝓤) (refl, refl, asked.2)))))))))
