-- `freeze` shares the item of each place, by a share of the lifetime that is borrowed and a token
-- of the items' own lifetimes, and settles its name. It touches no memory.
use Rattle.std.proofs.Common.{◌≡◌, ℕ, ◌+◌, ◌*◌, ◌≤◌, List, [], ◌∷◌, ◌++◌, length, refl, sym}
use Rattle.std.proofs.Common.{arith}
use lib.ListN.{drop as drop_from}
use mir.Val.{Val, vptr}
use base.Logic.{SProp, emp}
use base.Fml.{GName, Lft, Share, ftrue, fsep, flft, fhide, fshr_bor}
use types.Kit.{‵, raw, ◌⊛◌, later, ◌$◌, ◌∵◌, !, qed, by, move, keep, drop, split, split3, fsplit}
use types.Kit.{fjoin, feq_l, use1, use3, await, rewrite}
use types.Tokens.{shr_bor-open, obor_close}
use types.Within.{tokens_halve}
use types.Run.{no_more, and_then, returns}
use contract.Monad.{fact, fact_i}
use denote.Builtin.{unit}
use denote.Memory.{hidden_shr}
use denote.Opens.{unhide}
use denote.Steps.{heard}
use types.ByLocal.{alloc_all, pass_all, free_all, look_at, get, sets}
use types.Part.{agg}
use contract.BorrowLft.{◌⊑◌}
use denote.RattleType.{RattleType, owns}
use denote.Signature.{types_at}
use denote.Struct.Lending.{lent_out}
use Rattle.core.specs.contracts.marker.PhantomData as marker
use Rattle.std_alloc.proofs.VecSteps.El.{El, R, el_x, sz, no_al}
use Rattle.logbook.proofs.Fields.{token, Token, token_told}
use Rattle.arc_owners.proofs.Endings.{Walk, spends, enters, spent}
use Rattle.arc_owners.proofs.Markers.{marked}
use Rattle.arc_memory.specs.LentMemory.{LentMemory, contents, borrowed, frozen, names_from}
use Rattle.arc_memory.proofs.Borrowed.{Borrows}
use Rattle.arc_memory.proofs.Frozen.{freezes}
use Rattle.arc_memory.proofs.LentHeld.{there_out, there_in}
use Rattle.arc_memory.specs.contracts.frozen_places.FrozenPlaces as FrozenPlaces
use Rattle.arc_owners.specs.contracts.lifetime.LifetimeToken as LifetimeToken
use Rattle.arc_memory.specs.contracts.lent_places.LentPlaces as LentPlaces
use Rattle.arc_memory.specs.contracts.lent_places.LentPlaces.freeze as f
use Rattle.arc_memory.proofs.lent_places.LentPlaces.freeze.Statement.{statement}
use Rattle.arc_memory.proofs.lent_places.LentPlaces.freeze.Code as code

pub freeze_spec : {M : Type 1} → statement M
freeze_spec 𝓤 𝓛 𝓜 𝓡 wired T L =
    let E : El = record { row = T; laws = L; al = no_al } in let s = sz E in
    let En = f.ended T in let c = f.clauses T 𝓛 𝓜.mem 𝓡.returns in
    let Tok : RattleType = LifetimeToken.the_row in
    let Lt : RattleType = LentPlaces.the_row (R E) in
    let Fr : RattleType = FrozenPlaces.the_row (R E) in
    spends 𝓛 En c 𝓜 𝓡 (λ κs x w. tt, (λ κs x w. tt, tt)) _ _
    (code.unfolded 𝓤 𝓛.H 𝓜 𝓡 wired (T, tt)) (λ y are.
    let κs = y.0.0 in let qs = y.0.1 in let me : Lt.Denot = y.0.3.0 in
    let by_token : Tok.Denot = y.0.3.1.0.now in let b₁ = y.0.3.1.0.ref_ptr.0 in
    let o₁ = y.0.3.1.0.ref_ptr.1 in let vss = y.0.4 in
    let m : LentMemory = me.memory in let a : ℕ = m.lifetime in let α : Lft = a ∷ [] in
    let κ : Lft = κs.0 in let τ : Lft = κs.1.0 in let p : Share = qs.1.0 in
    let xs : List (el_x E) = me.items in let Post : Val → SProp 𝓤 = (Walk 𝓛 En c).post y in
    let Full : Type 0 = length xs ≡ me.count in let Lasting : Type 0 = by_token.lifetime ≡ a in
    qed 𝓛 ((‵ (fsep (flft κ qs.0) (fsep (flft τ p) ftrue)) ⊛ ‵
    (owns (types_at En.signature.params κs) y.0.3 vss)) ∷ (raw (fact 𝓤 (τ ⊑ T.lives)) ⊛ raw
    (fact 𝓤 Full) ⊛ raw (fact 𝓤 Lasting)) ∷ []) ∵
    move ! (1 ∷ []) $ split ! $
    heard ! (τ ⊑ T.lives) (λ inc. split ! $
    heard ! Full (λ full. heard ! Lasting (λ lasting. split ! $ fsplit ! $ move ! (1 ∷ []) $
    fsplit ! $ move ! (3 ∷ []) $ fsplit ! $ fsplit ! $ drop ! $
    there_out E ! m me.start (borrowed (R E) a (names_from (R E) m me.start) (contents me.count xs))
    (λ b o at_b small. move ! (1 ∷ []) $ fsplit ! $ fsplit ! $ feq_l ! (λ e₁.
    use1 𝓛 (‵ (hidden_shr (Token unit) κ (by_token.marker, tt) b₁ o₁) ⊛ ‵
    (fhide (fshr_bor κ (λ q. flft (by_token.lifetime ∷ []) q))))
    (lent_out 𝓛 LifetimeToken.struct (LifetimeToken.the_codes (marker.the_row unit).coded)
    LifetimeToken.the_heap LifetimeToken.the_lent κ by_token b₁ o₁) $ split ! $ drop ! $
    unhide ! $
    -- [what is lent of the share; no more parameters; the borrows; the token of T; no more tokens;
    -- the token of the borrow]
    let gs : List GName = drop_from me.start m.names in let from : ℕ = o + me.start * s in
    rewrite ! 0 (λ (k : ℕ). ‵ (fshr_bor κ (λ q. flft (k ∷ []) q))) lasting refl $
    rewrite ! 2 (λ (n : ℕ). ‵ (Borrows E 𝓛 b a gs (contents n xs) from)) (sym full) refl $
    let e₀ : vss.0 ≡ token ∷ [] = token_told (R E) vss.0 are.0.0 in
    let ws : List Val = token ∷ vptr b₁ o₁ ∷ [] in
    enters ! _ _ _ _ ws (λ j. e₀ j ++ (e₁ j ++ [])) $
    alloc_all ! (λ l. pass_all ! refl ((tt, (tt, tt)), ((tt, tt), tt)) $
    move ! (0 ∷ 5 ∷ []) $ shr_bor-open ! tt (tokens_halve 𝓛 α) (λ q.
    -- [the open borrow of the share; the share; no more parameters; the borrows; the token of T; no
    -- more tokens]
    move ! (3 ∷ 1 ∷ 4 ∷ []) $
    use3 𝓛 (later (‵ (frozen (R E) a gs xs b from) ⊛ ‵ (flft α q) ⊛ ‵ (flft τ p)))
    (freezes E 𝓛 b a q τ p inc gs xs from) $ await ! tt $ split3 ! $
    move ! (3 ∷ 1 ∷ []) $ obor_close ! tt $ drop ! $ move ! (1 ∷ []) $
    let low : me.start + length xs ≤ length m.names = omega (arith, full, me.inside.0) in
    let range : Fr.Denot = record {
      marker = record {};
      memory = m;
      start = me.start;
      items = xs;
      inside = (low, me.inside.1, me.inside.3);
    } in
    there_in E ! m me.start (frozen (R E) a gs xs) b o at_b small $ marked (R E) ! $
    -- [the range; the token of the borrow; the token of T; no more parameters; no more tokens]
    sets ! (agg ! (no_more !)) refl (tt, tt) $ sets ! (agg ! (and_then ! (get ! refl) (no_more !)))
    refl (tt, (tt, tt)) $
    move ! (2 ∷ 3 ∷ []) $ fjoin ! $ move ! (2 ∷ 0 ∷ []) $ fjoin ! $
    returns ! (look_at ! 0 refl) $ free_all ! refl $ keep ! (0 ∷ 1 ∷ []) $
    by ! (spent 𝓛 En c y token range (tt, (tt, tt))
    (fact_i 𝓤 _ (emp 𝓤) (refl, refl, refl)))))))))))
