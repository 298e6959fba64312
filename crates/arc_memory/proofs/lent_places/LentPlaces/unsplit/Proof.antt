-- `unsplit` puts the borrows of two parts together. It touches no memory.
use Rattle.std.proofs.Common.{◌≡◌, ℕ, ◌+◌, ◌*◌, ◌≤◌, ◌⊎◌, List, [], ◌∷◌, ◌++◌, length, refl, sym}
use Rattle.std.proofs.Common.{ap, ◌∙◌, arith, length-append, drop-drop}
use lib.ListN.{drop as drop_from}
use base.Logic.{emp}
use base.Fml.{GName, ftrue, fsep, flft}
use types.Kit.{‵, raw, ◌⊛◌, ◌$◌, ◌∵◌, !, qed, by, move, keep, drop, split, fsplit}
use types.Kit.{use2, rewrite}
use types.Run.{stop, fld}
use types.ByLocal.{get_in}
use types.Part.{sub, whole}
use contract.Monad.{fact, fact_i}
use denote.RawPtr.{Ptr, block_ptr, block_of, count_of}
use denote.Steps.{heard}
use types.ByLocal.{alloc_all, pass_all, free_all, look_at}
use contract.BorrowLft.{◌⊑◌}
use denote.RattleType.{RattleType, owns}
use denote.Signature.{types_at}
use Rattle.std_alloc.proofs.VecSteps.El.{El, R, sz, no_al}
use Rattle.logbook.proofs.Fields.{token, token_told}
use Rattle.arc_owners.proofs.Endings.{spends, enters, one_moved, spent}
use Rattle.arc_owners.proofs.Markers.{marked, told}
use Rattle.arc_memory.specs.LentMemory.{LentMemory, Held, contents, borrowed, names_from}
use Rattle.arc_memory.proofs.Borrowed.{Borrows, borrowed_glue}
use Rattle.arc_memory.proofs.Contents.{length-contents, contents-append}
use Rattle.arc_memory.proofs.Cuts.{further}
use Rattle.arc_memory.proofs.LentHeld.{lent_at, there_out, there_in}
use Rattle.arc_memory.specs.contracts.lent_places.LentPlaces as LentPlaces
use Rattle.arc_memory.specs.contracts.lent_places.LentPlaces.unsplit as f
use Rattle.arc_memory.proofs.lent_places.LentPlaces.unsplit.Statement.{statement}
use Rattle.arc_memory.proofs.lent_places.LentPlaces.unsplit.Code as code

pub unsplit_spec : {M : Type 1} → statement M
unsplit_spec 𝓤 𝓛 𝓜 𝓡 wired T L =
    let E : El = record { row = T; laws = L; al = no_al } in let s = sz E in
    let En = f.ended T in let c = f.clauses T 𝓛 𝓜.mem 𝓡.returns in
    let Lt : RattleType = LentPlaces.the_row (R E) in
    spends 𝓛 En c 𝓜 𝓡 (λ κs x w. tt, (λ κs x w. tt, tt)) _ _
    (code.unfolded 𝓤 𝓛.H 𝓜 𝓡 wired (T, tt)) (λ y are.
    let κs = y.0.0 in let qs = y.0.1 in let me : Lt.Denot = y.0.3.0 in
    let back : Lt.Denot = y.0.3.1.0 in let vss = y.0.4 in let m : LentMemory = me.memory in
    let a : ℕ = m.lifetime in
    let Next : Type 0 = (back.memory ≡ m) × (back.start ≡ me.start + me.count) in
    let Full : Type 0 = (length me.items ≡ me.count) ⊎ (back.items ≡ []) in
    let ys = contents me.count me.items in let zs = contents back.count back.items in
    qed 𝓛 ((‵ (fsep (flft κs.0 qs.0) ftrue) ⊛ ‵ (owns (types_at En.signature.params κs) y.0.3
    vss)) ∷ (raw (fact 𝓤 (κs.0 ⊑ T.lives)) ⊛ raw (fact 𝓤 Next) ⊛ raw (fact 𝓤 Full)) ∷ []) ∵
    move ! (1 ∷ []) $ split ! $ drop ! $ split ! $
    heard ! Next (λ next. heard ! Full (λ full. split ! $ move ! (1 ∷ []) $ fsplit ! $
    move ! (1 ∷ []) $ fsplit ! $ fsplit ! $ drop ! $
    there_out E ! back.memory back.start
    (borrowed (R E) back.memory.lifetime (names_from (R E) back.memory back.start) zs)
    (λ b₂ o₂ at_b₂ _. move ! (2 ∷ []) $ fsplit ! $ drop ! $
    there_out E ! m me.start (borrowed (R E) a (names_from (R E) m me.start) ys) (λ b o at_b small.
    -- [the front's borrows; the back's; no more parameters; the tokens]
    let gs : List GName = drop_from me.start m.names in let from : ℕ = o + me.start * s in
    let mid : ℕ = o + (me.start + me.count) * s in let total : ℕ = me.count + back.count in
    let base : block_ptr b₂ o₂ ≡ block_ptr b o = sym at_b₂ ∙ ap (λ (k : LentMemory). k.base) next.0
    ∙ at_b in
    let behind : drop_from back.start back.memory.names ≡ drop_from me.count
    gs = (λ i. drop_from (next.1 i) (next.0 i).names)
    ∙ sym (drop-drop me.count me.start m.names) in
    rewrite ! 1 (λ (p : Ptr). ‵ (Borrows E 𝓛 (block_of p) back.memory.lifetime
    (drop_from back.start back.memory.names) zs (count_of p + back.start * s))) base refl $
    rewrite ! 1 (λ (k : ℕ × ℕ). ‵ (Borrows E 𝓛 b k.0 (drop_from back.start back.memory.names) zs
    (o + k.1 * s))) (λ i. ((next.0 i).lifetime, next.1 i)) refl $
    rewrite ! 1 (λ (ks : List GName). ‵ (Borrows E 𝓛 b a ks zs mid)) behind refl $
    use2 𝓛 (‵ (Borrows E 𝓛 b a gs (ys ++ zs) from)) (borrowed_glue E 𝓛 b a me.count gs ys zs from
    mid (length-contents me.count me.items) (sym (further o me.start me.count s))) $
    rewrite ! 0 (λ (us : List (Held (R E))). ‵ (Borrows E 𝓛 b a gs us from))
    (sym (contents-append me.count back.count total me.items back.items full refl me.inside.2))
    refl $
    let names : length back.memory.names ≡ length m.names = ap (λ (k : LentMemory). length k.names)
    next.0 in let fewer : length (me.items ++ back.items) ≤ total = omega
    (arith, length-append me.items back.items, me.inside.2, back.inside.2) in
    let now : Lt.Denot = lent_at E m me.start total (me.items ++ back.items) (
      omega (
        arith,
        back.inside.0,
        names,
        next.1,
      ),
      me.inside.1,
      fewer,
      me.inside.3,
    ) in
    there_in E ! m me.start (borrowed (R E) a gs (contents total (me.items ++ back.items))) b o at_b
    small $ marked (R E) ! $
    enters ! _ _ _ _ (token ∷ token ∷ [])
    (λ j. token_told (R E) vss.0 are.0.0 j ++ (token_told (R E) vss.1.0 are.1.0.0 j ++ [])) $
    alloc_all ! (λ l. pass_all ! refl ((tt, (tt, tt)), ((tt, (tt, tt)), tt)) $
    one_moved ! (get_in ! (fld ! refl (stop !)) (sub ! 0 refl (whole !)))
    (refl, (tt, tt), refl, refl, (tt, (tt, tt))) (look_at ! 0 refl) (free_all ! refl) $
    keep ! (2 ∷ 0 ∷ []) $ by ! (spent 𝓛 En c y token now (tt, (tt, tt))
    (told 𝓤 (refl, refl) (fact_i 𝓤 _ (emp 𝓤) (refl, refl)) 𝓛))))))))
