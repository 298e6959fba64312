-- `whole` makes one block of the header's room and the places. Assumes `Logic`.
use Rattle.std.proofs.Common.{◌≡◌, ℕ, ◌+◌, List, [], ◌∷◌, ◌++◌, refl, sym, ap, ◌∙◌, arith}
use mir.Raw.{raw as bare}
use mir.Syntax.{Ty}
use mir.Val.{Val}
use base.Logic.{emp, id⊢}
use base.Fml.{Fml}
use contract.BorrowLft.{◌⊑◌}
use contract.Monad.{fact, fact_i}
use types.Kit.{‵, raw, ◌⊛◌, ◌$◌, ◌∵◌, !, qed, by, move, keep, drop, split, fsplit, fjoin, fpick}
use types.Kit.{feq_l, use0, use1, use3, rewrite}
use types.Run.{stop, fld, of_opd, no_more, and_then, returns}
use types.ByLocal.{alloc_all, pass_all, free_all, look_at, get, get_in, sets}
use types.Part.{agg, sub, whole}
use denote.Param.{param, layout}
use denote.RattleType.{RattleType, owns}
use denote.RawPtr.{Ptr, block_ptr, room_for, in_a_block}
use denote.Signature.{types_at}
use denote.Steps.{heard}
use denote.Struct.Tuple.{Tuple}
use denote.Triple.Entry.{alive}
use Rattle.core.specs.Allocator.{owned_block}
use Rattle.std_alloc.proofs.VecSteps.El.{El, R}
use Rattle.logbook.proofs.Fields.{token, token_told}
use Rattle.arc_owners.proofs.Allocators.{allocating}
use Rattle.arc_owners.proofs.Endings.{spends, enters, spent}
use Rattle.arc_owners.proofs.Markers.{told}
use Rattle.arc_owners.specs.contracts.memory.header_room.HeaderRoom as Room
use Rattle.arc_memory.specs.Memory.{places_own, side_by_side}
use Rattle.arc_memory.specs.Pieces.{units_of, head_size, in_units, piece_bytes, behind, frees_piece}
use Rattle.arc_memory.specs.Pieces.{piece_right}
use Rattle.arc_memory.specs.contracts.head_size.HeadSize as HeadSize
use Rattle.arc_memory.specs.contracts.header_block.HeaderBlock as Block
use Rattle.arc_memory.specs.contracts.places.Places as Places
use Rattle.arc_memory.specs.contracts.piece_right.PieceRight as Right
use Rattle.arc_memory.proofs.HeaderBlocks.{block_val, block_own, block_made}
use Rattle.arc_memory.proofs.HeaderPlaces.{room_val, room_told}
use Rattle.arc_memory.proofs.Pieces as Pieces
use Rattle.arc_memory.proofs.Cuts.{Side}
use Rattle.arc_memory.proofs.Runs.{first_place}
use Rattle.arc_memory.specs.contracts.piece_right.PieceRight.whole as f
use Rattle.arc_memory.proofs.piece_right.PieceRight.whole.Statement.{statement}
use Rattle.arc_memory.proofs.piece_right.PieceRight.whole.Code as code

pub whole_spec : {M : Type 1} → statement M
whole_spec 𝓤 𝓛 𝓜 𝓡 wired T A X LT LA LX g d da met md =
    let En = f.ended T A X g d da in
    let c = f.clauses T A X g d da 𝓛 𝓜.mem 𝓡.returns in
    let E : El = record { row = T; laws = LT; al = allocating A LA g d da } in
    let T' : RattleType = R E in let A' : RattleType = param 1 A in
    let X' : RattleType = param 2 X in let Both : RattleType = Tuple (T' ∷ A' ∷ []) in
    let Left : RattleType = Right.the_row T' A' g in let Rm : RattleType = Room.the_row X' in
    let Hd : RattleType = HeadSize.the_row X' in let Pl : RattleType = Places.the_row T' in
    let Row : RattleType = Block.the_row A' g in
    spends 𝓛 En c 𝓜 𝓡 (λ κs x w. tt, (λ κs x w. tt, (λ κs x w. tt, (λ κs x w. tt, tt)))) _ _
    (code.unfolded 𝓤 𝓛.H 𝓜 𝓡 wired (T, (A, (X, tt))) d da) (λ y are.
    let κs = y.0.0 in let qs = y.0.1 in let left : Left.Denot = y.0.3.0 in
    let room : Rm.Denot = y.0.3.1.0 in let hd : Hd.Denot = y.0.3.1.1.0 in
    let own : Pl.Denot = y.0.3.1.1.1.0 in let vss = y.0.4 in
    let holds : Ty → Ptr → Fml = g.dealloc_token left.alloc in let n : ℕ = left.count in
    let σ : Ty = layout X' in
    let Met : Type 0 = (room.at ≡ left.place) × (hd.size ≡ left.head) in
    let All : Type 0 = (own.base ≡ behind left.head left.place) × (own.start ≡ 0)
    × (own.count ≡ n) × (own.items ≡ []) in
    qed 𝓛 ((raw (alive 𝓛 En.signature κs qs) ⊛ ‵ (owns (types_at En.signature.params κs) y.0.3
    vss)) ∷ (raw (fact 𝓤 (κs.0 ⊑ T.lives)) ⊛ raw (fact 𝓤 (κs.1.0 ⊑ A.lives)) ⊛ raw
    (fact 𝓤 (κs.1.1.0 ⊑ X.lives)) ⊛ raw (fact 𝓤 Met) ⊛ raw (fact 𝓤 All)) ∷ []) ∵
    move ! (1 ∷ []) $ split ! $ drop ! $ split ! $ drop ! $ split ! $ drop ! $ split ! $
    heard ! Met (λ is. heard ! All (λ all. split ! $ move ! (1 ∷ []) $
    fsplit ! $ fsplit ! $ drop ! $ use1 𝓛 (‵ (piece_right T' holds left.head n left.place))
    (id⊢ 𝓤 _) $ move ! (1 ∷ []) $
    fsplit ! $ fsplit ! $ drop ! $ use1 𝓛 (‵ (room_for (bare σ) room.at)) (id⊢ 𝓤 _) $
    move ! (1 ∷ []) $
    fsplit ! $ fsplit ! $ drop ! $ feq_l ! (λ sized. fsplit ! $ fsplit ! $ drop ! $
    -- [the places; no more parameters; the header's room; the right; the tokens]
    move ! (2 ∷ 0 ∷ 3 ∷ 4 ∷ []) $ in_a_block ! room.at (λ q. room_for (bare σ) q) (id⊢ 𝓤 _)
    (λ b o at_b. let p : Ptr = block_ptr b o in
    let head : left.head ≡ head_size X' = sym is.1 ∙ sized in let place : left.place ≡ p = sym is.0
    ∙ at_b in let at : ℕ = o + in_units (head_size X').0 in
    let first : own.base ≡ block_ptr b at = all.0 ∙ (λ i. behind (head i) (place i)) in
    move ! (1 ∷ []) $
    rewrite ! 0 (λ (k : Ptr × (ℕ × (ℕ × List T'.Denot))).
    ‵ (places_own T' k.0 own.whole k.1.0 k.1.1.0 k.1.1.1))
    (λ i. (first i, (all.1 i, (all.2 i, all.3 i)))) refl $
    fsplit ! $ drop ! $ rewrite ! 0 (λ (q : Ptr). ‵ (side_by_side T' q n [])) (first_place E b at)
    refl $ use1 𝓛 (‵ (Side E 𝓛 b at n [])) (id⊢ 𝓤 _) $
    move ! (2 ∷ []) $
    fpick ! (λ small. rewrite ! 0 (λ (k : (ℕ × ℕ) × Ptr). ‵ (frees_piece T' holds k.0 n k.1))
    (λ i. (head i, place i)) refl $ move ! (2 ∷ 1 ∷ 0 ∷ []) $
    use3 𝓛 (‵ (owned_block holds (units_of (piece_bytes T' (head_size X') n)) p))
    (Pieces.whole E 𝓛 X' n b o holds) $
    rewrite ! 0 (λ (k : ℕ × ℕ). ‵ (owned_block holds (units_of (piece_bytes T' k n)) p)) (sym head)
    refl $
    -- [the block; no more parameters; the tokens]
    let e₀ : vss.0 ≡ token ∷ [] = token_told Both vss.0 are.0.0 in
    let e₁ : vss.1.0 ≡ room_val p ∷ [] = room_told room.at vss.1.0 are.1.0.0
    ∙ ap (λ (q : Ptr). room_val q ∷ []) at_b in
    let e₂ : vss.1.1.0 ≡ token ∷ [] = token_told X' vss.1.1.0 are.1.1.0.0 in
    let e₃ : vss.1.1.1.0 ≡ token ∷ [] = token_told T' vss.1.1.1.0 are.1.1.1.0.0 in
    let ws : List Val = token ∷ room_val p ∷ token ∷ token ∷ [] in
    enters ! _ _ _ _ ws (λ j. e₀ j ++ (e₁ j ++ (e₂ j ++ (e₃ j ++ [])))) $
    alloc_all ! (λ l. pass_all ! refl
    ((tt, (tt, tt)), ((tt, (tt, tt)), ((tt, (tt, tt)), ((tt, (tt, tt)), tt)))) $
    sets ! (of_opd ! (get_in ! (fld ! refl (stop !)) (sub ! 0 refl (whole !)))) refl (tt, tt) $
    sets ! (of_opd ! (get ! refl)) refl (tt, tt) $
    sets ! (agg ! (no_more !)) refl (tt, tt) $
    sets ! (agg ! (and_then ! (get ! refl) (and_then ! (get ! refl) (no_more !)))) refl
    (tt, (tt, (tt, tt))) $
    let now : Row.Denot = record {
      ptr = p;
      marker = record {};
      alloc = left.alloc;
      bytes = piece_bytes T' left.head n;
      fits = (omega arith, small);
    } in
    let w : Val = block_val p in
    use0 𝓛 (‵ (block_own A' p (w ∷ []))) (block_made A' p 𝓛) $ fjoin ! $
    use1 𝓛 (‵ (Row.own_val now (w ∷ []))) (id⊢ 𝓤 _) $
    returns ! (look_at ! 0 refl) $ free_all ! refl $ keep ! (1 ∷ 0 ∷ []) $
    by ! (spent 𝓛 En c y w now (tt, (tt, (tt, (tt, tt))))
    (told 𝓤 (refl, refl) (fact_i 𝓤 _ (emp 𝓤) head) 𝓛)))))))))
