-- `cut` takes the room for a header and the places out of one block. Assumes `Logic`.
use Rattle.std.proofs.Common.{◌≡◌, ℕ, ◌+◌, ◌*◌, ◌^◌, ◌<◌, List, [], ◌∷◌, ◌++◌, refl, sym, ap, ◌∙◌}
use Rattle.std.proofs.Common.{subst, arith, add_comm, w64}
use mir.Raw.{raw as bare}
use mir.Syntax.{Ty, a_type, dcons, dnil}
use mir.Val.{Val, vint, vptr, vstruct, of_list}
use mir.MapTy.{inst_fn}
use base.Logic.{SProp, emp, never, fst∗, id⊢}
use base.Fml.{Fml, fsep, feq, froom}
use contract.BorrowLft.{◌⊑◌}
use contract.Monad.{fact, fact_i}
use contract.Running.{tables}
use types.Logic.{sem}
use types.Kit.{‵, raw, ◌⊛◌, at_ret, ◌$◌, ◌∵◌, !, qed, by, move, keep, drop, split, split3, fsplit}
use types.Kit.{fjoin, fpack, feq_i, flt_i, use0, use1, use2, rewrite}
use types.Run.{stop, fld, of_opd, bin, no_more, and_then, first, blocks, exec, returns}
use types.ByLocal.{alloc_all, pass_all, free_all, look_at, get, get_in, sets, sets_last, env}
use types.Part.{agg, sub, whole}
use denote.Param.{param, bounded, layout}
use denote.RattleType.{RattleType, Valss, owns}
use denote.RawPtr.{Ptr, RawPtr, block_ptr, null_ptr, in_a_block}
use denote.Signature.{types_at}
use denote.Steps.{nothing, heard}
use denote.Struct.Struct.{as_fields}
use denote.Struct.Tuple.{Tuple}
use denote.Triple.Entry.{alive}
use Rattle.core.specs.Allocator.{owned_block}
use Rattle.core.specs.Mem.{type_size}
use Rattle.core.proofs.alloc.Shapes.{after}
use Rattle.std_alloc.proofs.VecSteps.El.{El, R}
use Rattle.logbook.proofs.Fields.{token, Token, token_made}
use Rattle.arc_owners.proofs.Allocators.{allocating}
use Rattle.arc_owners.proofs.Endings.{Walk, spends, enters, spent}
use Rattle.arc_owners.proofs.Markers.{told}
use Rattle.arc_owners.specs.contracts.memory.header_room.HeaderRoom as Room
use Rattle.arc_memory.proofs.Held.{places_at}
use Rattle.arc_memory.specs.Memory.{side_by_side}
use Rattle.arc_memory.specs.Pieces.{units_of, head_size, in_units, piece_bytes, frees_piece}
use Rattle.arc_memory.specs.contracts.header_block.HeaderBlock as Block
use Rattle.arc_memory.specs.contracts.places.Places as Places
use Rattle.arc_memory.specs.contracts.piece_right.PieceRight as Right
use Rattle.arc_memory.proofs.HeaderBlocks.{block_val, block_told}
use Rattle.arc_memory.proofs.HeaderPlaces.{room_val, room_own, room_made}
use Rattle.arc_memory.proofs.Pieces as Pieces
use Rattle.arc_memory.proofs.Cuts.{Side}
use Rattle.arc_memory.proofs.Runs.{first_place}
use Rattle.arc_memory.specs.contracts.piece_right.PieceRight.cut as f
use Rattle.arc_memory.proofs.piece_right.PieceRight.cut.Statement.{statement}
use Rattle.arc_memory.proofs.piece_right.PieceRight.cut.Code as code

pub cut_spec : {M : Type 1} → statement M
cut_spec 𝓤 𝓛 𝓜 𝓡 wired T A X LT LA LX g d da met md =
    let H = 𝓛.H in let 𝓣 = tables 𝓤 H 𝓜 𝓡 𝓡.env in let En = f.ended T A X g d da in
    let c = f.clauses T A X g d da 𝓛 𝓜.mem 𝓡.returns in
    let inst = bounded (a_type ∷ a_type ∷ a_type ∷ []) (T, (A, (X, tt))) (dcons d (dcons da dnil))
    in let fn = inst_fn inst code.function in
    let E : El = record { row = T; laws = LT; al = allocating A LA g d da } in
    let T' : RattleType = R E in let A' : RattleType = param 1 A in
    let X' : RattleType = param 2 X in let Both : RattleType = Tuple (T' ∷ A' ∷ []) in
    let Left : RattleType = Right.the_row T' A' g in let Rm : RattleType = Room.the_row X' in
    let Pl : RattleType = Places.the_row T' in let Row : RattleType = Block.the_row A' g in
    spends 𝓛 En c 𝓜 𝓡 (λ κs x w. tt, (λ κs x w. tt, (λ κs x w. tt, tt))) _ _
    (code.unfolded 𝓤 𝓛.H 𝓜 𝓡 wired (T, (A, (X, tt))) d da) (λ y are.
    let κs = y.0.0 in let qs = y.0.1 in let x : Row.Denot = y.0.3.0 in let n : ℕ = y.0.3.1.0 in
    let m : ℕ = y.0.3.1.1.0 in let vss = y.0.4 in
    let Post : Val → SProp 𝓤 = (Walk 𝓛 En c).post y in
    let holds : Ty → Ptr → Fml = g.dealloc_token x.alloc in let σ : Ty = layout X' in
    let head : ℕ × ℕ = head_size X' in
    let Whole : Type 0 = x.bytes ≡ piece_bytes T' head m in
    let Front : Type 0 = n ≡ in_units (type_size X') in let Few : Type 0 = m < 2 ^ 63 in
    qed 𝓛 ((raw (alive 𝓛 En.signature κs qs) ⊛ ‵ (owns (types_at En.signature.params κs) y.0.3
    vss)) ∷ (raw (fact 𝓤 (κs.0 ⊑ T.lives)) ⊛ raw (fact 𝓤 (κs.1.0 ⊑ A.lives)) ⊛ raw
    (fact 𝓤 (κs.1.1.0 ⊑ X.lives)) ⊛ raw (fact 𝓤 Whole) ⊛ raw (fact 𝓤 Front) ⊛ raw
    (fact 𝓤 Few)) ∷ []) ∵
    move ! (1 ∷ []) $ split ! $ drop ! $ split ! $ drop ! $ split ! $ drop ! $ split ! $
    heard ! Whole (λ asked. split ! $
    heard ! Front (λ front. heard ! Few (λ few. split ! $ move ! (1 ∷ []) $
    fsplit ! $ fsplit ! $ drop ! $ keep ! (0 ∷ 2 ∷ []) $
    in_a_block ! x.ptr (λ q. owned_block holds (units_of x.bytes) q)
    (fst∗ 𝓤 (never 𝓤) (sem 𝓛 (holds (units_of x.bytes) null_ptr)))
    (λ b o at_b. let p : Ptr = block_ptr b o in
    rewrite ! 0 (λ (k : ℕ). ‵ (owned_block holds (units_of k) p)) asked refl $ fsplit ! $
    let at : ℕ = o + in_units (type_size X') in let there : n + o ≡ at = ap (λ (k : ℕ). k + o) front
    ∙ add_comm (in_units (type_size X')) o in
    use2 𝓛 (‵ (froom (bare σ) b o) ⊛ ‵ (Side E 𝓛 b at m []) ⊛ ‵ (frees_piece T' holds head m p))
    (Pieces.cuts E 𝓛 X' m b o holds) $ split3 ! $
    -- [the header's room; the places; the right; the tokens]
    let bytes : piece_bytes T' head m < 2 ^ 63 = subst (λ (k : ℕ). k < 2 ^ 63) asked x.fits.1 in
    let fit : m * type_size T' < 2 ^ 63 = omega (arith, bytes) in
    let f₁ = are.1.0.1 in let f₂ = are.1.1.0.1 in let q : Ptr = block_ptr b (n + o) in
    let ws : List Val = block_val p ∷ vint w64 n ∷ vint w64 m ∷ [] in
    let e₀ : vss.0 ≡ block_val p ∷ [] = block_told A' x.ptr vss.0 are.0.0
    ∙ ap (λ (r : Ptr). block_val r ∷ []) at_b in
    enters ! _ _ _ _ ws (λ j. e₀ j ++ (are.1.0.0 j ++ (are.1.1.0.0 j ++ []))) $
    alloc_all ! (λ l. pass_all ! refl
    ((tt, (tt, (tt, tt))), ((tt, record { fits = f₁ }), ((tt, record { fits = f₂ }), tt))) $
    let Ev = env fn.locals l in
    sets ! (of_opd ! (get_in ! (fld ! refl (stop !)) (sub ! 0 refl (whole !)))) refl (tt, tt) $
    first ! $ blocks ! $ sets_last ! (bin ! (get ! refl) (get ! refl) tt) refl (tt, tt) $
    exec ! 𝓣.C 𝓣.Λ Ev (after 2 fn.body) (at_ret Ev Post) $
    sets ! (of_opd ! (get ! refl)) refl (tt, tt) $ sets ! (of_opd ! (get ! refl)) refl (tt, tt) $
    sets ! (agg ! (and_then ! (get ! refl) (no_more !))) refl (tt, (tt, tt)) $
    sets ! (agg ! (no_more !)) refl (tt, tt) $ sets ! (agg ! (and_then ! (get ! refl) (no_more !)))
    refl (tt, (tt, tt)) $
    sets ! (agg ! (no_more !)) refl (tt, tt) $ sets ! (agg ! (and_then ! (get ! refl) (no_more !)))
    refl (tt, (tt, tt)) $
    sets ! (of_opd ! (get ! refl)) refl (tt, tt) $
    let us : List Val = room_val p ∷ token ∷ token ∷ vptr b (n + o) ∷ [] in
    sets ! (agg ! (and_then ! (get ! refl)
    (and_then ! (get ! refl) (and_then ! (get ! refl) (and_then ! (get ! refl) (no_more !))))))
    refl (as_fields (layout Rm ∷ layout Left ∷ layout Pl ∷ layout RawPtr ∷ []) us
    ((tt, (tt, tt)), ((tt, (tt, tt)), ((tt, (tt, tt)), ((tt, tt), tt))))) $
    let room : Rm.Denot = record { at = p } in
    let left : Left.Denot = record {
      marker = record {};
      alloc = x.alloc;
      place = p;
      head = head;
      count = m;
    } in
    let own : Pl.Denot = places_at E (block_ptr b at) m 0 m [] (omega arith, omega arith, few) in
    -- each part, from the last one on
    use0 𝓛 (‵ (room_own p (room_val p ∷ []))) (room_made p 𝓛) $ fjoin ! $
    use1 𝓛 (‵ (Rm.own_val room (room_val p ∷ []))) (id⊢ 𝓤 _) $ move ! (2 ∷ []) $
    fpack ! (piece_bytes T' head m < 2 ^ 63) (λ _. frees_piece T' holds head m p) bytes $
    use0 𝓛 (‵ ((Token Both).own_val (record {}, tt) (token ∷ []))) (token_made Both 𝓛) $
    fjoin ! $ move ! (2 ∷ []) $
    rewrite ! 0 (λ (r : Ptr). ‵ (side_by_side T' r m [])) (sym (first_place E b at)) refl $
    flt_i ! (m * type_size T') (2 ^ 63) fit $ fjoin ! $
    use0 𝓛 (‵ ((Token T').own_val (record {}, tt) (token ∷ []))) (token_made T' 𝓛) $ fjoin ! $
    -- [the places; the right; the header's room; the tokens]
    nothing ! $ feq_i ! (List Val) (vptr b (n + o) ∷ []) (vptr b (n + o) ∷ []) refl $ fjoin ! $
    move ! (1 ∷ 0 ∷ []) $ fjoin ! $ move ! (1 ∷ 0 ∷ []) $ fjoin ! $ move ! (1 ∷ 0 ∷ []) $
    fjoin ! $
    let w : Val = vstruct (of_list us) in let Rs : List RattleType = Rm ∷ Left ∷ Pl ∷ RawPtr ∷ [] in
    feq_i ! (List Val) (w ∷ []) (w ∷ []) refl $ fjoin ! $
    fpack ! (Valss Rs)
    (λ uss. fsep (feq (List Val) (w ∷ [])
    (vstruct (of_list (uss.0 ++ (uss.1.0 ++ (uss.1.1.0 ++ (uss.1.1.1.0 ++ []))))) ∷ []))
    (owns Rs (room, (left, (own, (q, tt)))) uss))
    (room_val p ∷ [], (token ∷ [], (token ∷ [], (vptr b (n + o) ∷ [], tt)))) $
    returns ! (look_at ! 0 refl) $ free_all ! refl $ keep ! (1 ∷ 0 ∷ []) $
    let base : block_ptr b at ≡ q = ap (block_ptr b) (sym there) in
    by ! (spent 𝓛 En c y w (room, left, own, q) (tt, (tt, (tt, tt)))
    (told 𝓤 refl (told 𝓤 (refl, refl, refl)
    (told 𝓤 (base, refl, refl, refl, refl) (fact_i 𝓤 _ (emp 𝓤) (sym base)) 𝓛) 𝓛) 𝓛))))))))
