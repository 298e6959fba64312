-- `free` gives the memory back, and the right to free it. Assumes `Logic`.
use Rattle.std.proofs.Common.{◌≡◌, ℕ, ◌*◌, ◌/◌, List, [], ◌∷◌, ◌++◌, refl, sym, ap, ◌∙◌, subst}
use Rattle.std.proofs.Common.{arith, lit<, w64}
use mir.Syntax.{Ty, a_type, dcons, dnil, ty_unit}
use mir.Val.{Val, vint, vptr, vunit, has_ty, WT}
use mir.MapTy.{inst_fn}
use base.Logic.{SProp, never, id⊢, fst∗}
use base.Fml.{Lft, Share, ftrue, flft}
use lib.Dec.{T}
use prog.Capped.{capped_is}
use prog.Wp.{Env, WpFn}
use contract.BorrowLft.{◌⊑◌, ⊑_trans}
use contract.Monad.{fact}
use contract.Running.{tables}
use types.Logic.{sem}
use types.Kit.{‵, raw, ◌⊛◌, given, later, prop, at_ret, ◌$◌, ◌∵◌, !, qed, by, move, drop, use1}
use types.Kit.{use3, split, join, learn, rewrite, regoal, fsplit, fjoin, feq_i, await}
use types.Part.{whole, sub}
use types.Run.{stop, fld, lit, unit_lit, of_opd, no_more, and_then, first, blocks, exec, returns}
use types.Run.{enter}
use types.ByLocal.{alloc_all, pass_all, free_all, look_at, get, get_in, sets, lands_last, env}
use denote.Exit.{yes, no}
use denote.RattleType.{RattleType, owns}
use denote.RawPtr.{Ptr, block_ptr, null_ptr, in_a_block}
use denote.Param.{param, bounded}
use denote.Builtin.{usize, RefOf}
use denote.Signature.{types_at, plain}
use denote.Steps.{nothing, heard}
use denote.Triple.Entry.{alive}
use denote.Triple.Call.{calls_at_last}
use denote.Triple.Walked.{Stays, stay_dropped, walk_of, Goes-dropped}
use Rattle.core.proofs.alloc.Calls.{Al, token, seen, Goes-blank, Gives, at_gives, Gives-goes}
use Rattle.core.proofs.alloc.Calls.{Gives-Gives}
use Rattle.core.proofs.alloc.Shapes.{after}
use Rattle.core.proofs.atomic.Steps.{fm}
use Rattle.core.specs.Allocator.{owned_block}
use Rattle.std.proofs.raw_atomic.Walks.{proved_at, leaves}
use Rattle.arc_memory.specs.Pieces.{units_of}
use Rattle.arc_memory.specs.contracts.header_block.HeaderBlock as block
use Rattle.arc_memory.proofs.HeaderBlocks.{block_val, block_told}
use Rattle.arc_memory.specs.contracts.header_block.HeaderBlock.free as f
use Rattle.arc_memory.proofs.header_block.HeaderBlock.free.Statement.{statement}
use Rattle.arc_memory.proofs.header_block.HeaderBlock.free.Code as code

pub free_spec : {M : Type 1} → statement M
free_spec 𝓤 𝓛 𝓜 𝓡 wired A L g d dd met md =
    let H = 𝓛.H in let 𝓣 = tables 𝓤 H 𝓜 𝓡 𝓡.env in
    let Y : Al = record { row = A; laws = L; g = g; d = d; drops = dd } in
    let Row : RattleType = block.the_row (param 0 A) g in
    let En₀ = f.ended A g d dd in let c = f.clauses A g d dd 𝓛 𝓜.mem 𝓡.returns in
    let inst = bounded (a_type ∷ []) (A, tt) (dcons d (dcons dd dnil)) in
    let fn = inst_fn inst code.function in
    let handle = RefOf {n = 2} (0 ∷ []) tt (plain (λ _. param 0 A)) (λ _. tt) in
    let word = plain {n = 2} (λ _. usize) in
    let hs : Stays En₀.signature.params En₀.kept =
    (stay_dropped (plain (λ _. Row)) no, (stay_dropped handle yes, (stay_dropped word yes, tt)))
    in
    proved_at 𝓛 En₀ hs c 𝓜 𝓡 (
      Goes-blank 𝓛 2 (plain (λ _. Row)) no (λ κs x w. tt),
      (
        Goes-dropped 𝓛 2 handle yes (λ κs x w. refl),
        (
          Goes-dropped 𝓛 2 word yes (λ κs x w. refl),
          tt,
        ),
      ),
    ) (f.Key.name inst) fn (code.unfolded 𝓤 H 𝓜 𝓡 wired (A, tt) d dd) (λ z are.
    let Post : Val → SProp 𝓤 = (walk_of 𝓛 En₀ hs c).post z in let a = z.0.3 in let vss = z.0.4 in
    let κ : Lft = z.0.0.0 in let q : Share = z.0.1.0 in let x : Row.Denot = a.0 in
    let h = a.1.0.now in let at = a.1.0.ref_ptr in let n = a.1.1.0 in let τ : Ty = units_of n in
    let even = x.fits.0 in let small = x.fits.1 in let fits = are.1.1.0.1 in
    let Asked : Type 0 = (x.alloc ≡ h) × (x.bytes ≡ n) in
    qed 𝓛 ((raw (alive 𝓛 En₀.signature z.0.0 z.0.1) ⊛ ‵ (owns (types_at En₀.signature.params z.0.0)
    a vss)) ∷ (raw (fact 𝓤 (z.0.0.1.0 ⊑ A.lives)) ⊛ raw (fact 𝓤 Asked)) ∷ []) ∵
    move ! (1 ∷ []) $ split ! $
    heard ! (z.0.0.1.0 ⊑ A.lives) (λ le. heard ! Asked (λ asked. split ! $ move ! (1 ∷ []) $
    fsplit ! $ fsplit ! $ drop ! $
    in_a_block ! x.ptr (λ p. owned_block (token Y x.alloc) (units_of x.bytes) p)
    (fst∗ 𝓤 (never 𝓤) (sem 𝓛 (token Y x.alloc (units_of x.bytes) null_ptr)))
    (λ b o at_b. let p : Ptr = block_ptr b o in
    rewrite ! 0 (λ (u : A.Denot × ℕ). ‵ (owned_block (token Y u.0) (units_of u.1) p))
    (λ i. (asked.0 i, asked.1 i)) refl $ fsplit ! $ move ! (2 ∷ []) $ fsplit ! $ fsplit ! $
    drop ! $ move ! (1 ∷ []) $ drop ! $ use1 𝓛 (‵ (seen Y κ at h)) (id⊢ 𝓤 _) $
    move ! (3 ∷ []) $ use1 𝓛 (‵ (flft κ q) ⊛ ‵ (flft z.0.0.1.0 z.0.1.1.0) ⊛ ‵ ftrue) (id⊢ 𝓤 _) $
    split ! $ move ! (2 ∷ 0 ∷ []) $ join ! $ move ! (2 ∷ 3 ∷ 0 ∷ []) $
    -- [the room; the right to free it; the `&` with its lifetime's token; the other tokens]
    let y = at_gives Y 𝓛 𝓜.mem 𝓡.returns κ q at h b o n 16 τ in
    regoal ! (λ (us : List Val). prop (WpFn 𝓤 H 𝓣.C 𝓣.Λ fn us Post))
    (λ i. (block_told (param 0 A) x.ptr vss.0 are.0.0 ∙ ap (λ (k : Ptr). block_val k ∷ []) at_b)
    i ++ (are.1.0.0 i ++ (are.1.1.0.0 i ++ []))) refl $
    enter ! 𝓣.C 𝓣.Λ fn (block_val p ∷ vptr at.0 at.1 ∷ vint w64 n ∷ []) Post $
    alloc_all ! (λ l. pass_all ! refl
    ((tt, (tt, (tt, tt))), ((tt, tt), ((tt, record { fits = fits }), tt))) $
    let En : Env 𝓤 𝓛.H = env fn.locals l in
    sets ! (of_opd ! (get_in ! (fld ! refl (stop !)) (sub ! 0 refl (whole !)))) refl (tt, tt) $
    first ! $ blocks ! $
    use3 𝓛 (raw ((Gives Y 𝓛 𝓜.mem 𝓡.returns).pre y)) (Gives-goes Y 𝓛 𝓜.mem 𝓡.returns κ q at h
    (⊑_trans κ z.0.0.1.0 A.lives z.0.2.0 le) b o n 16 τ
    (capped_is (n / 16 * 16) (omega (arith, asked.1)) ∙ omega (arith, asked.1)) refl fits
    (lit< tt)) $
    calls_at_last ! (fm 𝓛 𝓜 𝓡) (Gives Y 𝓛 𝓜.mem 𝓡.returns) (met.deallocate dd) y
    (and_then ! (get ! refl)
    (and_then ! (get ! refl) (and_then ! (get ! refl) (and_then ! (lit ! tt) (no_more !)))))
    (λ v.
    use1 𝓛 (later (given (v ≡ vunit) (‵ (flft κ q)))) (Gives-Gives Y 𝓛 𝓜.mem 𝓡.returns κ q at h b o
    n 16 τ v) $ await ! tt $ learn ! (λ e. join ! $
    lands_last ! refl (subst (λ (w : Val). T (has_ty ty_unit w) × WT w) (sym e) (tt, tt)) $
    exec ! 𝓣.C 𝓣.Λ En (after 2 fn.body) (at_ret En Post) $ sets ! (of_opd ! (unit_lit !)) refl
    (tt, tt) $
    returns ! (look_at ! 0 refl) $ free_all ! refl $
    feq_i ! (List Val) (vunit ∷ []) (vunit ∷ []) refl $ nothing ! $ nothing ! $ nothing ! $
    fjoin ! $ nothing ! $ fjoin ! $ nothing ! $ fjoin ! $ move ! (3 ∷ 0 ∷ 2 ∷ 1 ∷ []) $
    by ! (leaves 𝓛 En₀ hs c z vunit tt (tt, (tt, (tt, tt))) (tt, (tt, (tt, tt)))))))))))
