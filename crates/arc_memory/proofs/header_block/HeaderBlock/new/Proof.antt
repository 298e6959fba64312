-- `new` asks for units of 16 bytes. Assumes `Logic`.
use Rattle.std.proofs.Common.{◌≡◌, ◌*◌, ◌/◌, List, [], ◌∷◌, ◌++◌, refl, ◌∙◌, arith, lit<, w64, Some}
use Rattle.std.proofs.Common.{None}
use mir.Syntax.{Ty, a_type, dcons, dnil}
use mir.Val.{Val, vint, vptr, vcons, vnil}
use mir.MapTy.{inst_fn}
use base.Logic.{SProp, emp, id⊢}
use base.Fml.{Lft, Share, ftrue, flft}
use prog.Capped.{capped_is}
use prog.Wp.{Env, Wp, WpFn, after_seq, at_return}
use contract.BorrowLft.{◌⊑◌, ⊑_trans}
use contract.Monad.{fact, fact_i}
use contract.Running.{tables}
use types.Kit.{‵, raw, ◌⊛◌, later, prop, at_ret, any_q, Post as After, ◌$◌, ◌∵◌, !, qed, by, move}
use types.Kit.{drop, use0, use1, use2, split, join, regoal, fsplit, fjoin, await}
use types.Part.{whole, agg}
use types.Match.{live, vrt, in_variant}
use types.Run.{stop, fld, lit, of_opd, no_more, and_then, first, switches_on, exec, returns, enter}
use types.ByLocal.{alloc_all, pass_all, free_all, look_at, get, get_in, get_tag, sets, sets_last}
use types.ByLocal.{lands_as, env}
use denote.Exit.{yes}
use denote.RattleType.{RattleType, owns}
use denote.RawPtr.{Ptr, block_ptr}
use denote.Param.{param, bounded}
use denote.Builtin.{usize, RefOf}
use denote.Signature.{types_at, type_at, plain}
use denote.Steps.{nothing, heard}
use denote.Triple.Entry.{alive}
use denote.Triple.Call.{calls_at}
use denote.Triple.Walked.{Stays, stay_dropped, walk_of, Goes-dropped}
use Rattle.core.proofs.alloc.Calls.{Al, seen, Takes, at_takes, Answered, Takes-goes, Takes-gives}
use Rattle.core.proofs.alloc.Calls.{answers}
use Rattle.core.proofs.alloc.Shapes.{after, head, arm_body}
use Rattle.core.proofs.atomic.Steps.{fm}
use Rattle.core.proofs.option.Made.{Some-of, none_of}
use Rattle.std.proofs.raw_atomic.Walks.{proved_at, leaves}
use Rattle.arc_memory.specs.Pieces.{IsWhole, units_of}
use Rattle.arc_memory.specs.contracts.header_block.HeaderBlock as block
use Rattle.arc_memory.proofs.HeaderBlocks.{block_val, block_own, block_made}
use Rattle.arc_memory.specs.contracts.header_block.HeaderBlock.new as f
use Rattle.arc_memory.proofs.header_block.HeaderBlock.new.Statement.{statement}
use Rattle.arc_memory.proofs.header_block.HeaderBlock.new.Code as code

pub new_spec : {M : Type 1} → statement M
new_spec 𝓤 𝓛 𝓜 𝓡 wired A L g d dd met md =
    let H = 𝓛.H in let 𝓣 = tables 𝓤 H 𝓜 𝓡 𝓡.env in
    let Y : Al = record { row = A; laws = L; g = g; d = d; drops = dd } in
    let En₀ = f.ended A g d dd in let c = f.clauses A g d dd 𝓛 𝓜.mem 𝓡.returns in
    let inst = bounded (a_type ∷ []) (A, tt) (dcons d (dcons dd dnil)) in
    let fn = inst_fn inst code.function in
    let handle = RefOf {n = 2} (0 ∷ []) tt (plain (λ _. param 0 A)) (λ _. tt) in
    let word = plain {n = 2} (λ _. usize) in
    let hs : Stays En₀.signature.params En₀.kept =
    (stay_dropped handle yes, (stay_dropped word yes, tt)) in
    proved_at 𝓛 En₀ hs c 𝓜 𝓡 (
      Goes-dropped 𝓛 2 handle yes (λ κs x w. refl),
      (Goes-dropped 𝓛 2 word yes (λ κs x w. refl), tt),
    ) (f.Key.name inst) fn
    (code.unfolded 𝓤 H 𝓜 𝓡 wired (A, tt) d dd) (λ z are.
    let Post : Val → SProp 𝓤 = (walk_of 𝓛 En₀ hs c).post z in let a = z.0.3 in let vss = z.0.4 in
    let κ : Lft = z.0.0.0 in let q : Share = z.0.1.0 in let h = a.0.now in let at = a.0.ref_ptr in
    let n = a.1.0 in let τ : Ty = units_of n in
    let y = at_takes Y 𝓛 𝓜.mem 𝓡.returns κ q at h n 16 τ in
    let Row : RattleType = block.the_row (param 0 A) g in
    let Out : RattleType = type_at En₀.signature.result z.0.0 in
    qed 𝓛 ((raw (alive 𝓛 En₀.signature z.0.0 z.0.1) ⊛ ‵ (owns (types_at En₀.signature.params z.0.0)
    a vss)) ∷ (raw (fact 𝓤 (z.0.0.1.0 ⊑ A.lives)) ⊛ raw (fact 𝓤 (IsWhole n))) ∷ []) ∵
    move ! (1 ∷ []) $ split ! $
    heard ! (z.0.0.1.0 ⊑ A.lives) (λ le. heard ! (IsWhole n) (λ asked. split ! $
    move ! (1 ∷ []) $
    fsplit ! $ fsplit ! $ drop ! $ move ! (1 ∷ []) $ drop ! $ use1 𝓛 (‵ (seen Y κ at h)) (id⊢ 𝓤 _) $
    move ! (1 ∷ []) $ use1 𝓛 (‵ (flft κ q) ⊛ ‵ (flft z.0.0.1.0 z.0.1.1.0) ⊛ ‵ ftrue) (id⊢ 𝓤 _) $
    split ! $ move ! (2 ∷ 0 ∷ []) $
    let even = asked.0 in let small = asked.1 in let fits = are.1.0.1 in
    -- [the `&`; its lifetime's token; the other tokens]
    regoal ! (λ (us : List Val). prop (WpFn 𝓤 H 𝓣.C 𝓣.Λ fn us Post))
    (λ i. are.0.0 i ++ (are.1.0.0 i ++ [])) refl $
    enter ! 𝓣.C 𝓣.Λ fn (vptr at.0 at.1 ∷ vint w64 n ∷ []) Post $
    alloc_all ! (λ l. pass_all ! refl ((tt, tt), ((tt, record { fits = fits }), tt)) $
    let En : Env 𝓤 𝓛.H = env fn.locals l in
    let Then : After 𝓤 H =
    any_q (after_seq 𝓤 H (Wp 𝓤 H 𝓣.C 𝓣.Λ En (after 2 fn.body) (at_return 𝓤 H En Post))
    (at_return 𝓤 H En Post)) in
    use2 𝓛 (raw ((Takes Y 𝓛 𝓜.mem 𝓡.returns).pre y)) (Takes-goes Y 𝓛 𝓜.mem 𝓡.returns κ q at h
    (⊑_trans κ z.0.0.1.0 A.lives z.0.2.0 le) n 16 τ (capped_is (n / 16 * 16) (omega arith)
    ∙ omega arith) refl fits (lit< tt)) $
    calls_at ! (fm 𝓛 𝓜 𝓡) (Takes Y 𝓛 𝓜.mem 𝓡.returns) (met.allocate dd) y
    (and_then ! (get ! refl) (and_then ! (get ! refl) (and_then ! (lit ! tt) (no_more !))))
    (λ v.
    use1 𝓛 (later (raw (Answered Y 𝓛 𝓜.mem 𝓡.returns h τ v) ⊛ ‵ (flft κ q)))
    (Takes-gives Y 𝓛 𝓜.mem 𝓡.returns κ q at h n 16 τ v) $ await ! tt $ split ! $
    answers Y ! 𝓜.mem 𝓡.returns h τ v
    (λ b o e. let p : Ptr = block_ptr b o in move ! (2 ∷ 3 ∷ []) $ join ! $ move ! (1 ∷ 2 ∷ []) $
    lands_as ! (e) refl (tt, (record { fits = lit< tt }, (tt, tt))) $
    -- [the room; the right to free it; the tokens]
    first ! $ switches_on ! (get_tag ! (vrt ! refl (fld ! refl (stop !))) (whole !)) $
    exec ! 𝓣.C 𝓣.Λ En (arm_body 0 (head (after 1 fn.body))) Then $
    sets ! (of_opd ! (get_in ! (vrt ! refl (fld ! refl (stop !)))
    (in_variant ! 0 0 refl refl (whole !)))) refl (tt, tt) $
    sets ! (agg ! (no_more !)) refl (tt, tt) $
    sets ! (agg ! (and_then ! (get ! refl) (and_then ! (get ! refl) (no_more !)))) refl
    (tt, (tt, (tt, tt))) $
    sets_last ! (agg ! (and_then ! (lit ! tt) (and_then ! (get ! refl) (no_more !)))) refl
    (tt, (record { fits = lit< tt }, ((tt, (tt, tt)), tt))) $
    exec ! 𝓣.C 𝓣.Λ En (after 2 fn.body) (at_ret En Post) $ sets ! (of_opd ! (get ! refl)) refl
    (tt, (record { fits = lit< tt }, ((tt, (tt, tt)), tt))) $
    returns ! (look_at ! 0 refl) $ free_all ! refl $
    let x : Row.Denot = record { ptr = p; marker = record {}; alloc = h; bytes = n; fits = asked }
    in let w : Val = block_val p in
    fjoin ! $ use0 𝓛 (‵ (block_own (param 0 A) p (w ∷ []))) (block_made (param 0 A) p 𝓛) $ fjoin ! $
    use1 𝓛 (‵ (Row.own_val x (w ∷ []))) (id⊢ 𝓤 _) $
    use1 𝓛 (‵ (Out.own_val (Some x) (live 1 (vcons w vnil) ∷ []))) (Some-of 𝓛 Row x w) $
    use0 𝓛 (raw (fact 𝓤 ((h ≡ h) × (n ≡ n))))
    (fact_i 𝓤 ((h ≡ h) × (n ≡ n)) (emp 𝓤) (refl, refl)) $ nothing ! $ nothing ! $ fjoin ! $
    nothing ! $ fjoin ! $ move ! (3 ∷ 0 ∷ 2 ∷ 1 ∷ []) $
    by ! (leaves 𝓛 En₀ hs c z (live 1 (vcons w vnil)) (Some x) (tt, (tt, tt)) (tt, (tt, tt))))
    (λ e. join ! $ lands_as ! (e) refl (tt, (record { fits = lit< tt }, (tt, tt))) $
    first ! $ switches_on ! (get_tag ! (vrt ! refl (fld ! refl (stop !))) (whole !)) $
    exec ! 𝓣.C 𝓣.Λ En (arm_body 1 (head (after 1 fn.body))) Then $
    sets_last ! (agg ! (and_then ! (lit ! tt) (no_more !))) refl
    (tt, (record { fits = lit< tt }, tt)) $
    exec ! 𝓣.C 𝓣.Λ En (after 2 fn.body) (at_ret En Post) $ sets ! (of_opd ! (get ! refl)) refl
    (tt, (record { fits = lit< tt }, tt)) $
    returns ! (look_at ! 0 refl) $ free_all ! refl $
    use0 𝓛 (‵ (Out.own_val None (live 0 vnil ∷ []))) (none_of 𝓛 Row) $
    use0 𝓛 (raw (fact 𝓤 (Unit {0}))) (fact_i 𝓤 (Unit {0}) (emp 𝓤) (tt)) $ nothing ! $
    nothing ! $ fjoin ! $ nothing ! $ fjoin ! $ move ! (3 ∷ 0 ∷ 2 ∷ 1 ∷ []) $
    by ! (leaves 𝓛 En₀ hs c z (live 0 vnil) (None) (tt, (tt, tt)) (tt, (tt, tt)))))))))
