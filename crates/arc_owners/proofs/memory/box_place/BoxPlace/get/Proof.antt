-- `get` shows what lies at the place: a `&` to the place has a `&` to it.
use Rattle.std.proofs.Common.{ℕ, ◌+◌, List, [], ◌∷◌, refl}
use mir.Syntax.{a_type, named, dcons, dnil}
use mir.Val.{Val, vptr}
use mir.MapTy.{inst_fn}
use base.Logic.{SProp, emp}
use base.Fml.{Lft, ftrue, fsep, fhide, flft}
use types.Kit.{‵, raw, ◌⊛◌, at_ret, ◌$◌, ◌∵◌, !, qed, by, move, keep, drop, split, fsplit, fjoin}
use types.Kit.{use1, feq_i}
use types.Run.{stop, fld, hop, look, addr, of_opd, first, blocks, exec, returns, enter}
use types.ByLocal.{alloc_all, pass_all, free_all, look_at, get, through, sets, sets_last, env}
use contract.Monad.{fact, fact_i}
use contract.Running.{tables}
use denote.Exit.{yes}
use denote.RattleType.{RattleType, owns}
use denote.Signature.{types_at, plain}
use denote.Builtin.{RefOf}
use denote.Ref.{shr_vals, shr_Tells}
use denote.Memory.{hidden_shr}
use denote.Opens.{unhide, hide}
use denote.RawPtr.{block_of, count_of, InBlock}
use denote.Steps.{nothing, heard}
use denote.Param.{bounded}
use denote.Struct.Lending.{lent_out, in_block_says}
use denote.Triple.Walked.{Stays, stay_dropped, walk_of, Goes-dropped}
use Rattle.core.specs.contracts.marker.PhantomData as marker
use Rattle.core.proofs.alloc.Shapes.{after}
use Rattle.std.proofs.raw_atomic.Walks.{proved}
use Rattle.std_alloc.proofs.Words.{pointer_in, pointer_out}
use Rattle.std_alloc.proofs.BoxSteps.Form.{Bx, R, P}
use Rattle.logbook.proofs.Fields.{ends}
use Rattle.arc_owners.proofs.memory.Allocators.{allocating}
use Rattle.arc_owners.proofs.memory.BoxPlaces.{Row, Fields, parts, shows_at}
use Rattle.arc_owners.specs.contracts.memory.box_place.BoxPlace as BoxPlace
use Rattle.arc_owners.specs.contracts.memory.box_place.BoxPlace.get as f
use Rattle.arc_owners.proofs.memory.box_place.BoxPlace.get.Statement.{statement}
use Rattle.arc_owners.proofs.memory.box_place.BoxPlace.get.Code as code

pub get_spec : {M : Type 1} → statement M
get_spec 𝓤 𝓛 𝓜 𝓡 wired T A L LA g d da allocator glued =
    let H = 𝓛.H in let 𝓣 = tables 𝓤 H 𝓜 𝓡 𝓡.env in
    let E : Bx = record { row = T; laws = L; al = allocating A LA g d da } in
    let En = f.ended T A g d da in let c = f.clauses T A g d da 𝓛 𝓜.mem 𝓡.returns in
    let inst = bounded (a_type ∷ a_type ∷ []) (T, (A, tt)) (dcons d (dcons da dnil)) in
    let fn = inst_fn inst code.function in let S : RattleType = Row E in
    let hs : Stays En.signature.params En.kept =
    (stay_dropped (RefOf (0 ∷ []) tt (plain (λ _. S)) (λ _. tt)) yes, tt) in
    proved 𝓛 En hs c 𝓜 𝓡 (
      Goes-dropped 𝓛 3 (RefOf (0 ∷ []) tt (plain (λ _. S)) (λ _. tt)) yes
          (λ κs x w. refl),
      tt,
    ) (f.Key.name inst) fn (code.unfolded 𝓤 H 𝓜 𝓡 wired (T, (A, tt)) d da)
    (λ κs. (shr_vals, tt)) (λ κs. (shr_Tells (named 0) κs.0 S, tt)) (λ κs qs bounds a gh are.
    let κ : Lft = κs.0 in let me : S.Denot = a.0.now in let b : ℕ = a.0.ref_ptr.0 in
    let o : ℕ = a.0.ref_ptr.1 in let pb : ℕ = block_of me.at in let po : ℕ = count_of me.at in
    let y : (walk_of 𝓛 En hs c).Ghost = ((κs, qs, bounds, a, (vptr b o ∷ [], tt)), gh) in
    let Post : Val → SProp 𝓤 = (walk_of 𝓛 En hs c).post y in
    qed 𝓛 ((‵ (fsep (flft κ qs.0) (fsep (flft κs.1.0 qs.1.0) (fsep (flft κs.1.1.0 qs.1.1.0) ftrue)))
    ⊛ ‵ (owns (types_at En.signature.params κs) a y.0.4)) ∷ raw ((c κs a).requires gh) ∷ [])
    ∵ keep ! (0 ∷ []) $ split ! $
    fsplit ! $ move ! (2 ∷ []) $ fsplit ! $ fsplit ! $ drop ! $ move ! (0 ∷ 2 ∷ []) $
    -- [what is lent of the place; its token; no more parameters; the other tokens]
    enter ! 𝓣.C 𝓣.Λ fn (vptr b o ∷ []) Post $ alloc_all ! (λ l. pass_all ! refl ((tt, tt), tt) $
    let Ev = env fn.locals l in
    use1 𝓛 (‵ (hidden_shr (Fields E) κ (parts E me) b o) ⊛ ‵
    (fhide (BoxPlace.the_lent (R E) (P E) g me me.at κ)))
    (lent_out 𝓛 (BoxPlace.struct (R E) (P E) g) (BoxPlace.the_codes T.Denot A.Denot T.coded A.coded
    (marker.the_row (P E)).coded) (BoxPlace.the_heap (R E) (P E) g)
    (BoxPlace.the_lent (R E) (P E) g) κ me b o) $ split ! $ move ! (1 ∷ []) $
    unhide ! $ fsplit ! $ use1 𝓛 (raw (fact 𝓤 (InBlock me.at))) (in_block_says 𝓛 me.at) $
    heard ! (InBlock me.at) (λ inb. hide ! $ move ! (1 ∷ 2 ∷ []) $
    pointer_in ! tt me.at inb b (o + 0) (shows_at E 𝓛 κ b o me) (λ q'.
    first ! $ blocks ! $
    sets_last ! (addr ! (through ! refl (fld ! refl (hop ! (look ! 1 refl) (stop !))))) refl
    (tt, tt) $ exec ! 𝓣.C 𝓣.Λ Ev (after 1 fn.body) (at_ret Ev Post) $
    pointer_out ! tt me.at inb b (o + 0) $ sets ! (of_opd ! (get ! refl)) refl (tt, tt) $
    move ! (0 ∷ 4 ∷ []) $ fjoin ! $ move ! (2 ∷ []) $ feq_i ! (List Val) (vptr pb po ∷ [])
    (vptr pb po ∷ []) refl $ fjoin ! $ nothing ! $ nothing ! $ fjoin ! $
    returns ! (look_at ! 0 refl) $ free_all ! refl $ keep ! (2 ∷ 0 ∷ 1 ∷ []) $
    by ! (ends 𝓛 En hs c y (vptr pb po) (record { ref_ptr = (pb, po); now = me.value }) (tt, tt)
    (tt, tt) (fact_i 𝓤 _ (emp 𝓤) refl))))))
