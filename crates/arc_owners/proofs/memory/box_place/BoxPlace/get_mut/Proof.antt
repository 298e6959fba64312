-- `get_mut` lends what lies at the place, and the place follows it.
use Rattle.std.proofs.Common.{◌≡◌, ℕ, List, [], ◌∷◌, refl}
use seplogic.Ra.Ura.{Ura}
use mir.Syntax.{a_type, named, dcons, dnil}
use mir.Val.{Val, vptr}
use mir.MapTy.{inst_fn}
use base.Fraction.{full_share}
use base.Logic.{SProp, ent, sep, emp}
use base.Fml.{GName, Fml, Lft, ftrue, fsep, flft}
use types.Logic.{Logic, sem}
use types.Kit.{‵, raw, ◌⊛◌, some, later, at_ret, ◌$◌, ◌∵◌, !, qed, by, move, keep, drop, split}
use types.Kit.{split3, join, group, pick, await, rewrite, fsplit, fsplit3, fjoin, fpack, use0, use1}
use types.Kit.{done}
use types.Run.{stop, fld, hop, addr, of_opd, first, blocks, exec, returns, enter}
use types.Part.{look_in, sub, whole}
use types.ByLocal.{alloc_all, pass_all, free_all, look_at, get, through, sets, sets_last, env}
use contract.Monad.{fact, fact_i}
use contract.Running.{tables}
use denote.Exit.{no}
use denote.Follow.{follows, lends_Part}
use denote.RattleType.{RattleType, owns}
use denote.Signature.{types_at, plain}
use denote.Builtin.{RefMutOf}
use denote.Ref.{MutRef, mut_vals, mut_Tells}
use denote.Memory.{mem, cell_at, part_at, part_of}
use denote.RawPtr.{block_ptr}
use denote.Steps.{nothing, opens}
use denote.Param.{bounded}
use denote.Triple.Walked.{Stays, stay_dropped, walk_of, Goes-spent_ref}
use Rattle.core.proofs.alloc.Shapes.{after}
use Rattle.std.proofs.raw_atomic.Walks.{proved, leaves}
use Rattle.std_alloc.proofs.BoxSteps.Form.{Bx, X, R}
use Rattle.arc_owners.proofs.memory.Allocators.{allocating}
use Rattle.arc_owners.specs.memory.BoxPlaces.{with_value}
use Rattle.arc_owners.proofs.memory.BoxPlaces.{Row, word, frees, place_out, place_in}
use Rattle.arc_owners.specs.contracts.memory.box_place.BoxPlace.get_mut as f
use Rattle.arc_owners.proofs.memory.box_place.BoxPlace.get_mut.Statement.{statement}
use Rattle.arc_owners.proofs.memory.box_place.BoxPlace.get_mut.Code as code

module _ (E : Bx) {M : Type 1} {𝓤 : Ura M} (𝓛 : Logic 𝓤) (d : (Row E).Denot) (b o rb ro : ℕ) where
  -- all of the place but what lies there
  abbrev Rest : Fml
  Rest = fsep (frees E d b o) (cell_at full_share (Row E).mir (word E (block_ptr b o) ∷ []) rb ro)

  back : d.at ≡ block_ptr b o → (w : X E)
      → ent 𝓤 (sep 𝓤 (sem 𝓛 ((mem (R E)).own_at w b o)) (sem 𝓛 Rest))
      (sem 𝓛 ((mem (Row E)).own_at (with_value d w) rb ro))
  unfolding part_of
  back e w = qed 𝓛 (‵ (part_at (R E) full_share w b o) ∷ ‵ Rest ∷ []) ∵ move ! (1 ∷ []) $ fsplit ! $
      move ! (2 ∷ 0 ∷ []) $ place_in E ! (with_value d w) b o w e refl $ move ! (1 ∷ 0 ∷ []) $
      fjoin ! $
      fpack ! (List Val) (λ us. fsep (cell_at full_share (Row E).mir us rb ro)
      ((Row E).own_val (with_value d w) us)) (word E (block_ptr b o) ∷ []) $ done !

pub get_mut_spec : {M : Type 1} → statement M
get_mut_spec 𝓤 𝓛 𝓜 𝓡 wired T A L LA g d da allocator glued =
    let H = 𝓛.H in let 𝓣 = tables 𝓤 H 𝓜 𝓡 𝓡.env in
    let E : Bx = record { row = T; laws = L; al = allocating A LA g d da } in
    let En = f.ended T A g d da in let c = f.clauses T A g d da 𝓛 𝓜.mem 𝓡.returns in
    let inst = bounded (a_type ∷ a_type ∷ []) (T, (A, tt)) (dcons d (dcons da dnil)) in
    let fn = inst_fn inst code.function in let S : RattleType = Row E in
    let hs : Stays En.signature.params En.kept =
    (stay_dropped (RefMutOf (0 ∷ []) tt (plain (λ _. S)) (λ _. tt)) no, tt) in
    proved 𝓛 En hs c 𝓜 𝓡 (Goes-spent_ref 𝓛 3 (0 ∷ []) tt (plain (λ _. S)), tt) (f.Key.name inst) fn
    (code.unfolded 𝓤 H 𝓜 𝓡 wired (T, (A, tt)) d da)
    (λ κs. (mut_vals, tt)) (λ κs. (mut_Tells (named 0) κs.0 S, tt)) (λ κs qs bounds a gh are.
    let κ : Lft = κs.0 in let q = qs.0 in let me : S.Denot = a.0.now in
    let rb : ℕ = a.0.ref_ptr.0 in let ro : ℕ = a.0.ref_ptr.1 in
    let γ : GName = a.0.ghost_name in let cd = S.coded.code me in
    let y : (walk_of 𝓛 En hs c).Ghost = ((κs, qs, bounds, a, (vptr rb ro ∷ [], tt)), gh) in
    let Post : Val → SProp 𝓤 = (walk_of 𝓛 En hs c).post y in
    qed 𝓛 ((‵ (fsep (flft κ q) (fsep (flft κs.1.0 qs.1.0) (fsep (flft κs.1.1.0 qs.1.1.0) ftrue))) ⊛
    ‵ (owns (types_at En.signature.params κs) a y.0.4)) ∷ raw ((c κs a).requires gh) ∷ [])
    ∵ keep ! (0 ∷ []) $ split ! $
    fsplit ! $ move ! (2 ∷ []) $ fsplit ! $ fsplit3 ! $ drop ! $ move ! (0 ∷ 1 ∷ 3 ∷ []) $
    enter ! 𝓣.C 𝓣.Λ fn (vptr rb ro ∷ []) Post $ alloc_all ! (λ l. pass_all ! refl ((tt, tt), tt) $
    let Ev = env fn.locals l in
    opens ! tt S {h = me} rb ro (λ us. move ! (1 ∷ []) $
    place_out E ! me us
    (λ b o e ws. rewrite ! 2 (λ (vs : List Val). ‵ (cell_at full_share S.mir vs rb ro)) ws refl
    $
    -- [what lies there; the right to free it; the place's cell; the open borrow, in three entries]
    first ! $ blocks ! $
    sets_last ! (addr ! (through ! refl
    (fld ! refl (hop ! (look_in ! 2 (sub ! 0 refl (whole !))) (stop !))))) refl (tt, tt) $
    exec ! 𝓣.C 𝓣.Λ Ev (after 1 fn.body) (at_ret Ev Post) $ sets ! (of_opd ! (get ! refl)) refl
    (tt, tt) $
    move ! (1 ∷ 2 ∷ []) $ fjoin ! $ move ! (2 ∷ 3 ∷ 4 ∷ 1 ∷ 0 ∷ []) $ group ! 5 $
    use1 𝓛 (later (some
    (λ (γ' : GName).
    ‵ ((MutRef (named 0) κ (R E)).own_val
    (record { ref_ptr = (b, o); ghost_name = γ'; now = me.value }) (vptr b o ∷ [])) ⊛ ‵
    (flft κ q) ⊛ ‵ (follows S (R E) γ γ' (with_value me)))))
    (lends_Part 𝓛 S (R E) (with_value me) (named 0) κ q rb ro b o γ (sem 𝓛 (Rest E 𝓛 me b o rb ro))
    (back E 𝓛 me b o rb ro e) cd cd me.value) $ await ! tt $ pick ! (λ γ'. split3 ! $
    -- [the reference; the token; what follows]
    returns ! (look_at ! 0 refl) $ free_all ! refl $ keep ! (0 ∷ 1 ∷ 4 ∷ 2 ∷ []) $
    move ! (1 ∷ 2 ∷ []) $ fjoin ! $ use0 𝓛 (raw (fact 𝓤 (me.value ≡ me.value)))
    (fact_i 𝓤 (me.value ≡ me.value) (emp 𝓤) refl) $
    move ! (3 ∷ 0 ∷ []) $ join ! $ nothing ! $ nothing ! $ fjoin ! $ keep ! (2 ∷ 0 ∷ 3 ∷ 1 ∷ []) $
    by ! (leaves 𝓛 En hs c y (vptr b o)
    (record { ref_ptr = (b, o); ghost_name = γ'; now = me.value }) (tt, tt) (tt, tt)))))))
