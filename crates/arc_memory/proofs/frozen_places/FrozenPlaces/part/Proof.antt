-- A part of what a reader has of a frozen range can be had again. It touches no memory.
use Rattle.std.proofs.Common.{◌≡◌, ℕ, ◌+◌, ◌-◌, ◌*◌, ◌≤◌, List, [], ◌∷◌, length, refl, sym, ap, ◌∙◌}
use Rattle.std.proofs.Common.{arith, w64, add_comm, drop-drop}
use lib.ListN.{drop as drop_from}
use mir.Syntax.{a_type, named}
use mir.Val.{Val, vptr, vint}
use mir.MapTy.{inst_fn}
use base.Logic.{SProp, emp}
use base.Fml.{GName, ftrue, fsep, flft, fhide}
use types.Kit.{‵, raw, ◌⊛◌, ◌$◌, ◌∵◌, !, qed, by, move, keep, drop, split, fsplit, fjoin, use1}
use types.Kit.{rewrite}
use types.Run.{no_more, and_then, returns, enter}
use types.ByLocal.{alloc_all, pass_all, free_all, look_at, get, sets}
use types.Part.{agg}
use contract.Monad.{fact, fact_i}
use contract.BorrowLft.{◌⊑◌}
use contract.Running.{tables}
use denote.Exit.{yes}
use denote.RattleType.{RattleType, owns}
use denote.Signature.{types_at, plain}
use denote.Builtin.{RefOf, usize}
use denote.Ref.{shr_vals, shr_Tells}
use denote.Plain.{uint_vals, uint_Tells}
use denote.Memory.{hidden_shr}
use denote.Opens.{unhide}
use denote.Steps.{nothing, heard}
use denote.Param.{layouts}
use denote.Param.Laws.{param_laws}
use denote.Struct.Lending.{lent_out}
use denote.Triple.Walked.{Stays, stay_dropped, walk_of, Goes-dropped}
use Rattle.core.specs.Mem.{type_size}
use Rattle.core.specs.contracts.marker.PhantomData as marker
use Rattle.std.proofs.raw_atomic.Walks.{proved}
use Rattle.std_alloc.proofs.VecSteps.El.{El, R, no_al}
use Rattle.logbook.proofs.Fields.{token, Token, ends}
use Rattle.arc_owners.proofs.Markers.{marked, told}
use Rattle.arc_memory.specs.LentMemory.{LentMemory, frozen, names_from, frozen_owns}
use Rattle.arc_memory.proofs.Cuts.{further}
use Rattle.arc_memory.proofs.Frozen.{frozen_part}
use Rattle.arc_memory.proofs.LentHeld.{there_out, there_in}
use Rattle.arc_memory.proofs.Ranges.{sub, sub_length}
use Rattle.arc_memory.specs.contracts.frozen_places.FrozenPlaces as FrozenPlaces
use Rattle.arc_memory.specs.contracts.frozen_places.FrozenPlaces.part as f
use Rattle.arc_memory.proofs.frozen_places.FrozenPlaces.part.Statement.{statement}
use Rattle.arc_memory.proofs.frozen_places.FrozenPlaces.part.Code as code

pub part_spec : {M : Type 1} → statement M
part_spec 𝓤 𝓛 𝓜 𝓡 wired T L =
    let H = 𝓛.H in let 𝓣 = tables 𝓤 H 𝓜 𝓡 𝓡.env in
    let E : El = record { row = T; laws = L; al = no_al } in let X : RattleType = R E in
    let s = type_size X in let En = f.ended T in let c = f.clauses T 𝓛 𝓜.mem 𝓡.returns in
    let inst = layouts (a_type ∷ []) (T, tt) in let fn = inst_fn inst code.function in
    let Row : RattleType = FrozenPlaces.the_row X in
    let stays = stay_dropped (plain (λ _. usize)) yes in
    let goes = Goes-dropped 𝓛 2 (plain (λ _. usize)) yes (λ κs x w. refl) in
    let hs : Stays En.signature.params En.kept =
    (stay_dropped (RefOf (0 ∷ []) tt (plain (λ _. Row)) (λ _. tt)) yes, (stays, (stays, tt))) in
    proved 𝓛 En hs c 𝓜 𝓡 (
      Goes-dropped 𝓛 2 (RefOf (0 ∷ []) tt (plain (λ _. Row)) (λ _. tt)) yes
          (λ κs x w. refl),
      (goes, (goes, tt)),
    ) (f.Key.name inst) fn
    (code.unfolded 𝓤 H 𝓜 𝓡 wired (T, tt))
    (λ κs. (shr_vals, (uint_vals w64, (uint_vals w64, tt))))
    (λ κs. (shr_Tells (named 0) κs.0 Row, (uint_Tells w64, (uint_Tells w64, tt))))
    (λ κs qs bounds a gh are.
    let me : Row.Denot = a.0.now in let b₁ = a.0.ref_ptr.0 in let o₁ = a.0.ref_ptr.1 in
    let start : ℕ = a.1.0 in let end : ℕ = a.1.1.0 in let m : LentMemory = me.memory in
    let xs = me.items in
    let y : (walk_of 𝓛 En hs c).Ghost =
    ((κs, qs, bounds, a, (vptr b₁ o₁ ∷ [], (uint_vals w64 start, (uint_vals w64 end, tt)))), gh)
    in let Post : Val → SProp 𝓤 = (walk_of 𝓛 En hs c).post y in
    let Range : Type 0 = (me.start ≤ start) × (start ≤ end) × (end ≤ me.start + length xs) in
    qed 𝓛 ((‵ (fsep (flft κs.0 qs.0) (fsep (flft κs.1.0 qs.1.0) ftrue)) ⊛ ‵
    (owns (types_at En.signature.params κs) a y.0.4)) ∷ (raw (fact 𝓤 (κs.1.0 ⊑ T.lives)) ⊛ raw
    (fact 𝓤 Range)) ∷ []) ∵
    move ! (1 ∷ []) $ split ! $ drop ! $ heard ! Range (λ range. split ! $ move ! (1 ∷ []) $
    fsplit ! $ fsplit ! $ keep ! (1 ∷ 3 ∷ []) $
    -- [what is lent of it; the tokens]
    use1 𝓛 (‵ (hidden_shr (Token X) κs.0 (me.marker, tt) b₁ o₁) ⊛ ‵
    (fhide (frozen_owns X m me.start xs)))
    (lent_out 𝓛 (FrozenPlaces.struct X)
    (FrozenPlaces.the_codes X.Denot X.coded (marker.the_row X).coded) (FrozenPlaces.the_heap X)
    (FrozenPlaces.the_lent X) κs.0 me b₁ o₁) $ split ! $ drop ! $ unhide ! $
    there_out E ! m me.start (frozen X m.lifetime (names_from X m me.start) xs) (λ b o at_b small.
    let from : ℕ = o + me.start * s in let i : ℕ = start - me.start in let j : ℕ = end - me.start in
    let reach : start ≡ me.start + i = omega (arith, range.0) in
    let gs : List GName = drop_from me.start m.names in
    let ordered : i ≤ j = omega (arith, range.1) in
    let within : j ≤ length xs = omega (arith, range.2) in let ys = sub xs i j in
    let long : length ys ≡ j - i = sub_length xs i j ordered within in
    use1 𝓛 (‵ (frozen X m.lifetime (drop_from i gs) ys b (i * s + from)))
    (frozen_part X (param_laws 0 T L) 𝓛 b m.lifetime gs xs i j from ordered within) $
    let at_start : i * s + from ≡ o + start * s = add_comm (i * s) from
    ∙ sym (further o me.start i s) ∙ ap (λ (k : ℕ). o + k * s) (sym reach) in
    let on : drop_from i gs ≡ drop_from start m.names = drop-drop i me.start m.names
    ∙ ap (λ (k : ℕ). drop_from k m.names) (sym reach) in
    rewrite ! 0 (λ (k : List GName × ℕ). ‵ (frozen X m.lifetime k.0 ys b k.1))
    (λ t. (on t, at_start t)) refl $
    let few : start + length ys ≤ length m.names = omega (
      arith,
      long,
      range.0,
      range.1,
      range.2,
      me.inside.0,
    ) in
    let now : Row.Denot = record {
      marker = record {};
      memory = m;
      start = start;
      items = ys;
      inside = (few, me.inside.1, me.inside.2);
    } in
    there_in E ! m start (frozen X m.lifetime (names_from X m start) ys) b o at_b small $
    marked X ! $
    -- [the part; the tokens]
    let fits_start = are.1.0.1 in let fits_end = are.1.1.0.1 in
    enter ! 𝓣.C 𝓣.Λ fn (vptr b₁ o₁ ∷ vint w64 start ∷ vint w64 end ∷ []) Post $
    alloc_all ! (λ l. pass_all ! refl
    ((tt, tt), ((tt, record { fits = fits_start }), ((tt, record { fits = fits_end }), tt))) $
    sets ! (agg ! (no_more !)) refl (tt, tt) $ sets ! (agg ! (and_then ! (get ! refl) (no_more !)))
    refl (tt, (tt, tt)) $
    nothing ! $ nothing ! $ fjoin ! $ nothing ! $ fjoin ! $ nothing ! $ fjoin ! $
    returns ! (look_at ! 0 refl) $ free_all ! refl $ keep ! (2 ∷ 0 ∷ 1 ∷ []) $
    by ! (ends 𝓛 En hs c y token now (tt, (tt, (tt, tt))) (tt, (tt, (tt, tt)))
    (told 𝓤 (refl, refl) (fact_i 𝓤 _ (emp 𝓤) refl) 𝓛))))))
