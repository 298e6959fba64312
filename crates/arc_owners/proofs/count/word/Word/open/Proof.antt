-- `open` makes a new invariant, with its first owner and its first pass.
use contract.BorrowLft.{◌⊑◌}
use Rattle.std.proofs.Common.{◌≡◌, true, false, List, [], ◌∷◌, ◌++◌, refl, lit<, w64}
use mir.Val.{Val, vint, vstruct, vcons, vnil, of_list}
use base.Logic.{SProp, emp}
use base.Fml.{ftrue, fsep, feq, flft}
use types.Kit.{‵, raw, ◌⊛◌, some, given, later, ◌$◌, ◌∵◌, !, qed, by, move, keep}
use types.Kit.{split, fjoin, fpack, pick, learn}
use types.Kit.{use0, use1, await, feq_i}
use types.Run.{lit, no_more, and_then, returns, enter}
use types.ByLocal.{alloc_all, pass_all, free_all, look_at, get, sets}
use types.Part.{agg}
use contract.Monad.{fact_i, fact}
use contract.Running.{tables}
use denote.Exit.{yes}
use denote.RattleType.{owns, Valss, RattleType}
use denote.Signature.{types_at, plain}
use denote.Builtin.{u64, unit}
use denote.Plain.{uint_vals, uint_Tells}
use denote.Steps.{nothing, heard}
use denote.Triple.Walked.{Stays, stay_dropped, walk_of, Goes-dropped}
use Rattle.std.proofs.raw_atomic.Walks.{proved}
use Rattle.logbook.proofs.Fields.{token, Token, token_made, ends}
use Rattle.arc_owners.specs.count.Invariant.{BlockId, Lease, right_owns, trace_owns}
use Rattle.arc_owners.specs.contracts.count.word.Word as Word
use Rattle.arc_owners.specs.contracts.count.word.PassState as PassState
use denote.Builtin.{bool}
use denote.Plain.{bool_vals, bool_Tells}
use Rattle.arc_owners.specs.history.Histories.{Counted}
use Rattle.arc_owners.specs.count.Invariant.{behind}
use Rattle.arc_owners.proofs.count.AtType.{layouts_at, code_at, Right}
use Rattle.arc_owners.proofs.count.Fields.{word_val, word_made}
use Rattle.arc_owners.proofs.count.Begins as begins
use Rattle.arc_owners.specs.contracts.count.word.Word.«open» as f
use Rattle.arc_owners.proofs.count.word.Word.«open».Statement.{statement}
use Rattle.arc_owners.proofs.count.word.Word.«open».Code as code

pub open_spec : {M : Type 1} → statement M
open_spec 𝓤 𝓛 𝓜 𝓡 wired T L =
    let 𝓣 = tables 𝓤 𝓛.H 𝓜 𝓡 𝓡.env in let Own : RattleType = Right T in let En = f.ended T in
    let c = f.clauses T 𝓛 𝓜.mem 𝓡.returns in let fn = code_at T code.function in
    let hs : Stays En.signature.params En.kept = (
      stay_dropped (plain (λ _. u64)) yes,
      (stay_dropped (plain (λ _. bool)) yes, (stay_dropped (plain (λ _. bool)) yes, tt)),
    ) in
    proved 𝓛 En hs c 𝓜 𝓡 (
      Goes-dropped 𝓛 1 (plain (λ _. u64)) yes (λ κs x w. refl),
      (
        Goes-dropped 𝓛 1 (plain (λ _. bool)) yes (λ κs x w. refl),
        (Goes-dropped 𝓛 1 (plain (λ _. bool)) yes (λ κs x w. refl), tt),
      ),
    ) (f.Key.name (layouts_at T)) fn
    (code.unfolded 𝓤 𝓛.H 𝓜 𝓡 wired (T, tt))
    (λ κs. (uint_vals w64, (bool_vals, (bool_vals, tt))))
    (λ κs. (uint_Tells w64, (bool_Tells, (bool_Tells, tt)))) (λ κs qs bounds a gh are.
    let most = a.0 in let w = a.1.0 in let lent = a.1.1.0 in
    let y : (walk_of 𝓛 En hs c).Ghost =
    ((κs, qs, bounds, a, (vint w64 most ∷ [], (bool_vals w, (bool_vals lent, tt)))), gh) in
    let Post : Val → SProp 𝓤 = (walk_of 𝓛 En hs c).post y in
    qed 𝓛 ((‵ (fsep (flft κs.0 qs.0) ftrue) ⊛ ‵ (owns (types_at En.signature.params κs) a
    y.0.4)) ∷ raw (fact 𝓤 (κs.0 ⊑ T.lives)) ∷ raw (fact 𝓤 _) ∷ []) ∵ move ! (2 ∷ []) $
    heard ! _ (λ asked. keep ! (0 ∷ []) $ split ! $ keep ! (0 ∷ []) $
    enter ! 𝓣.C 𝓣.Λ fn (vint w64 most ∷ (bool_vals w ++ bool_vals lent)) Post $
    alloc_all ! (λ l. pass_all ! refl
    ((tt, record { fits = are.0.1 }), ((tt, tt), ((tt, tt), tt))) $
    use0 𝓛 (later (some (λ (x : BlockId × Lease). given ((x.0.most ≡ most) × (x.0.began ≡ Counted)
    × (x.0.whole ≡ w) × (x.1.is_lent ≡ lent) × (x.0.bank ≡ 0) × (x.0.receipts ≡ 0))
    (‵ (behind x.0 1) ⊛ ‵ (right_owns true x.0 0 x.1 []) ⊛ ‵
    (trace_owns true x.0 0 false [])))))
    (begins.begins 𝓛 most Counted w lent (0, 0) asked are.0.1) $
    await ! tt $ pick ! (λ x. learn ! (λ so. types.Kit.split3 ! $ let t = x.0 in
    -- [the word's; the right's; the pass's; no token]
    sets ! (agg ! (and_then ! (get ! refl)
    (and_then ! (get ! refl) (and_then ! (get ! refl) (no_more !))))) refl
    (tt, (record { fits = are.0.1 }, (tt, (tt, tt)))) $
    sets ! (agg ! (and_then ! (lit ! tt) (no_more !))) refl
    (tt, (record { fits = lit< tt }, tt)) $
    sets ! (agg ! (no_more !)) refl (tt, tt) $ sets ! (agg ! (and_then ! (get ! refl) (no_more !)))
    refl (tt, (tt, tt)) $ sets ! (agg ! (no_more !)) refl (tt, tt) $
    sets ! (agg ! (and_then ! (get ! refl) (no_more !))) refl (tt, (tt, tt)) $
    sets ! (agg ! (and_then ! (get ! refl)
    (and_then ! (get ! refl) (and_then ! (get ! refl) (no_more !))))) refl
    (tt, ((record { fits = lit< tt }, tt), ((tt, tt), ((tt, tt), tt)))) $
    use1 𝓛 (‵ (Word.the_row.own_val t (word_val 1 ∷ []))) (word_made 𝓛 t 1 (lit< tt)) $
    use0 𝓛 (‵ ((Token unit).own_val (record {}, tt) (token ∷ []))) (token_made unit 𝓛) $
    move ! (0 ∷ 2 ∷ []) $ fjoin ! $
    use0 𝓛 (‵ ((Token unit).own_val (record {}, tt) (token ∷ []))) (token_made unit 𝓛) $
    move ! (0 ∷ 3 ∷ []) $ fjoin ! $
    -- [the pass; the right; the word; no token]
    nothing ! $ move ! (1 ∷ 0 ∷ []) $ fjoin ! $ move ! (1 ∷ 0 ∷ []) $ fjoin ! $
    move ! (1 ∷ 0 ∷ []) $ fjoin ! $
    let v : Val = vstruct (vcons (word_val 1) (vcons token (vcons token vnil))) in
    let Rs : List RattleType = Word.the_row ∷ Own ∷ PassState.the_row ∷ [] in
    let right' : Own.Denot = record {
      marker = record {};
      held = true;
      block = t;
      owner = 0;
      lease = x.1;
      born = [];
    } in
    let trace' : PassState.the_row.Denot = record {
      marker = record {};
      bound = true;
      block = t;
      number = 0;
      ready = false;
      lines = [];
    } in
    feq_i ! (List Val) (v ∷ []) (v ∷ []) refl $ fjoin ! $
    fpack ! (Valss Rs)
    (λ vss. fsep (feq (List Val) (v ∷ [])
    (vstruct (of_list (vss.0 ++ (vss.1.0 ++ (vss.1.1.0 ++ [])))) ∷ []))
    (owns Rs (t, (right', (trace', tt))) vss)) (word_val 1 ∷ [], (token ∷ [], (token ∷ [], tt)))
    $
    nothing ! $ nothing ! $ fjoin ! $ nothing ! $ fjoin ! $ nothing ! $ fjoin ! $
    returns ! (look_at ! 0 refl) $ free_all ! refl $ keep ! (2 ∷ 0 ∷ 1 ∷ []) $
    by ! (ends 𝓛 En hs c y v (t, right', trace') (tt, (tt, (tt, tt))) (tt, (tt, (tt, tt)))
    (fact_i 𝓤 _ (emp 𝓤) (
      so.0,
      so.1,
      so.2,
      (refl, refl, so.3),
      (refl, refl),
      refl,
      refl,
      refl,
      refl,
      refl,
    ))))))))
