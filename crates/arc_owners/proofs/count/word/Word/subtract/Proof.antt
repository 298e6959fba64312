-- `subtract` is one subtraction, with the invariant, an owner's right, the pass, and what the end
-- leaves.
use contract.BorrowLft.{◌⊑◌}
use denote.Param.{param}
use Rattle.std.proofs.Common.{eqb, [], ◌∷◌, refl, lit<, w64}
use mir.Val.{vint, vptr}
use base.Logic.{emp, snd∗}
use types.Kit.{raw, later, at_ret, ◌$◌, ◌∵◌, !, qed, done, await}
use types.Run.{stop, addr, lit, of_opd, no_more, and_then, first, blocks, exec, Calls-last, returns}
use types.Run.{enter}
use types.ByLocal.{alloc_all, pass_all, free_all, look_at, get, through, sets, lands_last, env}
use types.Part.{agg}
use contract.Monad.{fact_i, fact}
use contract.Running.{tables}
use denote.RawPtr.{block_ptr}
use Rattle.core.proofs.atomic.Steps.{tail}
use Rattle.std.proofs.raw_atomic.Calls.{fm, subs, seq_cst}
use Rattle.arc_owners.proofs.count.AtType.{layouts_at, code_at}
use Rattle.arc_owners.proofs.count.Ends.{ends_when}
use Rattle.arc_owners.proofs.count.OneCall.{Ends_at, number_at, takes_number}
use Rattle.arc_owners.proofs.count.Partings.{by_word, subtracting}
use Rattle.arc_owners.specs.contracts.count.word.Word.subtract as f
use Rattle.arc_owners.proofs.count.word.Word.subtract.Statement.{statement}
use Rattle.arc_owners.proofs.count.word.Word.subtract.Code as code

pub subtract_spec : {M : Type 1} → statement M
subtract_spec 𝓤 𝓛 𝓜 𝓡 wired T L =
    let 𝓣 = tables 𝓤 𝓛.H 𝓜 𝓡 𝓡.env in let fn = code_at T code.function in
    let less = code.calls-core::raw_atomic::fetch_sub 𝓡.env wired in
    by_word 𝓛 𝓜 𝓡 T (f.clauses T 𝓛 𝓜.mem 𝓡.returns) (subtracting 𝓛 (param 0 T))
    (λ κs a g. snd∗ 𝓤 (fact 𝓤 (κs.1.1.1.1.0 ⊑ T.lives)) (fact 𝓤 _))
    (λ κs a g n before so. fact_i 𝓤 _ (emp 𝓤) (
      (refl, refl, refl, refl),
      ends_when a.0.now a.1.1.0.now.number a.1.1.0.now.lines a.1.0.now.owner n before (eqb n 1) refl
          so,
      refl,
      refl,
      refl,
    ))
    (f.Key.name (layouts_at T)) fn (code.unfolded 𝓤 𝓛.H 𝓜 𝓡 wired (T, tt)) _
    (vint w64 1 ∷ seq_cst ∷ [])
    (λ b o b₁ o₁ b₂ o₂ b₃ o₃ P.
    qed 𝓛 (later (raw (Ends_at 𝓛 𝓜 𝓡 _ (vptr b o ∷ vint w64 1 ∷ seq_cst ∷ []) P)) ∷ []) ∵
    enter ! 𝓣.C 𝓣.Λ fn (vptr b o ∷ vptr b₁ o₁ ∷ vptr b₂ o₂ ∷ vptr b₃ o₃ ∷ []) P $
    alloc_all ! (λ l. pass_all ! refl ((tt, tt), ((tt, tt), ((tt, tt), ((tt, tt), tt)))) $
    let Ev = env fn.locals l in
    first ! $ blocks ! $ sets ! (addr ! (through ! refl (stop !))) refl (tt, tt) $
    sets ! (of_opd ! (get ! refl)) refl (tt, tt) $ await ! tt $
    sets ! (agg ! (and_then ! (lit ! tt) (no_more !))) refl (tt, (record { fits = lit< tt }, tt)) $
    Calls-last ! (fm 𝓛 𝓜 𝓡) (number_at 𝓛 P)
    (and_then ! (get ! refl) (and_then ! (lit ! tt) (and_then ! (get ! refl) (no_more !))))
    (λ u. takes_number ! P (λ n fits. lands_last ! refl (tt, record { fits = fits }) $
    exec ! 𝓣.C 𝓣.Λ Ev (tail fn.body) (at_ret Ev P) $
    sets ! (of_opd ! (get ! refl)) refl (tt, record { fits = fits }) $
    returns ! (look_at ! 0 refl) $ free_all ! refl $ done !))))
    (λ t i l b o out. subs 𝓛 𝓜 𝓡 less (block_ptr b o) 1 (lit< tt) out)
