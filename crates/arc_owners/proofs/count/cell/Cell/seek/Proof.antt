-- `seek` is one load of the cell, after which the pass has seen the history up to there, or is as
-- it was.
use contract.BorrowLft.{◌⊑◌}
use Rattle.std.proofs.Common.{[], ◌∷◌, refl}
use mir.Syntax.{ty_ptr}
use mir.Val.{vptr}
use base.Logic.{emp, snd∗}
use types.Kit.{raw, later, at_ret, ◌$◌, ◌∵◌, !, qed, done, await}
use types.Run.{stop, addr, lit, of_opd, no_more, and_then, first, blocks, exec, Calls-last, returns}
use types.Run.{enter}
use types.ByLocal.{alloc_all, pass_all, free_all, look_at, get, through, sets, lands_last, env}
use types.Part.{agg}
use contract.Monad.{fact_i, fact}
use contract.Running.{tables}
use denote.RawPtr.{Ptr, block_ptr, ptr_val}
use denote.Builtin.{u64}
use Rattle.core.proofs.atomic.Steps.{tail, Ptr-Good}
use Rattle.core.proofs.cell.Inside.{Good-round}
use Rattle.std.proofs.raw_atomic.Calls.{fm, seq_cst}
use Rattle.std.proofs.raw_atomic.PtrCalls.{loads, seq_cst_good}
use Rattle.arc_owners.proofs.count.AtType.{layouts_at, code_at}
use Rattle.arc_owners.proofs.count.CellWalks.{Ends_at, answer_at, takes_answer}
use Rattle.arc_owners.proofs.count.CellReadings.{wrap, glance, word_laws}
use Rattle.arc_owners.proofs.count.LoneSteps.{Seeks_at, seeks}
use Rattle.arc_owners.proofs.count.LoneCalls.{sought_at}
use Rattle.arc_owners.specs.contracts.count.cell.Cell.seek as f
use Rattle.arc_owners.proofs.count.cell.Cell.seek.Statement.{statement}
use Rattle.arc_owners.proofs.count.cell.Cell.seek.Code as code

pub seek_spec : {M : Type 1} → statement M
seek_spec 𝓤 𝓛 𝓜 𝓡 wired T L =
    let 𝓣 = tables 𝓤 𝓛.H 𝓜 𝓡 𝓡.env in let fn = code_at T code.function in
    let load = code.calls-core::raw_atomic::ptr::load 𝓡.env wired in
    glance 𝓛 𝓜 𝓡 T (f.clauses T 𝓛 𝓜.mem 𝓡.returns) (Seeks_at 𝓛)
    (λ t p ready seen o l q. seeks 𝓛 t p ready seen o l q)
    (λ κs a g. snd∗ 𝓤 (fact 𝓤 (κs.1.1.1.0 ⊑ T.lives)) (fact 𝓤 _))
    (λ κs a g r y ls asked low so. fact_i 𝓤 _ (emp 𝓤) (
      (sought_at 𝓛 a.0.now a.1.0.now a.1.1.0.now y ls asked r so).0,
      (sought_at 𝓛 a.0.now a.1.0.now a.1.1.0.now y ls asked r so).1,
      refl,
      low,
    ))
    (f.Key.name (layouts_at T)) fn (code.unfolded 𝓤 𝓛.H 𝓜 𝓡 wired (T, tt)) _ (seq_cst ∷ [])
    (λ b o b₁ o₁ b₂ o₂ P.
    qed 𝓛 (later (raw (Ends_at 𝓛 𝓜 𝓡 Ptr ptr_val _ (vptr b o ∷ seq_cst ∷ []) wrap P)) ∷ []) ∵
    enter ! 𝓣.C 𝓣.Λ fn (vptr b o ∷ vptr b₁ o₁ ∷ vptr b₂ o₂ ∷ []) P $
    alloc_all ! (λ l. pass_all ! refl ((tt, tt), ((tt, tt), ((tt, tt), tt))) $
    let Ev = env fn.locals l in
    first ! $ blocks ! $ sets ! (addr ! (through ! refl (stop !))) refl (tt, tt) $
    sets ! (of_opd ! (get ! refl)) refl (tt, tt) $ await ! tt $
    sets ! (agg ! (and_then ! (lit ! tt) (no_more !))) refl seq_cst_good $
    Calls-last ! (fm 𝓛 𝓜 𝓡) (answer_at 𝓛 Ptr ptr_val wrap P)
    (and_then ! (get ! refl) (and_then ! (get ! refl) (no_more !)))
    (λ u. takes_answer ! Ptr ptr_val wrap P (λ r. lands_last ! refl (Ptr-Good r) $
    exec ! 𝓣.C 𝓣.Λ Ev (tail fn.body) (at_ret Ev P) $
    sets ! (of_opd ! (get ! refl)) refl (Ptr-Good r) $
    sets ! (agg ! (and_then ! (get ! refl) (no_more !))) refl
    (Good-round [] ty_ptr (ptr_val r) (Ptr-Good r)) $
    returns ! (look_at ! 0 refl) $ free_all ! refl $ done !))))
    (λ b o. loads 𝓛 𝓜 𝓡 load u64 word_laws (block_ptr b o))
