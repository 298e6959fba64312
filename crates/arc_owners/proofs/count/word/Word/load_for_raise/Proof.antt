-- `load_for_raise` is one atomic load, with the invariant, a share of an owner's right and the
-- pass.
use contract.BorrowLft.{◌⊑◌}
use Rattle.std.proofs.Common.{eqb, [], ◌∷◌, refl, lit<}
use mir.Val.{vptr}
use base.Logic.{emp}
use types.Kit.{raw, later, at_ret, ◌$◌, ◌∵◌, !, qed, by, drop, done, await}
use types.Run.{stop, addr, lit, of_opd, no_more, and_then, first, blocks, exec, Calls-last, returns}
use types.Run.{enter}
use types.ByLocal.{alloc_all, pass_all, free_all, look_at, get, through, sets, lands_last, env}
use types.Part.{agg}
use contract.Monad.{fact_i, fact}
use contract.Running.{tables}
use denote.RawPtr.{block_ptr}
use denote.Steps.{heard}
use Rattle.core.proofs.atomic.Steps.{tail}
use Rattle.std.proofs.raw_atomic.Calls.{fm, loads, seq_cst}
use Rattle.arc_owners.specs.count.Steps.{IsHeld, IsOf}
use Rattle.arc_owners.proofs.count.AtType.{layouts_at, code_at}
use Rattle.arc_owners.proofs.count.Operations.{full_if, filled}
use Rattle.arc_owners.proofs.count.OneCall.{Ends_at, number_at, takes_number}
use Rattle.arc_owners.proofs.count.Moves as moves
use Rattle.arc_owners.proofs.count.Readings.{read}
use Rattle.arc_owners.specs.contracts.count.word.Word.load_for_raise as f
use Rattle.arc_owners.proofs.count.word.Word.load_for_raise.Statement.{statement}
use Rattle.arc_owners.proofs.count.word.Word.load_for_raise.Code as code

pub load_for_raise_spec : {M : Type 1} → statement M
load_for_raise_spec 𝓤 𝓛 𝓜 𝓡 wired T L =
    let 𝓣 = tables 𝓤 𝓛.H 𝓜 𝓡 𝓡.env in let fn = code_at T code.function in
    let load = code.calls-core::raw_atomic::load 𝓡.env wired in
    read 𝓛 𝓜 𝓡 T (f.clauses T 𝓛 𝓜.mem 𝓡.returns) (λ t o n before. full_if o (eqb n t.most))
    (λ me p ready seen o l q. moves.loads_for_raise 𝓛 me p ready seen o l q)
    (λ κs a g. qed 𝓛 (raw (fact 𝓤 (κs.1.1.1.0 ⊑ T.lives))
    ∷ raw (fact 𝓤 (IsHeld a.0.now a.1.0.now × IsOf a.0.now a.1.1.0.now)) ∷ []) ∵ drop ! $
    heard ! _ (λ asked. by ! (fact_i 𝓤 _ (emp 𝓤) ((asked.0.0, asked.0.1), asked.1))))
    (λ κs a g n before so. fact_i 𝓤 _ (emp 𝓤) (
      (refl, refl, refl, refl),
      filled a.0.now a.1.1.0.now.number a.1.1.0.now.lines a.1.0.now.owner n before
          (eqb n a.0.now.most) so,
    ))
    (f.Key.name (layouts_at T)) fn (code.unfolded 𝓤 𝓛.H 𝓜 𝓡 wired (T, tt)) _ (seq_cst ∷ [])
    (λ b o b₁ o₁ b₂ o₂ P.
    qed 𝓛 (later (raw (Ends_at 𝓛 𝓜 𝓡 _ (vptr b o ∷ seq_cst ∷ []) P)) ∷ []) ∵
    enter ! 𝓣.C 𝓣.Λ fn (vptr b o ∷ vptr b₁ o₁ ∷ vptr b₂ o₂ ∷ []) P $
    alloc_all ! (λ l. pass_all ! refl ((tt, tt), ((tt, tt), ((tt, tt), tt))) $
    let Ev = env fn.locals l in
    first ! $ blocks ! $ sets ! (addr ! (through ! refl (stop !))) refl (tt, tt) $
    sets ! (of_opd ! (get ! refl)) refl (tt, tt) $ await ! tt $
    sets ! (agg ! (and_then ! (lit ! tt) (no_more !))) refl (tt, (record { fits = lit< tt }, tt)) $
    Calls-last ! (fm 𝓛 𝓜 𝓡) (number_at 𝓛 P)
    (and_then ! (get ! refl) (and_then ! (get ! refl) (no_more !)))
    (λ u. takes_number ! P (λ n fits. lands_last ! refl (tt, record { fits = fits }) $
    exec ! 𝓣.C 𝓣.Λ Ev (tail fn.body) (at_ret Ev P) $
    sets ! (of_opd ! (get ! refl)) refl (tt, record { fits = fits }) $
    returns ! (look_at ! 0 refl) $ free_all ! refl $ done !))))
    (λ b o. loads 𝓛 𝓜 𝓡 load (block_ptr b o))
