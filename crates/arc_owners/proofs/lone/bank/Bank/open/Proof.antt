-- `open` makes a new bank.
use Rattle.std.proofs.Common.{ℕ, [], ◌∷◌, refl}
use base.Logic.{emp}
use types.Kit.{‵, later, some, ◌$◌, !, by, keep, drop, use0, await, pick}
use types.ByLocal.{alloc_all, pass_all, free_all, look_at}
use contract.Monad.{fact_i}
use denote.RattleType.{RattleType}
use denote.Param.{param}
use Rattle.logbook.proofs.Fields.{token}
use Rattle.arc_owners.specs.count.Leads.{frees_count, bank_of}
use Rattle.arc_owners.proofs.count.Bank.{opens_bank}
use Rattle.arc_owners.proofs.count.Markers.{marked}
use Rattle.arc_owners.proofs.memory.Endings.{one_made, spent}
use Rattle.arc_owners.proofs.memory.References.{reads}
use Rattle.arc_owners.specs.contracts.lone.bank.Bank.open as f
use Rattle.arc_owners.proofs.lone.bank.Bank.open.Statement.{statement}
use Rattle.arc_owners.proofs.lone.bank.Bank.open.Code as code

pub open_spec : {M : Type 1} → statement M
open_spec 𝓤 𝓛 𝓜 𝓡 wired A LA g d da allocator glued =
    let Z : RattleType = param 0 A in
    let En = f.ended A g d da in let c = f.clauses A g d da 𝓛 𝓜.mem 𝓡.returns in
    reads En.signature.outlives Z (λ _. tt) En.signature.result 𝓛 c 𝓜 𝓡 _ _
    (code.unfolded 𝓤 𝓛.H 𝓜 𝓡 wired (A, tt) d da) (λ y.
    let al : A.Denot = y.0.3.0.now in
    alloc_all ! (λ l. pass_all ! refl ((tt, tt), tt) $ drop ! $
    use0 𝓛 (later (some (λ (z : ℕ × ℕ). ‵ (bank_of (g.dealloc_token al) z.0 z.1))))
    (opens_bank 𝓛 (frees_count (g.dealloc_token al))) $ await ! tt $ pick ! (λ z.
    one_made ! (refl, (tt, tt), refl, refl, (tt, (tt, tt))) (look_at ! 0 refl) (free_all ! refl) $
    marked Z ! $ keep ! (1 ∷ 0 ∷ []) $
    by ! (spent 𝓛 En c y token
    (record { marker = record {}; alloc = al; number = z.0; receipts = z.1 }) (tt, tt)
    (fact_i 𝓤 _ (emp 𝓤) refl)))))
