-- What a lent value shows: a token of the lifetime for which it shows it is made of tokens, and
-- what is shown is had for as long as an owner is borrowed. Assumes `Logic`.
use Rattle.std.proofs.Common.{ℕ, List, [], ◌∷◌, ◌++◌}
use seplogic.Ra.Ura.{Ura}
use base.Before.{before}
use base.Logic.{SProp, ent, sep, wand, ex, apply∗}
use base.Fml.{Lft, Incl, Incl-trans, Share, flft, fshr_bor}
use contract.BorrowLft.{meet_⊑_left, meet_⊑_right, ⊑_meet}
use ghost.Rules.{Toks, span, thinned}
use types.Frac.{lent_meet}
use types.Logic.{Logic, sem, lfts}
use types.Kit.{‵, raw, ◌⊛◌, some, later, ◌$◌, ◌∵◌, !, qed, by, move, split, pick, show, frame}
use types.Kit.{assume, updating, await, now, fjoin, use0, use1, use2, done}
use types.Na.{before-Incl, before_lent}
use types.Tokens.{one_token}
use denote.RattleType.{RowLaws, RattleType}
use denote.RawPtr.{Ptr, RawPtr}
use denote.Struct.Tuple.{Tuple}
use Rattle.logbook.proofs.Fields.{Token, token, token_made}
use Rattle.arc_owners.specs.contracts.memory.shown.Shown as Shown
use Rattle.arc_owners.specs.memory.LentSlices.{slice_lent, shown_for, shown_lent}
use Rattle.arc_owners.proofs.memory.LentSlices.{slice_laws}

module _ (R : RattleType) (L : RowLaws R) (p : Ptr) (xs : List R.Denot) where
  -- whoever has shares of the lease's lifetime for as long as κ, which ends no later than either
  -- type, has for κ what is shown
  pub shown_seen : (S : RattleType) (a : ℕ) {M : Type 1} {𝓤 : Ura M} (𝓛 : Logic 𝓤) (κ : Lft)
      → Incl κ (S.lives ++ R.lives)
      → ent 𝓤 (sep 𝓤 (sem 𝓛 (shown_lent R S p xs a)) (sem 𝓛 (fshr_bor κ (λ q. flft (a ∷ []) q))))
      (sem 𝓛 (slice_lent R p xs κ))
  shown_seen S a {M} {𝓤} 𝓛 κ inc = let α : Lft = a ∷ [] in let l : Lft = shown_for R S a in
      qed 𝓛 (‵ (slice_lent R p xs l) ∷ ‵ (fshr_bor κ (λ q. flft α q)) ∷ []) ∵
      use0 𝓛 (‵ (before (α ++ κ) l)) (before-Incl 𝓛 (α ++ κ) l (⊑_meet (α ++ κ) α
      (S.lives ++ R.lives) (meet_⊑_left α κ) (Incl-trans (meet_⊑_right α κ) inc))) $
      move ! (2 ∷ 0 ∷ []) $ use2 𝓛 (‵ (before κ l)) (before_lent 𝓛 κ α l) $
      by ! ((slice_laws R L p xs).mono M 𝓤 𝓛 κ l)

-- where a share of the lease's lifetime is borrowed for κ, tokens of κ and of lifetimes that end no
-- later than the types give one of the lifetime for which a value shows its slice, and come back
-- for it
module _ (R S : RattleType) (a : ℕ) {M : Type 1} {𝓤 : Ura M} (𝓛 : Logic 𝓤) (κ τ σ : Lft)
    (q p s : Share) where
  open 𝓛 use {H, A}

  abbrev pub given : Toks
  given = (κ, q) ∷ (τ, p) ∷ (σ, s) ∷ []

  abbrev pub OneShown : Share → SProp 𝓤
  OneShown r = sep 𝓤 (A.lft (shown_for R S a) r) (wand 𝓤 (A.lft (shown_for R S a) r)
      (H.⇛ (lfts 𝓛 given)))

  pub one_shown : Incl τ S.lives → Incl σ R.lives
      → ent 𝓤 (sep 𝓤 (sem 𝓛 (fshr_bor κ (λ q'. flft (a ∷ []) q'))) (lfts 𝓛 given))
      (H.⇛ (ex 𝓤 OneShown))
  one_shown incS incR = let α : Lft = a ∷ [] in let μ : Lft = span given in
      let l : Lft = shown_for R S a in
      let types : Incl (α ++ μ) (τ ++ σ) =
      Incl-trans (meet_⊑_right α μ) (meet_⊑_right κ (τ ++ σ)) in
      let inc : Incl (α ++ μ) l = ⊑_meet (α ++ μ) α (S.lives ++ R.lives) (meet_⊑_left α μ)
      (⊑_meet (α ++ μ) S.lives R.lives (Incl-trans types (Incl-trans (meet_⊑_left τ σ) incS))
      (Incl-trans types (Incl-trans (meet_⊑_right τ σ) incR))) in
      qed 𝓛 (‵ (fshr_bor κ (λ q'. flft α q')) ∷ raw (lfts 𝓛 given) ∷ []) {P = H.⇛ (ex 𝓤 OneShown)}
      (updating ! $ move ! (1 ∷ []) $
      use1 𝓛 (some (λ (q' : Share). ‵ (flft μ q') ⊛ raw (wand 𝓤 (A.lft μ q') (lfts 𝓛 given))))
      (one_token 𝓛 given) $ pick ! (λ q'. split ! $ move ! (2 ∷ 0 ∷ []) $
      use2 𝓛 (later (some (λ (r : Share). ‵ (flft (α ++ μ) r) ⊛ raw (wand 𝓤 (A.lft (α ++ μ) r)
      (H.⇛ (A.lft μ q')))))) (lent_meet 𝓛 κ α μ q' (meet_⊑_left κ (τ ++ σ))) $ await ! tt $
      pick ! (λ r. split ! $
      let r' : Share = thinned l r in
      use1 𝓛 (‵ (flft l r') ⊛ raw (wand 𝓤 (A.lft l r') (A.lft (α ++ μ) r)))
      (𝓛.lfts.lft-incl (α ++ μ) l r inc) $ split ! $
      -- [the token; how it goes back, in three steps]
      now ! $ show ! OneShown r' $ frame ! $ assume ! (‵ (flft l r')) $ updating ! $
      use2 𝓛 (‵ (flft (α ++ μ) r)) (apply∗ 𝓤 (A.lft l r') (A.lft (α ++ μ) r)) $
      use2 𝓛 (later (‵ (flft μ q'))) (apply∗ 𝓤 (A.lft (α ++ μ) r) (H.⇛ (A.lft μ q'))) $ await ! tt $
      use2 𝓛 (raw (lfts 𝓛 given)) (apply∗ 𝓤 (A.lft μ q') (lfts 𝓛 given)) $ now ! $ done !)))

-- what is shown has no bytes, beside a marker of its types
abbrev pub Marks : RattleType
Marks = Tuple (RawPtr ∷ RawPtr ∷ [])

pub shown_made : (R S : RattleType) {M : Type 1} {𝓤 : Ura M} (𝓛 : Logic 𝓤)
    (d : (Shown.the_row R S).Denot)
    → ent 𝓤 (sem 𝓛 (shown_lent R S d.at d.items d.lifetime)) (sem 𝓛 ((Shown.the_row R S).own_val d
    (token ∷ [])))
shown_made R S 𝓛 d = qed 𝓛 (‵ (shown_lent R S d.at d.items d.lifetime) ∷ []) ∵
    use0 𝓛 (‵ ((Token Marks).own_val (record {}, tt) (token ∷ []))) (token_made Marks 𝓛) $ fjoin ! $
    done !
