-- What the walks of the steps share: what a pass, an owner or end tokens have is taken out of a
-- `&mut` before the step and put in after it; and a step's call, with the tokens that it uses and
-- gives back. Assumes `Logic`.
use Rattle.std.proofs.Common.{◌≡◌, ℕ, ◌^◌, ◌<◌, Bool, true, false, List, [], ◌∷◌, refl, sym, w64}
use mathlib.Core.Option.{Option}
use seplogic.Ra.Ura.{Ura}
use mir.Syntax.{Callee}
use mir.Val.{Val, vint, vptr}
use base.Share.{quarter}
use base.Logic.{via, apply∗}
use base.Fml.{Lft, GName, Share, Fml, ftrue, feq, flt, fsep, flft, fobs, fbor, fhide}
use prog.Model.{Model}
use types.Logic.{Logic}
use types.SemTy.{Body}
use types.Kit.{Item, Goal, Soaks, Step, step, ‵, raw, ◌⊛◌, some, given, later, mean, ◌$◌, ◌∵◌}
use types.Kit.{ !, qed}
use types.Kit.{move, drop, split, split3, group, fsplit, fsplit3, fjoin, fpick, fpack, pick, learn}
use types.Kit.{fjoin3, feq_i, flt_i, show, check, done, rewrite, updating, await, now, use0, use1, use2}
use contract.Running.{Running, MachineTables, tables}
use contract.Shared.{Lends-one}
use denote.RattleType.{RattleType}
use denote.Builtin.{unit}
use denote.Memory.{mem, hidden_shr}
use denote.Opens.{unhide}
use denote.Struct.Lending.{lent_out}
use Rattle.core.specs.contracts.marker.PhantomData as marker
use denote.RawPtr.{block_ptr}
use denote.Steps.{nothing, opens, closes}
use Rattle.core.specs.Sync.RawAtomic.{asks, always}
use Rattle.std.proofs.raw_atomic.Calls.{fm, found}
use Rattle.logbook.proofs.Fields.{token, Token, token_made}
use Rattle.arc_owners.specs.declared.history.entry.Entry.{Entry}
use Rattle.arc_owners.specs.count.Invariant.{BlockId, Line, Lease, known, right, stake, word_shares}
use Rattle.arc_owners.specs.count.Invariant.{right_owns, right_shares, right_shown, trace_owns}
use Rattle.arc_owners.specs.count.Invariant.{end_tokens, trace_shares, word_borrow}
use Rattle.arc_owners.specs.count.Leads.{pending}
use Rattle.arc_owners.specs.contracts.lone.loose.PendingCount as PendingCount
use Rattle.arc_owners.specs.contracts.count.word.OwnerToken as OwnerToken
use Rattle.arc_owners.specs.contracts.count.word.PassState as PassState
use Rattle.arc_owners.specs.contracts.count.word.EndTokens as EndTokens
use Rattle.arc_owners.specs.contracts.count.word.WordBorrow as WordBorrow
use Rattle.arc_owners.proofs.count.Signs.{signs}
use Rattle.arc_owners.proofs.count.Operations.{Operation, with_entry, left_by, left}
use Rattle.arc_owners.proofs.count.Moves.{Steps}
use Rattle.arc_owners.proofs.count.Shared.{right_read, shares_shown}
use Rattle.arc_owners.proofs.count.Places as places

abbrev Pass : RattleType
Pass = PassState.the_row

abbrev Own : RattleType → RattleType
Own R = OwnerToken.the_row R

abbrev pub a_pass : BlockId → ℕ → Bool → List Line → Pass.Denot
a_pass t p ready ls = record {
  marker = record {};
  bound = true;
  block = t;
  number = p;
  ready = ready;
  lines = ls;
}

abbrev pub no_pass : Pass.Denot → Pass.Denot
no_pass h = record h { marker = record {}; bound = false }

abbrev pub an_owner : (R : RattleType) → Bool → BlockId → ℕ → Lease → List Line
    → (Own R).Denot
an_owner R held t o l born = record {
  marker = record {};
  held = held;
  block = t;
  owner = o;
  lease = l;
  born = born;
}

abbrev pub no_owner : (R : RattleType) → (Own R).Denot → (Own R).Denot
no_owner R h = an_owner R false h.block h.owner h.lease h.born

abbrev pub no_count : PendingCount.the_row.Denot → PendingCount.the_row.Denot
no_count h = record h { marker = record {}; held = false }

abbrev pub an_end : Bool → Lease → EndTokens.the_row.Denot
an_end last l = record { marker = record {}; last = last; lease = l }

module _ {M : Type 1} {𝓤 : Ura M} {𝓛 : Logic 𝓤} {K : Type 0} {Γ : List
    (Item 𝓤)} {G : Goal 𝓤 𝓛.H} where
  -- what a `&mut` to a token without bytes has is taken out, and something else put in
  swaps : K → Soaks G → (P : RattleType) (marker : List Val → Fml) (has : P.Denot → Fml)
      → ((h : P.Denot) (vs : List Val) → P.own_val h vs ≡ fsep (marker vs) (has h))
      → {κ : Lft} {q : Share} {γ : GName} (b o : ℕ) (h h' : P.Denot)
      → Step K 𝓛 (‵ (has h) ∷ ‵ (fobs γ (P.coded.code h')) ∷ ‵ (fbor κ (Body (mem P) b o γ))
      ∷ ‵ (flft κ q) ∷ Γ) G
      (‵ (has h') ∷ ‵ (fobs γ (P.coded.code h)) ∷ ‵ (fbor κ (Body (mem P) b o γ)) ∷ ‵ (flft κ q)
      ∷ Γ) G
  swaps t z P marker has is b o h h' = step (λ s. move t (1 ∷ 2 ∷ 3 ∷ []) $
      opens t z P b o (λ vs. move t (1 ∷ []) $
      rewrite t 0 (λ (F : Fml). ‵ F) (is h vs) refl $ fsplit t $
      -- [the marker; what it has; its cell; the open borrow, in three; what is put in]
      move t (0 ∷ 6 ∷ []) $ fjoin t $ rewrite t 0 (λ (F : Fml). ‵ F) (sym (is h' vs)) refl $
      move t (2 ∷ 0 ∷ 3 ∷ 4 ∷ 5 ∷ []) $ closes t z P h' vs b o $ move t (3 ∷ []) $ s))

  swaps_pass : K → Soaks G → {κ : Lft} {q : Share} {γ : GName} (b o : ℕ) (h h' : Pass.Denot)
      → Step K 𝓛 (‵ (trace_owns h.bound h.block h.number h.ready h.lines)
      ∷ ‵ (fobs γ (Pass.coded.code h')) ∷ ‵ (fbor κ (Body (mem Pass) b o γ)) ∷ ‵ (flft κ q) ∷ Γ) G
      (‵ (trace_owns h'.bound h'.block h'.number h'.ready h'.lines) ∷ ‵ (fobs γ (Pass.coded.code h))
      ∷ ‵ (fbor κ (Body (mem Pass) b o γ)) ∷ ‵ (flft κ q) ∷ Γ) G
  swaps_pass t z b o h h' = swaps t z Pass (λ vs. (Token unit).own_val (record {}, tt) vs)
      (λ p. trace_owns p.bound p.block p.number p.ready p.lines) (λ p vs. refl) b o h h'

  pub pass_out : K → Soaks G → {κ : Lft} {q : Share} {γ : GName} (b o : ℕ) (t : BlockId)
      (h : Pass.Denot)
      → (h.bound ≡ true) × (h.block ≡ t)
      → Step K 𝓛 (‵ (trace_owns true t h.number h.ready h.lines)
      ∷ ‵ (fobs γ (Pass.coded.code (no_pass h))) ∷ ‵ (fbor κ (Body (mem Pass) b o γ)) ∷ ‵ (flft κ q)
      ∷ Γ) G
      (‵ (fobs γ (Pass.coded.code h)) ∷ ‵ (fbor κ (Body (mem Pass) b o γ)) ∷ ‵ (flft κ q) ∷ Γ) G
  pass_out t z b o me h is = step (λ s. nothing t $ swaps_pass t z b o h (no_pass h) $
      rewrite t 0 (λ (k : Bool × BlockId). ‵ (trace_owns k.0 k.1 h.number h.ready h.lines))
      (λ i. (is.0 i, is.1 i)) refl $ s)

  pub pass_in : K → Soaks G → {κ : Lft} {q : Share} {γ : GName} (b o : ℕ) (was h : Pass.Denot)
      → Step K 𝓛 (‵ (fobs γ (Pass.coded.code h)) ∷ ‵ (fbor κ (Body (mem Pass) b o γ)) ∷ ‵ (flft κ q)
      ∷ Γ) G
      (‵ (trace_owns h.bound h.block h.number h.ready h.lines) ∷ ‵ (fobs γ (Pass.coded.code was))
      ∷ ‵ (fbor κ (Body (mem Pass) b o γ)) ∷ ‵ (flft κ q) ∷ Γ) G
  pass_in t z b o was h = step (λ s. swaps_pass t z b o was h $ drop t $ s)

  pub ends_in : K → Soaks G → {κ : Lft} {q : Share} {γ : GName} (b o : ℕ)
      (was h : EndTokens.the_row.Denot)
      → Step K 𝓛 (‵ (fobs γ (EndTokens.the_row.coded.code h))
      ∷ ‵ (fbor κ (Body (mem EndTokens.the_row) b o γ)) ∷ ‵ (flft κ q) ∷ Γ) G
      (‵ (end_tokens h.lease h.last) ∷ ‵ (fobs γ (EndTokens.the_row.coded.code was))
      ∷ ‵ (fbor κ (Body (mem EndTokens.the_row) b o γ)) ∷ ‵ (flft κ q) ∷ Γ) G
  ends_in t z b o was h = step (λ s. swaps t z EndTokens.the_row
      (λ vs. (Token unit).own_val (record {}, tt) vs)
      (λ e. end_tokens e.lease e.last) (λ e vs. refl) b o was h $ drop t $ s)

  swaps_count : K → Soaks G → {κ : Lft} {q : Share} {γ : GName} (b o : ℕ)
      (h h' : PendingCount.the_row.Denot)
      → Step K 𝓛 (‵ (pending h.held h.receipts h.at h.number)
      ∷ ‵ (fobs γ (PendingCount.the_row.coded.code h'))
      ∷ ‵ (fbor κ (Body (mem PendingCount.the_row) b o γ)) ∷ ‵ (flft κ q) ∷ Γ) G
      (‵ (pending h'.held h'.receipts h'.at h'.number) ∷ ‵ (fobs γ (PendingCount.the_row.coded.code h))
      ∷ ‵ (fbor κ (Body (mem PendingCount.the_row) b o γ)) ∷ ‵ (flft κ q) ∷ Γ) G
  swaps_count t z b o h h' = swaps t z PendingCount.the_row
      (λ vs. (Token unit).own_val (record {}, tt) vs)
      (λ c. pending c.held c.receipts c.at c.number) (λ c vs. refl) b o h h'

  pub count_out : K → Soaks G → {κ : Lft} {q : Share} {γ : GName} (b o : ℕ)
      (h : PendingCount.the_row.Denot)
      → Step K 𝓛 (‵ (pending h.held h.receipts h.at h.number)
      ∷ ‵ (fobs γ (PendingCount.the_row.coded.code (no_count h)))
      ∷ ‵ (fbor κ (Body (mem PendingCount.the_row) b o γ)) ∷ ‵ (flft κ q) ∷ Γ) G
      (‵ (fobs γ (PendingCount.the_row.coded.code h))
      ∷ ‵ (fbor κ (Body (mem PendingCount.the_row) b o γ)) ∷ ‵ (flft κ q) ∷ Γ) G
  count_out t z b o h = step (λ s. nothing t $ swaps_count t z b o h (no_count h) $ s)

  pub count_in : K → Soaks G → {κ : Lft} {q : Share} {γ : GName} (b o : ℕ)
      (was h : PendingCount.the_row.Denot)
      → Step K 𝓛 (‵ (fobs γ (PendingCount.the_row.coded.code h))
      ∷ ‵ (fbor κ (Body (mem PendingCount.the_row) b o γ)) ∷ ‵ (flft κ q) ∷ Γ) G
      (‵ (pending h.held h.receipts h.at h.number) ∷ ‵ (fobs γ (PendingCount.the_row.coded.code was))
      ∷ ‵ (fbor κ (Body (mem PendingCount.the_row) b o γ)) ∷ ‵ (flft κ q) ∷ Γ) G
  count_in t z b o was h = step (λ s. swaps_count t z b o was h $ drop t $ s)

  -- what the function answers
  pub answered : K → (n : ℕ) → n < 2 ^ 64
      → Step K 𝓛 (‵ (fsep (feq (List Val) (vint w64 n ∷ []) (vint w64 n ∷ [])) (flt n (2 ^ 64)))
      ∷ Γ) G Γ G
  answered t n fits = step (λ s. flt_i t n (2 ^ 64) fits $
      feq_i t (List Val) (vint w64 n ∷ []) (vint w64 n ∷ []) refl $ fjoin t $ s)

  -- a `&mut` beside what is left of the later parameters
  pub given_back : K → (b o : ℕ) {P Q later : Fml}
      → Step K 𝓛 (‵ (fsep (fsep (feq (List Val) (vptr b o ∷ []) (vptr b o ∷ [])) (fsep P Q)) later)
      ∷ Γ) G (‵ P ∷ ‵ Q ∷ ‵ later ∷ Γ) G
  given_back t b o = step (λ s. feq_i t (List Val) (vptr b o ∷ []) (vptr b o ∷ []) refl $ fjoin3 t $
      fjoin t $ s)

  -- a token made anew, beside what its type has
  pub tokened : K → (X : RattleType) {P : Fml}
      → Step K 𝓛 (‵ (fsep ((Token X).own_val (record {}, tt) (token ∷ [])) P) ∷ Γ) G (‵ P ∷ Γ) G
  tokened t X = step (λ s. use0 𝓛 (‵ ((Token X).own_val (record {}, tt) (token ∷ [])))
      (token_made X 𝓛) $ fjoin t $ s)

  -- what a `&` to a pass, and to what says where a word lies, shows
  pub pass_shown : K → {κ : Lft} (b o : ℕ) (h : Pass.Denot)
      → Step K 𝓛 (‵ (trace_shares h.bound h.block h.lines) ∷ Γ) G
      (‵ (hidden_shr Pass κ h b o) ∷ Γ) G
  pass_shown t {κ} b o h = step (λ s. use1 𝓛 (‵ (hidden_shr (Token unit) κ (record {}, tt) b o)
      ⊛ ‵ (fhide (trace_shares h.bound h.block h.lines)))
      (lent_out 𝓛 PassState.struct (PassState.the_codes (marker.the_row unit).coded)
      PassState.the_heap PassState.the_lent κ h b o) $ split t $ drop t $ unhide t $ s)

  pub lodging_shown : K → {κ : Lft} (b o : ℕ) (g : WordBorrow.the_row.Denot)
      → Step K 𝓛 (‵ (word_borrow g.block g.at g.lifetime) ∷ Γ) G
      (‵ (hidden_shr WordBorrow.the_row κ g b o) ∷ Γ) G
  lodging_shown t {κ} b o g = step (λ s. use1 𝓛
      (‵ (hidden_shr (Token unit) κ (record {}, tt) b o)
      ⊛ ‵ (fhide (word_borrow g.block g.at g.lifetime)))
      (lent_out 𝓛 WordBorrow.struct (WordBorrow.the_codes (marker.the_row unit).coded)
      WordBorrow.the_heap WordBorrow.the_lent κ g b o) $ split t $ drop t $ unhide t $ s)

  module _ (R : RattleType) where
    swaps_owner : K → Soaks G → {κ : Lft} {q : Share} {γ : GName} (b o : ℕ) (h h' : (Own R).Denot)
        → Step K 𝓛 (‵ (right_owns h.held h.block h.owner h.lease h.born)
        ∷ ‵ (fobs γ ((Own R).coded.code h')) ∷ ‵ (fbor κ (Body (mem (Own R)) b o γ)) ∷ ‵ (flft κ q)
        ∷ Γ) G
        (‵ (right_owns h'.held h'.block h'.owner h'.lease h'.born)
        ∷ ‵ (fobs γ ((Own R).coded.code h)) ∷ ‵ (fbor κ (Body (mem (Own R)) b o γ)) ∷ ‵ (flft κ q)
        ∷ Γ) G
    swaps_owner t z b o h h' = swaps t z (Own R) (λ vs. (Token R).own_val (record {}, tt) vs)
        (λ w. right_owns w.held w.block w.owner w.lease w.born) (λ w vs. refl) b o h h'

    -- the right as a whole, and its three parts
    pub right_out : K → Soaks G → {κ : Lft} {q : Share} {γ : GName} (b o : ℕ) (t : BlockId)
        (h : (Own R).Denot)
        → (h.held ≡ true) × (h.block ≡ t)
        → Step K 𝓛 (‵ (right_owns true t h.owner h.lease h.born)
        ∷ ‵ (fobs γ ((Own R).coded.code (no_owner R h))) ∷ ‵ (fbor κ (Body (mem (Own R)) b o γ))
        ∷ ‵ (flft κ q) ∷ Γ) G
        (‵ (fobs γ ((Own R).coded.code h)) ∷ ‵ (fbor κ (Body (mem (Own R)) b o γ)) ∷ ‵ (flft κ q)
        ∷ Γ) G
    right_out t z b o me h is = step (λ s. nothing t $ swaps_owner t z b o h (no_owner R h) $
        rewrite t 0 (λ (k : Bool × BlockId). ‵ (right_owns k.0 k.1 h.owner h.lease h.born))
        (λ i. (is.0 i, is.1 i)) refl $ s)

    pub owner_out : K → Soaks G → {κ : Lft} {q : Share} {γ : GName} (b o : ℕ) (t : BlockId)
        (h : (Own R).Denot)
        → (h.held ≡ true) × (h.block ≡ t)
        → Step K 𝓛 (‵ (known t h.born) ∷ ‵ (right t h.owner h.lease quarter) ∷ ‵ (stake h.lease)
        ∷ ‵ (fobs γ ((Own R).coded.code (no_owner R h))) ∷ ‵ (fbor κ (Body (mem (Own R)) b o γ))
        ∷ ‵ (flft κ q) ∷ Γ) G
        (‵ (fobs γ ((Own R).coded.code h)) ∷ ‵ (fbor κ (Body (mem (Own R)) b o γ)) ∷ ‵ (flft κ q)
        ∷ Γ) G
    owner_out t z b o me h is = step (λ s. right_out t z b o me h is $ fsplit3 t $ s)

    pub owner_in : K → Soaks G → {κ : Lft} {q : Share} {γ : GName} (b o : ℕ) (was h : (Own R).Denot)
        → Step K 𝓛 (‵ (fobs γ ((Own R).coded.code h)) ∷ ‵ (fbor κ (Body (mem (Own R)) b o γ))
        ∷ ‵ (flft κ q) ∷ Γ) G
        (‵ (right_owns h.held h.block h.owner h.lease h.born) ∷ ‵ (fobs γ ((Own R).coded.code was))
        ∷ ‵ (fbor κ (Body (mem (Own R)) b o γ)) ∷ ‵ (flft κ q) ∷ Γ) G
    owner_in t z b o was h = step (λ s. swaps_owner t z b o was h $ drop t $ s)

    -- what a `&` to an owner shows
    pub owner_shown : K → {κ : Lft} (b o : ℕ) (t : BlockId) (h : (Own R).Denot) → (h.held ≡ true)
        × (h.block ≡ t)
        → Step K 𝓛 (‵ (right_shares true t h.owner h.lease h.born κ) ∷ Γ) G
        (‵ (hidden_shr (Own R) κ h b o) ∷ Γ) G
    owner_shown t {κ} b o me h is = step (λ s. use1 𝓛
        (‵ (hidden_shr (Token R) κ (record {}, tt) b o)
        ⊛ ‵ (fhide (right_shares h.held h.block h.owner h.lease h.born κ)))
        (lent_out 𝓛 (OwnerToken.struct R) (OwnerToken.the_codes R.Denot R.coded
        (marker.the_row R).coded) (OwnerToken.the_heap R)
        (OwnerToken.the_lent R) κ h b o) $ split t $ drop t $ unhide t $
        rewrite t 0 (λ (k : Bool × BlockId). ‵ (right_shares k.0 k.1 h.owner h.lease h.born κ))
        (λ i. (is.0 i, is.1 i)) refl $ s)

    -- and what two owners are compared by
    pub owner_told : K → {κ : Lft} (b o : ℕ) (h : (Own R).Denot) → h.held ≡ true
        → Step K 𝓛 (‵ (right_shown h.block h.owner h.lease h.born κ) ∷ Γ) G
        (‵ (hidden_shr (Own R) κ h b o) ∷ Γ) G
    owner_told t {κ} b o h held = step (λ s. owner_shown t b o h.block h (held, refl) $
        use1 𝓛 (‵ (right_shown h.block h.owner h.lease h.born κ))
        (shares_shown 𝓛 h.block h.owner h.lease h.born κ) $ s)

module _ {M : Type 1} {𝓤 : Ura M} (𝓛 : Logic 𝓤) (𝓜 : Model 𝓤 𝓛.H) (𝓡 : Running 𝓤 𝓛.H 𝓜) (k : Callee)
    (vs : List Val) where
  open 𝓛 use {H, A as At}
  open signs 𝓛 use {Pr, ◌⊢◌, ◌∗◌, ◌-∗◌, ⟦◌⟧}

  infix 26 ◌⊢◌
  infixr 35 ◌∗◌
  infixr 30 ◌-∗◌
  abbrev 𝓣 : MachineTables 𝓤 H 𝓜
  𝓣 = tables 𝓤 H 𝓜 𝓡 𝓡.env

  -- the call answers a number, and then this is there
  abbrev pub Answers : (ℕ → Fml) → Pr
  Answers out = 𝓣.C k vs (λ v. mean 𝓛 (found out v))

  carries : (out out' : ℕ → Fml) (X : Pr) → ((n : ℕ) → ⟦ out n ⟧ ∗ X ⊢ H.⇛ ⟦ out' n ⟧)
      → Answers out ∗ X ⊢ Answers out'
  carries out out' X h = fm 𝓛 𝓜 𝓡 k vs (λ v. mean 𝓛 (found out v)) (λ v. mean 𝓛 (found out' v)) X
      (λ v.
      qed 𝓛 (found out v ∷ raw X ∷ []) ∵ updating ! $ await ! tt $ pick ! (λ n. learn ! (λ e.
      use2 𝓛 (later (‵ (out' n))) (h n) $ await ! tt $ now ! $
      show ! (λ (m : ℕ). mean 𝓛 (given ((vint w64 m ≡ v) × (m < 2 ^ 64)) (‵ (out' m)))) n $
      check ! e $ done !)))

  module _ (t : BlockId) (p : ℕ) (ready : Bool) (seen : List Line) (own : ℕ) (l : Lease) (κ₀ : Lft)
      (q₀ : Share) (b o : ℕ) where
    abbrev T : List Line → Fml
    T ls = trace_owns true t p ready ls

    abbrev Asks : (ℕ → ℕ) → Type 1
    Asks next = (out : ℕ → Fml) → asks 𝓛 (block_ptr b o) next always out ⊢ Answers out

    -- an operation by a reference to the word, whose token comes back
    pub by_reference : (q : Share) (owed : Fml) (op : Operation)
        → Steps 𝓛 t p ready seen own l q owed op → Asks op.next
        → ⟦ word_shares t (block_ptr b o) κ₀ ⟧ ∗ At.lft κ₀ q₀ ∗ ⟦ T seen ⟧ ∗ ⟦ right t own l q ⟧
        ∗ ⟦ owed ⟧
        ⊢ H.⇛ (Answers (λ n. fsep (flft κ₀ q₀) (places.after 𝓛 t p ready seen op n)))
    by_reference q owed op steps calls = let R : Fml = right t own l q in
        let after : ℕ → Fml = places.after 𝓛 t p ready seen op in
        let out : ℕ → Fml = λ n. fsep (flft κ₀ q₀) (after n) in
        qed 𝓛 (‵ (word_shares t (block_ptr b o) κ₀) ∷ ‵ (flft κ₀ q₀) ∷ ‵ (T seen) ∷ ‵ R ∷ ‵ owed
        ∷ []) ∵ updating ! $
        fpick ! (λ z. fsplit ! $
        -- [the lifetimes; the word's borrow; the token; the pass; the right; what is owed]
        move ! (0 ∷ 2 ∷ []) $ use2 𝓛 (later (some (λ (s : Share). ‵ (flft z.0 s)
        ⊛ raw (At.lft z.0 s -∗ H.⇛ (At.lft κ₀ q₀)))))
        (Lends-one 𝓛 𝓜 𝓡 κ₀ z.0 q₀) $ await ! tt $ pick ! (λ s. split ! $
        let held : ℕ → Fml = λ n. fsep (flft z.0 s) (after n) in
        let Back : Pr = At.lft z.0 s -∗ H.⇛ (At.lft κ₀ q₀) in
        -- [the word's token; its way back; the word's borrow; the pass; the right; what is owed]
        move ! (2 ∷ 0 ∷ 3 ∷ 4 ∷ 5 ∷ []) $ group ! 5 $ use1 𝓛 (raw (Answers held))
        (via 𝓤 _ (places.by_reference 𝓛 t p ready seen own l q owed op steps z.0 s z.1 b o)
        (calls held)) $
        use2 𝓛 (raw (Answers out)) (carries held out Back (λ n. qed 𝓛 (‵ (held n) ∷ raw Back ∷ []) ∵
        updating ! $
        fsplit ! $ move ! (0 ∷ 2 ∷ []) $ use2 𝓛 (later (‵ (flft κ₀ q₀)))
        (apply∗ 𝓤 (At.lft z.0 s) (H.⇛ (At.lft κ₀ q₀))) $
        await ! tt $ now ! $ fjoin ! $ done !)) $ now ! $ done !))

    -- the same of an owner that is borrowed itself, with a share of its right
    pub borrowed : (next : ℕ → ℕ) (entry : ℕ → List Line → Option Entry) (gain : Share → ℕ
        → List Line → Fml)
        → ((q : Share) → Steps 𝓛 t p ready seen own l q ftrue
        (record { next = next; entry = entry; gain = gain q }))
        → (more : ℕ → List Line → Fml)
        → ((q : Share) (n : ℕ) (before : List Line) → let ls : List Line = with_entry p before
        (entry n before) in
        ⟦ T ls ⟧ ∗ ⟦ gain q n before ⟧ ⊢ ⟦ T ls ⟧ ∗ ⟦ right t own l q ⟧ ∗ ⟦ more n before ⟧)
        → Asks next → (κ₁ : Lft) (q₁ : Share) (born : List Line)
        → ⟦ word_shares t (block_ptr b o) κ₀ ⟧ ∗ At.lft κ₀ q₀ ∗ ⟦ T seen ⟧
        ∗ ⟦ right_shares true t own l born κ₁ ⟧ ∗ At.lft κ₁ q₁
        ⊢ H.⇛ (Answers (λ n. fsep (flft κ₀ q₀) (fsep (flft κ₁ q₁)
        (left t p seen T n (entry n) (more n)))))
    borrowed next entry gain steps more keeps calls κ₁ q₁ born =
        let out : ℕ → Fml = λ n. fsep (flft κ₀ q₀) (fsep (flft κ₁ q₁)
        (left t p seen T n (entry n) (more n))) in
        qed 𝓛 (‵ (word_shares t (block_ptr b o) κ₀) ∷ ‵ (flft κ₀ q₀) ∷ ‵ (T seen)
        ∷ ‵ (right_shares true t own l born κ₁) ∷ ‵ (flft κ₁ q₁) ∷ []) ∵ updating ! $
        move ! (3 ∷ 4 ∷ []) $ use2 𝓛 (later (some (λ (r : Share). ‵ (right t own l r)
        ⊛ raw (⟦ right t own l r ⟧ -∗ H.⇛ (At.lft κ₁ q₁)))))
        (right_read 𝓛 t own l born κ₁ q₁) $ await ! tt $
        pick ! (λ r. split ! $ let R : Fml = right t own l r in
        let Back : Pr = ⟦ R ⟧ -∗ H.⇛ (At.lft κ₁ q₁) in
        let op : Operation = record { next = next; entry = entry; gain = gain r } in
        let held : ℕ → Fml = λ n. fsep (flft κ₀ q₀) (places.after 𝓛 t p ready seen op n) in
        -- [the right; its way back; the word; its token; the pass]
        nothing ! $ move ! (3 ∷ 4 ∷ 5 ∷ 1 ∷ 0 ∷ []) $ group ! 5 $
        use1 𝓛 (later (raw (Answers held)))
        (by_reference r ftrue op (steps r) calls) $ await ! tt $
        use2 𝓛 (raw (Answers out)) (carries held out Back (λ n. qed 𝓛 (‵ (held n) ∷ raw Back ∷ []) ∵
        updating ! $
        fsplit ! $ move ! (1 ∷ []) $ fpick ! (λ before. let ls : List Line = with_entry p before
        (entry n before) in fsplit3 ! $
        -- [what is told; the pass; the gain; the word's token; the way back]
        move ! (1 ∷ 2 ∷ []) $ use2 𝓛 (‵ (T ls) ⊛ ‵ R ⊛ ‵ (more n before)) (keeps r n before) $
        split3 ! $
        move ! (1 ∷ 5 ∷ []) $ use2 𝓛 (later (‵ (flft κ₁ q₁)))
        (apply∗ 𝓤 ⟦ R ⟧ (H.⇛ (At.lft κ₁ q₁))) $ await ! tt $ now ! $
        -- [the owner's token; the pass; what is more; what is told; the word's token]
        move ! (1 ∷ 2 ∷ []) $ fjoin ! $ move ! (2 ∷ 0 ∷ []) $ fjoin ! $
        fpack ! (List Line) (left_by t p seen T n (entry n) (more n)) before $
        move ! (1 ∷ 0 ∷ []) $ fjoin ! $ move ! (1 ∷ 0 ∷ []) $ fjoin ! $ done !))) $ now ! $ done !)

    -- an operation of such an owner that gains nothing more
    pub reads : (next : ℕ → ℕ) (entry : ℕ → List Line → Option Entry)
        → ((q : Share) → Steps 𝓛 t p ready seen own l q ftrue
        (record { next = next; entry = entry; gain = λ _ _. right t own l q }))
        → Asks next → (κ₁ : Lft) (q₁ : Share) (born : List Line)
        → ⟦ word_shares t (block_ptr b o) κ₀ ⟧ ∗ At.lft κ₀ q₀ ∗ ⟦ T seen ⟧
        ∗ ⟦ right_shares true t own l born κ₁ ⟧ ∗ At.lft κ₁ q₁
        ⊢ H.⇛ (Answers (λ n. fsep (flft κ₀ q₀) (fsep (flft κ₁ q₁)
        (left t p seen T n (entry n) (λ _. ftrue)))))
    reads next entry steps calls = borrowed next entry (λ q _ _. right t own l q) steps
        (λ _ _. ftrue) (λ q n before.
        let ls : List Line = with_entry p before (entry n before) in
        qed 𝓛 (‵ (T ls) ∷ ‵ (right t own l q) ∷ []) ∵ nothing ! $ move ! (1 ∷ 2 ∷ 0 ∷ []) $
        done !) calls
