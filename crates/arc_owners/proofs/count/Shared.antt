-- What a `&` to an owner's right or to a pass holds, and that all of it may go to another thread.
-- Assumes `Logic`.
use Rattle.std.proofs.Common.{ℕ, zero, suc, ◌<◌, Bool, true, false, List, [], ◌∷◌}
use mathlib.Core.Option.{Option, none, some}
use seplogic.Ra.Ura.{Ura}
use base.Share
use base.Share.{quarter}
use base.Logic.{SProp, ent, sep, wand, ex, emp, id⊢, snd∗, never_e, upd_i}
use base.Fml.{Lft, Share, Fml, Incl-refl, ftrue, fsep, fseps, fwand, fupd, fdead, flft, fbor}
use base.Fml.{fshr_bor, fnamed}
use base.Growing.{latest, at_least}
use base.Shift.{Keyless}
use base.Before.{before}
use ghost.Rules.{Halves}
use types.Logic.{Logic, sem, lfts}
use types.Growing.{at_least_dup}
use types.Keyed.{entry_keyless, token}
use types.Tokens.{bor_open, obor_alter, bor_fracture}
use types.RcWeak.{part, part_in}
use types.Frac.{shr_bor-Acc_by}
use types.Kit.{‵, raw, ◌⊛◌, ◌$◌, ◌∵◌, !, qed, by, move, keep, drop, split, fsplit, fsplit3, fjoin}
use types.Kit.{fpick, fpack, use1, assume, suffices, updating, now, done}
use denote.RawPtr.{Ptr, block_ptr, null_ptr}
use denote.Steps.{nothing}
use Rattle.core.proofs.cell.Borrows.{by_one}
use denote.Sharing.{ShrLaws, said, one, beside}
use denote.SharingLaws.{beside_shr_laws, one_shr_laws, nothing_shr_laws}
use denote.Struct.Lending.{Lends, Lends-first, Lends-both, Lends-nothing}
use Rattle.logbook.proofs.Fields.{lends_twice}
use Rattle.arc_owners.specs.count.Invariant.{BlockId, Line, Lease, lease_coded, no_lease}
use Rattle.arc_owners.specs.count.Invariant.{seat_coded, fresh_seat, halved, lines_order}
use Rattle.arc_owners.specs.count.Invariant.{history_at_least, withheld, pooled, pool, staked}
use Rattle.arc_owners.specs.count.Invariant.{tokens, right, contents, known, behind, right_owns}
use Rattle.arc_owners.specs.count.Invariant.{right_without, right_shown, told}
use Rattle.arc_owners.specs.count.Invariant.{right_shares, trace_owns, trace_shares, end_tokens}
use Rattle.arc_owners.specs.count.Invariant.{stake, word_borrow_as, word_borrow, Borrowing, places}
use Rattle.arc_owners.specs.count.Invariant.{place_coded, pointed, cell_holds, cell_at, borrowed}
use Rattle.arc_owners.specs.count.Invariant.{leads, IsStake}
use Rattle.arc_owners.proofs.count.Cells.{row_keyless, cell_cut, cell_joins}

pooled_keyless : (y : Bool) (l : Lease) (n : ℕ) → Keyless (pooled y l n)
pooled_keyless true l n = ((λ r f. tt), entry_keyless token l.key 0 tt)
pooled_keyless false l n = λ e. tt

staked_keyless : (y : Bool) (l : Lease) → Keyless (staked y l)
staked_keyless true l = λ e c. tt
staked_keyless false l = tt

tokens_keyless : (y : Bool) (l : Lease) (κ : Lft) → Keyless (tokens y l κ)
tokens_keyless true l κ = λ q. tt
tokens_keyless false l κ = tt

pool_keyless : (l : Lease) (n : ℕ) → Keyless (pool l n)
pool_keyless l zero = tt
pool_keyless l (suc n) = pooled_keyless l.is_lent l n

contents_keyless : (t : BlockId) → Keyless (contents t)
unfolding latest
contents_keyless t = λ a. (
  tt,
  (
    (λ x. (tt, λ _. tt)),
    (
      row_keyless lease_coded no_lease t.rights 0 a.roll,
      (
        row_keyless seat_coded fresh_seat t.passes 0 a.seats,
        (
          (
            (λ m. ((λ _. tt), entry_keyless (halved base.Stored.coded_ℕ) t.count 0 _)),
            pool_keyless a.lease _,
          ),
          λ _. tt,
        ),
      ),
    ),
  ),
)

pub known_keyless : (t : BlockId) (ls : List Line) → Keyless (known t ls)
unfolding at_least
known_keyless t ls = (contents_keyless t, tt)

pub behind_keyless : (t : BlockId) (n : ℕ) → Keyless (behind t n)
unfolding at_least
behind_keyless t n = (entry_keyless (halved base.Stored.coded_ℕ) t.count 0 _, λ x. tt)

pub right_keyless : (h : Bool) (t : BlockId) (o : ℕ) (l : Lease) (born : List Line)
    → Keyless (right_owns h t o l born)
right_keyless true t o l born = (
  known_keyless t born,
  (entry_keyless (halved lease_coded) t.rights o _, staked_keyless l.is_lent l),
)
right_keyless false t o l born = tt

pub right_without_keyless : (t : BlockId) (o : ℕ) (l : Lease) (born : List Line) (e : Share)
    → Keyless (right_without t o l born e)
right_without_keyless t o l born e = (
  known_keyless t born,
  (entry_keyless (halved lease_coded) t.rights o _, λ c. tt),
)

withheld_keyless : (t : BlockId) (w : Bool) (ls : List Line) → Keyless (withheld t w ls)
unfolding latest
withheld_keyless t true ls = tt
withheld_keyless t false ls = tt

pub trace_keyless : (b : Bool) (t : BlockId) (p : ℕ) (ready : Bool) (seen : List Line)
    → Keyless (trace_owns b t p ready seen)
trace_keyless true t p ready seen = (
  known_keyless t seen,
  (withheld_keyless t t.whole seen, entry_keyless (halved seat_coded) t.passes p _),
)
trace_keyless false t p ready seen = tt

pub trace_shared_keyless : (b : Bool) (t : BlockId) (seen : List Line)
    → Keyless (trace_shares b t seen)
trace_shared_keyless true t seen = known_keyless t seen
trace_shared_keyless false t seen = tt

pub end_tokens_keyless : (l : Lease) (b : Bool) → Keyless (end_tokens l b)
end_tokens_keyless l true = (tt, entry_keyless token l.key 0 tt)
end_tokens_keyless l false = tt

pub pointed_keyless : (t : BlockId) (x : Option (ℕ × ℕ)) → Keyless (pointed t x)
pointed_keyless t none = entry_keyless (halved base.Stored.coded_ℕ) t.count 0 _
pointed_keyless t (some x) = (
  (λ _. tt),
  ((λ k. entry_keyless (halved place_coded) t.receipts k _), λ n. (tt, behind_keyless t n)),
)

pub held_keyless : (t : BlockId) (x : Option (ℕ × ℕ)) → Keyless (cell_holds t x)
unfolding latest
held_keyless t x = (tt, pointed_keyless t x)

pub cell_keyless : (t : BlockId) (b o : ℕ) → Keyless (cell_at t b o)
cell_keyless t b o = λ x. (tt, held_keyless t x)

borrowed_keyless : (t : BlockId) (b o : ℕ) (w : Option (ℕ × ℕ)) → Keyless (borrowed t b o w)
borrowed_keyless t b o none = λ n. (tt, behind_keyless t n)
borrowed_keyless t b o (some c) = cell_keyless t c.0 c.1

leads_keyless : (t : BlockId) (b o : ℕ) (w : Option (ℕ × ℕ)) → Keyless (leads t b o w)
unfolding at_least
leads_keyless t b o none = tt
leads_keyless t b o (some c) = tt

pub borrow_keyless : (t : BlockId) (b o : ℕ) (κ : Lft) (j : Borrowing)
    → Keyless (word_borrow_as t b o κ j)
borrow_keyless t b o κ j = ((λ _. tt), (leads_keyless t b o j.1, borrowed_keyless t b o j.1))

pub word_borrow_keyless : (t : BlockId) (p : Ptr) (a : ℕ) → Keyless (word_borrow t p a)
word_borrow_keyless t (block_ptr b o) a = λ j. borrow_keyless t b o (a ∷ []) j
word_borrow_keyless t null_ptr a = tt

module _ {M : Type 1} {𝓤 : Ura M} (𝓛 : Logic 𝓤) (t : BlockId) where
  open 𝓛 use {H, A}

  abbrev ⟦◌⟧ : Fml → SProp 𝓤
  ⟦ P ⟧ = sem 𝓛 P

  pub known_twice : (ls : List Line) → ent 𝓤 ⟦ known t ls ⟧ (sep 𝓤 ⟦ known t ls ⟧ ⟦ known t ls ⟧)
  known_twice ls = let N : Fml = fnamed t.number (contents t) in qed 𝓛 (‵ (known t ls) ∷ []) ∵
      fsplit ! $ use1 𝓛 (‵ N ⊛ ‵ N) (𝓛.invs.named_dup t.number (contents t)) $ split ! $
      move ! (2 ∷ []) $
      use1 𝓛 (‵ (history_at_least t ls) ⊛ ‵ (history_at_least t ls))
      (at_least_dup lines_order 𝓛 t.history ls) $ split ! $ move ! (2 ∷ 0 ∷ []) $ fjoin ! $
      move ! (2 ∷ 1 ∷ []) $ fjoin ! $ done !

  leads_twice : (b o : ℕ) (w : Option (ℕ × ℕ)) → ent 𝓤 ⟦ leads t b o w ⟧
      (sep 𝓤 ⟦ leads t b o w ⟧ ⟦ leads t b o w ⟧)
  leads_twice b o none = base.Logic.emp∗ 𝓤 (emp 𝓤)
  leads_twice b o (some c) = at_least_dup places 𝓛 t.place (some (b, o))

  pub borrow_twice : (b o : ℕ) (κ : Lft) (j : Borrowing) → ent 𝓤 ⟦ word_borrow_as t b o κ j ⟧
      (sep 𝓤 ⟦ word_borrow_as t b o κ j ⟧ ⟦ word_borrow_as t b o κ j ⟧)
  borrow_twice b o κ j = let I : Fml = fbor κ (borrowed t b o j.1) in
      let L : Fml = leads t b o j.1 in
      qed 𝓛 (‵ (word_borrow_as t b o κ j) ∷ []) ∵ fsplit3 ! $ fpick ! (λ past. drop ! $
      use1 𝓛 (‵ L ⊛ ‵ L) (leads_twice b o j.1) $ split ! $ move ! (2 ∷ []) $
      use1 𝓛 (‵ (fnamed j.0 I) ⊛ ‵ (fnamed j.0 I)) (𝓛.invs.named_dup j.0 I) $ split ! $
      -- [the invariant, twice; where it leads, twice]
      move ! (2 ∷ 0 ∷ []) $ fjoin ! $
      nothing ! $ fpack ! (t.number < j.0) (λ _. ftrue) past $ fjoin ! $
      move ! (2 ∷ 1 ∷ []) $ fjoin ! $
      nothing ! $ fpack ! (t.number < j.0) (λ _. ftrue) past $ fjoin ! $
      move ! (1 ∷ 0 ∷ []) $ done !)

  pub word_borrow_twice : (p : Ptr) (a : ℕ) → ent 𝓤 ⟦ word_borrow t p a ⟧
      (sep 𝓤 ⟦ word_borrow t p a ⟧ ⟦ word_borrow t p a ⟧)
  word_borrow_twice (block_ptr b o) a = let κ : Lft = a ∷ [] in
      qed 𝓛 (‵ (word_borrow t (block_ptr b o) a) ∷ []) ∵
      fpick ! (λ j. use1 𝓛 (‵ (word_borrow_as t b o κ j) ⊛ ‵ (word_borrow_as t b o κ j))
      (borrow_twice b o κ j) $ split ! $ fpack ! Borrowing (word_borrow_as t b o κ) j $
      move ! (1 ∷ []) $ fpack ! Borrowing (word_borrow_as t b o κ) j $ done !)
  word_borrow_twice null_ptr a = never_e 𝓤
      (sep 𝓤 ⟦ word_borrow t null_ptr a ⟧ ⟦ word_borrow t null_ptr a ⟧)

  pub word_borrow_lends : (p : Ptr) (a : ℕ) (λ' : Lft)
      → Lends 𝓛 (word_borrow t p a) (said (word_borrow t p a)) λ'
  word_borrow_lends p a λ' = lends_twice 𝓛 (word_borrow t p a) (word_borrow_twice p a) λ'

  module _ (o : ℕ) (l : Lease) where
    abbrev R : Share → Fml
    R q = right t o l q

    pub right_halves : Halves 𝓤 H A R
    right_halves = record {
      cut = λ q. cell_cut lease_coded 𝓛 t.rights o q (Share.left q)
          (Share.right q) l (Share.halves q);
      join = λ q. cell_joins lease_coded 𝓛 t.rights o q
          (Share.left q) (Share.right q) l (Share.halves q);
    }

    fractured : (λ' : Lft) → Lends 𝓛 (R quarter) (one R) λ'
    fractured λ' κ ts inc sp = qed 𝓛 (‵ (fbor κ (R quarter)) ∷ raw (lfts 𝓛 ts)
        ∷ []) {P = H.⇛ (sep 𝓤 ⟦ fshr_bor κ R ⟧ (lfts 𝓛 ts))} (updating ! $
        bor_fracture ! tt R quarter $ now ! $ done !)

    part_back : (κ : Lft) (e : Share) → IsStake e
        → ent 𝓤 ⟦ ftrue ⟧ ⟦ fwand (fsep (fdead κ) (fseps (flft (l.lifetime ∷ []) e ∷ [])))
        (fupd (part 64 l.lifetime)) ⟧
    unfolding fseps
    part_back κ e c = qed 𝓛 (‵ ftrue ∷ []) ∵ assume !
        (‵ (fsep (fdead κ) (fsep (flft (l.lifetime ∷ []) e) ftrue))) $
        suffices ! ⟦ part 64 l.lifetime ⟧ (upd_i 𝓤 ⟦ part 64 l.lifetime ⟧) $ fsplit3 ! $
        keep ! (1 ∷ []) $ by ! (part_in 64 𝓛 l.lifetime e c)

    by_token : (κ : Lft) (q : Share) → ent 𝓤 (sep 𝓤 ⟦ fbor κ (part 64 l.lifetime) ⟧ (A.lft κ q))
        (H.⇛ (sep 𝓤 ⟦ tokens true l κ ⟧ (A.lft κ q)))
    unfolding fseps
    by_token κ q = let F : Share → Fml = λ s. flft (l.lifetime ∷ []) s in
        qed 𝓛 (‵ (fbor κ (part 64 l.lifetime)) ∷ ‵ (flft κ q) ∷ []) ∵ updating ! $ bor_open ! tt $
        move ! (1 ∷ []) $ fpick ! (λ e. fpick ! (λ c.
        nothing ! $ use1 𝓛 (‵ (fwand (fsep (fdead κ) (fseps (F e ∷ [])))
        (fupd (part 64 l.lifetime)))) (part_back κ e c) $ nothing ! $ move ! (2 ∷ 0 ∷ []) $
        fjoin ! $ move ! (2 ∷ 0 ∷ 1 ∷ []) $ obor_alter ! tt (F e ∷ []) $
        use1 𝓛 (‵ (fbor κ (F e)) ⊛ ‵ ftrue) (id⊢ 𝓤 _) $ split ! $ bor_fracture ! tt F e $ now ! $
        keep ! (0 ∷ 2 ∷ []) $ done !))

    -- whoever reads an owner has a share of the lifetime for which the block is lent
    token_lends : (y : Bool) (λ' : Lft) → Lends 𝓛 (staked y l) (λ κ. tokens y l κ) λ'
    token_lends true λ' = λ κ ts inc sp. by_one 𝓛 κ ts sp ⟦ fbor κ
        (part 64 l.lifetime) ⟧ ⟦ tokens true l κ ⟧ (by_token κ)
    token_lends false λ' = Lends-nothing 𝓛 ftrue λ'

    -- a `&` to an owner's right has its invariant, and shares of the right
    pub right_lends : (h : Bool) (born : List Line) (λ' : Lft)
        → Lends 𝓛 (right_owns h t o l born) (right_shares h t o l born) λ'
    right_lends true born λ' = Lends-both 𝓛 (known t born) (fsep (R quarter) (stake l))
        (said (known t born)) (beside (one R) (λ κ. tokens l.is_lent l κ)) λ'
        (lends_twice 𝓛 (known t born) (known_twice born) λ')
        (Lends-both 𝓛 (R quarter) (stake l) (one R) (λ κ. tokens l.is_lent l κ) λ' (fractured λ')
        (token_lends l.is_lent λ'))
    right_lends false born λ' = Lends-nothing 𝓛 ftrue λ'

    abbrev Read : Lft → Share → SProp 𝓤
    Read κ q = H.⇛ (ex 𝓤 (λ (s : Share). sep 𝓤 ⟦ R s ⟧ (wand 𝓤 ⟦ R s ⟧ (H.⇛ (A.lft κ q)))))

    pub shown_read : (born : List Line) (κ : Lft) (q : Share)
        → ent 𝓤 (sep 𝓤 ⟦ right_shown t o l born κ ⟧ (A.lft κ q)) (Read κ q)
    shown_read born κ q = qed 𝓛 (‵ (right_shown t o l born κ) ∷ ‵ (base.Fml.flft κ q) ∷ []) ∵
        fsplit ! $ drop ! $
        by ! (shr_bor-Acc_by 𝓛 R right_halves κ ((κ, q) ∷ []) (Incl-refl κ))

    pub shares_shown : (born : List Line) (κ : Lft)
        → ent 𝓤 ⟦ right_shares true t o l born κ ⟧ ⟦ right_shown t o l born κ ⟧
    shares_shown born κ = qed 𝓛 (‵ (right_shares true t o l born κ) ∷ []) ∵
        fsplit3 ! $ move ! (0 ∷ 1 ∷ []) $ fjoin ! $ keep ! (0 ∷ []) $ done !

    pub right_read : (born : List Line) (κ : Lft) (q : Share)
        → ent 𝓤 (sep 𝓤 ⟦ right_shares true t o l born κ ⟧ (A.lft κ q)) (Read κ q)
    right_read born κ q = qed 𝓛 (‵ (right_shares true t o l born κ) ∷ ‵ (base.Fml.flft κ q) ∷ []) ∵
        use1 𝓛 (‵ (right_shown t o l born κ)) (shares_shown born κ) $ by ! (shown_read born κ q)

    -- so has a `&` to one whose part of the lifetime is elsewhere
    pub without_lends : (born : List Line) (e : Share) (λ' : Lft)
        → Lends 𝓛 (right_without t o l born e) (right_shown t o l born) λ'
    without_lends born e λ' = Lends-both 𝓛 (known t born) (fsep (R quarter) (told (IsStake e)))
        (said (known t born)) (one R) λ' (lends_twice 𝓛 (known t born) (known_twice born) λ')
        (Lends-first 𝓛 (R quarter) (told (IsStake e)) (one R) λ' (fractured λ'))

  pub trace_lends : (b : Bool) (p : ℕ) (ready : Bool) (seen : List Line) (λ' : Lft)
      → Lends 𝓛 (trace_owns b t p ready seen) (said (trace_shares b t seen)) λ'
  trace_lends true p ready seen λ' = Lends-first 𝓛 (known t seen) _ (said (known t seen)) λ'
      (lends_twice 𝓛 (known t seen) (known_twice seen) λ')
  trace_lends false p ready seen λ' = Lends-nothing 𝓛 ftrue λ'

  pub trace_twice : (b : Bool) (seen : List Line)
      → ent 𝓤 ⟦ trace_shares b t seen ⟧ (sep 𝓤 ⟦ trace_shares b t seen ⟧ ⟦ trace_shares b t seen ⟧)
  trace_twice true seen = known_twice seen
  trace_twice false seen = base.Logic.emp∗ 𝓤 (emp 𝓤)

tokens_shr : (y : Bool) (l : Lease) → ShrLaws (λ κ. tokens y l κ)
tokens_shr true l = one_shr_laws (λ q. flft (l.lifetime ∷ []) q)
tokens_shr false l = nothing_shr_laws

pub right_shr : (h : Bool) (t : BlockId) (o : ℕ) (l : Lease) (born : List Line)
    → ShrLaws (right_shares h t o l born)
right_shr true t o l born = beside_shr_laws (said (known t born))
    (beside (one (λ q. right t o l q)) (λ κ. tokens l.is_lent l κ))
    (record {
      contraction = λ M 𝓤 𝓛 κ. known_twice 𝓛 t born;
      mono = λ M 𝓤 𝓛 κ' κ. snd∗ 𝓤 (sem 𝓛 (before κ' κ)) (sem 𝓛 (known t born));
    })
    (beside_shr_laws (one (λ q. right t o l q)) (λ κ. tokens l.is_lent l κ)
    (one_shr_laws (λ q. right t o l q)) (tokens_shr l.is_lent l))
right_shr false t o l born = nothing_shr_laws

pub shown_shr : (t : BlockId) (o : ℕ) (l : Lease) (born : List Line)
    → ShrLaws (right_shown t o l born)
shown_shr t o l born = beside_shr_laws (said (known t born)) (one (λ q. right t o l q))
    (record {
      contraction = λ M 𝓤 𝓛 κ. known_twice 𝓛 t born;
      mono = λ M 𝓤 𝓛 κ' κ. snd∗ 𝓤 (sem 𝓛 (before κ' κ)) (sem 𝓛 (known t born));
    })
    (one_shr_laws (λ q. right t o l q))

pub trace_shr : (b : Bool) (t : BlockId) (seen : List Line) → ShrLaws (said (trace_shares b t seen))
trace_shr b t seen = record {
  contraction = λ M 𝓤 𝓛 κ. trace_twice 𝓛 t b seen;
  mono = λ M 𝓤 𝓛 κ' κ. snd∗ 𝓤 (sem 𝓛 (before κ' κ)) (sem 𝓛 (trace_shares b t seen));
}

pub right_shared_keyless : (h : Bool) (t : BlockId) (o : ℕ) (l : Lease) (born : List Line) (κ : Lft)
    → Keyless (right_shares h t o l born κ)
right_shared_keyless true t o l born κ = (
  known_keyless t born,
  ((λ q. entry_keyless (halved lease_coded) t.rights o _), tokens_keyless l.is_lent l κ),
)
right_shared_keyless false t o l born κ = tt

pub shown_keyless : (t : BlockId) (o : ℕ) (l : Lease) (born : List Line) (κ : Lft)
    → Keyless (right_shown t o l born κ)
shown_keyless t o l born κ =
    (known_keyless t born, λ q. entry_keyless (halved lease_coded) t.rights o _)

pub word_borrow_shr : (t : BlockId) (p : Ptr) (a : ℕ) → ShrLaws (said (word_borrow t p a))
word_borrow_shr t p a = record {
  contraction = λ M 𝓤 𝓛 κ. word_borrow_twice 𝓛 t p a;
  mono = λ M 𝓤 𝓛 κ' κ. snd∗ 𝓤 (sem 𝓛 (before κ' κ)) (sem 𝓛 (word_borrow t p a));
}
