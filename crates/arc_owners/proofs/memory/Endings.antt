-- How walks begin and end that use their arguments up. Assumes `Logic`.
--     dropped, Blank    nothing is left of any parameter, where the exit of each says nothing
--     spends            a walk at such parameters proves the function
--     spent             how it ends: the tokens and the result are all that it has
--     enters            the function runs at arguments that an equation tells
--     fills             a local that holds nothing takes a value
--     made              a marker is made, and the struct of it alone: a token
--     one_made, one_moved    a token of a new marker, or of one that is read, is the result
--     two_made          so is a pair of two tokens
--     paired            who owns two values owns their pair
--     both_spent        how a walk ends with a pair
use mathlib.Core.Path.{◌≡◌, refl, sym, subst}
use mathlib.Core.List.{List, [], ◌∷◌, ◌++◌}
use Prim.Native.Nat.{ℕ, zero}
use lib.Dec.{T}
use seplogic.Ra.Ura.{Ura}
use mir.Syntax.{Fn, Callee, Body, Opd, Rv as RValue, rv_opd, aggregate, place, copy, assign, seq}
use mir.Syntax.{return}
use mir.Val.{Val, vstruct, vcons, vnil, of_list, WT, has_ty}
use base.Fraction.{full_share}
use base.Logic.{SProp, ent, id⊢, sep, emp}
use base.Fml.{Fml, fsep, feq, fex, fat, froom}
use prog.Model.{Model}
use prog.Wp.{Heap, WpFn, Closed, Env, Calls, Loops, spot_of}
use types.Logic.{Logic, sem}
use types.Kit.{Item, Goal, Seq, Step, step, ‵, raw, ◌$◌, ◌∵◌, !, qed, by, move, done, use0, fjoin}
use types.Kit.{feq_i, fpack, rewrite, prop, runs, frees, allocs, params', at_ret, Post}
use types.Run.{Rv, Opd as IsOpd, of_opd, Reads, assigns, init, from, stop, no_more, and_then}
use types.Run.{returns, enter}
use types.Part.{agg}
use types.ByLocal.{at, set, cell, get}
use contract.Lifetimes.{Lfts}
use contract.Running.{Running, tables}
use denote.Exit.{Last, left}
use denote.Param.Mute.{blank}
use denote.RattleType.{RattleType, Denots, Valss, owns}
use denote.Laws.{Are, Ises}
use denote.Signature.{Slot, types_at, type_at}
use denote.Steps.{nothing}
use denote.Triple.Clauses.{Ended, Clauses, closing, Lasts, at_exit}
use denote.Triple.End.{Kepts, Fins}
use denote.Triple.Entry.{Res, alive}
use denote.Triple.Spec.{Meets}
use denote.Triple.Statement.{Contract}
use denote.Triple.Walked.{Stays, AllGo, fits_of, has_of, stay_dropped, walk_of}
use Rattle.core.proofs.alloc.Calls.{Goes-blank}
use Rattle.std.proofs.raw_atomic.Walks.{proved_at}
use Rattle.logbook.proofs.Fields.{token, ends}

module _ {n : ℕ} where
  abbrev pub dropped : (ss : List (Slot n)) (ks : Kepts ss) → Stays ss ks
  dropped [] ks = tt
  dropped (s ∷ ss) ks = (stay_dropped s ks.0, dropped ss ks.1)

  abbrev pub Blank : (ss : List (Slot n)) → Kepts ss → Type 0
  Blank [] ks = Unit {0}
  Blank (s ∷ ss) ks = ((κs : Lfts n) (x : (s.row κs).Denot) (f : Last ((s.row κs).exit ks.0) x)
      → T (blank (left ((s.row κs).exit ks.0) x f))) × Blank ss ks.1

  fitting : (κs : Lfts n) (ss : List (Slot n)) (ks : Kepts ss) (a : Denots (types_at ss κs))
      (ws : Fins κs ss ks a) → fits_of κs ss ks (dropped ss ks) a ws
  fitting κs [] ks a ws = tt
  fitting κs (s ∷ ss) ks a ws = (tt, fitting κs ss ks.1 a.1 ws.1)

module _ {M : Type 1} {𝓤 : Ura M} (𝓛 : Logic 𝓤) {n : ℕ} where
  all_go : (ss : List (Slot n)) (ks : Kepts ss) → Blank ss ks → AllGo 𝓛 n ss ks (dropped ss ks)
  all_go [] ks bs = tt
  all_go (s ∷ ss) ks bs = (Goes-blank 𝓛 n s ks.0 bs.0, all_go ss ks.1 bs.1)

  nothing_left : (κs : Lfts n) (ss : List (Slot n)) (ks : Kepts ss) (a : Denots (types_at ss κs))
      (ws : Fins κs ss ks a) (vss : Valss (types_at ss κs))
      → ent 𝓤 (emp 𝓤) (sem 𝓛 (has_of κs ss ks (dropped ss ks) a ws vss))
  nothing_left κs [] ks a ws vss = id⊢ 𝓤 (emp 𝓤)
  nothing_left κs (s ∷ ss) ks a ws vss = qed 𝓛 [] ∵
      use0 𝓛 (‵ (has_of κs ss ks.1 (dropped ss ks.1) a.1 ws.1 vss.1))
      (nothing_left κs ss ks.1 a.1 ws.1 vss.1) $ nothing ! $ fjoin ! $ done !

abbrev pub pair_val : Val → Val → Val
pair_val v w = vstruct (vcons v (vcons w vnil))

module _ (A B : RattleType) (a : A.Denot) (b : B.Denot) where
  abbrev pub Parts : Val → Val → Valss (A ∷ B ∷ []) → Fml
  Parts v w uss = fsep (feq (List Val) (pair_val v w ∷ [])
      (vstruct (of_list (uss.0 ++ (uss.1.0 ++ []))) ∷ [])) (owns (A ∷ B ∷ []) (a, (b, tt)) uss)

module _ {M : Type 1} {𝓤 : Ura M} (𝓛 : Logic 𝓤) (F : Ended) (c : Clauses 𝓤 F) where
  open 𝓛 use {H}

  abbrev pub Walk : Contract 𝓤
  Walk = walk_of 𝓛 F (dropped F.signature.params F.kept) c

  pub spends : (𝓜 : Model 𝓤 H) (𝓡 : Running 𝓤 H 𝓜) → Blank F.signature.params F.kept
      → (k : Callee) (e : Fn)
      → Closed 𝓤 H (tables 𝓤 H 𝓜 𝓡 𝓡.env).C (tables 𝓤 H 𝓜 𝓡 𝓡.env).Λ k e
      → ((y : Walk.Ghost) → Are (types_at F.signature.params y.0.0)
      (Ises (types_at F.signature.params y.0.0)) y.0.3 y.0.4 → ent 𝓤 (Walk.pre y)
      (WpFn 𝓤 H (tables 𝓤 H 𝓜 𝓡 𝓡.env).C (tables 𝓤 H 𝓜 𝓡 𝓡.env).Λ e (Walk.args y) (Walk.post y)))
      → Meets 𝓛 F.signature ((tables 𝓤 H 𝓜 𝓡 𝓡.env).C k) (closing 𝓛 F c)
  spends 𝓜 𝓡 blanks k e = proved_at 𝓛 F (dropped F.signature.params F.kept) c 𝓜 𝓡
      (all_go 𝓛 F.signature.params F.kept blanks) k e

  pub spent : (y : Walk.Ghost) (v : Val) (r : Res F.signature y.0.0) (ws : Lasts F y.0.0 y.0.3)
      → ent 𝓤 (emp 𝓤) ((c y.0.0 y.0.3).ensures y.1 r (at_exit F y.0.0 y.0.3 ws))
      → ent 𝓤 (sep 𝓤 (alive 𝓛 F.signature y.0.0 y.0.1)
      (sem 𝓛 ((type_at F.signature.result y.0.0).own_val r (v ∷ [])))) (Walk.post y v)
  spent y v r ws told =
      let ss = F.signature.params in let κs = y.0.0 in
      qed 𝓛 (raw (alive 𝓛 F.signature κs y.0.1) ∷ ‵
      ((type_at F.signature.result κs).own_val r (v ∷ [])) ∷ []) ∵
      use0 𝓛 (‵ (has_of κs ss F.kept (dropped ss F.kept) y.0.3 ws y.0.4))
      (nothing_left 𝓛 κs ss F.kept y.0.3 ws y.0.4) $ move ! (1 ∷ 0 ∷ 2 ∷ []) $
      by ! (ends 𝓛 F (dropped ss F.kept) c y v r ws (fitting κs ss F.kept y.0.3 ws) told)

-- local i holds v, or nothing; and v is of its type
module _ {M : Type 1} (𝓤 : Ura M) (H : Heap 𝓤) (E : Env 𝓤 H) (i : ℕ) where
  abbrev pub full : Val → Item 𝓤
  full v = ‵ (fat full_share (spot_of 𝓤 H E i).0 (spot_of 𝓤 H E i).1 zero v)

  abbrev pub bare : Item 𝓤
  bare = ‵ (froom (spot_of 𝓤 H E i).0 (spot_of 𝓤 H E i).1 zero)

  abbrev pub Typed : Val → Type 0
  Typed v = T (has_ty (spot_of 𝓤 H E i).0 v) × WT v

module _ {M : Type 1} {𝓤 : Ura M} {𝓛 : Logic 𝓤} {K : Type 0} {Γ : List (Item 𝓤)} where
  open 𝓛 use {H}

  pub enters : K → (C : Calls 𝓤 H) (Λ : Loops 𝓤 H) (f : Fn) (Kf : Val → SProp 𝓤) {us : List Val}
      (ws : List Val) → us ≡ ws
      → Step K 𝓛 Γ (allocs f.locals (λ E. params' E ws (runs C Λ E f.body (at_ret E Kf)))) Γ
      (prop (WpFn 𝓤 H C Λ f us Kf))
  enters t C Λ f Kf ws e = step (λ s.
      subst (λ (vs : List Val). Seq K 𝓛 Γ (prop (WpFn 𝓤 H C Λ f vs Kf))) (sym e)
      (enter t C Λ f ws Kf $ s))

  module _ {E : Env 𝓤 H} {C : Calls 𝓤 H} {Λ : Loops 𝓤 H} {q : Post 𝓤 H} where
    pub fills : K → {i : ℕ} {rv : RValue} {v : Val} {rest : Body} → Rv K 𝓛 Γ E rv v
        → at 𝓛 i Γ ≡ bare 𝓤 H E i → Typed 𝓤 H E i v
        → Step K 𝓛 (set 𝓛 i (full 𝓤 H E i v) Γ) (runs C Λ E rest q) Γ
        (runs C Λ E (seq (assign (place i []) rv) rest) q)
    fills t {i} r p wt = assigns t r (from t (stop t)) (init t (cell i Γ) p wt)

  module _ {G : Goal 𝓤 H} (A B : RattleType) (a : A.Denot) (b : B.Denot) where
    pub paired : K → (v w : Val)
        → Step K 𝓛 (‵ (fex (Valss (A ∷ B ∷ [])) (Parts A B a b v w)) ∷ Γ) G
        (‵ (A.own_val a (v ∷ [])) ∷ ‵ (B.own_val b (w ∷ [])) ∷ Γ) G
    paired t v w = step (λ s. let u : Val = pair_val v w in
        nothing t $ move t (2 ∷ 0 ∷ []) $ fjoin t $ move t (1 ∷ 0 ∷ []) $ fjoin t $
        feq_i t (List Val) (u ∷ []) (u ∷ []) refl $ fjoin t $
        fpack t (Valss (A ∷ B ∷ [])) (Parts A B a b v w) (v ∷ [], (w ∷ [], tt)) $ s)

-- what the two statements ask that make a marker in local i, and the struct of it alone in local j
module _ {M : Type 1} {𝓤 : Ura M} (𝓛 : Logic 𝓤) (E : Env 𝓤 𝓛.H) (Γ : List (Item 𝓤)) (i j : ℕ) where
  open 𝓛 use {H}

  abbrev pub with_marker : List (Item 𝓤)
  with_marker = set 𝓛 i (full 𝓤 H E i (vstruct vnil)) Γ

  abbrev pub with_token : List (Item 𝓤)
  with_token = set 𝓛 j (full 𝓤 H E j token) with_marker

  abbrev pub Makes : Type 2
  Makes = (at 𝓛 i Γ ≡ bare 𝓤 H E i) × Typed 𝓤 H E i (vstruct vnil)
      × (at 𝓛 i with_marker ≡ full 𝓤 H E i (vstruct vnil)) × (at 𝓛 j with_marker ≡ bare 𝓤 H E j)
      × Typed 𝓤 H E j token

-- what the statement asks that makes the result a pair of two tokens, and what it leaves
module _ {M : Type 1} {𝓤 : Ura M} (𝓛 : Logic 𝓤) (E : Env 𝓤 𝓛.H) (Γ : List (Item 𝓤)) where
  open 𝓛 use {H}

  abbrev pub with_result : Val → List (Item 𝓤)
  with_result v = set 𝓛 0 (full 𝓤 H E 0 v) Γ

  abbrev pub Pairs : ℕ → ℕ → Type 2
  Pairs j l = (at 𝓛 j Γ ≡ full 𝓤 H E j token) × (at 𝓛 l Γ ≡ full 𝓤 H E l token)
      × (at 𝓛 0 Γ ≡ bare 𝓤 H E 0) × Typed 𝓤 H E 0 (pair_val token token)

abbrev pub make : ℕ → ℕ → Body → Body
make i j rest = seq (assign (place i []) (aggregate []))
    (seq (assign (place j []) (aggregate (copy (place i []) ∷ []))) rest)

module _ {M : Type 1} {𝓤 : Ura M} {𝓛 : Logic 𝓤} {K : Type 0} {Γ : List (Item 𝓤)} {E : Env 𝓤 𝓛.H}
    {C : Calls 𝓤 𝓛.H} {Λ : Loops 𝓤 𝓛.H} where
  open 𝓛 use {H}

  pub made : K → {i j : ℕ} {rest : Body} {q : Post 𝓤 H} → Makes 𝓛 E Γ i j
      → Step K 𝓛 (with_token 𝓛 E Γ i j) (runs C Λ E rest q) Γ (runs C Λ E (make i j rest) q)
  made t m = step (λ s. fills t (agg t (no_more t)) m.0 m.1 $
      fills t (agg t (and_then t (get t m.2) (no_more t))) m.3 m.4 $ s)

module _ {M : Type 1} {𝓤 : Ura M} {𝓛 : Logic 𝓤} {K : Type 0} {Γ : List (Item 𝓤)} {E : Env 𝓤 𝓛.H}
    {C : Calls 𝓤 𝓛.H} {Λ : Loops 𝓤 𝓛.H} where
  open 𝓛 use {H}

  pub one_made : K → {i : ℕ} {Kf : Val → SProp 𝓤} {Γ' : List (Item 𝓤)} → Makes 𝓛 E Γ i 0
      → Reads K 𝓛 (with_token 𝓛 E Γ i 0) (spot_of 𝓤 H E 0).0 (spot_of 𝓤 H E 0).1 zero token
      → Step K 𝓛 Γ' (prop (Kf token)) (with_token 𝓛 E Γ i 0) (frees E (prop (Kf token)))
      → Step K 𝓛 Γ' (prop (Kf token)) Γ (runs C Λ E (make i 0 return) (at_ret E Kf))
  one_made t {Kf = Kf} m look free = step (λ s. made t m $ returns t {Kf = Kf} look $ free $ s)

  pub one_moved : K → {i : ℕ} {x : Opd} {Kf : Val → SProp 𝓤} {Γ' : List (Item 𝓤)}
      → IsOpd K 𝓛 Γ E x (vstruct vnil) → Makes 𝓛 E Γ i 0
      → Reads K 𝓛 (with_token 𝓛 E Γ i 0) (spot_of 𝓤 H E 0).0 (spot_of 𝓤 H E 0).1 zero token
      → Step K 𝓛 Γ' (prop (Kf token)) (with_token 𝓛 E Γ i 0) (frees E (prop (Kf token)))
      → Step K 𝓛 Γ' (prop (Kf token)) Γ (runs C Λ E (seq (assign (place i []) (rv_opd x))
      (seq (assign (place 0 []) (aggregate (copy (place i []) ∷ []))) return)) (at_ret E Kf))
  one_moved t {Kf = Kf} x m look free = step (λ s. fills t (of_opd t x) m.0 m.1 $
      fills t (agg t (and_then t (get t m.2) (no_more t))) m.3 m.4 $
      returns t {Kf = Kf} look $ free $ s)

  pub two_made : K → {i j k l : ℕ} {Kf : Val → SProp 𝓤} {Γ' : List (Item 𝓤)} → Makes 𝓛 E Γ i j
      → Makes 𝓛 E (with_token 𝓛 E Γ i j) k l
      → Pairs 𝓛 E (with_token 𝓛 E (with_token 𝓛 E Γ i j) k l) j l
      → Reads K 𝓛 (with_result 𝓛 E (with_token 𝓛 E (with_token 𝓛 E Γ i j) k l)
      (pair_val token token))
      (spot_of 𝓤 H E 0).0 (spot_of 𝓤 H E 0).1 zero (pair_val token token)
      → Step K 𝓛 Γ' (prop (Kf (pair_val token token)))
      (with_result 𝓛 E (with_token 𝓛 E (with_token 𝓛 E Γ i j) k l) (pair_val token token))
      (frees E (prop (Kf (pair_val token token))))
      → Step K 𝓛 Γ' (prop (Kf (pair_val token token))) Γ (runs C Λ E (make i j (make k l
      (seq (assign (place 0 []) (aggregate (copy (place j []) ∷ copy (place l []) ∷ []))) return)))
      (at_ret E Kf))
  two_made t {i} {j} {k} {l} {Kf} m n p look free = step (λ s.
      let Γ₁ = with_token 𝓛 E Γ i j in let Γ₂ = with_token 𝓛 E Γ₁ k l in
      made t m $ made {Γ = Γ₁} t n $
      fills {Γ = Γ₂} t (agg t (and_then t (get t p.0) (and_then t (get t p.1) (no_more t)))) p.2
      p.3 $ returns t {Kf = Kf} look $ free $ s)

module _ {M : Type 1} {𝓤 : Ura M} (𝓛 : Logic 𝓤) (F : Ended) (c : Clauses 𝓤 F) where
  pub both_spent : (y : (Walk 𝓛 F c).Ghost) (A B : RattleType) (a : A.Denot) (b : B.Denot)
      (v w : Val)
      (r : Res F.signature y.0.0) (ws : Lasts F y.0.0 y.0.3)
      → fex (Valss (A ∷ B ∷ [])) (Parts A B a b v w)
      ≡ (type_at F.signature.result y.0.0).own_val r (pair_val v w ∷ [])
      → ent 𝓤 (emp 𝓤) ((c y.0.0 y.0.3).ensures y.1 r (at_exit F y.0.0 y.0.3 ws))
      → ent 𝓤 (sep 𝓤 (sem 𝓛 (A.own_val a (v ∷ []))) (sep 𝓤 (sem 𝓛 (B.own_val b (w ∷ [])))
      (alive 𝓛 F.signature y.0.0 y.0.1))) ((Walk 𝓛 F c).post y (pair_val v w))
  both_spent y A B a b v w r ws is told =
      qed 𝓛 (‵ (A.own_val a (v ∷ [])) ∷ ‵ (B.own_val b (w ∷ [])) ∷ raw
      (alive 𝓛 F.signature y.0.0 y.0.1) ∷ []) ∵
      paired A B a b ! v w $ rewrite ! 0 (λ (P : Fml). ‵ P) is refl $ move ! (1 ∷ 0 ∷ []) $
      by ! (spent 𝓛 F c y (pair_val v w) r ws told)
