-- The ghost steps of places that are borrowed one by one, each by induction on them. Assumes
-- `Logic`.
--     lends, regains      they are lent, and come back once the lifetime has ended
--     borrowed_cut, borrowed_glue      a range of them is cut, and put together, with none opened
--     opens_all, closes_all      all of a range are taken out, and put back with what they hold now
use Rattle.std.proofs.Common.{◌≡◌, ℕ, zero, suc, ◌+◌, ◌*◌, ◌≤◌, List, [], ◌∷◌, ◌++◌, length, take}
use Rattle.std.proofs.Common.{refl, sym, ap, ◌∙◌, arith}
use lib.ListN.{drop as drop_from}
use seplogic.Ra.Ura.{Ura}
use base.Share
use base.Logic.{ent, sep, emp, never_e, id⊢}
use base.Fml.{GName, Share, Fml, ftrue, ffalse, fsep, fex, feq, flft, fdead}
use types.Logic.{Logic, sem}
use types.Kit.{‵, ◌⊛◌, later, ◌$◌, ◌∵◌, !, qed, by, move, keep, drop, split, fsplit, fsplit3, fjoin}
use types.Kit.{fpick, fpack, feq_l, feq_i, use1, use2, rewrite, await, updating, now, done}
use types.Tokens.{name_new, name_agree, name_set, bor_new, lent_back, bor_open, obor_close}
use denote.Steps.{nothing}
use Rattle.std_alloc.proofs.VecSteps.El.{El, R, sz}
use Rattle.arc_memory.specs.LentMemory.{held_code, holds, says, decides, named_as, settable}
use Rattle.arc_memory.specs.LentMemory.{borrowed, opened, returning, each_name}
use Rattle.arc_memory.proofs.Names.{decided}
use Rattle.arc_memory.proofs.Spots.{Spot, spots, one_further, no_further}

module _ (E : El) {M : Type 1} {𝓤 : Ura M} (𝓛 : Logic 𝓤) (b : ℕ) where
  open 𝓛 use {H}

  abbrev s : ℕ
  s = sz E

  abbrev Y : Type 0
  Y = Spot E 𝓛 b

  abbrev here : List Y → ℕ → Fml
  here = spots E 𝓛 b

  -- what names say, apart from the borrows
  abbrev pub said : List GName → List Y → Fml
  said = each_name (R E) (says (R E))

  module _ (a : ℕ) where
    abbrev pub Borrows : List GName → List Y → ℕ → Fml
    Borrows gs ys o = borrowed (R E) a gs ys b o

    abbrev pub Returns : List GName → ℕ → Fml
    Returns gs o = returning (R E) a gs b o

    abbrev pub Opened : Share → List GName → ℕ → ℕ → Fml
    Opened q gs n o = opened (R E) a q gs n b o

    abbrev pub Lent : List Y → ℕ → List GName → Fml
    Lent ys o gs = fsep (feq ℕ (length gs) (length ys)) (fsep (Borrows gs ys o) (Returns gs o))

    pub lends : (ys : List Y) (o : ℕ)
        → ent 𝓤 (sem 𝓛 (here ys o)) (H.⇛ (sem 𝓛 (fex (List GName) (Lent ys o))))
    lends [] o = qed 𝓛 (‵ ftrue ∷ []) ∵ updating ! $ nothing ! $ fjoin ! $ feq_i ! ℕ 0 0 refl $
        fjoin ! $ fpack ! (List GName) (Lent [] o) [] $ now ! $ done !
    lends (y ∷ ys) o =
        qed 𝓛 (‵ (here (y ∷ ys) o) ∷ []) ∵ updating ! $ fsplit ! $ move ! (1 ∷ []) $
        use1 𝓛 (later (‵ (fex (List GName) (Lent ys (o + s))))) (lends ys (o + s)) $
        await ! tt $ fpick ! (λ gs. fsplit3 ! $ feq_l ! (λ e.
        name_new ! tt ((held_code (R E)).code y) (λ γ.
        -- [what the name says; what it decides; the others' borrows; their way back; the place]
        move ! (4 ∷ 1 ∷ []) $ fjoin ! $ fpack ! Y (named_as (R E) γ b o) y $ bor_new ! tt (a ∷ []) $
        -- [the borrow; its way back; what the name says; the others' borrows; their way back]
        move ! (1 ∷ 4 ∷ []) $ fjoin ! $ move ! (1 ∷ 2 ∷ []) $ fjoin ! $ move ! (0 ∷ 2 ∷ []) $
        fjoin ! $ fjoin ! $ feq_i ! ℕ (suc (length gs)) (suc (length ys)) (ap suc e) $ fjoin ! $
        fpack ! (List GName) (Lent (y ∷ ys) o) (γ ∷ gs) $ now ! $ done !)))

    abbrev pub Back : List GName → ℕ → List Y → Fml
    Back gs o zs = fsep (feq ℕ (length zs) (length gs)) (fsep (here zs o) (decided (R E) gs zs))

    pub regains : (gs : List GName) (o : ℕ)
        → ent 𝓤 (sep 𝓤 (sem 𝓛 (fdead (a ∷ []))) (sem 𝓛 (Returns gs o)))
        (H.⇛ (sem 𝓛 (fex (List Y) (Back gs o))))
    regains [] o = qed 𝓛 (‵ (fdead (a ∷ [])) ∷ ‵ ftrue ∷ []) ∵ updating ! $ drop ! $ nothing ! $
        fjoin ! $ feq_i ! ℕ 0 0 refl $ fjoin ! $ fpack ! (List Y) (Back [] o) [] $ now ! $ done !
    regains (γ ∷ gs) o =
        qed 𝓛 (‵ (fdead (a ∷ [])) ∷ ‵ (Returns (γ ∷ gs) o) ∷ []) ∵ updating ! $
        use1 𝓛 (‵ (fdead (a ∷ [])) ⊛ ‵ (fdead (a ∷ []))) (𝓛.lfts.dead_dup (a ∷ [])) $ split ! $
        move ! (2 ∷ []) $ fsplit ! $
        -- [the place's way back; the others'; that the lifetime has ended, twice]
        move ! (2 ∷ 1 ∷ []) $ use2 𝓛 (later (‵ (fex (List Y) (Back gs (o + s)))))
        (regains gs (o + s)) $ await ! tt $ fpick ! (λ zs. fsplit3 ! $ feq_l ! (λ e.
        move ! (3 ∷ 2 ∷ []) $ lent_back ! tt $ fpick ! (λ z. fsplit ! $
        -- [the place; what its name decides; the other places; what their names decide]
        move ! (1 ∷ 3 ∷ []) $ fjoin ! $ move ! (1 ∷ 2 ∷ []) $ fjoin ! $ fjoin ! $
        feq_i ! ℕ (suc (length zs)) (suc (length gs)) (ap suc e) $ fjoin ! $
        fpack ! (List Y) (Back (γ ∷ gs) o) (z ∷ zs) $ now ! $ done !)))

    -- the borrows are let go, and what the names say is kept
    pub kept : (gs : List GName) (ys : List Y) (o : ℕ) → ent 𝓤 (sem 𝓛 (Borrows gs ys o))
        (sem 𝓛 (said gs ys))
    kept gs [] o = id⊢ 𝓤 (emp 𝓤)
    kept [] (y ∷ ys) o = never_e 𝓤 _
    kept (γ ∷ gs) (y ∷ ys) o = qed 𝓛 (‵ (Borrows (γ ∷ gs) (y ∷ ys) o) ∷ []) ∵ fsplit ! $ fsplit ! $
        drop ! $ move ! (1 ∷ []) $ use1 𝓛 (‵ (said gs ys)) (kept gs ys (o + s)) $
        move ! (1 ∷ 0 ∷ []) $ fjoin ! $ done !

    pub borrowed_cut : (n : ℕ) (gs : List GName) (ys : List Y) (o p : ℕ) → n ≤ length ys
        → o + n * s ≡ p
        → ent 𝓤 (sem 𝓛 (Borrows gs ys o)) (sep 𝓤 (sem 𝓛 (Borrows gs (take n ys) o))
        (sem 𝓛 (Borrows (drop_from n gs) (drop_from n ys) p)))
    borrowed_cut zero gs ys o p f e = qed 𝓛 (‵ (Borrows gs ys o) ∷ [])
        ∵ rewrite ! 0 (λ (k : ℕ). ‵ (Borrows gs ys k)) (sym (no_further o s) ∙ e) refl $ nothing ! $
        done !
    borrowed_cut (suc n) gs [] o p f e = absurd (omega arith)
    borrowed_cut (suc n) [] (y ∷ ys) o p f e = never_e 𝓤 _
    borrowed_cut (suc n) (γ ∷ gs) (y ∷ ys) o p f e =
        qed 𝓛 (‵ (Borrows (γ ∷ gs) (y ∷ ys) o) ∷ []) ∵ fsplit ! $ move ! (1 ∷ []) $
        use1 𝓛 (‵ (Borrows gs (take n ys) (o + s)) ⊛ ‵ (Borrows (drop_from n gs) (drop_from n ys)
        p)) (borrowed_cut n gs ys (o + s) p (omega arith) (sym (one_further o n s) ∙ e)) $
        split ! $ move ! (2 ∷ 0 ∷ []) $ fjoin ! $ done !

    pub borrowed_glue : (n : ℕ) (gs : List GName) (ys zs : List Y) (o p : ℕ) → length ys ≡ n
        → o + n * s ≡ p
        → ent 𝓤 (sep 𝓤 (sem 𝓛 (Borrows gs ys o)) (sem 𝓛 (Borrows (drop_from n gs) zs p)))
        (sem 𝓛 (Borrows gs (ys ++ zs) o))
    borrowed_glue zero gs [] zs o p f e = qed 𝓛 (‵ (Borrows gs [] o) ∷ ‵ (Borrows gs zs p) ∷ [])
        ∵ drop ! $ rewrite ! 0 (λ (k : ℕ). ‵ (Borrows gs zs k)) (sym (sym (no_further o s) ∙ e))
        refl $ done !
    borrowed_glue zero gs (y ∷ ys) zs o p f e = absurd (omega arith)
    borrowed_glue (suc n) gs [] zs o p f e = absurd (omega arith)
    borrowed_glue (suc n) [] (y ∷ ys) zs o p f e =
        qed 𝓛 (‵ ffalse ∷ ‵ (Borrows [] zs p) ∷ []) ∵ keep ! (0 ∷ []) $ by ! (never_e 𝓤 _)
    borrowed_glue (suc n) (γ ∷ gs) (y ∷ ys) zs o p f e =
        qed 𝓛 (‵ (Borrows (γ ∷ gs) (y ∷ ys) o) ∷ ‵ (Borrows (drop_from n gs) zs p) ∷ [])
        ∵ fsplit ! $ move ! (1 ∷ 2 ∷ []) $
        use2 𝓛 (‵ (Borrows gs (ys ++ zs) (o + s))) (borrowed_glue n gs ys zs (o + s) p (omega arith)
        (sym (one_further o n s) ∙ e)) $ move ! (1 ∷ 0 ∷ []) $ fjoin ! $ done !

    pub opens_all : (q : Share) (gs : List GName) (ys : List Y) (o : ℕ)
        → ent 𝓤 (sep 𝓤 (sem 𝓛 (Borrows gs ys o)) (sem 𝓛 (flft (a ∷ []) q)))
        (H.⇛ (sep 𝓤 (sem 𝓛 (here ys o)) (sem 𝓛 (Opened q gs (length ys) o))))
    opens_all q gs [] o = qed 𝓛 (‵ (Borrows gs [] o) ∷ ‵ (flft (a ∷ []) q) ∷ []) ∵ updating ! $
        now ! $ done !
    opens_all q [] (y ∷ ys) o = qed 𝓛 (‵ ffalse ∷ ‵ (flft (a ∷ []) q) ∷ []) ∵ keep ! (0 ∷ []) $
        by ! (never_e 𝓤 _)
    opens_all q (γ ∷ gs) (y ∷ ys) o =
        qed 𝓛 (‵ (Borrows (γ ∷ gs) (y ∷ ys) o) ∷ ‵ (flft (a ∷ []) q) ∷ []) ∵ updating ! $ fsplit ! $
        fsplit ! $ move ! (3 ∷ []) $
        use1 𝓛 (‵ (flft (a ∷ []) (Share.left q)) ⊛ ‵ (flft (a ∷ []) (Share.right q)))
        (𝓛.lfts.lft_split (a ∷ []) q) $ split ! $
        -- [two shares; the borrow; what the name says; the others]
        move ! (4 ∷ 1 ∷ []) $
        use2 𝓛 (later (‵ (here ys (o + s)) ⊛ ‵ (Opened (Share.right q) gs (length ys) (o + s))))
        (opens_all (Share.right q) gs ys (o + s)) $ await ! tt $ split ! $
        -- [the others; what is open of them; the other share; the borrow; what the name says]
        move ! (3 ∷ 2 ∷ []) $ bor_open ! tt $ move ! (1 ∷ []) $ fpick ! (λ z. fsplit ! $
        -- [the place; what its name decides; what is open; the others; what is open; what it says]
        move ! (5 ∷ 1 ∷ []) $ name_agree ! (held_code (R E)) (λ same. fjoin ! $
        rewrite ! 0 (λ (k : Y). ‵ (fsep (says (R E) γ y) (decides (R E) γ k))) (sym same) refl $
        fpack ! Y (settable (R E) a γ) y $
        rewrite ! 1 (λ (k : Y). ‵ (holds (R E) k b o)) (sym same) refl $ move ! (2 ∷ 0 ∷ []) $
        fjoin ! $
        -- [what is open; the place; the others; what is open]
        move ! (0 ∷ 3 ∷ []) $ fjoin ! $ move ! (1 ∷ 2 ∷ []) $ fjoin ! $ now ! $ done !))

    pub closes_all : (q : Share) (gs : List GName) (ys : List Y) (o : ℕ)
        → ent 𝓤 (sep 𝓤 (sem 𝓛 (here ys o)) (sem 𝓛 (Opened q gs (length ys) o)))
        (H.⇛ (sep 𝓤 (sem 𝓛 (Borrows gs ys o)) (sem 𝓛 (flft (a ∷ []) q))))
    closes_all q gs [] o = qed 𝓛 (‵ (here [] o) ∷ ‵ (flft (a ∷ []) q) ∷ []) ∵ updating ! $ now ! $
        done !
    closes_all q [] (y ∷ ys) o = qed 𝓛 (‵ (here (y ∷ ys) o) ∷ ‵ ffalse ∷ []) ∵ keep ! (1 ∷ []) $
        by ! (never_e 𝓤 _)
    closes_all q (γ ∷ gs) (y ∷ ys) o =
        qed 𝓛 (‵ (here (y ∷ ys) o) ∷ ‵ (Opened q (γ ∷ gs) (suc (length ys)) o) ∷ []) ∵ updating ! $
        fsplit ! $ move ! (2 ∷ []) $ fsplit ! $ move ! (3 ∷ 1 ∷ []) $
        use2 𝓛 (later (‵ (Borrows gs ys (o + s)) ⊛ ‵ (flft (a ∷ []) (Share.right q))))
        (closes_all (Share.right q) gs ys (o + s)) $ await ! tt $ split ! $ move ! (2 ∷ []) $
        fsplit ! $ move ! (1 ∷ []) $ fpick ! (λ z. fsplit ! $
        name_set ! tt ((held_code (R E)).code y) $
        -- [what the name says, and decides; the open borrow; the others; the other share; the
        -- place]
        move ! (5 ∷ 1 ∷ []) $ fjoin ! $ fpack ! Y (named_as (R E) γ b o) y $ move ! (2 ∷ 0 ∷ []) $
        obor_close ! tt $
        -- [the borrow; its share; what the name says; the others; the other share]
        move ! (1 ∷ 4 ∷ []) $ use2 𝓛 (‵ (flft (a ∷ []) q)) (𝓛.lfts.lft_join (a ∷ []) q) $
        move ! (1 ∷ 2 ∷ []) $ fjoin ! $ move ! (0 ∷ 2 ∷ []) $ fjoin ! $ now ! $ done !)
