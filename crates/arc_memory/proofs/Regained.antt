-- Lent places come back in three runs, once the lifetime has ended: those before a range of which
-- the names are known, those of the range, with its items, and those behind it. Assumes `Logic`.
--     comes_back     what lies in them
--     comes_back_empty      as one run, of which no item is known
--     runs_in        the runs are made of it
use Rattle.std.proofs.Common.{◌≡◌, ℕ, ◌+◌, ◌-◌, ◌*◌, ◌^◌, ◌<◌, ◌≤◌, List, [], ◌∷◌, ◌++◌, length}
use Rattle.std.proofs.Common.{take, sym, ap, ◌∙◌, refl, arith, length-drop, length-take-le}
use lib.ListN.{drop as drop_from}
use seplogic.Ra.Ura.{Ura}
use mir.Val.{Val, vstruct, vcons, vnil, of_list}
use base.Logic.{ent, sep}
use base.Fml.{GName, Fml, fsep, feq, fex, fdead}
use contract.Monad.{fact}
use types.Logic.{Logic, sem}
use types.Kit.{Goal, Step, step, Item, ‵, raw, ◌⊛◌, later, ◌$◌, ◌∵◌, !, qed, move, keep, split}
use types.Kit.{fjoin, fpack, feq_i, fsplit3, fpick, feq_l, use1, use2, rewrite, await, updating}
use types.Kit.{now, done}
use denote.RattleType.{RattleType, Valss, owns}
use denote.RawPtr.{block_ptr}
use denote.Steps.{nothing, heard}
use denote.Struct.Tuple.{Tuple}
use Rattle.std_alloc.proofs.VecSteps.El.{El, R, el_x, sz}
use Rattle.logbook.proofs.Fields.{token}
use Rattle.arc_memory.specs.LentMemory.{LentMemory, Held, each_name, contents}
use Rattle.arc_memory.proofs.Borrowed.{Returns, Back, regains}
use Rattle.arc_memory.proofs.Contents.{length-contents}
use Rattle.arc_memory.proofs.Cuts.{Side, further}
use Rattle.arc_memory.proofs.Held.{Row, places_in}
use Rattle.arc_memory.proofs.Names.{Agrees, agree}
use Rattle.arc_memory.proofs.Spots.{Spot, spots, spots_as, spots_cut, spots_bare}

module _ (E : El) {M : Type 1} {𝓤 : Ura M} (𝓛 : Logic 𝓤) (b o first start count n : ℕ)
    (xs : List (el_x E)) where
  open 𝓛 use {H}

  abbrev s : ℕ
  s = sz E

  abbrev pub Before : Fml
  Before = Side E 𝓛 b (o + first * s) (start - first) []

  abbrev pub Own : Fml
  Own = Side E 𝓛 b (o + start * s) count xs

  abbrev pub Behind : Fml
  Behind = Side E 𝓛 b (o + (start + count) * s) n []

  module _ (a : ℕ) (gs : List GName) (K : GName → Held (R E) → Fml) (agrees : Agrees (R E) 𝓛 K)
      (ordered : first ≤ start) (all : start - first + count + n ≡ length gs)
      (held : length xs ≤ count) where
    abbrev Known : Fml
    Known = each_name (R E) K (drop_from (start - first) gs) (contents count xs)

    pub comes_back : ent 𝓤
        (sep 𝓤 (sem 𝓛 (fdead (a ∷ [])))
        (sep 𝓤 (sem 𝓛 Known) (sem 𝓛 (Returns E 𝓛 b a gs (o + first * s)))))
        (H.⇛ (sep 𝓤 (sem 𝓛 Before) (sep 𝓤 (sem 𝓛 Own) (sem 𝓛 Behind))))
    comes_back =
        let k : ℕ = start - first in let from : ℕ = o + first * s in let mid : ℕ = o + start * s in
        let end : ℕ = o + (start + count) * s in
        let ys = contents count xs in let long : length ys ≡ count = length-contents count xs in
        let reach : start ≡ first + k = omega (arith, ordered) in
        qed 𝓛 (‵ (fdead (a ∷ [])) ∷ ‵ Known ∷ ‵ (Returns E 𝓛 b a gs from) ∷ []) ∵ updating ! $
        move ! (0 ∷ 2 ∷ []) $
        use2 𝓛 (later (‵ (fex (List (Spot E 𝓛 b)) (Back E 𝓛 b a gs from))))
        (regains E 𝓛 b a gs from) $ await ! tt $ fpick ! (λ zs. fsplit3 ! $ feq_l ! (λ many.
        let Same : Type 0 = take (length ys) (drop_from k zs) ≡ ys in
        let rest : List (Spot E 𝓛 b) = drop_from count (drop_from k zs) in
        -- [the places; what their names decide; what is known of the range's]
        move ! (1 ∷ 2 ∷ []) $
        use2 𝓛 (raw (fact 𝓤 Same))
        (agree (R E) 𝓛 K agrees k gs zs ys many (omega (arith, long, all))) $
        heard ! Same (λ same.
        use1 𝓛 (‵ (spots E 𝓛 b (take k zs) from) ⊛ ‵ (spots E 𝓛 b (drop_from k zs) mid))
        (spots_cut E 𝓛 b k from mid zs (sym (further o first k s)
        ∙ ap (λ (j : ℕ). o + j * s) (sym reach))) $ split ! $
        use1 𝓛 (‵ Before)
        (spots_bare E 𝓛 b k from (take k zs) (length-take-le k zs (omega (arith, many, all)))) $
        move ! (1 ∷ []) $
        use1 𝓛 (‵ (spots E 𝓛 b (take count (drop_from k zs)) mid) ⊛ ‵ (spots E 𝓛 b rest end))
        (spots_cut E 𝓛 b count mid end (drop_from k zs) (sym (further o start count s))) $
        split ! $
        rewrite ! 0 (λ (us : List (Spot E 𝓛 b)). ‵ (spots E 𝓛 b us mid))
        (ap (λ (j : ℕ). take j (drop_from k zs)) (sym long) ∙ same) refl $
        use1 𝓛 (‵ Own) (spots_as E 𝓛 b count mid xs held) $ move ! (1 ∷ []) $
        use1 𝓛 (‵ Behind)
        (spots_bare E 𝓛 b n end rest
        (omega (arith, length-drop count (drop_from k zs), length-drop k zs, many, all))) $
        -- [the places behind the range; those of the range; those before it]
        move ! (2 ∷ 1 ∷ []) $ now ! $ done !)))

module _ (E : El) {M : Type 1} {𝓤 : Ura M} (𝓛 : Logic 𝓤) (b o count a : ℕ) where
  open 𝓛 use {H}

  module _ (gs : List GName) (many : length gs ≡ count) where
    abbrev Bare : Fml
    Bare = Side E 𝓛 b o count []

    abbrev Found : Fml
    Found = fex (List (Spot E 𝓛 b)) (Back E 𝓛 b a gs o)

    pub comes_back_empty :
        ent 𝓤 (sep 𝓤 (sem 𝓛 (fdead (a ∷ []))) (sem 𝓛 (Returns E 𝓛 b a gs o))) (H.⇛ (sem 𝓛 Bare))
    comes_back_empty =
        qed 𝓛 (‵ (fdead (a ∷ [])) ∷ ‵ (Returns E 𝓛 b a gs o) ∷ []) ∵ updating ! $
        use2 𝓛 (later (‵ Found)) (regains E 𝓛 b a gs o) $ await ! tt $
        fpick ! (λ zs. fsplit3 ! $ feq_l ! (λ same.
        -- [the places; what their names decide]
        use1 𝓛 (‵ Bare) (spots_bare E 𝓛 b count o zs (same ∙ many)) $ keep ! (0 ∷ []) $
        now ! $ done !))

module _ (E : El) (m : LentMemory) (first start count n : ℕ) (xs : List (el_x E))
    (ordered : first ≤ start) (fits : start + count + n ≤ m.whole) (held : length xs ≤ count)
    (few : m.whole < 2 ^ 63) where
  abbrev Pl : RattleType
  Pl = Row E

  abbrev run : (at many : ℕ) (ys : List (el_x E)) → at + many ≤ m.whole → length ys ≤ many
      → Pl.Denot
  run at many ys low held = record {
    marker = record {};
    base = m.base;
    whole = m.whole;
    start =
        at;
    count = many;
    items = ys;
    inside = (low, held, few);
  }

  abbrev before : Pl.Denot
  before = run first (start - first) [] (omega (arith, ordered, fits)) (omega arith)

  abbrev own : Pl.Denot
  own = run start count xs (omega (arith, fits)) held

  abbrev behind : Pl.Denot
  behind = run (start + count) n [] fits (omega arith)

  abbrev pub runs : Pl.Denot × Pl.Denot × Pl.Denot
  runs = (before, own, behind)

  abbrev Rs : List RattleType
  Rs = Pl ∷ Pl ∷ Pl ∷ []

  abbrev pub w : Val
  w = vstruct (vcons token (vcons token (vcons token vnil)))

  abbrev pub Made : Fml
  Made = (Tuple Rs).own_val runs (w ∷ [])

  module _ {M : Type 1} {𝓤 : Ura M} {𝓛 : Logic 𝓤} {K : Type 0} {Γ : List (Item 𝓤)} {G : Goal 𝓤 𝓛.H}
    where
      pub runs_in : K → (b o : ℕ) → m.base ≡ block_ptr b o → m.whole * sz E < 2 ^ 63
          → Step K 𝓛 (‵ Made ∷ Γ) G (‵ (Before E 𝓛 b o first start count n xs) ∷ ‵
          (Own E 𝓛 b o first start count n xs) ∷ ‵ (Behind E 𝓛 b o first start count n xs) ∷ Γ) G
      runs_in t b o at_b small = step (λ z. places_in E t before b o at_b small $ move t (1 ∷ []) $
          places_in E t own b o at_b small $ move t (2 ∷ []) $ places_in E t behind b o at_b small $
          -- [the places behind the range; those of the range; those before it]
          nothing t $ move t (1 ∷ 0 ∷ []) $ fjoin t $ move t (1 ∷ 0 ∷ []) $ fjoin t $
          move t (1 ∷ 0 ∷ []) $ fjoin t $ feq_i t (List Val) (w ∷ []) (w ∷ []) refl $ fjoin t $
          fpack t (Valss Rs)
          (λ uss. fsep (feq (List Val) (w ∷ [])
          (vstruct (of_list (uss.0 ++ (uss.1.0 ++ (uss.1.1.0 ++ [])))) ∷ []))
          (owns Rs (before, (own, (behind, tt))) uss))
          (token ∷ [], (token ∷ [], (token ∷ [], tt))) $ z)
