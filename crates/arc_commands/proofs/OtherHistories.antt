-- No command adds to the history of a block on which its window doesn't stand, and the other
-- windows stand where they stood.
use Rattle.std.proofs.Common.{inl, inr, ◌≡◌, ℕ, ◌<◌, Bool, true, List, length, Option, Some, None}
use Rattle.std.proofs.Common.{slice_get, slice_set, refl, ap, ◌∙◌, arith}
use Rattle.std.specs.Prelude.{MatchOption}
use Rattle.std.proofs.lemmas.Option.{none-some, same_Some, slice_get_within}
use Rattle.arc_owners.specs.declared.count.tokens.Pass.{Pass}
use Rattle.arc_owners.specs.declared.history.entry.Entry.{Entry}
use Rattle.arc_owners.specs.count.Calls.{Owner}
use Rattle.arc_block.specs.Owned.{Stand}
use Rattle.arc_block.specs.Table.{Row, Table, row_at}
use Rattle.arc_block.proofs.Lists.{get-front, get-set_other}
use Rattle.arc_commands.specs.Additions.{Standing, Adds, AddsBy, AddsTo, AddsAt, Raises, Founds}
use Rattle.arc_commands.specs.Additions.{MayBegin, Takes, RowAdds, MakerAdds, with_stand, stand_in}
use Rattle.arc_commands.specs.Additions.{raised, asked, refused, ended, AddsOn, JoinAdds}
use Rattle.arc_commands.specs.Additions.{GivesItself, GivesOther, MovesAndGives}
use Rattle.arc_commands.specs.Changes.{Setting}
use Rattle.arc_commands.specs.Commands.{ListCmd, ListReply}
use Rattle.arc_commands.specs.Others.{OtherHistoriesStay}
use Rattle.arc_commands.specs.Step.{other_of, window_of}
use Rattle.arc_commands.specs.declared.command.Cmd.TheVariants as command
use Rattle.arc_commands.specs.declared.command.Reply.TheVariants as reply
use Rattle.arc_commands.proofs.AddsEach.{row_adds_each}

-- behind the stands that are there one more may be
with-stand-stays : (stands : List Stand) (made : Option Stand) (j : ℕ) (stand : Stand)
    → slice_get stands j ≡ Some stand → slice_get (with_stand stands made) j ≡ Some stand
with-stand-stays stands None j stand at = at
with-stand-stays stands (Some made) j stand at = get-front stands j stand made at

module _ {H : Type 0} where
  -- the passes of all blocks stay but for that on which a window stands here
  abbrev PassesStay : Stand → (old new : List (Pass H)) → Type 0
  PassesStay here old new = (n : ℕ) (pass : Pass H) → ((o : Owner) → ¬ (here ≡ Some (n, o)))
      → slice_get old n ≡ Some pass → slice_get new n ≡ Some pass

  same-stay : (here : Stand) (old new : List (Pass H)) → new ≡ old → PassesStay here old new
  same-stay here old new is n pass apart at = ap (λ ps. slice_get ps n) is ∙ at

  adds-stay : (number : ℕ) (o : Owner) (entries : Owner → List Entry → List Entry)
      (old new : List (Pass H)) → AddsTo number o entries old new
      → PassesStay (Some (number, o)) old new
  adds-stay number o entries old new adds n pass apart at =
      ap (λ ps. slice_get ps n) adds.others
      ∙ get-set_other old number n adds.after (λ same. apart o (ap (λ m. Some (m, o)) same)) ∙ at

  at-stay : (here : Stand) (entries : Owner → List Entry → List Entry) (old new : List (Pass H))
      → AddsAt here entries old new → PassesStay here old new
  at-stay None entries old new adds = same-stay None old new adds
  at-stay (Some (number, o)) entries old new adds = adds-stay number o entries old new adds

  raises-stay : (here other : Stand) (old new : List (Pass H)) → Raises here other old new
      → PassesStay here old new
  raises-stay here None old new adds = same-stay here old new adds
  raises-stay None (Some made) old new adds = absurd adds
  raises-stay (Some (number, o)) (Some made) old new adds =
      adds-stay number o (raised made.1.number) old new adds.1

  founds-stay : (here there : Stand) (old new : List (Pass H)) → Founds there old new
      → PassesStay here old new
  founds-stay here None old new adds n pass apart at = same-stay here old new adds n pass apart at
  founds-stay here (Some (number, owner)) old new adds n pass apart at =
      ap (λ ps. slice_get ps n) adds.4 ∙ get-front old n pass adds.2 at

  begins-stay : (here there : Stand) (old new : List (Pass H)) → MayBegin here there old new
      → PassesStay here old new
  begins-stay None there old new adds = founds-stay None there old new adds
  begins-stay (Some here) there old new adds = same-stay (Some here) old new adds.1

  module _ (here there : Stand) (made : Option Stand) (old new : List (Pass H)) where
    takes-stay : Takes here there made old new → PassesStay here old new
    takes-stay adds n pass apart at =
        at-stay here ended adds.2 new adds.4 n pass apart
        (at-stay here (asked true) old adds.2 adds.3 n pass apart at)

    other-stay : GivesOther here there made old new → PassesStay here old new
    other-stay adds = raises-stay here adds.other old new adds.raises

    itself-stay : GivesItself here there made old new → PassesStay here old new
    itself-stay adds = raises-stay here there old new adds.raises

    -- a block more has a number that no pass had
    on-new : (stand : Stand) (between begun : List (Pass H)) → Founds stand between begun → (n : ℕ)
        → n < length between → (o : Owner) → ¬ (stand ≡ Some (n, o))
    on-new None between begun founds n less o is = none-some (n, o) is
    on-new (Some (number, owner)) between begun founds n less o is =
        let same : number ≡ n =
        ap (λ (s : ℕ × Owner). s.0) (same_Some (number, owner) (n, o) is) in
        absurd (omega (arith, founds.0, same, less))

    moves-stay : MovesAndGives here there made old new → PassesStay here old new
    moves-stay m n pass apart at =
        let one : slice_get m.between n ≡ Some pass =
        at-stay here ended old m.between m.left n pass apart at in
        let two : slice_get m.begun_with n ≡ Some pass =
        founds-stay here there m.between m.begun_with m.begins n pass apart one in
        raises-stay there m.other m.begun_with new m.raises n pass
        (on-new there m.between m.begun_with m.begins n
        (slice_get_within m.between n pass one)) two

    row-stay : {T M : Type 0} (setting : Setting T) (row : Row T M) (c : ListCmd T M)
        (r : ListReply T M) → RowAdds setting row c r here there made old new
        → PassesStay here old new
    row-stay =
        row_adds_each (record {
          other = other-stay;
          itself = itself-stay;
          moves = moves-stay;
          asks = λ alone adds. at-stay here (asked alone) old new adds.2;
          refuses = λ e adds. at-stay here (refused e) old new adds.2;
          stays = λ adds. begins-stay here there old new adds.0;
          goes = λ adds. at-stay here ended old new adds.2;
          takes = takes-stay;
          none = λ adds. same-stay here old new adds.2;
        })

  maker-stay : {T M : Type 0} (c : ListCmd T M) (r : ListReply T M) (made : Option Stand)
      (old new : List (Pass H)) → MakerAdds c r made old new → PassesStay None old new
  maker-stay (command.Static items) (reply.New number) made old new adds =
      same-stay None old new adds.1
  maker-stay c (reply.New number) made old new adds = founds-stay None adds.0 old new adds.2
  maker-stay c r made old new adds = same-stay None old new adds.1

  module _ {T M : Type 0} (setting : Setting T) (t : Table T M) (old : Standing H)
      (c : ListCmd T M) (r : ListReply T M) (new : Standing H) where
    made-stay : AddsBy setting t old c r new None → OtherHistoriesStay c old new
    made-stay adds = record {
      stands = λ j stand apart at.
          ap (λ ss. slice_get ss j) adds.2 ∙ with-stand-stays old.stands adds.0 j stand at;
      passes = λ n pass apart at.
          maker-stay c r adds.0 old.passes new.passes adds.1 n pass (λ o is. none-some (n, o) is)
          at;
    }

    on-stay : (i : ℕ) → window_of c ≡ Some i → (here : Option (Row T M))
        → MatchOption here (new ≡ old) (λ row. (there : Stand) × (made : Option Stand)
        × RowAdds setting row c r (stand_in old i) there made old.passes new.passes
        × (new.stands ≡ with_stand (slice_set old.stands i there) made))
        → OtherHistoriesStay c old new
    on-stay i on None adds = record {
      stands = λ j stand apart at. ap (λ (s : Standing H). slice_get s.stands j) adds ∙ at;
      passes = λ n pass apart at. ap (λ (s : Standing H). slice_get s.passes n) adds ∙ at;
    }
    on-stay i on (Some row) adds = record {
      stands = λ j stand apart at.
          ap (λ ss. slice_get ss j) adds.3
          ∙ with-stand-stays (slice_set old.stands i adds.0) adds.1 j stand
          (get-set_other old.stands i j adds.0 (λ same. apart (inl (on ∙ ap Some same))) ∙ at);
      passes = λ n pass apart at.
          row-stay (stand_in old i) adds.0 adds.1 old.passes new.passes setting row c r adds.2 n
          pass (λ o here. apart (i, o, inl on, here)) at;
    }

    by-stay : (window : Option ℕ) → window_of c ≡ window → AddsBy setting t old c r new window
        → OtherHistoriesStay c old new
    by-stay None on adds = made-stay adds
    by-stay (Some i) on adds = on-stay i on (row_at t i) adds

    -- the other window of a join ended
    join-stay : (j : ℕ) → other_of c ≡ Some j → JoinAdds old r new j → OtherHistoriesStay c old new
    join-stay j on adds = ended-or-same r adds
      where
        gone : AddsAt (stand_in old j) ended old.passes new.passes
            → new.stands ≡ slice_set old.stands j None → OtherHistoriesStay c old new
        gone ends stands = record {
          stands = λ k stand apart at.
              ap (λ ss. slice_get ss k) stands
              ∙ get-set_other old.stands j k None (λ same. apart (inr (on ∙ ap Some same))) ∙ at;
          passes = λ n pass apart at.
              at-stay (stand_in old j) ended old.passes new.passes ends n pass
              (λ o here. apart (j, o, inr on, here)) at;
        }

        same : new ≡ old → OtherHistoriesStay c old new
        same is = record {
          stands = λ k stand apart at. ap (λ (s : Standing H). slice_get s.stands k) is ∙ at;
          passes = λ n pass apart at. ap (λ (s : Standing H). slice_get s.passes n) is ∙ at;
        }

        ended-or-same : (answer : ListReply T M) → JoinAdds old answer new j
            → OtherHistoriesStay c old new
        ended-or-same reply.Ok adds = gone adds.0 adds.1
        ended-or-same answer adds = same adds

    both-stay : (window other : Option ℕ) → window_of c ≡ window → other_of c ≡ other
        → AddsOn setting t old c r new window other → OtherHistoriesStay c old new
    both-stay window None on one adds = by-stay window on adds
    both-stay window (Some j) on two adds = join-stay j two adds

    pub adds-stay-others : Adds setting t old c r new → OtherHistoriesStay c old new
    adds-stay-others adds = both-stay (window_of c) (other_of c) refl refl adds
