use Rattle.std.proofs.Common.{sym, ◌∙◌, refl}
use Rattle.std.proofs.lemmas.Bool.{eq-eqb, ne_eqb}
use Rattle.arc_owners.specs.declared.count.tokens.Pass.{Pass}
use Rattle.arc_owners.proofs.count.Calls.{filled_step, full_at, raised_step, made_raised}
use Rattle.arc_owners.proofs.count.Calls.{not_raised}
use Rattle.arc_owners.proofs.count.counted.try_up.Goals as goal

pub returns-then-old-most-clause-step : goal.returns-then-old-most-clause-step
returns-then-old-most-clause-step g c = let e = c.if-old-most.true ∙ sym c.requires.most in
    let k = eq-eqb c.load_for_raise-old.result c.args.word.now.most e in
    filled_step c.args.word.now c.args.pass.now
    (record { trace = c.load_for_raise-old.new.pass; mark = c.args.pass.now.mark })
    c.args.by.now.right _ k c.load_for_raise-old.ensures

pub returns-then-old-most-clause-full : goal.returns-then-old-most-clause-full
returns-then-old-most-clause-full g c = let e = c.if-old-most.true ∙ sym c.requires.most in
    let k = eq-eqb c.load_for_raise-old.result c.args.word.now.most e in
    full_at c.args.word.now c.args.pass.now
    (record { trace = c.load_for_raise-old.new.pass; mark = c.args.pass.now.mark })
    c.args.by.now.right _ k c.requires.share c.load_for_raise-old.ensures

pub returns-then-found-old-clause-again : goal.returns-then-found-old-clause-again
returns-then-found-old-clause-again g c =
    let m : Pass _ = record { trace = c.load_for_raise-old.new.pass; mark = c.args.pass.now.mark }
    in let r : Pass _ = record { trace = c.raise-found.new.pass; mark = c.args.pass.now.mark }
    in
    let unfilled = ne_eqb c.load_for_raise-old.result c.args.word.now.most
    (λ e. c.if-old-most.false (e ∙ c.requires.most)) in
    not_raised c.args.word.now c.args.pass.now m r c.args.by.now.right _ _ _ unfilled
    (ne_eqb c.raise-found.result c.load_for_raise-old.result c.if-found-old.true)
    c.requires.pass c.load_for_raise-old.ensures c.raise-found.ensures refl refl

pub returns-clause-made : goal.returns-clause-made
returns-clause-made g c =
    let m : Pass _ = record { trace = c.load_for_raise-old.new.pass; mark = c.args.pass.now.mark }
    in let r : Pass _ = record { trace = c.raise-found.new.pass; mark = c.args.pass.now.mark }
    in
    let unfilled = ne_eqb c.load_for_raise-old.result c.args.word.now.most
    (λ e. c.if-old-most.false (e ∙ c.requires.most)) in
    made_raised c.args.word.now c.args.pass.now m r c.args.by.now.right _ _ _ unfilled
    (eq-eqb c.raise-found.result c.load_for_raise-old.result c.if-found-old.false)
    c.requires.share c.requires.pass c.load_for_raise-old.ensures c.raise-found.ensures refl

pub returns-clause-step : goal.returns-clause-step
returns-clause-step g c =
    let k = eq-eqb c.raise-found.result c.load_for_raise-old.result c.if-found-old.false in
    raised_step c.args.word.now (record {
      trace = c.load_for_raise-old.new.pass;
      mark =
          c.args.pass.now.mark;
    }) (record {
      trace = c.raise-found.new.pass;
      mark =
          c.args.pass.now.mark;
    }) c.args.by.now.right _ _ k c.raise-found.ensures
