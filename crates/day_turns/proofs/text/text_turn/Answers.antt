-- `text_turn` meets its contract.
use mathlib.Core.Path.{refl, sym, ap, subst}
use Prim.Native.Nat.{ℕ, ◌-◌}
use lib.ListN.{length, take, drop}
use Rattle.std.proofs.lemmas.List.{take_rest}
use Rattle.day_turns.specs.Turns.{behind, OpensFrom}
use Rattle.day_turns.specs.Tables.{tables, in_tables}
use Rattle.day_turns.proofs.Parts.{text_behind, text_last}
use Rattle.day_turns.proofs.text.text_turn.Goals as goal

pub returns-in-Some : goal.returns-in-Some
returns-in-Some c = λ cards.
    text_behind in_tables c.args.ended c.args.s (tables c.args.kept.now c.args.cells.now c.args.literals.now cards) _ (tables c.load.new.kept c.load.new.cells c.load.new.literals cards) c.load.new.answer c.args.t c.args.text.now
    (take (length (take c.args.s.place.held c.args.text.now) - c.args.s.place.at) (drop c.args.s.place.at (take c.args.s.place.held c.args.text.now))) (take_rest (take c.args.s.place.held c.args.text.now) c.args.s.place.at)
    c.in-Some.end (c.in-Some.ensures {u = tt})
    (record {
      stage = refl;
      place = ap (λ (n : ℕ). behind c.args.s.place (length (take c.in-Some.end (take (length (take c.args.s.place.held c.args.text.now) - c.args.s.place.at) (drop c.args.s.place.at (take c.args.s.place.held c.args.text.now))))) n) c.behind.ensures;
      given = refl;
      opens = c.load.ensures cards;
    })

pub returns-in-None : goal.returns-in-None
returns-in-None c = λ cards.
    text_last in_tables c.args.ended c.args.s (tables c.args.kept.now c.args.cells.now c.args.literals.now cards) c.over.result (tables c.load-in-None.new.kept c.load-in-None.new.cells c.load-in-None.new.literals cards) c.load-in-None.new.answer c.args.t c.args.text.now
    (take (length (take c.args.s.place.held c.args.text.now) - c.args.s.place.at) (drop c.args.s.place.at (take c.args.s.place.held c.args.text.now))) (take_rest (take c.args.s.place.held c.args.text.now) c.args.s.place.at)
    c.if-ended.true (c.in-None.ensures {u = tt})
    (record {
      over = c.over.ensures.0;
      place = c.over.ensures.1;
      opens =
          subst
          (λ (n : ℕ). OpensFrom in_tables c.args.t (take (length (take c.args.s.place.held c.args.text.now) - c.args.s.place.at) (drop c.args.s.place.at (take c.args.s.place.held c.args.text.now))) (tables c.args.kept.now c.args.cells.now c.args.literals.now cards) n
          (tables c.load-in-None.new.kept c.load-in-None.new.cells c.load-in-None.new.literals cards) c.load-in-None.new.answer)
          (sym c.over.ensures.2) (c.load-in-None.ensures cards);
    })
