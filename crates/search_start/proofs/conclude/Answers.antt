-- `search_start::conclude` meets its contract: the steps in order.
use Rattle.std.proofs.Common.{◌∙◌, sym}
use Rattle.search_start.proofs.Starting.{concludes_no, concludes_yes, concludes_open}
use Rattle.search_start.proofs.conclude.Goals as goal

pub returns-then-is_no : goal.returns-then-is_no
returns-then-is_no c = λ D s p k v h. concludes_no D s _ _ _ (sym (c.is_no.ensures D s p k v h) ∙ c.if-is_no.true)

pub returns-then-is_yes : goal.returns-then-is_yes
returns-then-is_yes c = λ D s p k v h.
    concludes_yes D s _ _ _ (sym (c.is_no.ensures D s p k v h) ∙ c.if-is_no.false) (sym (c.is_yes.ensures D s p v h) ∙ c.if-is_yes.true)

pub returns : goal.returns
returns c = λ D s p k v h.
    concludes_open D s _ _ _ (sym (c.is_no.ensures D s p k v h) ∙ c.if-is_no.false) (sym (c.is_yes.ensures D s p v h) ∙ c.if-is_yes.false)
