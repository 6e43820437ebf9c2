-- What an opened text of either edition leaves for the calls: all three demands hold for any list of them. What a refused one leaves, and tables that are too
-- short, are of any text: `refused_text_at` and `short_text_at` of `opening`.
use Prim.Native.Nat.{ℕ}
use mathlib.Core.Path.{◌≡◌, subst}
use mathlib.Core.Bool.{true}
use mathlib.Core.List.{List}
use lib.IntN.{ℤ}
use Rattle.std.specs.Prelude.{Result, Ok}
use Rattle.qbf.specs.Formula.{Limits, Formula, capped}
use Rattle.qbf.specs.Calls.{Call}
use Rattle.theory.proofs.Widths.{capped_ok}
use Rattle.state_parts.specs.Parts.{read_at, Whole}
use Rattle.serving.specs.Serves.{Said}
use Rattle.rule_calls.specs.Served.{lists, ServedAt, DemandsAt}
use Rattle.rule_calls.proofs.Served.{served_by, demands_served_at}
use Rattle.layout.specs.Words.{Bytes}
use Rattle.layout.specs.Opening.{Opened, opened, open_text}
use Rattle.editions.specs.Opening.{Editions, open_editions}
use Rattle.editions_laws.proofs.Formed.{opened_formula}
use Rattle.editions_laws.proofs.Readers.{opens_as_before}
use Rattle.opening.specs.declared.text.RefusedAt.{RefusedAt}
use Rattle.opening.specs.Opened.{AnsweredAt, OpenedAt}
use Rattle.opening.proofs.Closed.{opened_alike}

pub edition_served_at : (a : Editions) (n m : ℕ) (s : Bytes) (b : Formula) → open_editions a (capped n m) s ≡ opened b → (cells : List ℕ) (literals : List ℤ) → Whole (capped n m) cells literals → (cells' : List ℕ) (literals' : List ℤ)
    → OpenedAt (capped n m) (open_editions a (capped n m) s) cells literals (Ok tt) cells' literals' → (cs : List Call) (qs : List Said) (served : ServedAt (lists cells' literals') cs qs) → DemandsAt b (lists cells' literals') cs qs (served_by (lists cells' literals') cs qs served)
edition_served_at a n m s b e cells literals w cells' literals' o =
    demands_served_at b (opened_formula a (capped n m) (capped_ok n m) s b e) (lists cells' literals')
    (subst (λ (p : Opened). AnsweredAt p (Ok tt) cells' literals') e (o.whole w))

-- What a reader of edition 1 alone opens, a reader that takes edition 1 opens too: neither refuses it, and what is left reads alike.
pub opened_as_before_at : (a : Editions) → a 1 ≡ true → (L : Limits) (s : Bytes) (b : Formula) → open_text L s ≡ opened b → {r q : Result (Unit {0}) RefusedAt} {c k c' k' : List ℕ} {d e d' e' : List ℤ}
    → Whole L c d → OpenedAt L (open_editions a L s) c d r c' d' → Whole L k e → OpenedAt L (open_text L s) k e q k' e' → (r ≡ Ok tt) × (q ≡ Ok tt) × (read_at c' d' ≡ read_at k' e')
opened_as_before_at a h L s b is = opened_alike b (opens_as_before a h L s b is) is
