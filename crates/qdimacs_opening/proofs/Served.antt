-- WISH 1 of the code: "Read that form and give the same book that our own text would give." And what an opened QDIMACS text leaves for the calls: all three demands hold for any list of them. What a refused one leaves, and tables that are too short,
-- are of any text: `refused_text_at` and `short_text_at` of `opening`.
use Prim.Native.Nat.{ℕ, ◌≤◌}
use mathlib.Core.Path.{◌≡◌, subst}
use mathlib.Core.Bool.{true}
use mathlib.Core.List.{List}
use lib.IntN.{ℤ}
use lib.ListN.{length}
use Rattle.std.specs.Prelude.{Result, Ok}
use Rattle.qbf.specs.Formula.{Limits, Formula, capped}
use Rattle.qbf.specs.Calls.{Call, limits_are_ok}
use Rattle.theory.proofs.Widths.{capped_ok}
use Rattle.state_parts.specs.Parts.{read_at, Whole}
use Rattle.serving.specs.Serves.{Said}
use Rattle.rule_calls.specs.Served.{lists, ServedAt, DemandsAt}
use Rattle.rule_calls.proofs.Served.{served_by, demands_served_at}
use Rattle.layout.specs.Words.{Bytes}
use Rattle.layout.specs.Opening.{text_bytes, Opened, opened, open_text}
use Rattle.qdimacs_form.specs.Opening.{open_qdimacs}
use Rattle.opening.specs.declared.text.RefusedAt.{RefusedAt}
use Rattle.opening.specs.Opened.{AnsweredAt, OpenedAt}
use Rattle.opening.proofs.Closed.{opened_alike}
use Rattle.booktext.specs.Texts.{forms_text}
use Rattle.booktext.specs.Books.{text_room}
use Rattle.qdimacs_form.specs.Translation.{translated}
use Rattle.qdimacs_laws.proofs.Books.{Translates, own_fits, own_text}
use Rattle.qdimacs_opening.proofs.Formed.{opened_formula}

pub qdimacs_served_at : (n m : ℕ) (s : Bytes) (b : Formula) → open_qdimacs (capped n m) s ≡ opened b → (cells : List ℕ) (literals : List ℤ) → Whole (capped n m) cells literals → (cells' : List ℕ) (literals' : List ℤ)
    → OpenedAt (capped n m) (open_qdimacs (capped n m) s) cells literals (Ok tt) cells' literals' → (cs : List Call) (qs : List Said) (served : ServedAt (lists cells' literals') cs qs) → DemandsAt b (lists cells' literals') cs qs (served_by (lists cells' literals') cs qs served)
qdimacs_served_at n m s b e cells literals w cells' literals' o =
    demands_served_at b (opened_formula (capped n m) (capped_ok n m) s b e) (lists cells' literals')
    (subst (λ (p : Opened). AnsweredAt p (Ok tt) cells' literals') e (o.whole w))

-- The text has the lines of a translation into our own text. Where that is no longer than a text may be, neither of the two is refused, and what they leave
-- reads as the same state.
pub fitting_book_at : (L : Limits) (s : Bytes) (b : Formula) → open_qdimacs L s ≡ opened b → (t : Translates L s b) → length (forms_text (translated t.lines)) ≤ text_bytes → {r q : Result (Unit {0}) RefusedAt} {a c a' c' : List ℕ} {d e d' e' : List ℤ}
    → Whole L a d → OpenedAt L (open_qdimacs L s) a d r a' d' → Whole L c e → OpenedAt L (open_text L (forms_text (translated t.lines))) c e q c' e' → (r ≡ Ok tt) × (q ≡ Ok tt) × (read_at a' d' ≡ read_at c' e')
fitting_book_at L s b is t fits = opened_alike b is (own_fits L s b is t fits)

-- So it is of every text under limits whose books all fit a text.
pub own_book_at : (L : Limits) → limits_are_ok L ≡ true → text_room L ≤ text_bytes → (s : Bytes) (b : Formula) → open_qdimacs L s ≡ opened b → (t : Translates L s b) → {r q : Result (Unit {0}) RefusedAt} {a c a' c' : List ℕ} {d e d' e' : List ℤ}
    → Whole L a d → OpenedAt L (open_qdimacs L s) a d r a' d' → Whole L c e → OpenedAt L (open_text L (forms_text (translated t.lines))) c e q c' e' → (r ≡ Ok tt) × (q ≡ Ok tt) × (read_at a' d' ≡ read_at c' e')
own_book_at L ok room s b is t = opened_alike b is (own_text L s b is t ok room)
