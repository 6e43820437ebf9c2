-- A page in a table that the caller lends.
use Rattle.std.specs.Prelude.{ℕ, ◌-◌, ◌≡◌, cond, ◌++◌, length, eqb, ltb}
use Rattle.qbf.specs.Card.{zero_table}
use Rattle.layout.specs.Words.{Bytes, joined}
use Rattle.layout.specs.Page.{page_bytes, no_page, printed}

-- 36 as the paper says; then a table that is too short for a page is 31, as one for a text is
abbrev pub lent_refusal : Bytes → ℕ → ℕ → ℕ → ℕ → ℕ
lent_refusal table lines f number room = cond (no_page table lines f number) 36 (cond (ltb room page_bytes) 31 0)

-- the page and then zeros; refused, zeros alone
pub record PageLent (table : Bytes) (lines f number : ℕ) (d₀ : Bytes) (r : ℕ) (d : Bytes) : Type 0 where
  pub refusal : r ≡ lent_refusal table lines f number (length d₀)
  pub bytes : d ≡ cond (eqb r 0) (joined (printed table lines f number) ++ zero_table (length d₀ - page_bytes)) (zero_table (length d₀))
