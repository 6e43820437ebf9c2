-- The answer for what was written, as other languages read it.
use Rattle.std.specs.Prelude.{ℕ, ◌≡◌, Result, Ok, Err}
use Rattle.refusal.specs.declared.Refusal.{Refusal}
use Rattle.refusal.specs.Refusal.{number_of}
use Rattle.book_writer.specs.declared.Written.{Written}

-- the length and no refusal, or the refusal's number and no length
abbrev pub WrittenAs : Result ℕ Refusal → Written → Type 0
WrittenAs (Ok n) r = (r.refusal ≡ 0) × (r.length ≡ n)
WrittenAs (Err k) r = (r.refusal ≡ number_of k) × (r.length ≡ 0)
