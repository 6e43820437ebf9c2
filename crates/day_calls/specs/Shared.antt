-- What a call at a place may still use, in plain numbers.
use Rattle.std.specs.Prelude.{ℕ, ◌≡◌, Result, Ok, Err}
use Rattle.refusal.specs.declared.Refusal.{Refusal}
use Rattle.refusal.specs.Refusal.{number_of}
use Rattle.day_calls.specs.declared.share.Share.{Share}

abbrev pub ShareTold : Result ℕ Refusal → Share → Type 0
ShareTold (Ok m) s = (s.refusal ≡ 0) × (s.visits ≡ m)
ShareTold (Err r) s = (s.refusal ≡ number_of r) × (s.visits ≡ 0)
