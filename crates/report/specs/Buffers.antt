-- What a buffer holds after something is written to its front.
use Rattle.std.specs.Prelude.{◌≡◌, ℕ, cond, List, ◌++◌, length, drop, nat_lt}

-- A buffer that held `before` holds `bytes` at its front, n of them, and behind them what it held.
pub record Wrote (bytes before : List ℕ) (n : ℕ) (after : List ℕ) : Type 0 where
  pub count : n ≡ length bytes
  pub holds : after ≡ bytes ++ drop n before

-- a report is written to no shorter buffer
abbrev pub least_buffer : ℕ
least_buffer = 2048

-- The same of a whole report: a buffer that is too short stays as it is, and 0 is answered.
pub record Written (bytes before : List ℕ) (n : ℕ) (after : List ℕ) : Type 0 where
  pub count : n ≡ cond (nat_lt (length before) least_buffer) 0 (length bytes)
  pub holds : after ≡ cond (nat_lt (length before) least_buffer) before (bytes ++ drop n before)
