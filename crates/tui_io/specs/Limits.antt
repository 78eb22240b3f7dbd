-- Limits on what is read.
use Rattle.std.specs.Prelude.{ℕ}

-- the largest number of bytes that an input may have
abbrev pub limit : ℕ
limit = 1048576

-- the largest number of bytes that one read returns
abbrev pub chunk : ℕ
chunk = 8192
