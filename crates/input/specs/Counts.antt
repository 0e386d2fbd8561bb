-- What a count of bytes says. Definitions only.
use Rattle.std.specs.Prelude.{ℕ, ◌≤◌, ◌≡◌, List, length, take}

-- n counts bytes at the start of a list. The second part follows from the first; both are said, so that lending
-- `&buf[..n]` needs no proof of its own.
abbrev pub IsPrefixLen : ℕ → List ℕ → Type 0
IsPrefixLen n xs = (n ≤ length xs) × (n ≡ length (take n xs))
