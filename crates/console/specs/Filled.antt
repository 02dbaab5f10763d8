-- The filling of a buffer that a call is lent, by which a changed byte is seen.
-- Serves contracts of inner functions and proofs; nothing here has to be believed. Assumes nothing.
use Rattle.std.specs.Prelude.{ℕ, Bool, List, ◌==◌}
use Rattle.std.specs.List.{list_all}

-- whether every byte is the filling
abbrev pub filled : List ℕ → Bool
filled = list_all (λ byte. byte == 165)
