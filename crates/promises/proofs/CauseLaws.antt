-- What is refused after a test is refused by a cause that is allowed.
-- Assumes nothing.
use Rattle.std.proofs.Common.{◌≡◌, ℕ, Bool, true, false, cond, List}
use Rattle.dossier.specs.Causes.{bytes_missing, mark_not_due, ◌∈◌}
use Rattle.dossier.specs.Reader.{Judged, refused}

module _ (allowed : List ℕ) (missing : bytes_missing ∈ allowed) (due : mark_not_due ∈ allowed) where
  pub passed : {A : Type 0} (b : Bool) (m : ℕ) (j : Judged A) (n : ℕ) → m ∈ allowed → (j ≡ refused n → n ∈ allowed) → cond b j (refused m) ≡ refused n → n ∈ allowed
  passed true m j n c f e = f e
  passed false m j n c f e = let same : m ≡ n = cc in rw same at c
