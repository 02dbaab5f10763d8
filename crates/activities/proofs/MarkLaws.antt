-- Which mark a number is, choice by choice.
-- Assumes nothing.
use Prim.Native.Nat.{ℕ}
use mathlib.Core.Path.{◌≡◌, refl}
use mathlib.Core.Bool.{Bool, true, false, cond}
use mathlib.Core.List.{List}
use Rattle.activity.specs.Records.{Activity}
use Rattle.dossier.specs.Layouts.{fuel, lime}
use Rattle.dossier.specs.Reader.{Judged, refused, Reader, refuse}
use Rattle.dossier.specs.JudgingRecords.{fields_of}

-- the choice between two answers; the last mark's test is itself the answer
module _ {A : Type 0} {j : A} (b : Bool) (p q : A) where
  pub cond_yes : b ≡ true → j ≡ p → j ≡ cond b p q
  cond_yes h e = rw h e

  pub cond_no : b ≡ false → j ≡ q → j ≡ cond b p q
  cond_no h e = rw h e

pub cond_itself : (b : Bool) → b ≡ cond b true false
cond_itself true = refl
cond_itself false = refl

-- the choice between two readers; none is left
module _ {A : Type 0} {j : Judged A} (b : Bool) (r q : Reader A) (u : List ℕ) where
  pub row-yes : b ≡ true → j ≡ r u → j ≡ cond b r q u
  row-yes h e = rw h e

  pub row_no : b ≡ false → j ≡ q u → j ≡ cond b r q u
  row_no h e = rw h e

pub no_row : {A : Type 0} (n : ℕ) (u : List ℕ) → refused n ≡ refuse {A = A} n u
unfolding refuse
no_row n u = refl

-- FU and LI by the reader of both
module _ {j : Judged Activity} (b : Bool) (u : List ℕ) (h : j ≡ fields_of (cond b fuel lime) u) where
  pub as_fuel : b ≡ true → j ≡ fields_of fuel u
  as_fuel e = rw e at h

  pub as_lime : b ≡ false → j ≡ fields_of lime u
  as_lime e = rw e at h
