-- Document 01, "Calls and sheet": the numbers that the buffer gets.
-- To be believed. Assumes nothing.
use Rattle.std.specs.Prelude.{ℕ, List, [], ◌∷◌, ◌++◌, ℤ, pos, take}
use Rattle.figures.specs.declared.Figures.{Figures}
use Rattle.figures.specs.Figures.{tonnes_of}

-- "per year the eight figures reference, project, activity, belt, belt reference, displaced, reduction, credited"
abbrev pub eight : Figures → List ℤ
eight f = f.reference.0 ∷ f.project.0 ∷ f.activity.0 ∷ f.belt.0 ∷ f.belt_reference.0 ∷ f.displaced.0 ∷ f.reduction.0 ∷ f.credited.0 ∷ []

unfoldable pub eights : List Figures → List ℤ
eights [] = []
eights (f ∷ rest) = eight f ++ eights rest

-- "then total, tonnes, project balance, belt balance"
abbrev pub closing : (total : ℤ) (project belt : ℕ) → List ℤ
closing total project belt = total ∷ pos (tonnes_of total) ∷ pos project ∷ pos belt ∷ []

-- of k years
unfoldable pub reported : (k : ℕ) (figures : List Figures) (total : ℤ) (project belt : ℕ) → List ℤ
reported k figures total project belt = eights (take k figures) ++ closing total project belt
