-- Bytes as they lie in others.
-- Assumes nothing.
use Rattle.std.proofs.Common.{ℕ, zero, suc, ◌≡◌, All, List, [], ◌∷◌, ◌++◌, map, length, ltb, eqb, take, drop, refl, sym, ◌∙◌, ap, arith}
use mathlib.Core.List.{append_assoc}
use Rattle.std.proofs.lemmas.List.{take-append-drop}
use Rattle.wire.specs.Bytes.{Bytes, number, joined}
use Rattle.activity.specs.Records.{Activity}
use Rattle.dossier.specs.Reader.{accepted, begin, mark, present, followed}
use Rattle.dossier.specs.Judging.{activities}
use Rattle.dossier.specs.Layouts.{activity_bytes}
use Rattle.dossier.proofs.ReaderLaws.{was, step, present-only, cond_refused, cond_accepted}
use Rattle.dossier.proofs.RunLaws.{activities_exact}
use Rattle.plans.specs.declared.PlannedYear.{PlannedYear}
use Rattle.plans.specs.Answers.{EndOf, IsPartOf}
use Rattle.std.proofs.lemmas.List.Elements.{All-append}

pub whole_end : (s : List ℕ) → EndOf s s
whole_end s = record { front = []; whole_is = refl }

pub further_end : {s t u : List ℕ} → EndOf s t → EndOf t u → EndOf s u
further_end e f = record { front = e.front ++ f.front; whole_is = e.whole_is ∙ ap (λ (x : List ℕ). e.front ++ x) f.whole_is ∙ sym (append_assoc e.front f.front _) }

pub dropped_end : (n : ℕ) (s : List ℕ) → EndOf s (drop n s)
dropped_end n s = record { front = take n s; whole_is = sym (take-append-drop n s) }

-- what follows a mark, and what follows a year's activity records
pub begun_end : (m n : ℕ) (s t : List ℕ) → begin m n s ≡ accepted tt t → EndOf s t
unfolding begin mark followed
begun_end m n s t e =
    let f = step (mark m s) (λ _. present n) e in
    let p = cond_refused (ltb (length s) 2) _ _ f.2 in
    let q = cond_accepted (eqb (number (take 2 s)) m) _ _ p.1 in
    let rest : drop 2 s ≡ t = (was q.1).1 ∙ (present-only n f.1 f.3).1 in
    rw rest at (dropped_end 2 s)

pub run_end : (s : List ℕ) (records : List Activity) (t : List ℕ) → Bytes s → activities [] s ≡ accepted records t → EndOf s t
run_end s records t are_bytes e = record { front = joined (map activity_bytes records); whole_is = (activities_exact.only s are_bytes (omega arith) records t e).2 }

-- the years of a plan, each with its part
pub no_parts : {s : List ℕ} → All (IsPartOf s) []
no_parts k d h = absurd (omega arith)

pub one_more_part : {s t : List ℕ} (years : List PlannedYear) (planned : PlannedYear) → All (IsPartOf s) years → EndOf s t → IsPartOf t planned → All (IsPartOf s) (years ++ (planned ∷ []))
one_more_part {s} years planned parts rest part = All-append (IsPartOf s) years (planned ∷ []) parts one
  where
    one : All (IsPartOf s) (planned ∷ [])
    one zero d h = record { holds = part.holds; of_plan = further_end rest part.of_plan }
    one (suc k) d h = absurd (omega arith)
