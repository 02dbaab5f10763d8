-- The first 65,536 bytes settle what any bytes are judged to be as a dossier.
-- Assumes nothing.
use Rattle.std.proofs.Common.{ℕ, ◌<◌, ◌≤◌, ◌≡◌, refl, ◌∙◌, ap, sym, Bool, true, false, List, ◌++◌, arith, ltb-true, ltb-false, ltb, length, take, drop, take-append-drop, length-take-le, take_all}
use mathlib.Core.Option.{Option}
use Rattle.wire.specs.Bytes.{Bytes}
use Rattle.dossier.specs.Plan.{Plan, PlanLent}
use Rattle.dossier.specs.Judging.{dossier}
use Rattle.wire.proofs.BytesLaws.{bytes_take}
use Rattle.dossier.proofs.OpeningLaws.{opening_exact}
use Rattle.dossier.proofs.Longest.{longest}
use Rattle.dossier.proofs.Walk.{openings, some_years}
use Rattle.dossier.proofs.SettleSteps.{and_left, SettledBy, AnyCause, settles, bind-alike, bind, given}

-- 806 + 20 × 3,228 + 6 bytes, for an opening read from bytes has at most 20 years
dossier-alike : (plan : Option Plan) (s t : List ℕ) → Bytes s → 65372 ≤ length s → dossier plan (s ++ t) ≡ and_left t (dossier plan s)
unfolding dossier
dossier-alike plan s t bs h = bind-alike _ (openings AnyCause SettledBy settles (λ n h. tt)) 64566 s t h (λ o u e l.
    let n = (opening_exact.only s bs (omega arith) o u e).1.head.count.most in
    (bind (some_years AnyCause SettledBy settles (λ n h. tt) _ _ _) (λ ys. given _)).alike u t (omega arith))

module _ (plan : Option Plan) (lent : PlanLent plan) where
  -- none so long is accepted
  long-alike : (s t : List ℕ) → Bytes s → 65372 ≤ length s → dossier plan (s ++ t) ≡ dossier plan s
  long-alike s t bs h = grind (arith, dossier-alike plan s t bs h, longest plan lent s bs)

  pub first-bytes_settle : (s : List ℕ) → Bytes s → dossier plan (take 65536 s) ≡ dossier plan s
  first-bytes_settle s bs = go (ltb 65536 (length s)) (ltb-true _ _) (ltb-false _ _)
    where
      go : (b : Bool) → (b ≡ true → 65536 < length s) → (b ≡ false → length s ≤ 65536) → dossier plan (take 65536 s) ≡ dossier plan s
      go true f g =
          let cut : 65372 ≤ length (take 65536 s) = rw (length-take-le 65536 s (omega (arith, f refl))) (omega arith) in
          sym (long-alike (take 65536 s) (drop 65536 s) (bytes_take 65536 s bs) cut) ∙ ap (dossier plan) (take-append-drop 65536 s)
      go false f g = ap (dossier plan) (take_all 65536 s (g refl))
