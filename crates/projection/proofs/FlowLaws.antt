-- What one year's flows keep and lose, for any number k of classes and any unit q of the probabilities.
-- Assumes nothing.
use mathlib.Core.Path.{◌≡◌, ◌∙◌, ap}
use Prim.Native.Nat.{ℕ, ◌+◌, ◌-◌, ◌*◌, ◌/◌, ◌≤◌, ◌<◌}
use native.Mathlib.Nat.{le_dest, le_of_mul-le-mul_right, lt_of_mul-lt-mul_right, div-mul-le_self, lt-div-mul-add, mul-le-mul_right}
use native.Mathlib.Omega.{arith}
use Rattle.arithmetic.specs.Sum.{sum}
use Rattle.arithmetic.proofs.SumLaws.{sum_cong, sum-le, sum-add, sum-mul, sum_const, sum_swap, sum2, sum2-le, sum2-mul, sum2-add}

-- ---- one class: the flows of an area a by k probabilities p
module _ (k q : ℕ) (q-pos : 0 < q) (a : ℕ) (p : ℕ → ℕ) where
  spread : sum k (λ j. a * p j) ≡ sum k p * a
  spread = sum_cong k (λ j. a * p j) (λ j. p j * a) (λ j h. omega arith) ∙ sum-mul k p a

  -- no more than the area flows, where the probabilities make up no more than 1
  pub flows_le : sum k p ≤ q → sum k (λ j. a * p j / q) ≤ a
  flows_le row = le_of_mul-le-mul_right {k = q}
      (omega (arith, spread, mul-le-mul_right a row, sum-mul k (λ j. a * p j / q) q, sum-le k (λ j. a * p j / q * q) (λ j. a * p j) (λ j h. div-mul-le_self (a * p j) q))) q-pos

  -- less than one unit is lost for each flow, where they make up 1
  pub loss-lt : sum k p ≡ q → 0 < k → a < sum k (λ j. a * p j / q) + k
  loss-lt row k-pos = lt_of_mul-lt-mul_right q
      (omega (
        arith,
        spread,
        ap (λ (n : ℕ). n * a) row,
        sum-mul k (λ j. a * p j / q) q,
        sum_const k 1,
        sum_const k q,
        sum-add k (λ j. a * p j) (λ j. 1),
        sum-add k (λ j. a * p j / q * q) (λ j. q),
        sum-le k (λ j. a * p j + 1) (λ j. a * p j / q * q + q) (λ j h. omega (arith, lt-div-mul-add {a = a * p j} q-pos)),
      ))

-- ---- a year: the flows of k areas A by a matrix p
module _ (k q : ℕ) (q-pos : 0 < q) (A : ℕ → ℕ) (p : ℕ → ℕ → ℕ) where
  abbrev fl : ℕ → ℕ → ℕ
  fl i j = A i * p i j / q

  abbrev loss : ℕ → ℕ
  loss i = A i - sum k (λ j. fl i j)

  -- the areas after the year and what rounding lost make up the areas before it
  pub kept : ((i : ℕ) → i < k → sum k (p i) ≤ q) → sum k (λ j. sum k (λ i. fl i j)) + sum k loss ≡ sum k A
  kept rows = omega (
    arith,
    sum_swap k k fl,
    sum-add k (λ i. sum k (λ j. fl i j)) loss,
    sum_cong k (λ i. sum k (λ j. fl i j) + loss i) A (λ i h. omega (arith, flows_le k q q-pos (A i) (p i) (rows i h))),
  )

  -- each class loses at most k - 1
  pub loss-le : 0 < k → ((i : ℕ) → i < k → sum k (p i) ≡ q) → sum k loss ≤ k * (k - 1)
  loss-le k-pos rows = omega (arith, sum_const k (k - 1), sum-le k loss (λ i. k - 1) (λ i h. omega (arith, loss-lt k q q-pos (A i) (p i) (rows i h) k-pos)))

-- ---- the year side by side with unrounded areas a over n, none below its rounded area
module _ (k q : ℕ) (q-pos : 0 < q) (A : ℕ → ℕ) (p : ℕ → ℕ → ℕ) (rows : (i : ℕ) → i < k → sum k (p i) ≡ q) (n : ℕ) (a : ℕ → ℕ)
    (below : (i : ℕ) → i < k → A i * n ≤ a i) where
  flow-below : (i j : ℕ) → i < k → A i * p i j / q * (n * q) ≤ a i * p i j
  flow-below i j h = omega (arith, mul-le-mul_right n (div-mul-le_self (A i * p i j) q), mul-le-mul_right (p i j) (below i h))

  pub next-below : (j : ℕ) → sum k (λ i. A i * p i j / q) * (n * q) ≤ sum k (λ i. a i * p i j)
  next-below j = omega (arith, sum-mul k (λ i. A i * p i j / q) (n * q), sum-le k (λ i. A i * p i j / q * (n * q)) (λ i. a i * p i j) (λ i h. flow-below i j h))

  -- the unrounded areas keep their total
  pub next-total : sum k (λ j. sum k (λ i. a i * p i j)) ≡ sum k a * q
  next-total =
      sum_swap k k (λ j i. a i * p i j)
      ∙ sum_cong k (λ i. sum k (λ j. a i * p i j)) (λ i. a i * q) (λ i h. spread k q q-pos (a i) (p i) ∙ omega (arith, ap (λ (s : ℕ). s * a i) (rows i h)))
      ∙ sum-mul k a q

  -- carbon by factors of at most F: never above the unrounded one, and short of it by at most F for each unit of area that rounding has lost so far
  module _ (F : ℕ) (factor : ℕ → ℕ → ℕ) (factor-le : (i j : ℕ) → factor i j ≤ F) where
    pub carbon-below : sum2 k (λ i j. A i * p i j / q * factor i j) * (n * q) ≤ sum2 k (λ i j. a i * p i j * factor i j)
    carbon-below = omega (
      arith,
      sum2-mul k (λ i j. A i * p i j / q * factor i j) (n * q),
      sum2-le k (λ i j. A i * p i j / q * factor i j * (n * q)) (λ i j. a i * p i j * factor i j)
          (λ i j h h'. omega (arith, mul-le-mul_right (factor i j) (flow-below i j h))),
    )

    -- of two amounts w ≤ u and two factors f ≤ F, the larger amount by the larger factor makes the most
    rearranged : (u w f : ℕ) → w ≤ u → f ≤ F → u * f + w * F ≤ w * f + u * F
    rearranged u w f h l = let (d, e) = le_dest h in let (c, e') = le_dest l in rw (← e, ← e') (omega arith)

    pub carbon-gap : sum2 k (λ i j. a i * p i j * factor i j) + sum2 k (λ i j. A i * p i j / q) * (n * q) * F
        ≤ sum2 k (λ i j. A i * p i j / q * factor i j) * (n * q) + sum2 k (λ i j. a i * p i j) * F
    carbon-gap = omega (
      arith,
      sum2-mul k (λ i j. A i * p i j / q * factor i j) (n * q),
      ap (λ (s : ℕ). s * F) (sum2-mul k (λ i j. A i * p i j / q) (n * q)),
      sum2-mul k (λ i j. A i * p i j / q * (n * q)) F,
      sum2-mul k (λ i j. a i * p i j) F,
      sum2-add k (λ i j. a i * p i j * factor i j) (λ i j. A i * p i j / q * (n * q) * F),
      sum2-add k (λ i j. A i * p i j / q * factor i j * (n * q)) (λ i j. a i * p i j * F),
      sum2-le k (λ i j. a i * p i j * factor i j + A i * p i j / q * (n * q) * F) (λ i j. A i * p i j / q * factor i j * (n * q) + a i * p i j * F)
          (λ i j h h'. omega (arith, rearranged (a i * p i j) (A i * p i j / q * (n * q)) (factor i j) (flow-below i j h) (factor-le i j))),
    )
