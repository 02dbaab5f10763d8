-- CP and CD at a place, conversion by conversion: what the test of each tells of their total, what they weigh, and what the table is judged to be.
-- Assumes nothing.
use mathlib.Core.Path.{◌≡◌, refl, sym, ◌∙◌, ap}
use mathlib.Core.Bool.{Bool, true, false, cond, ◌||◌}
use mathlib.Core.List.{List, [], ◌∷◌, ◌++◌}
use Prim.Native.Nat.{ℕ, suc, ◌+◌, ◌*◌, ◌≤◌, ◌<◌}
use native.Mathlib.Nat.{mul_comm, zero-add, add-zero, mul-le-mul, mul-le-mul_left}
use native.Mathlib.Numerals.{one-add, add-one}
use native.Mathlib.Omega.{arith}
use lib.Dec.{eqb, ltb}
use lib.ListN.{length, drop, get_or}
use lib.Seq.{drop-drop, drop-append-add}
use borrow.Author.Tests.{eq-eqb, ne_eqb, ltb-true, ltb-false}
use Rattle.arithmetic.specs.Sum.{sum}
use Rattle.arithmetic.proofs.SumLaws.{sum_split, sum_cong}
use Rattle.units.specs.declared.CarbonUnits.{CarbonUnits}
use Rattle.classes.specs.Classes.{greatest_area, greatest_stock}
use Rattle.classes.specs.Matrix.{entry}
use Rattle.classes.specs.Ranges.{FactorsFit}
use Rattle.projection.specs.Ranges.{SmallArea}
use Rattle.figures.specs.Figures.{monitored_carbon}
use Rattle.figures.proofs.FiguresLaws.{monitored_places}
use Rattle.wire.specs.Bytes.{bytes, numbers, total, field_at}
use Rattle.wire.proofs.BytesLaws.{length-bytes, length-numbers}
use Rattle.wire.proofs.NumbersLaws.{next-number, numbers-add, total-append, total-le}
use Rattle.dossier.specs.Reader.{Judged, refused, accepted, give, begin}
use Rattle.dossier.specs.JudgingRecords.{conversions}
use Rattle.cursor.proofs.AtLaws.{begun_says, begun_no, begun-yes, reading}
use Rattle.dossier.proofs.ReaderLaws.{bind_no, bind-yes}
use Rattle.tables.specs.Answers.{monitored_table}

-- one of the conversions is above most
unfoldable pub some_above : ℕ → List ℕ → Bool
some_above most [] = false
some_above most (x ∷ xs) = ltb most x || some_above most xs

-- those before the first such, all of them where there is none
unfoldable pub sound : ℕ → List ℕ → List ℕ
sound most [] = []
sound most (x ∷ xs) = cond (ltb most x) [] (x ∷ sound most xs)

-- the sum of conversion × factor, by the factors from place k on
unfoldable pub weighed : List ℕ → ℕ → List ℕ → ℕ
weighed factors k [] = 0
weighed factors k (x ∷ xs) = x * get_or factors k 0 + weighed factors (suc k) xs

-- ---- what the tests tell of the total
pub not_both : true ≡ false → ⊥
not_both e = let z : ◌≡◌ {A = ℕ} 1 0 = ap (λ (b : Bool). cond b 1 0) e in omega arith

above-total : (most : ℕ) (xs : List ℕ) → some_above most xs ≡ true → most < total xs
unfolding some_above total
above-total most [] e = absurd (not_both (sym e))
above-total most (x ∷ xs) e = go (ltb most x) (ltb-true most x) (above-total most xs) e
  where
    go : (b : Bool) → (b ≡ true → most < x) → (some_above most xs ≡ true → most < total xs) → b || some_above most xs ≡ true → most < x + total xs
    go true above later e = omega (arith, above refl)
    go false above later e = omega (arith, later e)

total-within : (most : ℕ) (xs : List ℕ) → some_above most xs ≡ false → total xs ≤ length xs * most
unfolding some_above total
total-within most [] e = omega arith
total-within most (x ∷ xs) e = go (ltb most x) (ltb-false most x) (total-within most xs) e
  where
    go : (b : Bool) → (b ≡ false → x ≤ most) → (some_above most xs ≡ false → total xs ≤ length xs * most) → b || some_above most xs ≡ false → x + total xs ≤ suc (length xs) * most
    go true within later e = absurd (not_both e)
    go false within later e = omega (arith, within refl, later e)

-- ---- what conversions weigh
pub weighed-append : (factors : List ℕ) (k : ℕ) (xs ys : List ℕ) → weighed factors k (xs ++ ys) ≡ weighed factors k xs + weighed factors (k + length xs) ys
unfolding weighed
weighed-append factors k [] ys = rw (add-zero, zero-add)
weighed-append factors k (x ∷ xs) ys =
    let e : suc k + length xs ≡ k + suc (length xs) = omega arith in
    omega (arith, rw e at (weighed-append factors (suc k) xs ys))

pub weighed-le : (factors : List ℕ) (k : ℕ) (xs : List ℕ) → FactorsFit factors → weighed factors k xs ≤ total xs * greatest_stock
unfolding weighed total
weighed-le factors k [] fit = omega arith
weighed-le factors k (x ∷ xs) fit = omega (arith, mul-le-mul_left x (fit k), weighed-le factors (suc k) xs fit)

pub weighed-places : (factors : List ℕ) (k : ℕ) (xs : List ℕ) → weighed factors k xs ≡ sum (length xs) (λ i. get_or xs i 0 * get_or factors (k + i) 0)
unfolding weighed sum
weighed-places factors k [] = refl
weighed-places factors k (x ∷ xs) =
    let first : get_or factors (k + 0) 0 ≡ get_or factors k 0 = rw add-zero in
    let later = sum_cong (length xs) (λ i. get_or xs i 0 * get_or factors (suc k + i) 0) (λ i. get_or xs i 0 * get_or factors (k + suc i) 0)
    (λ i h. let e : suc k + i ≡ k + suc i = omega arith in rw e) in
    omega (arith, ap (λ (f : ℕ). x * f) first, later, weighed-places factors (suc k) xs, simp one-add at (sum_split 1 (length xs) (λ i. get_or (x ∷ xs) i 0 * get_or factors (k + i) 0)))

-- ---- the conversions before the first that is above
sound-all : (most : ℕ) (xs : List ℕ) → some_above most xs ≡ false → sound most xs ≡ xs
unfolding some_above sound
sound-all most [] e = refl
sound-all most (x ∷ xs) e = go (ltb most x) (sound-all most xs) e
  where
    go : (b : Bool) → (some_above most xs ≡ false → sound most xs ≡ xs) → b || some_above most xs ≡ false → cond b [] (x ∷ sound most xs) ≡ x ∷ xs
    go true later e = absurd (not_both e)
    go false later e = ap (λ (l : List ℕ). x ∷ l) (later e)

-- once one is above, no more are taken
stopped : (most : ℕ) (xs ys : List ℕ) → some_above most xs ≡ true → (some_above most (xs ++ ys) ≡ true) × (sound most (xs ++ ys) ≡ sound most xs)
unfolding some_above sound
stopped most [] ys e = absurd (not_both (sym e))
stopped most (x ∷ xs) ys e = go (ltb most x) (stopped most xs ys) e
  where
    go : (b : Bool) → (some_above most xs ≡ true → (some_above most (xs ++ ys) ≡ true) × (sound most (xs ++ ys) ≡ sound most xs)) → b || some_above most xs ≡ true
        → (b || some_above most (xs ++ ys) ≡ true) × (cond b [] (x ∷ sound most (xs ++ ys)) ≡ cond b [] (x ∷ sound most xs))
    go true later e = (refl, refl)
    go false later e = let (a, l) = later e in (a, ap (λ (l : List ℕ). x ∷ l) l)

-- while none is above, the next is taken if it is not
pub went_on : (most : ℕ) (xs ys : List ℕ) → some_above most xs ≡ false → (some_above most (xs ++ ys) ≡ some_above most ys) × (sound most (xs ++ ys) ≡ xs ++ sound most ys)
unfolding some_above sound
went_on most [] ys e = (refl, refl)
went_on most (x ∷ xs) ys e = go (ltb most x) (went_on most xs ys) e
  where
    go : (b : Bool) → (some_above most xs ≡ false → (some_above most (xs ++ ys) ≡ some_above most ys) × (sound most (xs ++ ys) ≡ xs ++ sound most ys)) → b || some_above most xs ≡ false
        → (b || some_above most (xs ++ ys) ≡ some_above most ys) × (cond b [] (x ∷ sound most (xs ++ ys)) ≡ x ∷ (xs ++ sound most ys))
    go true later e = absurd (not_both e)
    go false later e = let (a, l) = later e in (a, ap (λ (l : List ℕ). x ∷ l) l)

-- twelve conversions of which none is above the total: their sum, and what they weigh
pub row_small : (most : ℕ) (factors : List ℕ) (k : ℕ) (xs : List ℕ) → some_above most xs ≡ false → length xs ≤ 12 → SmallArea most → FactorsFit factors
    → (total (sound most xs) ≤ 12 * greatest_area) × (weighed factors k (sound most xs) ≤ 12 * greatest_area * greatest_stock)
row_small most factors k xs f few small fit =
    let within = total-within most xs f in
    let all : length xs * most ≤ 12 * greatest_area = mul-le-mul few small in
    rw (sound-all most xs f) (omega (arith, within, all), omega (arith, weighed-le factors k xs fit, within, all))

-- the conversion at the next place
pub one_more_lem : (s : List ℕ) (at j x : ℕ) → x ≡ field_at 8 s (at + 8 * j) → numbers (j + 1) 8 (drop at s) ≡ numbers j 8 (drop at s) ++ x ∷ []
one_more_lem s at j x ex = rw add-one (next-number 8 j s at x ex).0

-- the first k conversions of the table at a place
abbrev pub cells : List ℕ → ℕ → ℕ → List ℕ
cells s at k = numbers k 8 (drop (at + 2) s)

-- the total and the carbon after k conversions: rest is left of all, and they weigh units
pub record SoFar (s factors : List ℕ) (at all rest units k : ℕ) : Type 0 where
  pub bound : k ≤ 144
  pub left : total (cells s at k) + rest ≡ all
  pub carbon : units ≡ weighed factors 0 (cells s at k)

weighed-all : (s factors : List ℕ) (at : ℕ) → weighed factors 0 (cells s at 144) ≡ monitored_carbon (entry factors) (cells s at 144)
weighed-all s factors at =
    let places = rw (length-numbers 144 8 (drop (at + 2) s)) at (weighed-places factors 0 (cells s at 144)) in
    places ∙ sum_cong 144 (λ i. get_or (cells s at 144) i 0 * get_or factors (0 + i) 0) (λ i. get_or (cells s at 144) i 0 * get_or factors i 0) (λ i h. rw zero-add)
    ∙ monitored_places (cells s at 144) factors

-- they weigh at most the greatest factor for each unit of all
pub light : {s factors : List ℕ} {at all rest units k : ℕ} → FactorsFit factors → SoFar s factors at all rest units k → units ≤ all * greatest_stock
light {s} {factors} {at} {all} {rest} {units} {k} fit h = omega (arith, h.left, h.carbon, weighed-le factors 0 (cells s at k) fit)

-- ---- n conversions more, xs, from their place
module _ (s : List ℕ) (at k n : ℕ) (xs : List ℕ) (e : xs ≡ numbers n 8 (drop (at + 2 + 8 * k) s)) where
  cells-more : cells s at (k + n) ≡ cells s at k ++ xs
  cells-more = numbers-add k n 8 (drop (at + 2) s) ∙ rw (drop-drop (k * 8) (at + 2) s, mul_comm k 8, ← e)

  total-more : total (cells s at (k + n)) ≡ total (cells s at k) + total xs
  total-more = ap total cells-more ∙ total-append (cells s at k) xs

  pub more : (factors : List ℕ) (all rest units : ℕ) → SoFar s factors at all rest units k → k + n ≤ 144
      → (rest' units' : ℕ) → rest' + total xs ≡ rest → units' ≡ units + weighed factors k xs → SoFar s factors at all rest' units' (k + n)
  more factors all rest units h l rest' units' er eu = record {
    bound = l;
    left = omega (arith, total-more, h.left);
    carbon = rw (eu, h.carbon, cells-more, weighed-append factors 0 (cells s at k) xs, length-numbers k 8 (drop (at + 2) s), zero-add);
  }

  pub over : (factors : List ℕ) (all rest units : ℕ) → SoFar s factors at all rest units k → rest < total xs → all < total (cells s at (k + n))
  over factors all rest units h o = omega (arith, total-more, h.left)

-- where a mark and its 1,152 bytes end
pub after_it : (mark : ℕ) (s : List ℕ) (at : ℕ) (body : List ℕ) → drop at s ≡ bytes 2 mark ++ body → drop (at + 1154) s ≡ drop 1152 body
after_it mark s at body here = sym (drop-drop 1154 at s) ∙ ap (drop 1154) here ∙ rw (length-bytes 2 mark) at (drop-append-add (bytes 2 mark) body 1152)

-- ---- what the table is judged to be
module _ (s factors : List ℕ) (at m all r : ℕ) (h : begun_says s at r ≡ begin m 1152 (drop at s)) where
  pub table_no : (r ≡ 0 → ⊥) → refused r ≡ monitored_table (entry factors) m all (drop at s)
  unfolding monitored_table conversions
  table_no f = bind_no (conversions m all) _ (drop at s) r (begun_no s at m 1152 r h _ f)

  module _ (z : r ≡ 0) where
    pub table_at : conversions m all (drop at s) ≡ cond (eqb (total (cells s at 144)) all) (accepted (cells s at 144) (drop (at + 1154) s)) (refused 7)
    unfolding conversions
    table_at = rw (← begun-yes s at m 1152 r h _ z) (simp reading)

    pub table_wrong : (total (cells s at 144) ≡ all → ⊥) → refused 7 ≡ monitored_table (entry factors) m all (drop at s)
    unfolding monitored_table
    table_wrong f = bind_no (conversions m all) _ (drop at s) 7 (rw (table_at, ne_eqb _ _ f))

    pub table_over : (k : ℕ) → k ≤ 144 → all < total (cells s at k) → refused 7 ≡ monitored_table (entry factors) m all (drop at s)
    table_over k l o = table_wrong (λ e. omega (arith, total-le k 144 8 (drop (at + 2) s) l))

    pub table_read : total (cells s at 144) ≡ all → (carbon : ℕ) → carbon ≡ weighed factors 0 (cells s at 144)
        → ◌≡◌ {A = Judged CarbonUnits} (accepted (record { 0 = carbon }) (drop (at + 1154) s)) (monitored_table (entry factors) m all (drop at s))
    unfolding monitored_table give
    table_read e carbon w =
        ap {B = Judged CarbonUnits} (λ (n : ℕ). accepted (record { 0 = n }) (drop (at + 1154) s)) (w ∙ weighed-all s factors at)
        ∙ bind-yes (conversions m all) _ (drop at s) (cells s at 144) (drop (at + 1154) s) (rw (table_at, eq-eqb _ _ e))
