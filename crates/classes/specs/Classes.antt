-- Document 01, "Classes and factors": the twelve land use classes in this order: E, SE, P, D, B, M, MR, FF, FR, TP, PP, NF.
-- A class is its place in the order, from 0. Those that a definition or an example speaks of have a name here.
-- To be believed. Assumes nothing.
use Rattle.std.specs.Prelude.{ℕ, ◌-◌, max, cond, ◌||◌, List, [], ◌∷◌, eqb, get_or}

abbrev pub classes : ℕ
classes = 12

abbrev pub class_e : ℕ
class_e = 0

abbrev pub class_se : ℕ
class_se = 1

abbrev pub class_mr : ℕ
class_mr = 6

abbrev pub class_tp : ℕ
class_tp = 9

abbrev pub class_pp : ℕ
class_pp = 10

abbrev pub class_nf : ℕ
class_nf = 11

-- built-in carbon stock by class, in hundredths of tC per ha (document 001, table 1, total biomass)
unfoldable pub carbon_stocks : List ℕ
carbon_stocks = 9130 ∷ 13_511 ∷ 5654 ∷ 4821 ∷ 0 ∷ 8415 ∷ 9240 ∷ 3986 ∷ 4265 ∷ 5654 ∷ 5654 ∷ 0 ∷ []

-- annual probability of deforestation by class, in millionths: document 01's yearly probability of turning into non-forest
-- (document 001, table 4)
unfoldable pub deforestation_probabilities : List ℕ
deforestation_probabilities = 24_900 ∷ 30_900 ∷ 0 ∷ 34_500 ∷ 14_100 ∷ 10_000 ∷ 41_700 ∷ 50_600 ∷ 97_200 ∷ 116_900 ∷ 0 ∷ 0 ∷ []

-- the emission factor (document 01: factor) from class i to class j by a list of stocks: stock i minus stock j if that is positive and j is
-- neither TP nor PP; otherwise 0. (A difference of naturals is 0 where it would be negative.)
unfoldable pub emission_factor : (stocks : List ℕ) (i j : ℕ) → ℕ
emission_factor stocks i j = cond (eqb j class_tp || eqb j class_pp) 0 (get_or stocks i 0 - get_or stocks j 0)

-- the greatest of a list, 0 of the empty one (#102: "With S the greatest stock used"; #107: "the greatest of 0 and the whole tonnes ..")
unfoldable pub greatest_in : List ℕ → ℕ
greatest_in [] = 0
greatest_in (x ∷ rest) = max x (greatest_in rest)

-- the greatest starting area, in area units: document 01, "Each total is at most 10^12"
abbrev pub greatest_area : ℕ
greatest_area = 1_000_000_000_000

-- the greatest stock of a filed list, in hundredths of tC per ha: #102, "each at most 50,000"
abbrev pub greatest_stock : ℕ
greatest_stock = 50_000
