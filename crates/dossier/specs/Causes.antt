-- Document 01, "Causes and numbers": the number of each cause, by a name. Above each stands its row of the document's table, cause and number, or
-- the words of the request that brought it; of all of them the number is returned, no totals, and buffer and ledger are left as they were.
-- To be believed. Assumes nothing.
use Rattle.std.specs.Prelude.{ℕ, ◌≡◌, ◌⊎◌, List, [], ◌∷◌}

-- "bytes end before or inside a mark still needed, or inside a record | 1"
abbrev pub bytes_missing : ℕ
bytes_missing = 1

-- "mark not due here, or bytes after EN | 2"
abbrev pub mark_not_due : ℕ
mark_not_due = 2

-- "HD field out of range | 3"
abbrev pub head_out_of_range : ℕ
head_out_of_range = 3

-- "PA or DA total wrong | 4"
abbrev pub area_total_wrong : ℕ
area_total_wrong = 4

-- "MP row sum wrong | 5"
abbrev pub row_sum_wrong : ℕ
row_sum_wrong = 5

-- "year not the next, none left, or d wrong | 6"
abbrev pub year_wrong : ℕ
year_wrong = 6

-- "CP or CD total wrong | 7"
abbrev pub conversion_total_wrong : ℕ
conversion_total_wrong = 7

-- "activity field, or VE product, out of range | 8"; "Field faults give 8" (#106)
abbrev pub activity_out_of_range : ℕ
activity_out_of_range = 8

-- "61st activity record of a year | 9"; "a third CR gives 9" (#106)
abbrev pub too_many_activities : ℕ
too_many_activities = 9

-- "buffer under 64 × n + 32 bytes | 10"
abbrev pub buffer_too_short : ℕ
buffer_too_short = 10

-- "11 for an ST field out of range" (#102)
abbrev pub stock_out_of_range : ℕ
stock_out_of_range = 11

-- "12 for a plan not of this form" (#103); "in a plan both give 12" (#106)
abbrev pub plan_not_of_form : ℕ
plan_not_of_form = 12

-- "13 right after PL, where the plan lacks the year or the inequality fails" (#103)
abbrev pub planned_year_wrong : ℕ
planned_year_wrong = 13

-- "14, after the later record's fields, in a plan too" (#105)
abbrev pub record_repeated : ℕ
record_repeated = 14

-- "15 for a bad list, judged after the dossier" (#107)
abbrev pub ends_wrong : ℕ
ends_wrong = 15

-- the whole table
abbrev pub causes : List ℕ
causes =
    bytes_missing ∷ mark_not_due ∷ head_out_of_range ∷ area_total_wrong ∷ row_sum_wrong ∷ year_wrong ∷ conversion_total_wrong ∷ activity_out_of_range ∷ too_many_activities
    ∷ buffer_too_short ∷ stock_out_of_range ∷ plan_not_of_form ∷ planned_year_wrong ∷ record_repeated ∷ ends_wrong ∷ []

-- ---- the causes for which each call may refuse
-- HD, ST, PA, DA and MP
abbrev pub opening_causes : List ℕ
opening_causes = bytes_missing ∷ mark_not_due ∷ head_out_of_range ∷ area_total_wrong ∷ row_sum_wrong ∷ stock_out_of_range ∷ []

-- YR, CP, CD, and the activity records or PL; those of a plan are plan_not_of_form, and record_repeated as here
abbrev pub year_causes : List ℕ
year_causes =
    bytes_missing ∷ mark_not_due ∷ year_wrong ∷ conversion_total_wrong ∷ activity_out_of_range ∷ too_many_activities ∷ planned_year_wrong ∷ record_repeated ∷ []

-- a ledger's closing: the buffer's alone
abbrev pub closing_causes : List ℕ
closing_causes = buffer_too_short ∷ []

-- ---- numbers
infix 4 ◌∈◌
-- n is one of these
abbrev pub ◌∈◌ : ℕ → List ℕ → Type 0
◌∈◌ n [] = ⊥
◌∈◌ n (c ∷ rest) = (n ≡ c) ⊎ (n ∈ rest)

-- what a call may answer that refuses for these causes alone: 0, or the number of one of them
abbrev pub ZeroOr : List ℕ → ℕ → Type 0
ZeroOr allowed n = (n ≡ 0) ⊎ (n ∈ allowed)
