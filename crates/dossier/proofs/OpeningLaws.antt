-- HD to MP: what is accepted is exactly the encoding of an opening in range.
-- Assumes nothing.
use Rattle.std.proofs.Common.{ℕ, ◌≡◌, refl, sym, true, false, List, ◌++◌, append_assoc, arith, eqb, lit<}
use mathlib.Core.Option.{Option}
use Rattle.activity.specs.Activity.{Within}
use Rattle.wire.specs.Bytes.{joined}
use Rattle.dossier.specs.Marks.{mark_st, mark_pa, mark_da}
use Rattle.dossier.specs.Records.{StocksInRange, stocks_bytes, StocksFiled, areas_bytes, MatrixInRange, matrix_bytes, Opening, MatrixUnder, OpeningInRange, bytes_if_any, opening_bytes}
use Rattle.dossier.specs.Reader.{stands, is}
use Rattle.dossier.specs.JudgingRecords.{stocks_if_any, matrix_under}
use Rattle.dossier.specs.Judging.{opening}
use Rattle.dossier.proofs.ReaderLaws.{stands-bytes}
use Rattle.dossier.proofs.Exact.{Exact}
use Rattle.dossier.proofs.ExactParts.{Any, sub_then, last_then, OptionThen, if_any_lem}
use Rattle.dossier.proofs.RecordLaws.{head_exact, areas_exact}
use Rattle.dossier.proofs.StocksLaws.{stocks_exact}
use Rattle.dossier.proofs.MatrixLaws.{matrix_exact}

-- ST: where it is left out another mark follows
abbrev StocksThen : Option (List ℕ) → List ℕ → Type 0
StocksThen = OptionThen (stands (is mark_st)) stocks_bytes (λ (xs t : List ℕ). StocksInRange xs)

pub stocks_if_any_exact : Exact 0 Any stocks_if_any (bytes_if_any stocks_bytes) StocksThen
unfolding stocks_if_any
stocks_if_any_exact = if_any_lem (stands (is mark_st)) stocks_exact

filed : (m : Option (List ℕ)) (t : List ℕ) → StocksThen m t → StocksFiled m
filed m t p = grind arith

-- it begins with its mark
pub stocks-begin : (xs t : List ℕ) → stands (is mark_st) (stocks_bytes xs ++ t) ≡ true
unfolding stocks_bytes joined
stocks-begin xs t = rw append_assoc (stands-bytes (is mark_st) mark_st _ (lit< tt))

filed_then : (m : Option (List ℕ)) (t : List ℕ) → StocksFiled m → stands (is mark_st) t ≡ false → StocksThen m t
filed_then m t p h = grind (arith, stocks-begin)

-- MP under Option 2, and none under Option 1
abbrev MatrixThen : ℕ → Option (List ℕ) → List ℕ → Type 0
MatrixThen option = OptionThen (λ _. eqb option 2) matrix_bytes (λ (xs t : List ℕ). MatrixInRange xs)

under_exact : (option : ℕ) → Exact 0 Any (matrix_under option) (bytes_if_any matrix_bytes) (MatrixThen option)
unfolding matrix_under
under_exact option = if_any_lem (λ _. eqb option 2) matrix_exact

under : (option : ℕ) → Within 1 option 2 → (m : Option (List ℕ)) (t : List ℕ) → MatrixThen option m t → MatrixUnder option m
under option h m t e = grind arith

under_then : (option : ℕ) (m : Option (List ℕ)) (t : List ℕ) → MatrixUnder option m → MatrixThen option m t
under_then option m t e = grind arith

-- PA begins with another
pub areas-begin : (areas t : List ℕ) → stands (is mark_st) (areas_bytes mark_pa areas ++ t) ≡ false
unfolding areas_bytes joined
areas-begin areas t = rw append_assoc (stands-bytes (is mark_st) mark_pa _ (lit< tt))

-- the whole opening
pub opening_exact : Exact 0 Any opening opening_bytes (λ (o : Opening) (t : List ℕ). OpeningInRange o)
unfolding opening opening_bytes joined
opening_exact =
    sub_then (λ (o : Opening). o.head) head_exact (λ o t c p. p.head) (λ h u hr.
    sub_then (λ (o : Opening). o.stocks) stocks_if_any_exact (λ o t c p. filed_then o.stocks _ p.stocks (rw append_assoc (areas-begin o.project_areas _))) (λ s u sr.
    sub_then (λ (o : Opening). o.project_areas) (areas_exact mark_pa _ (lit< tt)) (λ o t c p. p.project_areas) (λ a u ar.
    sub_then (λ (o : Opening). o.belt_areas) (areas_exact mark_da _ (lit< tt)) (λ o t c p. p.belt_areas) (λ b u br.
    last_then (λ (o : Opening). o.matrix) (λ m. record { head = h; stocks = s; project_areas = a; belt_areas = b; matrix = m }) (under_exact h.option)
    (λ o t c p. (
      rw c.0.0.0.1 at (under_then o.head.option o.matrix t p.matrix),
      sym (λ i. record { head = c.0.0.0.1 i; stocks = c.0.0.1 i; project_areas = c.0.1 i; belt_areas = c.1 i; matrix = o.matrix }),
    ))
    (λ m t k. (
      ((((tt, refl), refl), refl), refl),
      record { head = hr; stocks = filed s _ sr; project_areas = ar; belt_areas = br; matrix = under h.option hr.options m t k },
      refl,
    ))))))
