-- ST at a place, from the stocks that are read there; the stocks in use.
-- Assumes nothing.
use Prim.Native.Nat.{ℕ, suc, ◌+◌, ◌*◌, ◌<◌, ◌≤◌}
use mathlib.Core.Path.{◌≡◌}
use mathlib.Core.Bool.{true, false}
use mathlib.Core.List.{List}
use native.Mathlib.Nat.{add_assoc}
use native.Mathlib.Omega.{arith}
use borrow.Author.Tests.{ne_eqb}
use lib.ListN.{drop, get_or}
use lib.Seq.{drop-drop}
use Rattle.classes.specs.Classes.{class_nf, greatest_stock, carbon_stocks}
use Rattle.wire.specs.Bytes.{numbers, field_at}
use Rattle.wire.proofs.BytesLaws.{get_or-numbers}
use Rattle.dossier.specs.Marks.{mark_st}
use Rattle.dossier.specs.Reader.{Judged, refused, accepted, Reader, followed, ◌>>=◌, ◌>>◌, give, begin, stands, is, if_any, within, equal}
use Rattle.dossier.specs.JudgingRecords.{each, stocks, stocks_if_any}
use Rattle.dossier.proofs.ReaderLaws.{within-yes, equal-yes}
use Rattle.dossier.proofs.EachLaws.{within_tests, each_wrong}
use Rattle.cursor.proofs.AtLaws.{begun_says, begun-yes, fields-is}
use Rattle.dossier.specs.Records.{stocks_in_use}

-- the twelve numbers of ST at a place, and the test of the i-th
abbrev pub stocks_read : List ℕ → ℕ → List ℕ
stocks_read s at = numbers 12 2 (drop (at + 2) s)

abbrev pub stock_test : List ℕ → ℕ → ℕ → Reader (Unit {0})
stock_test s at i = within 11 0 (get_or (stocks_read s at) i 0) greatest_stock

-- the first i of them pass
abbrev pub StocksRight : List ℕ → ℕ → ℕ → Type 0
StocksRight s at i = each i (stock_test s at) (drop (at + 26) s) ≡ accepted tt (drop (at + 26) s)

module _ (s : List ℕ) (at r : ℕ) (h : begun_says s at r ≡ begin mark_st 24 (drop at s)) where
  module _ (z : r ≡ 0) where
    stocks-at : stocks (drop at s) ≡ (each 12 (stock_test s at) >> (equal 11 (get_or (stocks_read s at) class_nf 0) 0 >> give (stocks_read s at))) (drop (at + 26) s)
    unfolding stocks
    stocks-at = rw (← begun-yes s at mark_st 24 r h _ z) (simp (fields-is, add_assoc))

    module _ (i x : ℕ) (l : i < 12) (e : x ≡ field_at 2 s (at + 2 + 2 * i)) where
      pub stock_at : get_or (stocks_read s at) i 0 ≡ x
      unfolding field_at
      stock_at =
          let k : at + 2 + i * 2 ≡ at + 2 + 2 * i = omega arith in
          rw (get_or-numbers 12 2 (drop (at + 2) s) i l, drop-drop, k, e)

      pub stock_above : greatest_stock < x → refused 11 ≡ stocks (drop at s)
      unfolding followed
      stock_above o = rw (stocks-at, each_wrong (within_tests 11 0 (λ i. get_or (stocks_read s at) i 0) greatest_stock) 12 (drop (at + 26) s) i l (λ w. omega (arith, stock_at, w.most)))

      pub stock_right : x ≤ greatest_stock → StocksRight s at i → StocksRight s at (suc i)
      unfolding each followed
      stock_right o p = rw p (within-yes 11 0 (get_or (stocks_read s at) i 0) greatest_stock (drop (at + 26) s) (record { least = omega arith; most = omega (arith, stock_at) }))

    module _ (p : StocksRight s at 12) where
      pub non_forest_wrong : (get_or (stocks_read s at) class_nf 0 ≡ 0 → ⊥) → refused 11 ≡ stocks (drop at s)
      unfolding followed equal
      non_forest_wrong f = rw (stocks-at, p, ne_eqb _ _ f)

      pub stocks_read_lem : get_or (stocks_read s at) class_nf 0 ≡ 0 → accepted (stocks_read s at) (drop (at + 26) s) ≡ stocks (drop at s)
      unfolding followed give
      stocks_read_lem f = rw (stocks-at, p, equal-yes 11 _ 0 (drop (at + 26) s) f)

-- ---- the stocks in use
unfoldable pub settled_stocks : Reader (List ℕ)
settled_stocks = do
  filed ← stocks_if_any
  give (stocks_in_use filed)

pub stocks-filed : (j : Judged (List ℕ)) (u : List ℕ) → stands (is mark_st) u ≡ true → j ≡ stocks u → j ≡ settled_stocks u
unfolding settled_stocks stocks_if_any if_any give followed
stocks-filed (accepted xs v) u e q = rw (e, ← q)
stocks-filed (refused n) u e q = rw (e, ← q)

pub stocks_built_in : (xs u : List ℕ) → stands (is mark_st) u ≡ false → xs ≡ carbon_stocks → accepted xs u ≡ settled_stocks u
unfolding settled_stocks stocks_if_any if_any give followed
stocks_built_in xs u e f = rw (e, f)
