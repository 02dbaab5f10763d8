-- The numbers of ST at its place: 11 where a field is out of range, 1 where it is cut, 2 where it stands a second time or after PA. Of a dossier
-- and of an opening piece alike.
-- Assumes nothing.
use Rattle.std.proofs.Common.{ℕ, ◌^◌, ◌≤◌, ◌<◌, ◌≡◌, ◌∙◌, sym, List, ◌++◌, arith, lit<, length, get_or, length-append}
use mathlib.Core.Option.{Option, none, some}
use Rattle.activity.specs.Activity.{Within}
use Rattle.classes.specs.Classes.{classes, class_nf, greatest_stock}
use Rattle.wire.specs.Bytes.{bytes, numbers, bytes_of_each}
use Rattle.wire.proofs.BytesLaws.{Below, length-bytes, length-each, take-bytes, drop-bytes, numbers-each}
use Rattle.dossier.specs.Marks.{mark_st, mark_pa, mark_da}
use Rattle.dossier.specs.Plan.{Plan}
use Rattle.dossier.specs.Records.{Head, HeadInRange, head_bytes, StocksInRange, stocks_bytes, AreasInRange, areas_bytes, bytes_if_any}
use Rattle.dossier.specs.Reader.{refused, accepted, Reader, ◌>>◌, give, begin, fields, is, if_any, outside, within, equal, followed}
use Rattle.dossier.specs.JudgingRecords.{each, stocks, stocks_if_any, areas}
use Rattle.dossier.specs.Judging.{opening, dossier, opening_piece}
use Rattle.dossier.proofs.ReaderLaws.{bind_no, begin-yes, stands-bytes}
use Rattle.dossier.proofs.Refusals.{begin_other, begin_cut}
use Rattle.dossier.proofs.EachLaws.{Tests, within_tests, each-only, each-either}
use Rattle.dossier.proofs.RecordLaws.{head_exact, areas_exact}
use Rattle.dossier.proofs.OpeningLaws.{stocks_if_any_exact, stocks-begin, areas-begin}

-- an opening's refusal is that of the dossier and of the piece
pub opening_fault : (plan : Option Plan) (s : List ℕ) (n : ℕ) → opening s ≡ refused n → (dossier plan s ≡ refused n) × (opening_piece s ≡ refused n)
unfolding dossier opening_piece
opening_fault plan s n e = (sym (bind_no opening _ s n (sym e)), sym (bind_no opening _ s n (sym e)))

-- another mark than the one that is due
mark_other : (m x n : ℕ) (t : List ℕ) → x < 65536 → (x ≡ m → ⊥) → begin m n (bytes 2 x ++ t) ≡ refused 2
mark_other m x n t small f =
    let e = take-bytes 2 x t small in
    begin_other m n (bytes 2 x ++ t) (simp (length-append, length-bytes) (omega arith)) (λ q. f (sym e ∙ q))

-- ---- ST by itself
stocks_cut : (t : List ℕ) → length t < 24 → stocks (bytes 2 mark_st ++ t) ≡ refused 1
unfolding stocks followed
stocks_cut t l = rw (begin_cut mark_st 24 (bytes 2 mark_st ++ t) (simp (length-append, length-bytes) (omega arith)) (take-bytes 2 mark_st t (lit< tt)) (rw drop-bytes l))

module _ (xs : List ℕ) (twelve : length xs ≡ 12) (small : Below (256 ^ 2) xs) where
  abbrev limit : ℕ → Reader (Unit {0})
  limit i = within 11 0 (get_or xs i 0) greatest_stock

  limits : Tests 11 (λ i. Within 0 (get_or xs i 0) greatest_stock) limit
  limits = within_tests 11 0 (λ i. get_or xs i 0) greatest_stock

  tested : (u : List ℕ) → (StocksInRange xs → ⊥) → (each classes limit >> (equal 11 (get_or xs class_nf 0) 0 >> give xs)) u ≡ refused 11
  unfolding each within equal outside give followed
  tested u f = grind (arith, each-either limits 12 u, each-only limits 12 u)

  stocks_wrong : (t : List ℕ) → (StocksInRange xs → ⊥) → stocks (bytes 2 mark_st ++ (bytes_of_each 2 xs ++ t)) ≡ refused 11
  unfolding stocks fields followed
  stocks_wrong t f =
      let u = bytes_of_each 2 xs ++ t in
      let long : 24 ≤ length u = simp (length-append, length-each) (omega arith) in
      let read : numbers 12 2 u ≡ xs = rw (← twelve) (numbers-each 2 xs t small) in
      rw (begin-yes mark_st 24 u (lit< tt) long, read) (tested _ f)

-- ---- at its place, after HD
if_any_fault : (t : List ℕ) (n : ℕ) → stocks (bytes 2 mark_st ++ t) ≡ refused n → stocks_if_any (bytes 2 mark_st ++ t) ≡ refused n
unfolding stocks_if_any if_any followed
if_any_fault t n e = rw (stands-bytes (is mark_st) mark_st t (lit< tt), e)

module _ (h : Head) (p : HeadInRange h) where
  stocks_fault : (t : List ℕ) (n : ℕ) → stocks_if_any t ≡ refused n → opening (head_bytes h ++ t) ≡ refused n
  unfolding opening followed
  stocks_fault t n e = rw (head_exact.reads h t tt p, e)

  pub cut_stocks : (t : List ℕ) → length t < 24 → opening (head_bytes h ++ (bytes 2 mark_st ++ t)) ≡ refused 1
  cut_stocks t l = stocks_fault _ 1 (if_any_fault t 1 (stocks_cut t l))

  -- "11 for an ST field out of range", whatever follows ST
  pub stocks_out-of_range : (xs t : List ℕ) → length xs ≡ 12 → Below (256 ^ 2) xs → (StocksInRange xs → ⊥)
      → opening (head_bytes h ++ (bytes 2 mark_st ++ (bytes_of_each 2 xs ++ t))) ≡ refused 11
  stocks_out-of_range xs t twelve small f = stocks_fault _ 11 (if_any_fault _ 11 (stocks_wrong xs twelve small t f))

  areas_fault : (m : Option (List ℕ)) (s t : List ℕ) (n : ℕ) → stocks_if_any s ≡ accepted m t → areas mark_pa 1 t ≡ refused n → opening (head_bytes h ++ s) ≡ refused n
  unfolding opening followed
  areas_fault m s t n e f = rw (head_exact.reads h s tt p, e, f)

  pub second_stocks : (xs t : List ℕ) → StocksInRange xs → opening (head_bytes h ++ (stocks_bytes xs ++ (bytes 2 mark_st ++ t))) ≡ refused 2
  unfolding bytes_if_any
  second_stocks xs t q =
      areas_fault (some xs) _ _ 2 (stocks_if_any_exact.reads (some xs) (bytes 2 mark_st ++ t) tt (q, stocks-begin xs _))
      (unfold areas followed in rw (mark_other mark_pa mark_st 96 t (lit< tt) (λ e. omega arith)))

  pub late_stocks : (a t : List ℕ) → AreasInRange 1 a → opening (head_bytes h ++ (areas_bytes mark_pa a ++ (bytes 2 mark_st ++ t))) ≡ refused 2
  unfolding opening followed bytes_if_any
  late_stocks a t q =
      let none_here = stocks_if_any_exact.reads none (areas_bytes mark_pa a ++ (bytes 2 mark_st ++ t)) tt (areas-begin a (bytes 2 mark_st ++ t)) in
      let there = (areas_exact mark_pa 1 (lit< tt)).reads a (bytes 2 mark_st ++ t) tt q in
      rw (head_exact.reads h _ tt p, none_here, there) (unfold areas followed in rw (mark_other mark_da mark_st 96 t (lit< tt) (λ e. omega arith)))
