-- What holds of every ledger that the calls hand back, the empty one of a refused opening too.
-- Assumes nothing.
use Rattle.std.proofs.Common.{◌≡◌, ℕ, ◌+◌, ◌*◌, ◌≤◌, ◌<◌, List, [], ◌∷◌, length, get_or, set, replicate, length-set, le_of_eq, ◌∙◌, arith}
use Rattle.std.specs.Int.Signed.{mag}
use Rattle.std.proofs.Math.ListN.{length-replicate, get_or-replicate}
use Rattle.std.proofs.lemmas.Grind.{common_steps}
use mathlib.Core.Option.{Option}
use Rattle.arithmetic.specs.Sum.{sum}
use Rattle.arithmetic.proofs.SumLaws.{sum_cong, sum_const, length-listed}
use Rattle.arithmetic.proofs.IntegerLaws.{mag_plus}
use Rattle.arithmetic.proofs.TableLaws.{at_most, entry-le, places-le}
use Rattle.classes.specs.Classes.{classes, greatest_stock}
use Rattle.classes.specs.Matrix.{entry, RowsSum, option_one_matrix}
use Rattle.classes.specs.Ranges.{greatest_figure}
use Rattle.classes.proofs.MatrixLaws.{option_one-rows}
use Rattle.classes.proofs.FactorLaws.{built_in_le}
use Rattle.classes.specs.Ranges.{RowsWithin}
use Rattle.figures.specs.declared.Figures.{Figures}
use Rattle.figures.specs.Figures.{no_figures}
use Rattle.figures.specs.Year.{Year}
use Rattle.figures.specs.Reckoning.{year_figures, after_figures, after_year}
use Rattle.figures.specs.Ranges.{FiguresSmall}
use Rattle.wire.specs.Bytes.{Bytes}
use Rattle.dossier.specs.Plan.{Plan, PlanLent}
use Rattle.dossier.specs.Records.{
  StocksFiled,
  Opening,
  OpeningInRange,
  MatrixUnder,
  stocks_in_use,
  matrix_in_use,
  terms_of,
  state_of,
  empty_terms,
  empty_state,
  first_due,
  next,
  YearInRange,
  YearsInRange,
  Dossier,
  DossierInRange,
}
use Rattle.dossier.specs.Claims.{DueInRange}
use Rattle.dossier.specs.Judging.{dossier, year_piece}
use Rattle.dossier.proofs.WellFormed.{dossier-accepted, opening-accepted, year-accepted}
use Rattle.dossier.proofs.UnderLaws.{under-either}
use Rattle.reckoner.specs.Ledger.{Ledger, new_ledger, empty_ledger, opened_ledger, due_of, given_year, given_years, ledger_of}
use Rattle.reckoner.specs.Calls.{open_call, year_judged, year_call, dossier_judged, dossier_call, HandedBack, opened, given, whole}
use Rattle.reckoner.proofs.YearRanges.{figures_range}
use Rattle.reckoner.proofs.RegionKept.{RegionKept, zero_region, opened_region_lem, projected-kept}

pub record LedgerKept (l : Ledger) : Type 0 where
  pub count : l.given + l.state.left ≤ 20
  pub years : l.state.year + l.state.left < 65536
  pub since : l.given ≤ l.state.year
  pub project : RegionKept l.terms.start.0 l.state.project
  pub belt : RegionKept l.terms.beltstart.0 l.state.belt
  pub total : mag l.state.total.0 ≤ greatest_figure * l.given
  pub stocks : (i : ℕ) → get_or l.terms.stocks i 0 ≤ greatest_stock
  pub rows : RowsWithin l.terms.matrix
  pub places : length l.terms.matrix ≡ 144
  pub twenty : length l.figures ≡ 20
  pub figures : (k : ℕ) → k < l.given → FiguresSmall (get_or l.figures k no_figures)

-- what is due can be said in a year piece
pub due-kept : (plan : Option Plan) → PlanLent plan → (l : Ledger) → LedgerKept l → DueInRange (due_of plan l)
unfolding due_of
due-kept plan lent l k = record { year = omega arith; start = k.project.small; beltstart = k.belt.small; plan = lent }

-- ---- the empty ledger
zero_row : (i : ℕ) → i < classes → sum classes (entry (replicate 144 0) i) ≡ 0
zero_row i h = sum_cong classes (entry (replicate 144 0) i) (λ j. 0) (λ j k. get_or-replicate 144 (12 * i + j) 0 0 (omega arith)) ∙ sum_const classes 0

pub empty_kept : LedgerKept empty_ledger
unfolding empty_ledger new_ledger empty_terms empty_state at_most
empty_kept = record {
  count = omega arith;
  years = omega arith;
  since = omega arith;
  project = zero_region;
  belt = zero_region;
  total = omega arith;
  stocks = entry-le greatest_stock (replicate 12 0) tt;
  rows = λ i h. omega (arith, zero_row i h);
  places = length-replicate {A = ℕ} 144 0;
  twenty = length-replicate 20 no_figures;
  figures = λ k h. absurd (omega arith);
}

-- ---- an opened ledger
-- the matrix in use: each of its rows sums to 1,000,000
pub in_use_rows : (option : ℕ) (m : Option (List ℕ)) → MatrixUnder option m → RowsSum (matrix_in_use m)
in_use_rows option m h = grind (arith, option_one-rows)

in_use_places : (option : ℕ) (m : Option (List ℕ)) → MatrixUnder option m → length (matrix_in_use m) ≡ 144
unfolding option_one_matrix
in_use_places option m h = grind (arith, length-listed)

-- no stock in use is above the greatest that may be filed
in_use_stocks : (m : Option (List ℕ)) → StocksFiled m → (i : ℕ) → get_or (stocks_in_use m) i 0 ≤ greatest_stock
in_use_stocks m h i = grind (arith, built_in_le, places-le)

pub opened-kept : (o : Opening) → OpeningInRange o → LedgerKept (opened_ledger o)
unfolding opened_ledger new_ledger terms_of state_of
opened-kept o h = record {
  count = omega (arith, h.head.count);
  years = omega (arith, h.head.first_years, h.head.count);
  since = omega arith;
  project = opened_region_lem o.project_areas h.project_areas.twelve h.project_areas.totals.most;
  belt = opened_region_lem o.belt_areas h.belt_areas.twelve h.belt_areas.totals.most;
  total = omega arith;
  stocks = in_use_stocks o.stocks h.stocks;
  rows = λ i k. le_of_eq (in_use_rows o.head.option o.matrix h.matrix i k);
  places = in_use_places o.head.option o.matrix h.matrix;
  twenty = length-replicate 20 no_figures;
  figures = λ k i. absurd (omega arith);
}

-- ---- a year given
pub given-kept : (plan : Option Plan) → PlanLent plan → (l : Ledger) → LedgerKept l → (y : Year) → YearInRange (due_of plan l) y → LedgerKept (given_year y l)
unfolding given_year after_year after_figures due_of
given-kept plan lent l k y h = record {
  count = omega (arith, k.count, h.left);
  years = omega (arith, k.years, h.left);
  since = omega (arith, k.since);
  project = projected-kept l.terms.matrix k.rows l.terms.start.0 l.state.project k.project;
  belt = projected-kept l.terms.matrix k.rows l.terms.beltstart.0 l.state.belt k.belt;
  total = omega (arith, k.total, small.credited, mag_plus l.state.total.0 f.credited.0);
  stocks = k.stocks;
  rows = k.rows;
  places = k.places;
  twenty = simp length-set k.twenty;
  figures = grown;
}
  where
    f : Figures
    f = year_figures l.terms y l.state.project l.state.belt

    small : FiguresSmall f
    small = figures_range l.terms k.stocks k.rows (due_of plan l) (due-kept plan lent l k) y h l.state.project l.state.belt (omega (arith, k.project)) (omega (arith, k.belt))

    grown : (i : ℕ) → i < l.given + 1 → FiguresSmall (get_or (set l.figures l.given f) i no_figures)
    grown i g = grind (arith, common_steps, h.left, small)

-- years given one after the other, each in range for what is due by then, under a plan of its own
abbrev pub YearsTaken : Ledger → List Year → Type 0
YearsTaken l [] = Unit {0}
YearsTaken l (y ∷ ys) = ((p : Option Plan) × PlanLent p × YearInRange (due_of p l) y) × YearsTaken (given_year y l) ys

pub years-kept : (l : Ledger) → LedgerKept l → (ys : List Year) → YearsTaken l ys → LedgerKept (given_years ys l)
unfolding given_years
years-kept l k [] h = k
years-kept l k (y ∷ ys) ((p, lent, h), rest) = years-kept (given_year y l) (given-kept p lent l k y h) ys rest

-- all under the same
pub under_one : (p : Option Plan) → PlanLent p → (l : Ledger) (ys : List Year) → YearsInRange (due_of p l) ys → YearsTaken l ys
under_one p lent l [] h = tt
under_one p lent l (y ∷ ys) h = ((p, lent, h.0), under_one p lent (given_year y l) ys (unfold given_year due_of next in h.1))

-- those of a dossier in range
pub dossier-taken : (p : Option Plan) → PlanLent p → (d : Dossier) → DossierInRange p d → YearsTaken (opened_ledger d.opening) d.years
dossier-taken p lent d h = under_one p lent (opened_ledger d.opening) d.years (unfold opened_ledger new_ledger due_of first_due in h.years)

pub ledger-kept : (p : Option Plan) → PlanLent p → (d : Dossier) → DossierInRange p d → LedgerKept (ledger_of d)
unfolding ledger_of
ledger-kept p lent d h = years-kept (opened_ledger d.opening) (opened-kept d.opening h.opening) d.years (dossier-taken p lent d h)

-- ---- the calls
-- an opening hands back the empty ledger, or that of an opening in range
pub open-either : (P : Ledger → Type 0) → P empty_ledger → ((o : Opening) → OpeningInRange o → P (opened_ledger o)) → (piece : List ℕ) → Bytes piece → P (open_call piece).ledger
unfolding open_call
open-either P empty of piece b = grind (arith, opening-accepted.sound piece b)

pub open_kept : (piece : List ℕ) → Bytes piece → LedgerKept (open_call piece).ledger
open_kept = open-either LedgerKept empty_kept opened-kept

pub year-kept : (l : Ledger) → LedgerKept l → (piece plan : List ℕ) → Bytes piece → Bytes plan → LedgerKept (year_call l piece plan).ledger
unfolding year_call
year-kept l k piece plan b bp = under-either (λ p. year_piece (due_of p l)) piece plan (λ j. LedgerKept (year_judged l j).ledger) bp (λ n. k)
    (λ p lent y rest e. given-kept p lent l k y ((year-accepted (due_of p l) (due-kept p lent l k)).sound piece b y rest e).0)

pub dossier-kept : (s plan : List ℕ) → Bytes s → Bytes plan → LedgerKept (dossier_call s plan).ledger
unfolding dossier_call
dossier-kept s plan b bp = under-either dossier s plan (λ j. LedgerKept (dossier_judged j).ledger) bp (λ n. empty_kept)
    (λ p lent d rest e. ledger-kept p lent d ((dossier-accepted p lent).sound s b d rest e).0)

-- every ledger that the calls hand back
pub handed-kept : {l : Ledger} → HandedBack l → LedgerKept l
handed-kept (opened piece b) = open_kept piece b
handed-kept (given {l} h piece plan b bp) = year-kept l (handed-kept h) piece plan b bp
handed-kept (whole s plan b bp) = dossier-kept s plan b bp
