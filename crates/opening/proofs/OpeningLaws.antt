-- HD to MP, part by part.
-- Assumes nothing.
use Prim.Native.Nat.{ℕ}
use mathlib.Core.Path.{◌≡◌, refl, ◌∙◌, ap, sym}
use mathlib.Core.Option.{some}
use mathlib.Core.List.{List, [], ◌∷◌}
use lib.IntN.{pos}
use Rattle.wire.specs.Bytes.{total}
use Rattle.units.specs.declared.AreaUnits.{AreaUnits}
use Rattle.projection.specs.declared.Region.{Region}
use Rattle.projection.specs.Projection.{opened_region}
use Rattle.figures.specs.declared.Terms.{Terms}
use Rattle.figures.specs.declared.State.{State}
use Rattle.dossier.specs.Marks.{mark_pa, mark_da}
use Rattle.dossier.specs.Records.{Head, Opening, Settled, units, terms_of, state_of, settled}
use Rattle.dossier.specs.Reader.{refused, accepted, Reader, followed, ◌>>=◌, ◌>>◌, give, end_of_piece}
use Rattle.dossier.specs.JudgingRecords.{stocks_if_any, areas, matrix_under, head}
use Rattle.dossier.specs.Judging.{opening, opening_piece}
use Rattle.dossier.proofs.ReaderLaws.{bind_no, bind-yes, bind-bind, after_same}
use Rattle.opening.specs.Amounts.{amounts}
use Rattle.opening.specs.Opened.{settled_opening, settled_piece}
use Rattle.opening.proofs.MatrixLaws.{settled_matrix}
use Rattle.opening.proofs.StocksLaws.{settled_stocks}

pub units-amounts : (xs : List AreaUnits) → units (amounts xs) ≡ xs
units-amounts [] = refl
units-amounts (x ∷ xs) = ap (λ (l : List AreaUnits). x ∷ l) (units-amounts xs)

-- the parts that the code puts together are what the opening settles
module _ (h : Head) (stocks : List ℕ) (project belt : List AreaUnits) (matrix : List ℕ) where
  abbrev read : Opening
  read = record { head = h; stocks = some stocks; project_areas = amounts project; belt_areas = amounts belt; matrix = some matrix }

  pub settled-terms : (start beltstart : AreaUnits) → start.0 ≡ total (amounts project) → beltstart.0 ≡ total (amounts belt)
      → record { option = h.option; stocks = stocks; matrix = matrix; start = start; beltstart = beltstart } ≡ terms_of read
  unfolding terms_of
  settled-terms start beltstart ep eb =
      let p : start ≡ record { 0 = total (amounts project) } = ap {B = AreaUnits} (λ (n : ℕ). record { 0 = n }) ep in
      let b : beltstart ≡ record { 0 = total (amounts belt) } = ap {B = AreaUnits} (λ (n : ℕ). record { 0 = n }) eb in
      rw (p, b)

  pub settled-state : (p b : Region) → p ≡ opened_region project → b ≡ opened_region belt
      → record { year = h.first_year; left = h.years; project = p; belt = b; total = record { 0 = pos 0 } } ≡ state_of read
  unfolding state_of
  settled-state p b ep eb = rw (ep, eb, units-amounts project, units-amounts belt)

-- from DA on, after HD and PA, by the stocks in use; from PA on; from ST on, after HD
unfoldable pub from_belt : Head → (stocks project : List ℕ) → Reader Settled
from_belt h stocks project = do
  belt ← areas mark_da 0
  matrix ← settled_matrix h.option
  give (settled (record { head = h; stocks = some stocks; project_areas = project; belt_areas = belt; matrix = some matrix }))

unfoldable pub from_areas : Head → List ℕ → Reader Settled
from_areas h stocks = do
  project ← areas mark_pa 1
  from_belt h stocks project

unfoldable pub from_stocks : Head → Reader Settled
from_stocks h = do
  stocks ← settled_stocks
  from_areas h stocks

-- after DA
module _ (h : Head) (stocks project u belt v : List ℕ) (e : accepted belt v ≡ areas mark_da 0 u) where
  pub matrix_fault : (n : ℕ) → refused n ≡ settled_matrix h.option v → refused n ≡ from_belt h stocks project u
  unfolding from_belt
  matrix_fault n f = bind_no (settled_matrix h.option) _ v n f ∙ bind-yes (areas mark_da 0) _ u belt v e

  pub opening-read : (terms : Terms) (state : State) (matrix w : List ℕ) → accepted matrix w ≡ settled_matrix h.option v
      → terms ≡ terms_of (record { head = h; stocks = some stocks; project_areas = project; belt_areas = belt; matrix = some matrix })
      → state ≡ state_of (record { head = h; stocks = some stocks; project_areas = project; belt_areas = belt; matrix = some matrix })
      → accepted (record { terms = terms; state = state }) w ≡ from_belt h stocks project u
  unfolding from_belt settled give
  opening-read terms state matrix w f p q = rw (p, q) (bind-yes (settled_matrix h.option) _ v matrix w f ∙ bind-yes (areas mark_da 0) _ u belt v e)

-- what an opening settles, HD first
pub settled_is : (s : List ℕ) → (head >>= from_stocks) s ≡ settled_opening s
unfolding settled_opening opening from_stocks from_areas from_belt settled_stocks settled_matrix settled terms_of state_of give followed
settled_is s =
    sym (simp bind-bind (after_same (head s) _ _ (λ h u.
    after_same (stocks_if_any u) _ _ (λ filed v.
    after_same (areas mark_pa 1 v) _ _ (λ project w.
    after_same (areas mark_da 0 w) _ _ (λ belt x.
    sym (bind-bind (matrix_under h.option x) _ _))))
    ∙ sym (bind-bind (stocks_if_any u) _ _))))

-- what an opening piece settles: the opening, then its end
pub piece_settled : (s : List ℕ) → (settled_opening >>= λ due. end_of_piece >> give due) s ≡ settled_piece s
unfolding settled_opening settled_piece opening_piece give followed
piece_settled s = bind-bind (opening s) _ _ ∙ after_same (opening s) _ _ (λ o u. sym (bind-bind (end_of_piece u) _ _)) ∙ sym (bind-bind (opening s) _ _)

-- ---- the piece by its opening and its end
module _ (s : List ℕ) where
  pub piece_no : (n : ℕ) → refused n ≡ settled_opening s → refused n ≡ settled_piece s
  piece_no n e = bind_no settled_opening _ s n e ∙ piece_settled s

  module _ (due : Settled) (rest : List ℕ) (was_read : accepted due rest ≡ settled_opening s) where
    pub piece_fault : (n : ℕ) → refused n ≡ end_of_piece rest → refused n ≡ settled_piece s
    piece_fault n f = bind_no end_of_piece _ rest n f ∙ bind-yes settled_opening _ s due rest was_read ∙ piece_settled s

    pub piece_read : (left : List ℕ) → accepted (tt {0}) left ≡ end_of_piece rest → accepted due left ≡ settled_piece s
    unfolding give
    piece_read left f = bind-yes end_of_piece (λ _. give due) rest (tt {0}) left f ∙ bind-yes settled_opening _ s due rest was_read ∙ piece_settled s
