-- #105: `same` is equality of records, and a list of records is all different just where each is none of those before it.
-- Assumes nothing.
use Rattle.std.proofs.Common.{ℕ, ◌≡◌, refl, sym, Bool, true, false, cond, List, [], ◌∷◌, ◌++◌, arith, eq-eqb, eqb, get_or}
use Rattle.activity.specs.Records.{Activity}
use Rattle.activity.specs.Records.Activity.{Fuel, Vehicles, Nitrogen, Lime}
use Rattle.activity.specs.Activity.{NoneOf, AllDifferent}
use Rattle.dossier.specs.Marks.{mark_fu, mark_ve, mark_ni, mark_li}
use Rattle.dossier.specs.Layouts.{residue_of, layout_of, numbers_of, alike, same, fresh}

pub false_true : {b : Bool} → b ≡ false → b ≡ true → ⊥
false_true f t = cc

alike_itself : (xs : List ℕ) → alike xs xs ≡ true
alike_itself [] = refl
alike_itself (x ∷ xs) = rw (eq-eqb x x refl) (alike_itself xs)

-- ---- a record is told by its mark and its fields
record_from : (mark : ℕ) → List ℕ → Activity
record_from m xs =
    cond (eqb m mark_fu) (Fuel (get_or xs 0 0) (get_or xs 1 0))
    (cond (eqb m mark_ve) (Vehicles (get_or xs 0 0) (get_or xs 1 0) (get_or xs 2 0) (get_or xs 3 0))
    (cond (eqb m mark_ni) (Nitrogen (get_or xs 0 0) (get_or xs 1 0) (get_or xs 2 0) (get_or xs 3 0))
    (cond (eqb m mark_li) (Lime (get_or xs 0 0) (get_or xs 1 0))
    (residue_of (get_or xs 0 0) (get_or xs 1 0) (get_or xs 2 0) (get_or xs 3 0) (get_or xs 4 0) (get_or xs 5 0) (get_or xs 6 0) (get_or xs 7 0)))))

told : (a : Activity) → record_from (layout_of a).mark (numbers_of a) ≡ a
unfolding record_from
told a = grind arith

pub same-eq : (a b : Activity) → same a b ≡ true → a ≡ b
unfolding same
same-eq a b e = grind arith

pub same_itself : (a : Activity) → same a a ≡ true
unfolding same
same_itself a = rw (eq-eqb (layout_of a).mark (layout_of a).mark refl) (alike_itself (numbers_of a))

-- ---- a record that is none of a list's
pub fresh-none : (l : List Activity) (a : Activity) → fresh l a ≡ true → NoneOf l a
unfolding fresh
fresh-none [] a e = grind arith
fresh-none (b ∷ l) a e = grind (arith, same_itself, fresh-none l a)

pub none-fresh : (l : List Activity) (a : Activity) → NoneOf l a → fresh l a ≡ true
unfolding fresh
none-fresh [] a h = grind arith
none-fresh (b ∷ l) a h = grind (arith, same-eq, none-fresh l a h.1)

-- ---- a list with one more record at its end
none_more : (l : List Activity) (a b : Activity) → NoneOf l b → (b ≡ a → ⊥) → NoneOf (l ++ (a ∷ [])) b
none_more [] a b h k = (k, tt)
none_more (c ∷ l) a b h k = (h.0, none_more l a b h.1 k)

pub different-more : (l : List Activity) (a : Activity) → AllDifferent l → NoneOf l a → AllDifferent (l ++ (a ∷ []))
different-more [] a h k = (tt, tt)
different-more (b ∷ l) a h k = (none_more l a b h.0 (λ e. k.0 (sym e)), different-more l a h.1 k.1)

not_at : (l : List Activity) (a : Activity) (m : List Activity) (b : Activity) → NoneOf (l ++ (a ∷ m)) b → b ≡ a → ⊥
not_at [] a m b h = h.0
not_at (c ∷ l) a m b h = not_at l a m b h.1

-- each record of a list that is all different is none of those before it
pub different-at : (l : List Activity) (a : Activity) (m : List Activity) → AllDifferent (l ++ (a ∷ m)) → NoneOf l a
different-at [] a m h = tt
different-at (b ∷ l) a m h = ((λ e. not_at l a m b h.0 (sym e)), different-at l a m h.1)
